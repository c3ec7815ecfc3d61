use Rattle.std.proofs.Common.{rules, ◌≡◌, ℕ, Bool}
use Rattle.typed_machine.specs.States.{entry_place, first_state}
use Rattle.nucleus_calls.specs.Nucleus.{NucleusStands}
use Rattle.kernel_machine.proofs.Beginning.{first-lawful, first-follows}
use Rattle.kernel_machine.proofs.machine.Machine.new.Goals as goal

pub invariant_of-result : goal.invariant_of-result
invariant_of-result c =
    let place : c.entry_place-pc.result ≡ entry_place c.args.checked.image 0 = search rules in
    let nucleus : (live : ℕ → Bool) → NucleusStands c.args.checked.image live (first_state c.args.checked.image) c.in_ok-nucleus.nucleus =
    rw c.image-image.ensures.value at c.in_ok-nucleus.ensures in
    rw (place, c.in_ok-prepared.ensures) (first-lawful c.runs_are_typed.ensures _ _ c.in_ok-nucleus.nucleus c.image-image.ensures.typed c.requires.ordered nucleus)

pub returns-clause-follows : goal.returns-clause-follows
returns-clause-follows c =
    let place : c.entry_place-pc.result ≡ entry_place c.args.checked.image 0 = search rules in
    let nucleus : (live : ℕ → Bool) → NucleusStands c.args.checked.image live (first_state c.args.checked.image) c.in_ok-nucleus.nucleus =
    rw c.image-image.ensures.value at c.in_ok-nucleus.ensures in
    rw (place, c.in_ok-prepared.ensures) (first-follows _ _ c.in_ok-nucleus.nucleus nucleus)
