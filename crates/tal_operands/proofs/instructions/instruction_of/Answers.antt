use Rattle.std.proofs.Common.{◌≡◌, ℤ, drop, subst, sym, ap, ◌∙◌}
use Rattle.std.specs.Int.{w32}
use Rattle.std.proofs.lemmas.Int.{to_z-of_z}
use Rattle.std.proofs.lemmas.List.{drop_all}
use Rattle.tal_names.specs.Declarations.{names_shown}
use Rattle.tal_operands.specs.Instructions.{with_args, line_instruction}
use Rattle.tal_operands.proofs.instructions.instruction_of.Goals as goal

pub returns : goal.returns
unfolding with_args
returns c =
    let names = names_shown c.args.names.now in
    let i = c.loop-arg in
    let all = subst (λ (z : ℤ). with_args names c.is_call-call.result z i.instruction (drop i.arg-index c.args.args.now) ≡ line_instruction names c.args.mnemonic c.args.args.now z) (to_z-of_z w32 c.args.distance c.ranges.distance) i.invariant in
    sym (ap (with_args names c.is_call-call.result c.args.distance i.instruction) (drop_all _ _ c.loop-arg-test.false)) ∙ all
