use Rattle.std.proofs.Common.{◌≤◌, arith}
use Rattle.std.proofs.lemmas.Bool.Decides.{nat_tests}
use Rattle.nucleus_calls.proofs.Starting.{first-stands, first-kept}
use Rattle.nucleus_calls.proofs.nucleus.Nucleus.new.Goals as goal

pub invariant_of-result : goal.invariant_of-result
invariant_of-result c =
    let some : 1 ≤ c.args.image.now.stacks = let h = c.formed.ensures.condition_2 in grind (arith, nat_tests) in
    rw (rw c.stacks.ensures at c.in_ok-new.ensures)
    (first-kept c.args.image.now _ _ c.in_ok-new-2.field-0 _ _ (λ live. c.first_heap_is_free.ensures c.args.image.now live _ _ c.formed.ensures (rw (← c.memory.view_is) at (c.in_ok-memory.ensures live)) c.rebuild-index.ensures.formed c.rebuild-index.ensures.only.blocks.size)
    c.in_ok-starts_of.ensures.count some c.rebuild-index.ensures.lists)

pub returns : goal.returns
returns c = λ live.
    rw (rw c.stacks.ensures at c.in_ok-new.ensures)
    (first-stands c.args.image.now _ _ c.in_ok-new-2.field-0 _ _ (λ live. c.first_heap_is_free.ensures c.args.image.now live _ _ c.formed.ensures (rw (← c.memory.view_is) at (c.in_ok-memory.ensures live)) c.rebuild-index.ensures.formed c.rebuild-index.ensures.only.blocks.size)
    c.in_ok-starts_of.ensures.each c.in_ok-new-2.ensures c.in_ok-new-3.ensures live)
