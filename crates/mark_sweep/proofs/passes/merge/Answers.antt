use Rattle.std.proofs.Common.{◌+◌, sym, ◌∙◌}
use Rattle.heap_words.specs.Headers.{size_at}
use Rattle.heap_words.specs.Blocks.{IsFree}
use Rattle.mark_sweep.proofs.Sweeps.{merging_first, merging_join, merging_to, joined-less, merging_last, both_free, one-used}
use Rattle.mark_sweep.proofs.passes.merge.Goals as goal

pub loop-next-init : goal.loop-next-init
loop-next-init c = merging_first c.block_laws.ensures _ c.size-size.ensures.formed

pub are_free-requires-clause-at : goal.are_free-requires-clause-at
are_free-requires-clause-at c = c.loop-next.invariant.begins

pub loop-next-smaller-then-are_free : goal.loop-next-smaller-then-are_free
loop-next-smaller-then-are_free c =
    let e = c.in-Some.ensures.next in
    joined-less c.block_laws.ensures _ _ _ _ _ c.in-Some.ensures.formed e.0 e.1 (c.size-size.ensures.size ∙ sym c.loop-next.invariant.kept.size) c.join.ensures.words c.loop-next.invariant.begins.inside

pub loop-next-preserved-then-are_free : goal.loop-next-preserved-then-are_free
loop-next-preserved-then-are_free c =
    let both = both_free _ _ (sym c.are_free.ensures ∙ c.if-are_free.true) in
    let f : IsFree c.loop-next.heap c.loop-next.at = record { begins = c.loop-next.invariant.begins; free = both.0 } in
    let e = c.in-Some.ensures.next in
    let n : IsFree c.loop-next.heap (c.loop-next.at + size_at c.loop-next.heap c.loop-next.at) = rw (← e.0) (record { begins = e.1; free = both.1 }) in
    merging_join c.block_laws.ensures _ _ _ _ c.loop-next.invariant f n c.join.ensures.words c.join.ensures.begins c.in-Some.ensures.formed

pub loop-next-preserved : goal.loop-next-preserved
loop-next-preserved c =
    let e = c.in-Some.ensures.next in
    merging_to c.block_laws.ensures _ _ _ _ c.loop-next.invariant e.0 e.1 (one-used _ _ (sym c.are_free.ensures ∙ c.if-are_free.false))

pub returns-clause-apart : goal.returns-clause-apart
returns-clause-apart c = merging_last c.block_laws.ensures _ _ _ c.loop-next.invariant c.in_default.ensures.next
