use Rattle.std.proofs.Common.{subst}
use Rattle.object_layout.specs.Classes.{Need}
use Rattle.heap_allocation.specs.Allocations.{NoGap}
use Rattle.heap_allocation.specs.Steps.{IsFound}
use Rattle.heap_allocation.proofs.Layouts.{need_rows, need_some, laid-keeps, laid-allocated}
use Rattle.heap_allocation.proofs.allocating.allocate.Goals as goal

pub find-requires-clause-rows : goal.find-requires-clause-rows
find-requires-clause-rows g c = rw c.need_words-need.ensures (need_rows _ _ _)

pub find-requires-clause-some : goal.find-requires-clause-some
find-requires-clause-some g c = rw c.need_words-need.ensures (need_some _ _ _)

pub returns-in-None-clause-placed : goal.returns-in-None-clause-placed
returns-in-None-clause-placed g c = subst (NoGap c.args.shapes.now c.args.heap.now (g.R.Roots.remaining c.args.roots.now)) c.need_words-need.ensures c.in-None.ensures.found

pub returns-in-Some-clause-placed : goal.returns-in-Some-clause-placed
returns-in-Some-clause-placed g c =
    let found : IsFound c.args.shapes.now c.args.heap.now (g.R.Roots.remaining c.args.roots.now) c.find.new.heap (Need c.args.shapes.now c.args.shape c.args.length) c.in-Some.i =
    subst (λ n. IsFound c.args.shapes.now c.args.heap.now (g.R.Roots.remaining c.args.roots.now) c.find.new.heap n c.in-Some.i) c.need_words-need.ensures c.in-Some.ensures.found in
    laid-allocated c.block_laws.ensures _ _ _ _ _ _ _ _ c.find.ensures.formed c.find.ensures.kept found c.lay_out.ensures.laid _ c.object_address.ensures

pub returns-in-Some-clause-kept : goal.returns-in-Some-clause-kept
returns-in-Some-clause-kept g c =
    let found : IsFound c.args.shapes.now c.args.heap.now (g.R.Roots.remaining c.args.roots.now) c.find.new.heap (Need c.args.shapes.now c.args.shape c.args.length) c.in-Some.i =
    subst (λ n. IsFound c.args.shapes.now c.args.heap.now (g.R.Roots.remaining c.args.roots.now) c.find.new.heap n c.in-Some.i) c.need_words-need.ensures c.in-Some.ensures.found in
    laid-keeps c.block_laws.ensures _ _ _ _ _ _ _ _ c.find.ensures.formed c.find.ensures.kept found c.lay_out.ensures.laid
