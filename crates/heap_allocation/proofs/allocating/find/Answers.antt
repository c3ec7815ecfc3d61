use Rattle.std.proofs.Common.{List, ℕ, subst}
use Rattle.mark_sweep.specs.Collections.{Collects}
use Rattle.heap_allocation.proofs.Takes.{keeps-refl, taken-found, taken-keeps, second-found, second-keeps}
use Rattle.heap_allocation.proofs.allocating.find.Goals as goal

pub returns-in-Some-clause-found : goal.returns-in-Some-clause-found
returns-in-Some-clause-found g c = taken-found c.block_laws.ensures _ _ _ _ _ _ _ c.size-size.ensures.formed (keeps-refl _ _ _) c.in-Some.ensures.taken

pub returns-in-Some-clause-kept : goal.returns-in-Some-clause-kept
returns-in-Some-clause-kept g c = taken-keeps _ _ _ _ _ _ _ (keeps-refl _ _ _) c.in-Some.ensures.taken

pub returns-clause-found : goal.returns-clause-found
returns-clause-found g c =
    let collected : Collects c.args.shapes.now c.args.heap.now (g.R.Roots.remaining c.args.roots.now) c.collect.new.heap =
    subst (λ (u : List ℕ). Collects c.args.shapes.now u (g.R.Roots.remaining c.args.roots.now) c.collect.new.heap) c.in_default.ensures.unchanged.0 c.collect.ensures.collected in
    second-found c.block_laws.ensures _ _ _ _ _ _ c.collect.ensures.formed collected c.take-2.result c.requires.some c.take-2.ensures.found c.take-2.ensures.taken

pub returns-clause-kept : goal.returns-clause-kept
returns-clause-kept g c =
    let collected : Collects c.args.shapes.now c.args.heap.now (g.R.Roots.remaining c.args.roots.now) c.collect.new.heap =
    subst (λ (u : List ℕ). Collects c.args.shapes.now u (g.R.Roots.remaining c.args.roots.now) c.collect.new.heap) c.in_default.ensures.unchanged.0 c.collect.ensures.collected in
    second-keeps c.block_laws.ensures _ _ _ _ _ c.args.need c.collect.ensures.formed collected _ _ c.take-2.result c.take-2.ensures.taken c.take-2.ensures.unchanged
