use Rattle.std.proofs.Common.{◌<◌, length, arith, sym, ◌∙◌}
use Rattle.root_words.proofs.Steps.{words-cut, walkable_cut, took, passed}
use Rattle.root_words.proofs.machine_roots.MachineRootsRoots.next.Goals as goal

pub of_state-requires : goal.of_state-requires
of_state-requires c =
    (walkable_cut c.stacks.self-inside.frames.now c.stacks.self-inside.words.now c.stacks.self-inside.next c.stacks.self-inside.stacks.now c.unwrap-state.result (sym c.unwrap-state.ensures ∙ c.state.ensures.state) c.stacks.invariant.walkable).0

pub invariant_of-self-in-Some-next-2 : goal.invariant_of-self-in-Some-next-2
invariant_of-self-in-Some-next-2 c =
    let l : c.stacks.self-inside.next < length c.stacks.self-inside.stacks.now = omega (arith, c.stacks-test.true, c.count.ensures.count) in
    ((walkable_cut c.stacks.self-inside.frames.now c.stacks.self-inside.words.now c.stacks.self-inside.next c.stacks.self-inside.stacks.now c.unwrap-state.result (sym c.unwrap-state.ensures ∙ c.state.ensures.state) c.stacks.invariant.walkable).1, omega (arith, l))

pub returns-in-Some-next-2 : goal.returns-in-Some-next-2
returns-in-Some-next-2 c =
    took _ _ _ _ _ _ _ _ c.stacks.invariant.words (words-cut c.stacks.self-inside.frames.now c.stacks.self-inside.words.now c.stacks.self-inside.next c.stacks.self-inside.stacks.now c.unwrap-state.result (sym c.unwrap-state.ensures ∙ c.state.ensures.state)) c.in-Some-of_state.ensures c.in-Some-next-2.ensures c.stacks.invariant.marked

pub stacks-preserved-in_default-next-2 : goal.stacks-preserved-in_default-next-2
stacks-preserved-in_default-next-2 c =
    let l : c.stacks.self-inside.next < length c.stacks.self-inside.stacks.now = omega (arith, c.stacks-test.true, c.count.ensures.count) in
    record {
      marked = c.stacks.invariant.marked;
      stack = c.in_default-next-2.ensures.1;
      words = passed _ _ _ _ c.stacks.invariant.words (words-cut c.stacks.self-inside.frames.now c.stacks.self-inside.words.now c.stacks.self-inside.next c.stacks.self-inside.stacks.now c.unwrap-state.result (sym c.unwrap-state.ensures ∙ c.state.ensures.state)) (sym c.in-Some-of_state.ensures ∙ c.in_default-next-2.ensures.0);
      walkable = (walkable_cut c.stacks.self-inside.frames.now c.stacks.self-inside.words.now c.stacks.self-inside.next c.stacks.self-inside.stacks.now c.unwrap-state.result (sym c.unwrap-state.ensures ∙ c.state.ensures.state) c.stacks.invariant.walkable).1;
      within = omega (arith, l);
    }

pub stacks-preserved : goal.stacks-preserved
stacks-preserved c =
    let l : c.stacks.self-inside.next < length c.stacks.self-inside.stacks.now = omega (arith, c.stacks-test.true, c.count.ensures.count) in
    record {
      marked = c.stacks.invariant.marked;
      stack = c.stacks.invariant.stack;
      words = passed _ _ _ _ c.stacks.invariant.words (words-cut c.stacks.self-inside.frames.now c.stacks.self-inside.words.now c.stacks.self-inside.next c.stacks.self-inside.stacks.now c.unwrap-state.result (sym c.unwrap-state.ensures ∙ c.state.ensures.state)) c.in_default-of_state.ensures;
      walkable = (walkable_cut c.stacks.self-inside.frames.now c.stacks.self-inside.words.now c.stacks.self-inside.next c.stacks.self-inside.stacks.now c.unwrap-state.result (sym c.unwrap-state.ensures ∙ c.state.ensures.state) c.stacks.invariant.walkable).1;
      within = omega (arith, l);
    }
