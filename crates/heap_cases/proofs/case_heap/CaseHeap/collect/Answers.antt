use Rattle.heap_cases.proofs.case_heap.CaseHeap.collect.Goals as goal

pub collect-requires-clause-good : goal.collect-requires-clause-good
collect-requires-clause-good c = record {
  roots = c.are_good.ensures c.if-not-are_good.false;
  fields = λ j k _ r. absurd (c.self.invariant.shapes.plain _ j k r);
}
