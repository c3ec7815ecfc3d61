use Rattle.heap_cases.proofs.case_heap.CaseHeap.write.Goals as goal

pub invariant_of-self : goal.invariant_of-self
invariant_of-self c = record {
  lists = rw (c.set_word.ensures.words) (c.object_write_keeps_lists.ensures _ _ _ _ c.self.invariant.lists (c.is_object_word.ensures.object c.if-not-is_object_word.false));
  shapes = c.self.invariant.shapes;
}
