use Rattle.std.proofs.Common.{◌≡◌, ◌∙◌, sym, ap, subst}
use Rattle.root_words.specs.Listing.{root_words}
use Rattle.word_machine.specs.Memory.{MemoryView}
use Rattle.heap_changes.specs.Laws.{with_heap}
use Rattle.heap_calls.specs.Telling.{AllocationTold}
use Rattle.heap_calls.proofs.AtCalls.{caller-walked, others-walkable, words-good}
use Rattle.heap_calls.proofs.Allocating.{allocation_told}
use Rattle.heap_calls.proofs.entries.allocate_at_call.Goals as goal

pub new-roots-requires-clause-walked : goal.new-roots-requires-clause-walked
new-roots-requires-clause-walked c =
    rw (c.deref-2.ensures.value ∙ ap (λ (m : MemoryView). m.stacks) c.memory.view_is) (caller-walked c.requires.called.4 c.roots_are_exact.ensures)

pub new-roots-requires-clause-walkable : goal.new-roots-requires-clause-walkable
new-roots-requires-clause-walkable c =
    rw (c.deref-2.ensures.value ∙ ap (λ (m : MemoryView). m.stacks) c.memory.view_is) (others-walkable c.requires.called.4 c.roots_are_exact.ensures)

pub allocate-requires-clause-good : goal.allocate-requires-clause-good
allocate-requires-clause-good c =
    rw (
      ap (λ (m : MemoryView). m.heap) c.memory.view_is,
      c.new-roots.ensures,
      c.deref.ensures.value ∙ ap (λ (m : MemoryView). m.statics) c.memory.view_is,
      c.deref-2.ensures.value ∙ ap (λ (m : MemoryView). m.stacks) c.memory.view_is,
    )
    (words-good c.requires.called.4 c.roots_are_exact.ensures c.typed_roots_refer.ensures c.words_agree.ensures)

pub returns-clause-told : goal.returns-clause-told
returns-clause-told c = λ image live s t asked f is long.
    let heap = ap (λ (m : MemoryView). m.heap) c.memory.view_is in
    let listed : c.new-roots.result ≡ root_words c.args.marks.now c.args.memory.now.statics c.args.frames.now c.args.memory.now.stacks c.args.stacks.now c.args.esp c.args.next =
    rw (c.deref.ensures.value ∙ ap (λ (m : MemoryView). m.statics) c.memory.view_is, c.deref-2.ensures.value ∙ ap (λ (m : MemoryView). m.stacks) c.memory.view_is)
    at c.new-roots.ensures in
    let told = allocation_told f c.roots_are_exact.ensures c.typed_roots_refer.ensures c.words_agree.ensures c.reach_is_least.ensures c.heap_is_replaced.ensures
    c.allocations_stand.ensures asked c.args.shape c.args.length is long c.requires.there c.allocate.result c.allocate.new.heap c.allocate.ensures.formed
    (rw (heap, listed) at c.allocate.ensures.placed) (rw (heap, listed) at c.allocate.ensures.kept) in
    subst (λ (m : MemoryView). AllocationTold image c.args.next s asked c.allocate.result m) (sym (ap (with_heap c.allocate.new.heap) c.memory.view_is)) told
