use Rattle.std.proofs.Common.{◌≡◌, ◌∙◌, sym, ap, subst}
use Rattle.root_words.specs.Listing.{root_words}
use Rattle.word_machine.specs.Memory.{MemoryView}
use Rattle.heap_changes.specs.Laws.{with_heap}
use Rattle.heap_calls.specs.Telling.{CollectionTold}
use Rattle.heap_calls.proofs.AtCalls.{caller-walked, others-walkable, words-good}
use Rattle.heap_calls.proofs.Collecting.{collection_told}
use Rattle.heap_calls.proofs.entries.collect_at_call.Goals as goal

pub new-roots-requires-clause-walked : goal.new-roots-requires-clause-walked
new-roots-requires-clause-walked c =
    rw (c.deref-2.ensures.value ∙ ap (λ (m : MemoryView). m.stacks) c.memory.view_is) (caller-walked c.requires.called.4 c.roots_are_exact.ensures)

pub new-roots-requires-clause-walkable : goal.new-roots-requires-clause-walkable
new-roots-requires-clause-walkable c =
    rw (c.deref-2.ensures.value ∙ ap (λ (m : MemoryView). m.stacks) c.memory.view_is) (others-walkable c.requires.called.4 c.roots_are_exact.ensures)

pub collect_and_count-requires-clause-good : goal.collect_and_count-requires-clause-good
collect_and_count-requires-clause-good c =
    rw (
      ap (λ (m : MemoryView). m.heap) c.memory.view_is,
      c.new-roots.ensures,
      c.deref.ensures.value ∙ ap (λ (m : MemoryView). m.statics) c.memory.view_is,
      c.deref-2.ensures.value ∙ ap (λ (m : MemoryView). m.stacks) c.memory.view_is,
    )
    (words-good c.requires.called.4 c.roots_are_exact.ensures c.typed_roots_refer.ensures c.words_agree.ensures)

pub returns-clause-told : goal.returns-clause-told
returns-clause-told c = λ image live s t f.
    let heap = ap (λ (m : MemoryView). m.heap) c.memory.view_is in
    let listed : c.new-roots.result ≡ root_words c.args.marks.now c.args.memory.now.statics c.args.frames.now c.args.memory.now.stacks c.args.stacks.now c.args.esp c.args.next =
    rw (c.deref.ensures.value ∙ ap (λ (m : MemoryView). m.statics) c.memory.view_is, c.deref-2.ensures.value ∙ ap (λ (m : MemoryView). m.stacks) c.memory.view_is)
    at c.new-roots.ensures in
    let told = collection_told f c.roots_are_exact.ensures c.typed_roots_refer.ensures c.collections_stand.ensures c.free_words_are_counted.ensures c.heap_is_replaced.ensures
    c.collect_and_count.result c.collect_and_count.new.heap c.collect_and_count.ensures.formed (rw (heap, listed) at c.collect_and_count.ensures.collected)
    (rw (heap, listed) at c.collect_and_count.ensures.counted) in
    subst (λ (m : MemoryView). CollectionTold image c.args.next s c.collect_and_count.result m) (sym (ap (with_heap c.collect_and_count.new.heap) c.memory.view_is)) told
