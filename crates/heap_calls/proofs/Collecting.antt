-- What a collection at a call comes to.
use Rattle.std.proofs.Common.{◌≡◌, ◌≤◌, ◌+◌, inl, inr, ℕ, Bool, true, List, [], ◌++◌, length, map, sum, append-nil, Some, slice_get, sym, subst, arith}
use Rattle.object_layout.specs.Classes.{ShapesView}
use Rattle.heap_words.specs.Headers.{size_at}
use Rattle.heap_words.specs.Blocks.{FormedHeap}
use Rattle.mark_sweep.specs.Collections.{Collects}
use Rattle.heap_allocation.specs.Counts.{ListsReached}
use Rattle.frame_tables.specs.FrameRows.{RowAt}
use Rattle.stack_states.specs.declared.stack_state.StackState.{StackState}
use Rattle.tal_types.specs.declared.types.Ty.{Ty}
use Rattle.tal_image.specs.Image.{ImageParts}
use Rattle.tal_image.specs.Shown.{shown}
use Rattle.typed_machine.specs.Stores.{Object, Store}
use Rattle.typed_machine.specs.States.{State}
use Rattle.typed_machine.specs.Reaching.{Roots}
use Rattle.root_words.specs.Laws.{RootsAreExact}
use Rattle.typed_heap.specs.Standing.{HeapStands, reached_by}
use Rattle.typed_heap.specs.Laws.{CollectionsStand, FreeWordsAreCounted, TypedRootsRefer}
use Rattle.word_machine.specs.Memory.{MemoryView}
use Rattle.word_machine.specs.Standing.{MemoryStands}
use Rattle.heap_changes.specs.Laws.{with_objects, with_heap, HeapHolds, HeapIsReplaced}
use Rattle.heap_calls.specs.Finding.{CallFinds}
use Rattle.heap_calls.specs.Telling.{IsRooted, CollectionTold}
use Rattle.heap_calls.proofs.AtCalls.{listed, roots-stand, arrays-live, rooted-lives, places-differ}

module _ {image : ImageParts} {live : ℕ → Bool} {s : State} {t : Ty} {next esp : ℕ} {m : MemoryView} {marks : List Bool} {table : List RowAt} {shapes : ShapesView}
    {kept : List StackState} (f : CallFinds image live s t next esp m marks table shapes kept) where
  -- a memory stands with another heap, where that holds the objects
  pub replaced : HeapIsReplaced → (over : ℕ → Bool) (more : List Object) (words : List ℕ) → HeapHolds image over (s.store ++ more) m.heap words
      → MemoryStands image over (with_objects more s) (with_heap words m)
  replaced law over more words holds = law image live over s more m words f.formed f.whole (arrays-live f) f.memory holds

  -- the same with no more objects
  pub replaced_alone : HeapIsReplaced → (over : ℕ → Bool) (words : List ℕ) → HeapHolds image over s.store m.heap words → MemoryStands image over s (with_heap words m)
  replaced_alone law over words holds =
      let none = append-nil s.store in
      subst (λ (store : Store). MemoryStands image over (record s { store = store }) (with_heap words m)) none
      (replaced law over [] words (subst (λ (store : Store). HeapHolds image over store m.heap words) (sym none) holds))

  -- a heap holds objects that are kept, where it stands for those that the roots reach
  pub heap_holds : (over : ℕ → Bool) (words : List ℕ) → ((i : ℕ) (o : Object) → over i ≡ true → slice_get s.store i ≡ Some o → IsRooted image next s i) → FormedHeap words
      → length words ≡ length m.heap → HeapStands image over s.store words → HeapHolds image over s.store m.heap words
  heap_holds over words rooted formed size stands = record {
    formed = formed;
    size = size;
    stands = stands;
    counts = λ i o e behind here. f.typed.store.counts i o here;
    differ = λ i j o p e g behind after here there. places-differ f i j o p (rooted-lives f i (rooted i o e here)) (rooted-lives f j (rooted j p g there)) here there;
  }

  pub collection_told : RootsAreExact → TypedRootsRefer → CollectionsStand → FreeWordsAreCounted → HeapIsReplaced → (n : ℕ) (words : List ℕ) → FormedHeap words
      → Collects shapes m.heap (listed f) words
      → ((reached : List ℕ) → ListsReached shapes m.heap (listed f) reached → n + sum (map (size_at m.heap) reached) ≡ length m.heap)
      → CollectionTold image next s n (with_heap words m)
  collection_told exact refer stand count law n words formed collects counted =
      let roots = roots-stand f exact refer in
      let collected : Collects (shown image).shapes m.heap (listed f) words = rw f.classes at collects in
      record {
        counted = count image s (Roots image next s) m.heap (listed f) n roots
            (λ i j o p e g behind after here there. places-differ f i j o p (f.lives i e) (f.lives j g) here there)
            (λ reached h. counted reached (rw f.classes h));
        stands = λ over rooted.
            replaced_alone law over words
            (heap_holds over words (λ i o e here. rooted i e) formed collected.size
            (λ i o e behind here. among i behind (rooted i e) (λ reached. stand image s (Roots image next s) m.heap (listed f) words roots collected i o reached behind here)));
      }
    where
      -- an object behind the data arrays that is kept is reached
      among : {X : Type 0} (i : ℕ) → length image.arrays ≤ i → IsRooted image next s i → (reached_by image s.store (Roots image next s) i ≡ true → X) → X
      among i behind (inl low) g = absurd (omega (arith, behind, low))
      among i behind (inr reached) g = g reached
