-- What every Nucleus keeps stays where a stack goes on.
use Rattle.std.proofs.Common.{◌≡◌, inl, inr, ℕ, true, List, length, slice_set, length-set, ◌∙◌, sym}
use Rattle.heap_words.specs.Blocks.{IsObjectWord}
use Rattle.free_index.specs.Lists.{FreeLists}
use Rattle.ia32_step.specs.declared.cpu.Cpu.{Cpu}
use Rattle.stack_states.specs.declared.stack_state.StackState.{StackState}
use Rattle.stack_states.specs.declared.stack_state.StackState.TheVariants.{Empty, Running, Yielded, Interrupted}
use Rattle.stack_states.specs.StackTable.{current_of}
use Rattle.stack_states.specs.StackTable as table
use Rattle.device_model.specs.Devices.{DevicesView}
use Rattle.word_machine.specs.Memory.{MemoryView, is_mapped}
use Rattle.word_machine.specs.Laws.{HeapWritten}
use Rattle.nucleus_calls.specs.Nucleus.{NucleusView, IsNucleus}
use Rattle.nucleus_calls.specs.Calling.{GoesOn}
use Rattle.nucleus_calls.proofs.Led.{with_parts}

-- what is mapped stays so
mapped-kept : (start n reply : ℕ) (was : StackState) (m : MemoryView) (cpu : Cpu) (after : MemoryView) → GoesOn start n reply was m cpu after
    → (b : ℕ) → is_mapped m b ≡ true → is_mapped after b ≡ true
mapped-kept start n reply Empty m cpu after (is, put) b there = put.mapped b ∙ there
mapped-kept start n reply Running m cpu after went b there = absurd went
mapped-kept start n reply (Yielded sp pc) m cpu after (is, unchanged) b there = rw unchanged there
mapped-kept start n reply (Interrupted regs flags pc) m cpu after (is, unchanged) b there = rw unchanged there

-- a write of an object's word keeps the lists of free blocks
abbrev pub WritesKeepLists : Type 0
WritesKeepLists = (heads words : List ℕ) (i w : ℕ) → FreeLists heads words → IsObjectWord words i → FreeLists heads (slice_set words i w)

-- so does what is written of the heap
pub lists_kept : WritesKeepLists → (heads before after : List ℕ) → HeapWritten before after → FreeLists heads before → FreeLists heads after
lists_kept law heads before after (inl same) h = rw same h
lists_kept law heads before after (inr w) h = rw w.is (law heads before w.index w.word h w.object)

heap_kept : WritesKeepLists → (heads : List ℕ) (start n reply : ℕ) (was : StackState) (m : MemoryView) (cpu : Cpu) (after : MemoryView) → GoesOn start n reply was m cpu after → FreeLists heads m.heap → FreeLists heads after.heap
heap_kept law heads start n reply Empty m cpu after (is, put) h = lists_kept law heads m.heap after.heap put.heap h
heap_kept law heads start n reply Running m cpu after went h = absurd went
heap_kept law heads start n reply (Yielded sp pc) m cpu after (is, unchanged) h = rw unchanged h
heap_kept law heads start n reply (Interrupted regs flags pc) m cpu after (is, unchanged) h = rw unchanged h

-- as many stacks, and what is mapped
pub kept-after : WritesKeepLists → (v : NucleusView) (start n reply : ℕ) (was : StackState) (cpu : Cpu) (after : MemoryView) (stacks : List StackState) (devices : DevicesView)
    → IsNucleus v → GoesOn start n reply was v.memory cpu after → length stacks ≡ length v.stacks → IsNucleus (with_parts v after stacks devices)
kept-after law v start n reply was cpu after stacks devices kept went same = record {
  room = λ a low high aligned. mapped-kept start n reply was v.memory cpu after went a (kept.room a low (rw same at high) aligned);
  starts = kept.starts ∙ sym same;
  lists = heap_kept law v.index start n reply was v.memory cpu after went kept.lists;
}

-- a table handed over has as many states
pub handed-count : (states : List StackState) (left : StackState) (to : ℕ) → length (table.handed_over states left to) ≡ length states
handed-count states left to = length-set (slice_set states (current_of states) left) to Running ∙ length-set states (current_of states) left
