-- A memory stands for a state with the same statics and objects where the words of its stacks are there.
use Rattle.std.proofs.Common.{◌≡◌, ◌<◌, ℕ, Bool, length}
use Rattle.tal_image.specs.Image.{ImageParts}
use Rattle.typed_machine.specs.States.{State, places_of}
use Rattle.typed_machine.specs.Words.{stack_pointer}
use Rattle.word_machine.specs.Memory.{MemoryView}
use Rattle.word_machine.specs.Standing.{HoldsValues, values_at, MemoryStands}

pub restacked : (image : ImageParts) (live : ℕ → Bool) (s t : State) (m : MemoryView) → MemoryStands image live s m → t.statics ≡ s.statics → t.store ≡ s.store
    → ((n : ℕ) → n < image.stacks → HoldsValues m (places_of s) (stack_pointer n (length (values_at t n))) (values_at t n)) → MemoryStands image live t m
unfolding values_at
restacked image live s t m h statics store stacks = record {
  tables = h.tables;
  descriptors = h.descriptors;
  statics = rw (statics, store) h.statics;
  objects = rw store h.objects;
  stacks = rw store stacks;
  room = h.room;
  lie = record { short = rw statics h.lie.short; aligned = rw store h.lie.aligned; inside = rw (store, statics) h.lie.inside; apart = rw store h.lie.apart };
  blocks = rw store h.blocks;
}
