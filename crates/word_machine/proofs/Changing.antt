-- What stays of the words of a state where one word of the memory changes.
use Rattle.std.specs.Prelude.{◌&&◌}
use Rattle.std.proofs.Common.{◌≡◌, ◌⊎◌, inl, inr, ◌+◌, ◌*◌, ◌%◌, ◌<◌, ◌≤◌, ◌==◌, ℕ, Bool, true, false, if◌then◌else◌, Some, is_some, arith, refl, ◌∙◌, List, length, slice_get}
use Rattle.ia32_step.specs.declared.cpu.Cpu.{Cpu}
use Rattle.object_layout.specs.Areas.{statics_start, stacks_start, heap_start, table_address, descriptor_address}
use Rattle.object_layout.specs.Classes.{table_word, descriptor_word}
use Rattle.object_layout.specs.Laws.{ClassLaws}
use Rattle.tal_image.specs.Image.{ImageParts}
use Rattle.tal_image.specs.Shown.{shapes_of}
use Rattle.typed_machine.specs.Values.{Value}
use Rattle.typed_machine.specs.Stores.{Object}
use Rattle.typed_machine.specs.States.{State, places_of}
use Rattle.typed_machine.specs.Words.{stack_pointer, object_values}
use Rattle.word_machine.specs.Memory.{MemoryView, word_of, is_mapped}
use Rattle.word_machine.specs.Standing.{HoldsValues, values_at, BlocksStand}
use Rattle.word_machine.specs.Following.{Grounds}
use Rattle.word_machine.proofs.Holding.{Outside, Change, word-kept, holds-kept}
use Rattle.word_machine.proofs.Tables.{table-below, descriptor-below}
use Rattle.word_machine.proofs.Areas.{mapped-word, low-open, heap_stays}
use Rattle.word_machine.proofs.Bounds.{few-stacks, stack_short}

-- the words of stack n, where it has these values
abbrev pub StackHolds : MemoryView → State → ℕ → List Value → Type 0
StackHolds m s n values = HoldsValues m (places_of s) (stack_pointer n (length values)) values

module _ {image : ImageParts} {live : ℕ → Bool} {s : State} {cpu : Cpu} {m : MemoryView} (g : Grounds image live s cpu m) {after : MemoryView} {a w : ℕ}
    (c : Change m after a w) where
  -- the class tables, where the address is not below the statics
  pub tables-kept : ClassLaws (shapes_of image) → statics_start ≤ a → (d k v : ℕ) → table_word (shapes_of image) d k ≡ Some v
      → word_of after (table_address d + 4 * k) ≡ Some v
  tables-kept laws high d k v h =
      let below = table-below (shapes_of image) laws d k v h in word-kept c (table_address d + 4 * k) (λ z. omega arith) ∙ g.stand.memory.tables d k v h

  -- the descriptors
  pub descriptors_kept : ClassLaws (shapes_of image) → statics_start ≤ a → (d k v : ℕ) → descriptor_word (shapes_of image) d k ≡ Some v
      → word_of after (descriptor_address d + 4 * k) ≡ Some v
  descriptors_kept laws high d k v h =
      let below = descriptor-below (shapes_of image) laws d k v h in word-kept c (descriptor_address d + 4 * k) (λ z. omega arith) ∙ g.stand.memory.descriptors d k v h

  -- all words of the stacks are still there
  pub room-kept : (b : ℕ) → stacks_start ≤ b → b < stacks_start + 16384 * image.stacks → b % 4 ≡ 0 → is_mapped after b ≡ true
  unfolding is_mapped
  room-kept b low high aligned = let few = few-stacks g in rw (c.written b, low-open after.heap b (omega arith)) (go (b == a))
    where
      go : (t : Bool) → (is_some (if t then Some w else word_of m b) && true) ≡ true
      go true = refl
      go false = rw (mapped-word m b (g.stand.memory.room b low high aligned)).0 refl

  -- the blocks of the heap, where the address is below it
  pub blocks-kept : a < heap_start → BlocksStand image live s.store after.heap
  blocks-kept low = rw (heap_stays m after a w c.written low) g.stand.memory.blocks

  -- the statics
  pub statics-kept : Outside a statics_start (length s.statics) → HoldsValues after (places_of s) statics_start s.statics
  statics-kept out = holds-kept c (places_of s) statics_start s.statics g.stand.memory.statics out

  -- an object that lives
  pub object_kept : (i : ℕ) (o : Object) → live i ≡ true → slice_get s.store i ≡ Some o → Outside a o.place (length (object_values o))
      → HoldsValues after (places_of s) o.place (object_values o)
  object_kept i o lives there out = holds-kept c (places_of s) o.place (object_values o) (g.stand.memory.objects i o lives there) out

  -- a stack that the address is not in
  pub stack_kept : (n : ℕ) → n < image.stacks → (a < stacks_start + 16384 * n) ⊎ (stacks_start + 16384 * (n + 1) ≤ a) → StackHolds after s n (values_at s n)
  stack_kept n there out = holds-kept c (places_of s) (stack_pointer n (length (values_at s n))) (values_at s n) (g.stand.memory.stacks n there) (outside out)
    where
      outside : (a < stacks_start + 16384 * n) ⊎ (stacks_start + 16384 * (n + 1) ≤ a) → Outside a (stack_pointer n (length (values_at s n))) (length (values_at s n))
      outside (inl low) = let short = stack_short g n in inl (omega arith)
      outside (inr high) = let short = stack_short g n in inr (omega arith)
