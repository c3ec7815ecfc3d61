-- The memory of an image, and the word at each address.
use Rattle.std.specs.Prelude.{ℕ, ◌+◌, Bool, false, nat_le, nat_lt, ◌&&◌, ◌||◌, List, Option, slice_get, is_some, if◌then◌else◌}
use Rattle.std.specs.List.{list_any}
use Rattle.std.specs.Option.{option_and_then, option_map_or}
use Rattle.heap_words.specs.Blocks.{Block, Blocks}
use Rattle.object_layout.specs.Areas.{tables_start, descriptors_start, statics_start, stacks_start, heap_start, word_index}

-- The words of each area from its first address up: the class tables, the descriptors of array kinds, the statics with the data
-- arrays behind them, the stacks one after another, and the heap.
pub record MemoryView : Type 0 where
  pub tables : List ℕ
  pub descriptors : List ℕ
  pub statics : List ℕ
  pub stacks : List ℕ
  pub heap : List ℕ

-- the word at an address, among those of an area that begins at `start`
abbrev pub word_in : ℕ → List ℕ → ℕ → Option ℕ
word_in start words a = option_and_then (slice_get words) (word_index start a)

-- the word at an address, if one stands there: an address belongs to the last area that does not begin above it
unfoldable pub word_of : MemoryView → ℕ → Option ℕ
word_of m a =
    if nat_le heap_start a then word_in heap_start m.heap a
    else if nat_le stacks_start a then word_in stacks_start m.stacks a
    else if nat_le statics_start a then word_in statics_start m.statics a
    else if nat_le descriptors_start a then word_in descriptors_start m.descriptors a
    else word_in tables_start m.tables a

-- word k of the heap is an object's in this block: the block is used, and the word stands behind its first two
abbrev pub has_word : ℕ → Block → Bool
has_word k block = block.used && (nat_le (block.place + 2) k && nat_lt k (block.place + block.size))

-- word k of the heap is an object's
unfoldable pub is_object_word : List ℕ → ℕ → Bool
is_object_word words k = list_any (has_word k) (Blocks words)

-- the address is below the heap, or that of an object's word
unfoldable pub heap_allows : List ℕ → ℕ → Bool
heap_allows words a = nat_lt a heap_start || option_map_or (is_object_word words) (word_index heap_start a) false

-- an instruction may read and write the word at the address: one stands there, and in the heap it is an object's
unfoldable pub is_mapped : MemoryView → ℕ → Bool
is_mapped m a = is_some (word_of m a) && heap_allows m.heap a

-- the word at the address, mapped or not; 0 where none stands there
unfoldable pub memory_word : MemoryView → ℕ → ℕ
memory_word m a = option_map_or (λ w. w) (word_of m a) 0
