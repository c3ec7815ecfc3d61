use Rattle.std.specs.Prelude.{◌≡◌, ℕ, ◌+◌, ◌<◌, ◌≤◌, List, slice_index}
use Rattle.heap_words.specs.Headers.{size_at}
use Rattle.heap_words.specs.Blocks.{Begins, FormedHeap, IsFree, IsUsed}
use Rattle.free_index.specs.Free.{OnlyLinks}

-- What holds where only links and back links of free blocks changed: headers and used blocks stay.
pub record LinkLaws : Type 0 where
  pub header : (before after : List ℕ) (i : ℕ) → OnlyLinks before after → Begins before i → slice_index after i ≡ slice_index before i
  pub words : (before after : List ℕ) (i k : ℕ) → FormedHeap before → OnlyLinks before after → IsUsed before i → i ≤ k → k < i + size_at before i
      → slice_index after k ≡ slice_index before k
  pub used : (before after : List ℕ) (i : ℕ) → OnlyLinks before after → IsUsed before i → IsUsed after i
  pub free : (before after : List ℕ) (i : ℕ) → OnlyLinks before after → IsFree after i → IsFree before i
