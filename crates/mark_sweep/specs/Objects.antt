use Rattle.std.specs.Prelude.{◌≡◌, ℕ, ◌+◌, ◌-◌, ◌*◌, ◌/◌, ◌<◌, ◌≤◌, ◌&&◌, Bool, true, false, List, slice_index, nat_lt, Option, Some, None, if◌then◌else◌}
use Rattle.std.specs.Option.{option_map_or}
use Rattle.heap_words.specs.Headers.{size_at}
use Rattle.heap_words.specs.Blocks.{IsUsed}
use Rattle.object_layout.specs.Areas.{tables_start, descriptors_start, heap_start, table_address, descriptor_address}
use Rattle.object_layout.specs.Classes.{ShapesView, IsShape, Need, field_at, Element, is_reference}
use Rattle.object_layout.specs.declared.rows.Shape.{Shape}
use Rattle.object_layout.specs.declared.rows.Shape.TheVariants.{Class, Kind}

-- An object stands in a used block behind the two words of its block. Its first word names its shape: it is the
-- address of a class's table or of a kind's descriptor. Its words are counted from this one on.

-- the address of the object in the block at i
unfoldable pub address : ℕ → ℕ
address i = heap_start + 4 * (i + 2)

-- the shape that an object's first word names: tables stand below the descriptors
unfoldable pub shape_named : ℕ → Shape
shape_named word =
    if nat_lt word descriptors_start then Class ((word - tables_start) / 256)
    else Kind ((word - descriptors_start) / 16)

-- the word that names a shape
unfoldable pub shape_word : Shape → ℕ
shape_word (Class c) = table_address c
shape_word (Kind k) = descriptor_address k

-- whether word k of an object is a reference field or element: a field's word k stands at byte 4k; an array
-- has its length in word 1 and its elements from word 2 on
unfoldable pub holds_reference : ShapesView → Shape → ℕ → ℕ → Bool
holds_reference s (Class c) length k = option_map_or is_reference (field_at s c (4 * k)) false
holds_reference s (Kind q) length k = (nat_lt 1 k && nat_lt k (2 + length)) && option_map_or is_reference (Element s q) false

-- an object stands in the block at i: the block is used, its third word is a class's table or a kind's
-- descriptor, and its size is what an object of that shape needs
pub record IsObject (s : ShapesView) (words : List ℕ) (i : ℕ) : Type 0 where
  pub used : IsUsed words i
  pub there : IsShape s (shape_named (slice_index words (i + 2)))
  pub named : slice_index words (i + 2) ≡ shape_word (shape_named (slice_index words (i + 2)))
  pub exact : size_at words i ≡ Need s (shape_named (slice_index words (i + 2))) (slice_index words (i + 3))

-- word k of the object in the block at i stands behind its first word, lies in the block, and is a reference
-- field or element
pub record IsReference (s : ShapesView) (words : List ℕ) (i k : ℕ) : Type 0 where
  pub behind : 1 ≤ k
  pub within : k + 2 < size_at words i
  pub holds_reference : holds_reference s (shape_named (slice_index words (i + 2))) (slice_index words (i + 3)) k ≡ true
