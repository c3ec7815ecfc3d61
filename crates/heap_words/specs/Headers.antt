use Rattle.std.specs.Prelude.{ℕ, ◌+◌, ◌*◌, ◌/◌, ◌%◌, ◌==◌, Bool, List, slice_index, if◌then◌else◌}

-- The first word of a block is its size in words, a multiple of 4, with bit 0 for used and bit 1 for marked.

-- the header word of a block
unfoldable pub header_word : ℕ → Bool → Bool → ℕ
header_word size used marked = size + ((if used then 1 else 0) + 2 * (if marked then 1 else 0))

-- the size that a header word has
unfoldable pub size_of : ℕ → ℕ
size_of word = 4 * (word / 4)

-- whether its block is used: bit 0
unfoldable pub used_of : ℕ → Bool
used_of word = (word % 2) == 1

-- whether its block is marked: bit 1
unfoldable pub marked_of : ℕ → Bool
marked_of word = ((word / 2) % 2) == 1

-- the same at a place of the heap
abbrev pub size_at : List ℕ → ℕ → ℕ
size_at words i = size_of (slice_index words i)

abbrev pub used_at : List ℕ → ℕ → Bool
used_at words i = used_of (slice_index words i)

abbrev pub marked_at : List ℕ → ℕ → Bool
marked_at words i = marked_of (slice_index words i)
