-- The areas of the memory: where each begins, and where things stand in them.
use Rattle.std.specs.Prelude.{ℕ, ◌+◌, ◌-◌, ◌*◌, ◌/◌, ◌%◌, ◌==◌, ◌&&◌, nat_le, Option, Some, None, if◌then◌else◌}

-- the code's first byte
abbrev pub code_start : ℕ
code_start = 0x100000

-- the first word of the class tables, of the descriptors of array kinds, of the statics, of the stacks and of the heap
abbrev pub tables_start : ℕ
tables_start = 0x200000

abbrev pub descriptors_start : ℕ
descriptors_start = 0x280000

abbrev pub statics_start : ℕ
statics_start = 0x300000

abbrev pub stacks_start : ℕ
stacks_start = 0x400000

abbrev pub heap_start : ℕ
heap_start = 0x800000

-- where the table of class c stands: each takes 64 words
unfoldable pub table_address : ℕ → ℕ
table_address c = tables_start + 256 * c

-- where the descriptor of kind k stands: each takes 4 words
unfoldable pub descriptor_address : ℕ → ℕ
descriptor_address k = descriptors_start + 16 * k

-- which word of those from byte `first` on stands at a byte
unfoldable pub word_index : ℕ → ℕ → Option ℕ
word_index first byte = if nat_le first byte && ((byte - first) % 4 == 0) then Some ((byte - first) / 4) else None
