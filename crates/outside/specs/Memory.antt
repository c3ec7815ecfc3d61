-- What files and a sink in memory hold.
use Rattle.std.specs.Prelude.{ℕ, ◌≤◌, ◌+◌, ◌-◌, List, ◌++◌, length, take}
use Rattle.outside.specs.Shelf.{FilePlace}

-- Places for files, and how many reads and writes failed.
pub record FilesInMemory : Type 0 where
  pub places : List FilePlace
  pub read_faults : ℕ
  pub write_faults : ℕ

-- The bytes that a sink has taken, for how many in all it has room, and how many calls failed.
pub record BytesInMemory : Type 0 where
  pub bytes : List ℕ
  pub room : ℕ
  pub faults : ℕ

-- There is room for so many bytes more.
abbrev pub HasRoomFor : BytesInMemory → ℕ → Type 0
HasRoomFor sink count = length sink.bytes + count ≤ sink.room

-- The bytes after a call: behind the old ones those of the new ones that fit.
abbrev pub filled : BytesInMemory → List ℕ → List ℕ
filled sink bytes = sink.bytes ++ take (sink.room - length sink.bytes) bytes
