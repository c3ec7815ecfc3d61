-- Places for files in memory: each has a name, room for so many bytes, and the file's bytes, where there is one.
use Rattle.std.specs.Prelude.{ℕ, ◌≤◌, List, [], ◌∷◌, take, Option, Some, None, IsSomeAnd, option_and_then, bytes_eq, if◌then◌else◌}
use Rattle.outside.specs.FileMaps.{FileMap}

pub record FilePlace : Type 0 where
  pub name : List ℕ
  pub room : ℕ
  pub bytes : Option (List ℕ)

-- A place of this name and room, without a file.
abbrev pub vacant_place : List ℕ → ℕ → FilePlace
vacant_place name room = record { name = name; room = room; bytes = None }

-- The first place of a name.
abbrev pub place_of : List FilePlace → List ℕ → Option FilePlace
place_of [] name = None
place_of (p ∷ ps) name = if bytes_eq p.name name then Some p else place_of ps name

-- The files by their names.
abbrev pub files_of : List FilePlace → FileMap
files_of places name = option_and_then (λ p. p.bytes) (place_of places name)

-- There is a place of this name, with room for so many bytes.
abbrev pub HasRoom : List FilePlace → List ℕ → ℕ → Type 0
HasRoom places name count = IsSomeAnd (place_of places name) (λ p. count ≤ p.room)

-- The places after a write: the first of this name has of these bytes what fits its room, and no others.
abbrev pub written : List FilePlace → List ℕ → List ℕ → List FilePlace
written [] name bytes = []
written (p ∷ ps) name bytes =
    if bytes_eq p.name name then record p { bytes = Some (take p.room bytes) } ∷ ps else p ∷ written ps name bytes
