-- What files tell, and what a read and a write do to it. None stands for files that tell nothing, as real ones.
use Rattle.std.specs.Prelude.{ℕ, ◌≡◌, ◌≢◌, ◌⊎◌, ◌+◌, List, ◌++◌, take, Option, Some, None, IsSomeAnd}

-- The bytes of each file by its name; None at a name without a file.
abbrev pub FileMap : Type 0
FileMap = List ℕ → Option (List ℕ)

-- These bytes are the first of those, perhaps none or all.
abbrev pub IsFront : List ℕ → List ℕ → Type 0
IsFront part whole = (rest : List ℕ) × (whole ≡ part ++ rest)

-- A read gave these bytes: where files are told, there is such a file, and they are its first `most + 1` bytes, or all
-- where it has fewer.
abbrev pub Gives : Option FileMap → List ℕ → ℕ → List ℕ → Type 0
Gives None name most bytes = Unit {0}
Gives (Some files) name most bytes = IsSomeAnd (files name) (λ b. bytes ≡ take (most + 1) b)

-- Files are told, and there is none of this name.
abbrev pub Lacks : Option FileMap → List ℕ → Type 0
Lacks told name = IsSomeAnd told (λ files. files name ≡ None)

-- Where files are told, this one has these bytes afterwards, and every other is as before.
abbrev pub Writes : Option FileMap → Option FileMap → List ℕ → List ℕ → Type 0
Writes None after name bytes = after ≡ None
Writes (Some before) after name bytes =
    IsSomeAnd after (λ files. (files name ≡ Some bytes) × ((other : List ℕ) → other ≢ name → files other ≡ before other))

-- After a failed write this file has a front of the bytes and every other is as before, or there was no such file and
-- none was made.
abbrev pub LeavesFront : Option FileMap → Option FileMap → List ℕ → List ℕ → Type 0
LeavesFront before after name bytes =
    ((front : List ℕ) × IsFront front bytes × Writes before after name front) ⊎ (Lacks before name × (after ≡ before))
