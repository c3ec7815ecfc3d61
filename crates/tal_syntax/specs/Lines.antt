-- The lines of a text.
use Rattle.std.specs.Prelude.{◌≡◌, ℕ, ◌-◌, ◌<◌, List, [], ◌∷◌, length, take, Bool, ◌==◌, not, Option, Some, None, if◌then◌else◌, slice_index_or}
use denote.Ref.{Bor}

-- a byte goes to the first line
abbrev pub onto_first : ℕ → List (List ℕ) → List (List ℕ)
onto_first b [] = (b ∷ []) ∷ []
onto_first b (l ∷ ls) = (b ∷ l) ∷ ls

-- what stands between the LFs
unfoldable pub between_lfs : List ℕ → List (List ℕ)
between_lfs [] = [] ∷ []
between_lfs (b ∷ bs) = if b == 10 then [] ∷ between_lfs bs else onto_first b (between_lfs bs)

-- a line without the CR at its end
abbrev pub without_cr : List ℕ → List ℕ
without_cr l = if slice_index_or l (length l - 1) 0 == 13 then take (length l - 1) l else l

-- Each line but the last has an LF behind it, before which a CR may stand.
unfoldable pub trimmed : List (List ℕ) → List (List ℕ)
trimmed [] = []
trimmed (l ∷ []) = l ∷ []
trimmed (l ∷ m ∷ ms) = without_cr l ∷ trimmed (m ∷ ms)

-- the lines of a text
abbrev pub lines : List ℕ → List (List ℕ)
lines bytes = trimmed (between_lfs bytes)

-- a byte of a line
abbrev pub not_lf : ℕ → Bool
not_lf b = not (b == 10)

-- the first line, and the bytes behind its LF where there is one
abbrev pub CutIs : List ℕ → List ℕ → Option (Bor (List ℕ)) → Type 0
CutIs bytes line None = lines bytes ≡ line ∷ []
CutIs bytes line (Some rest) = (lines bytes ≡ line ∷ lines rest.now) × (length rest.now < length bytes)
