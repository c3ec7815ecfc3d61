-- Names in the order of their first mention, each once.
use Rattle.std.specs.Prelude.{ℕ, Bool, List, [], ◌∷◌, ◌++◌, Option, if◌then◌else◌}
use Rattle.std.specs.List.{list_any, position}
use Rattle.std.specs.Str.{bytes_eq}

-- the name is among them
abbrev pub is_named : List (List ℕ) → List ℕ → Bool
is_named names n = list_any (bytes_eq n) names

-- the names, with this one last where it is new
abbrev pub with_name : List (List ℕ) → List ℕ → List (List ℕ)
with_name names n = if is_named names n then names else names ++ n ∷ []

-- the place of a name among them
abbrev pub number_of_name : List (List ℕ) → List ℕ → Option ℕ
number_of_name names n = position (bytes_eq n) names
