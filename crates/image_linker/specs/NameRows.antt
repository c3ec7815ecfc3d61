-- What a table of names keeps of the rows over all units, each of which holds its place among them.
use Rattle.std.specs.Prelude.{ℕ, Bool, true, false, List, [], ◌∷◌, length, map, nat_lt, slice_get, Option, Some, None, if◌then◌else◌}
use Rattle.std.specs.Str.{bytes_eq}
use Rattle.std.specs.Global.{Vec}
use Rattle.image_linker.specs.declared.name_table.Owner.{Owner}
use Rattle.image_linker.specs.RowMentions.{RowMention, names_in, owners_of}

-- a name, and its rows that are not extern: the place of the first, and whether there is another one
pub record NameRow : Type 0 where
  pub name : List ℕ
  pub owner : Owner

-- the places of a name's rows that are not extern
abbrev pub owner_places : List (RowMention ℕ) → List ℕ → List ℕ
owner_places rows n = map (λ r. r.row) (owners_of rows n)

abbrev pub owner_at : List ℕ → Owner
owner_at places = record { first = slice_get places 0; twice = nat_lt 1 (length places) }

-- the names of these rows, in the order of first mention
abbrev pub name_rows : List (RowMention ℕ) → List NameRow
name_rows rows = map (λ n. record { name = n; owner = owner_at (owner_places rows n) }) (names_in rows)

-- ---- one row more

-- a name with one row more
abbrev pub owner_with : Owner → Bool → ℕ → Owner
owner_with o true place = o
owner_with o false place = with_first o.first
  where
    with_first : Option ℕ → Owner
    with_first None = record { first = Some place; twice = o.twice }
    with_first (Some p) = record { first = Some p; twice = true }

-- of a name that no row has
abbrev pub no_owner : Owner
no_owner = record { first = None; twice = false }

-- what is kept of a name
abbrev pub owner_in : List NameRow → List ℕ → Owner
owner_in [] n = no_owner
owner_in (r ∷ rows) n = if bytes_eq n r.name then r.owner else owner_in rows n

-- and with something else kept of it: in its place, or last where the name is new
abbrev pub owner_put : List NameRow → List ℕ → Owner → List NameRow
owner_put [] n o = record { name = n; owner = o } ∷ []
owner_put (r ∷ rows) n o = if bytes_eq n r.name then record { name = r.name; owner = o } ∷ rows else r ∷ owner_put rows n o

-- an entry of the map
abbrev pub name_row : Vec ℕ × Owner → NameRow
name_row e = record { name = e.0.items; owner = e.1 }
