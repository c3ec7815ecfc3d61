-- The entries of the map, as rows.
use Rattle.std.proofs.Common.{ℕ, add-one, zero, suc, slice_get, drop, ◌≡◌, ◌+◌, Bool, true, false, not, cond, List, [], ◌∷◌, ◌++◌, append_assoc, map, Some, refl, sym, ap, ◌∙◌, if◌then◌else◌}
use Rattle.std.specs.Option.{unwrap_or, option_to_list}
use Rattle.std.specs.List.{position_or_len}
use Rattle.std.specs.Map.{keys_of, lookup}
use Rattle.std.specs.Str.{bytes_eq}
use Rattle.std.specs.Global.{Vec}
use Rattle.indexmap.specs.IndexMap.{insert_entry}
use Rattle.image_linker.specs.declared.name_table.Owner.{Owner}
use Rattle.image_linker.specs.NameRows.{NameRow, no_owner, owner_in, owner_put, name_row}
use Rattle.image_linker.proofs.Mentions.Rows.{found, places_in}

-- a look-up among the entries is one among the rows
pub owner_entries : (n : List ℕ) (es : List (Vec ℕ × Owner)) → owner_in (map name_row es) n ≡ unwrap_or (lookup (λ (k : Vec ℕ). bytes_eq n k.items) es) no_owner
owner_entries n [] = refl
owner_entries n (e ∷ es) = by (bytes_eq n e.0.items) (owner_entries n es)
  where
    by : (b : Bool) → owner_in (map name_row es) n ≡ unwrap_or (lookup (λ (k : Vec ℕ). bytes_eq n k.items) es) no_owner
        → (if b then e.1 else owner_in (map name_row es) n) ≡ unwrap_or (cond b (Some e.1) (lookup (λ (k : Vec ℕ). bytes_eq n k.items) es)) no_owner
    by true later = refl
    by false later = later

-- so is a write
pub put_entries : (k : Vec ℕ) (o : Owner) (es : List (Vec ℕ × Owner)) → map name_row (insert_entry (λ (a b : Vec ℕ). bytes_eq a.items b.items) es k o) ≡ owner_put (map name_row es) k.items o
put_entries k o [] = refl
put_entries k o (e ∷ es) = by (bytes_eq k.items e.0.items) (put_entries k o es)
  where
    by : (b : Bool) → map name_row (insert_entry (λ (a c : Vec ℕ). bytes_eq a.items c.items) es k o) ≡ owner_put (map name_row es) k.items o
        → map name_row (if b then (e.0, o) ∷ es else e ∷ insert_entry (λ (a c : Vec ℕ). bytes_eq a.items c.items) es k o)
        ≡ (if b then record { name = e.0.items; owner = o } ∷ map name_row es else name_row e ∷ owner_put (map name_row es) k.items o)
    by true later = refl
    by false later = ap (λ l. name_row e ∷ l) later

-- and a number
pub number_entries : (n : List ℕ) (es : List (Vec ℕ × Owner)) → position_or_len (λ (k : Vec ℕ). bytes_eq n k.items) (keys_of es) ≡ position_or_len (bytes_eq n) (map (λ (r : NameRow). r.name) (map name_row es))
number_entries n [] = refl
number_entries n (e ∷ es) = ap (λ t. cond (not (bytes_eq n e.0.items)) (1 + t) 0) (number_entries n es)

drop_suc : (rows : List NameRow) (i : ℕ) (r : NameRow) → slice_get rows i ≡ Some r → drop i rows ≡ r ∷ drop (suc i) rows
drop_suc [] i r h = cc
drop_suc (x ∷ rows) zero r h = let k : Some x ≡ Some r = h in let j : x ≡ r = cc in ap (λ z. z ∷ rows) j
drop_suc (x ∷ rows) (suc i) r h = drop_suc rows i r h

-- what is left from a row on
pub drop_row : (rows : List NameRow) (i : ℕ) (r : NameRow) → slice_get rows i ≡ Some r → drop i rows ≡ r ∷ drop (i + 1) rows
drop_row rows i r h = drop_suc rows i r h ∙ ap (λ n. r ∷ drop n rows) (sym (add-one i))

-- looking at one row
pub found_at : (test : Owner → Bool) (kept : List NameRow) (i : ℕ) (r : NameRow) (b : Bool) → slice_get kept i ≡ Some r → test r.owner ≡ b → found test (drop i kept) ≡ cond b (Some r.name) (found test (drop (i + 1) kept))
found_at test kept i r true h e = rw (drop_row kept i r h, e) refl
found_at test kept i r false h e = rw (drop_row kept i r h, e) refl

-- the place of one row, where it has one
pub places_step : (before : List ℕ) (kept : List NameRow) (i : ℕ) (r : NameRow) → slice_get kept i ≡ Some r → before ++ places_in (drop i kept) ≡ (before ++ option_to_list r.owner.first) ++ places_in (drop (i + 1) kept)
places_step before kept i r h = ap (λ l. before ++ places_in l) (drop_row kept i r h) ∙ sym (append_assoc before (option_to_list r.owner.first) (places_in (drop (i + 1) kept)))

pub not_not : (b : Bool) → not (not b) ≡ b
not_not true = refl
not_not false = refl
