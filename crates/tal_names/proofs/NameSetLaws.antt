-- What is said of the keys of a set, said of the names that they hold.
use Rattle.std.proofs.Common.{◌≡◌, ℕ, ◌+◌, Bool, true, false, not, cond, nat_lt, ◌||◌, List, [], ◌∷◌, ◌++◌, map, length, Some, None, refl, sym, ap, ◌∙◌, if◌then◌else◌}
use Rattle.std.proofs.lemmas.List.{map-append, length-map}
use Rattle.std.specs.List.{list_any, position, position_or_len}
use Rattle.std.specs.Str.{bytes_eq}
use Rattle.std.specs.Global.{Vec}
use Rattle.indexmap.specs.IndexSet.{insert_key}
use Rattle.tal_names.specs.NameSets.{is_named, with_name, number_of_name}

-- the names that keys hold
abbrev pub held : List (Vec ℕ) → List (List ℕ)
held ks = map (λ (k : Vec ℕ). k.items) ks

-- whether a name is among them
pub named_held : (n : List ℕ) (ks : List (Vec ℕ)) → list_any (λ (k : Vec ℕ). bytes_eq n k.items) ks ≡ is_named (held ks) n
named_held n [] = refl
named_held n (k ∷ ks) = ap (λ b. bytes_eq n k.items || b) (named_held n ks)

place_held : (n : List ℕ) (ks : List (Vec ℕ)) → position_or_len (λ (k : Vec ℕ). bytes_eq n k.items) ks ≡ position_or_len (bytes_eq n) (held ks)
place_held n [] = refl
place_held n (k ∷ ks) = ap (λ t. cond (not (bytes_eq n k.items)) (1 + t) 0) (place_held n ks)

-- the number of a name
pub number_held : (n : List ℕ) (ks : List (Vec ℕ)) → position (λ (k : Vec ℕ). bytes_eq n k.items) ks ≡ number_of_name (held ks) n
number_held n ks =
    ap (λ t. cond (nat_lt t (length ks)) (Some t) None) (place_held n ks)
    ∙ ap (λ m. cond (nat_lt (position_or_len (bytes_eq n) (held ks)) m) (Some (position_or_len (bytes_eq n) (held ks))) None) (sym (length-map ks (λ (k : Vec ℕ). k.items)))

held_if : (k : Vec ℕ) (ks : List (Vec ℕ)) (b : Bool) → held (if b then ks else ks ++ k ∷ []) ≡ (if b then held ks else held ks ++ k.items ∷ [])
held_if k ks true = refl
held_if k ks false = map-append (λ (j : Vec ℕ). j.items) ks (k ∷ [])

-- the names with one key more
pub held_insert : (k : Vec ℕ) (ks : List (Vec ℕ)) → held (insert_key (λ (a b : Vec ℕ). bytes_eq a.items b.items) ks k) ≡ with_name (held ks) k.items
held_insert k ks = held_if k ks _ ∙ ap (λ b. if b then held ks else held ks ++ k.items ∷ []) (named_held k.items ks)
