-- What is kept of names, with one row more.
use Rattle.std.proofs.Common.{ℕ, ◌≡◌, Bool, true, false, not, ◌||◌, cond, List, [], ◌∷◌, ◌++◌, map, filter, find, take, length, slice_get, refl, sym, ap, ◌∙◌, Option, Some, true≢false, if◌then◌else◌, arith}
use Rattle.std.proofs.lemmas.Bool.{lt-ltb, le-ltb}
use Rattle.std.proofs.lemmas.List.{map-append, append-nil}
use Rattle.std.proofs.lemmas.List.Elements.{filter-append}
use Rattle.std.specs.List.{list_any, flat_map}
use Rattle.std.specs.Option.{option_map, option_to_list}
use Rattle.std.specs.Prelude.{is_none, nat_lt}
use Rattle.std.specs.Str.{bytes_eq}
use Rattle.image_linker.specs.declared.name_table.Owner.{Owner}
use Rattle.image_linker.specs.RowMentions.{RowMention, first_mentions, names_in, rows_of, owners_of, meant_rows, is_given_twice, is_missing, first_name}
use Rattle.image_linker.specs.NameRows.{NameRow, owner_places, owner_at, name_rows, owner_with, no_owner, owner_in, owner_put}
use Rattle.image_linker.proofs.Mentions.Firsts.{bytes_same, bytes_refl, bytes_sym, any_first_mentions, first_mentions_append, Distinct, distinct_first_mentions}

abbrev Mention : Type 0
Mention = RowMention ℕ

abbrev name_of : Mention → List ℕ
name_of r = r.name

abbrev row : (List ℕ → Owner) → List ℕ → NameRow
row f n = record { name = n; owner = f n }

-- what is kept of a name
owner_map : (f : List ℕ → Owner) (n : List ℕ) (names : List (List ℕ)) → owner_in (map (row f) names) n ≡ (if list_any (bytes_eq n) names then f n else no_owner)
owner_map f n [] = refl
owner_map f n (m ∷ names) = by (bytes_eq n m) refl (owner_map f n names)
  where
    by : (b : Bool) → bytes_eq n m ≡ b → owner_in (map (row f) names) n ≡ (if list_any (bytes_eq n) names then f n else no_owner)
        → (if b then f m else owner_in (map (row f) names) n) ≡ (if b || list_any (bytes_eq n) names then f n else no_owner)
    by true e later = ap f (sym (bytes_same n m e))
    by false e later = later

-- names without this one are not told of it
map_apart : (f g : List ℕ → Owner) (n : List ℕ) (names : List (List ℕ)) → ((m : List ℕ) → bytes_eq n m ≡ false → f m ≡ g m) → list_any (bytes_eq n) names ≡ false → map (row f) names ≡ map (row g) names
map_apart f g n [] same none = refl
map_apart f g n (m ∷ names) same none = by (bytes_eq n m) refl none (λ h. map_apart f g n names same h)
  where
    by : (b : Bool) → bytes_eq n m ≡ b → (b || list_any (bytes_eq n) names) ≡ false → (list_any (bytes_eq n) names ≡ false → map (row f) names ≡ map (row g) names) → map (row f) (m ∷ names) ≡ map (row g) (m ∷ names)
    by true e h later = absurd (true≢false h)
    by false e h later = rw (same m e, later h) refl

-- writing what is kept of one name
put_map : (f g : List ℕ → Owner) (n : List ℕ) (names : List (List ℕ)) → ((m : List ℕ) → bytes_eq n m ≡ false → f m ≡ g m) → Distinct names
    → owner_put (map (row f) names) n (g n) ≡ map (row g) (if list_any (bytes_eq n) names then names else names ++ n ∷ [])
put_map f g n [] same d = refl
put_map f g n (m ∷ names) same d = by (bytes_eq n m) refl (put_map f g n names same d.1)
  where
    inner : (c : Bool) → f m ≡ g m → row f m ∷ map (row g) (if c then names else names ++ n ∷ []) ≡ map (row g) (if c then m ∷ names else m ∷ names ++ n ∷ [])
    inner true e = rw e refl
    inner false e = rw e refl

    by : (b : Bool) → bytes_eq n m ≡ b → owner_put (map (row f) names) n (g n) ≡ map (row g) (if list_any (bytes_eq n) names then names else names ++ n ∷ [])
        → (if b then row (λ k. g n) m ∷ map (row f) names else row f m ∷ owner_put (map (row f) names) n (g n)) ≡ map (row g) (if b || list_any (bytes_eq n) names then m ∷ names else m ∷ names ++ n ∷ [])
    by true e later =
        let is : n ≡ m = bytes_same n m e in
        rw (ap g is, map_apart f g n names same (ap (λ k. list_any (bytes_eq k) names) is ∙ d.0)) refl
    by false e later = ap (λ l. row f m ∷ l) later ∙ inner (list_any (bytes_eq n) names) (same m e)

-- ---- owners

-- a row that is not extern is the first, or there is another one
owner_append : (places : List ℕ) (place : ℕ) → owner_at (places ++ place ∷ []) ≡ owner_with (owner_at places) false place
owner_append [] place = refl
owner_append (p ∷ []) place = refl
owner_append (p ∷ q ∷ places) place = ap (λ t. let o : Owner = record { first = Some p; twice = t } in o) (lt-ltb 1 (length ((p ∷ q ∷ places) ++ place ∷ [])) (omega arith))

places_append : (rows : List Mention) (r : Mention) (n : List ℕ)
    → owner_places (rows ++ r ∷ []) n ≡ owner_places rows n ++ owner_places (r ∷ []) n
places_append rows r n =
    ap (λ l. map (λ (x : Mention). x.row) (filter (λ (x : Mention). not x.ext) l)) (filter-append (λ (x : Mention). bytes_eq n x.name) rows (r ∷ []))
    ∙ ap (map (λ (x : Mention). x.row)) (filter-append (λ (x : Mention). not x.ext) (rows_of rows n) (rows_of (r ∷ []) n))
    ∙ map-append (λ (x : Mention). x.row) (owners_of rows n) (owners_of (r ∷ []) n)

-- a row of one name leaves the others
places_apart : (rows : List Mention) (r : Mention) (n : List ℕ) → bytes_eq r.name n ≡ false → owner_places (rows ++ r ∷ []) n ≡ owner_places rows n
places_apart rows r n apart = places_append rows r n ∙ rw (bytes_sym n r.name ∙ apart) (append-nil (owner_places rows n))

owner_own : (rows : List Mention) (r : Mention) → owner_at (owner_places (rows ++ r ∷ []) r.name) ≡ owner_with (owner_at (owner_places rows r.name)) r.ext r.row
owner_own rows r = ap owner_at (places_append rows r r.name) ∙ rw (bytes_refl r.name) (by r.ext)
  where
    by : (e : Bool) → owner_at (owner_places rows r.name ++ map (λ (x : Mention). x.row) (cond (not e) (r ∷ []) [])) ≡ owner_with (owner_at (owner_places rows r.name)) e r.row
    by true = ap owner_at (append-nil (owner_places rows r.name))
    by false = owner_append (owner_places rows r.name) r.row

-- nothing is kept of a name that no row has
none_placed : (rows : List Mention) (n : List ℕ) → list_any (bytes_eq n) (map name_of rows) ≡ false → owner_places rows n ≡ []
none_placed [] n none = refl
none_placed (r ∷ rows) n none = by (bytes_eq n r.name) refl none (λ h. none_placed rows n h)
  where
    by : (b : Bool) → bytes_eq n r.name ≡ b → (b || list_any (bytes_eq n) (map name_of rows)) ≡ false → (list_any (bytes_eq n) (map name_of rows) ≡ false → owner_places rows n ≡ []) → owner_places (r ∷ rows) n ≡ []
    by true e h later = absurd (true≢false h)
    by false e h later = rw e (later h)

abbrev owner_of : List Mention → List ℕ → Owner
owner_of rows n = owner_at (owner_places rows n)

owner_known : (rows : List Mention) (n : List ℕ) → owner_in (name_rows rows) n ≡ owner_of rows n
unfolding names_in
owner_known rows n =
    owner_map (owner_of rows) n (names_in rows) ∙ ap (λ b. if b then owner_of rows n else no_owner) (any_first_mentions n (map name_of rows))
    ∙ by (list_any (bytes_eq n) (map name_of rows)) refl
  where
    by : (b : Bool) → list_any (bytes_eq n) (map name_of rows) ≡ b → (if b then owner_of rows n else no_owner) ≡ owner_of rows n
    by true e = refl
    by false e = ap owner_at (sym (none_placed rows n e))

-- what is kept with one row more
pub rows_append : (rows : List Mention) (r : Mention) → owner_put (name_rows rows) r.name (owner_with (owner_in (name_rows rows) r.name) r.ext r.row) ≡ name_rows (rows ++ r ∷ [])
unfolding names_in
rows_append rows r =
    let names = map name_of rows in
    let f = owner_of rows in
    let g = owner_of (rows ++ r ∷ []) in
    ap (owner_put (name_rows rows) r.name) (ap (λ o. owner_with o r.ext r.row) (owner_known rows r.name) ∙ sym (owner_own rows r))
    ∙ put_map f g r.name (first_mentions names) (λ k apart. ap owner_at (sym (places_apart rows r k apart))) (distinct_first_mentions names)
    ∙ ap (λ b. map (row g) (if b then first_mentions names else first_mentions names ++ r.name ∷ [])) (any_first_mentions r.name names)
    ∙ ap (map (row g)) (sym (first_mentions_append names r.name) ∙ ap first_mentions (sym (map-append name_of rows (r ∷ []))))

rows_named : (f : List ℕ → Owner) (names : List (List ℕ)) → map (λ (r : NameRow). r.name) (map (row f) names) ≡ names
rows_named f [] = refl
rows_named f (n ∷ names) = ap (λ l. n ∷ l) (rows_named f names)

-- the names that are kept
pub kept_names : (rows : List Mention) → map (λ (r : NameRow). r.name) (name_rows rows) ≡ names_in rows
kept_names rows = rows_named (owner_of rows) (names_in rows)

-- ---- what the kept rows tell

abbrev pub found : (Owner → Bool) → List NameRow → Option (List ℕ)
found test kept = option_map (λ (r : NameRow). r.name) (find (λ (r : NameRow). test r.owner) kept)

find_map : (test : Owner → Bool) (wrong : List ℕ → Bool) (f : List ℕ → Owner) → ((n : List ℕ) → test (f n) ≡ wrong n) → (names : List (List ℕ)) → found test (map (row f) names) ≡ find wrong names
find_map test wrong f same [] = refl
find_map test wrong f same (n ∷ names) = by (test (f n)) refl (find_map test wrong f same names)
  where
    by : (b : Bool) → test (f n) ≡ b → found test (map (row f) names) ≡ find wrong names
        → option_map (λ (r : NameRow). r.name) (cond b (Some (row f n)) (find (λ (r : NameRow). test r.owner) (map (row f) names))) ≡ find wrong (n ∷ names)
    by true e later = rw (sym (same n) ∙ e) refl
    by false e later = rw (sym (same n) ∙ e) later

length_map : {A : Type 0} {B : Type 0} (f : A → B) (xs : List A) → length (map f xs) ≡ length xs
length_map f [] = refl
length_map f (x ∷ xs) = omega (arith, length_map f xs)

-- the first name that is given twice
pub found_twice : (rows : List Mention) → found (λ o. o.twice) (name_rows rows) ≡ first_name (is_given_twice rows) rows
unfolding is_given_twice
found_twice rows = find_map (λ o. o.twice) (is_given_twice rows) (owner_of rows) (λ n. ap (nat_lt 1) (length_map (λ (r : Mention). r.row) (owners_of rows n))) (names_in rows)

-- the first name that none gives
pub found_missing : (rows : List Mention) → found (λ o. is_none o.first) (name_rows rows) ≡ first_name (is_missing rows) rows
unfolding is_missing
found_missing rows = find_map (λ o. is_none o.first) (is_missing rows) (owner_of rows) (λ n. by (owners_of rows n)) (names_in rows)
  where
    by : (owners : List Mention) → is_none (slice_get (map (λ (r : Mention). r.row) owners) 0) ≡ nat_lt (length owners) 1
    by [] = refl
    by (o ∷ owners) = sym (le-ltb (length (o ∷ owners)) 1 (omega arith))

-- the places of the rows that names mean
abbrev pub places_in : List NameRow → List ℕ
places_in kept = flat_map (λ (r : NameRow). option_to_list r.owner.first) kept

pub meant_places : (rows : List Mention) → places_in (name_rows rows) ≡ meant_rows rows
unfolding meant_rows
meant_places rows = by (names_in rows)
  where
    first_one : (owners : List Mention) → option_to_list (slice_get (map (λ (r : Mention). r.row) owners) 0) ≡ map (λ (r : Mention). r.row) (take 1 owners)
    first_one [] = refl
    first_one (o ∷ owners) = refl

    by : (names : List (List ℕ)) → flat_map (λ (r : NameRow). option_to_list r.owner.first) (map (row (owner_of rows)) names) ≡ flat_map (λ n. map (λ (r : Mention). r.row) (take 1 (owners_of rows n))) names
    by [] = refl
    by (n ∷ names) = rw (first_one (owners_of rows n), by names) refl
