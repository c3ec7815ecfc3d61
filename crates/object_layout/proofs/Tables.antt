use Rattle.std.proofs.Common.{◌≡◌, ℕ, ◌+◌, ◌-◌, ◌<◌, ◌≤◌, None, Some, List, [], ◌∷◌, ◌++◌, length, get_or, map, replicate, refl, ap, sym, ◌∙◌, ⊎_elim, arith, length-append}
use Rattle.std.proofs.lemmas.Bool.{cases_lt}
use Rattle.std.proofs.lemmas.Bool.Decides.{nat_tests}
use Rattle.std.proofs.lemmas.List.{get_or_append_left, get_or-append_right, get_or-append-add, get_or_past, get_or-replicate, length-map, length-replicate}
use Rattle.std.proofs.lemmas.Option.{slice_get-get_or, slice_get_past}
use Rattle.object_layout.specs.Areas.{table_address}
use Rattle.object_layout.specs.Classes.{ShapesView, lineage, Methods, fun_row, padded, table, table_word}

-- The words of a class's table.

-- a padded list has its length
pub length-padded : (n : ℕ) (xs : List ℕ) → length xs ≤ n → length (padded n xs) ≡ n
unfolding padded
length-padded n xs l = omega (arith, length-append xs (replicate (n - length xs) 0), length-replicate {A = ℕ} (n - length xs) 0)

-- a word of a padded list
pub get_or-padded : (n : ℕ) (xs : List ℕ) (k : ℕ) → length xs ≤ n → k < n → get_or (padded n xs) k 0 ≡ get_or xs k 0
unfolding padded
get_or-padded n xs k l h = ⊎_elim
    (λ (a : k < length xs). get_or_append_left xs (replicate (n - length xs) 0) 0 k a)
    (λ (a : length xs ≤ k).
    get_or-append_right xs (replicate (n - length xs) 0) (length xs) k 0 refl a
    ∙ get_or-replicate (n - length xs) (k - length xs) 0 0 (omega arith)
    ∙ sym (get_or_past xs k 0 a))
    (cases_lt k (length xs))

-- a word behind three others
pub get_or-behind_three : (x y z : ℕ) (xs : List ℕ) (k : ℕ) → get_or (x ∷ y ∷ z ∷ xs) (3 + k) 0 ≡ get_or xs k 0
get_or-behind_three x y z xs k = get_or-append-add (x ∷ y ∷ z ∷ []) xs k 0

-- a table has 64 words
pub length-table : (s : ShapesView) (c : ℕ) → length (lineage s c) ≤ 8 → length (Methods s c) ≤ 53 → length (table s c) ≡ 64
unfolding table
length-table s c l m =
    let display = map table_address (lineage s c) in
    let addresses = map (λ f. (fun_row s f).address) (Methods s c) in
    let e = length-append (padded 8 display) (padded 53 addresses) in
    let a = length-padded 8 display (omega (arith, length-map (lineage s c) table_address)) in
    let b = length-padded 53 addresses (omega (arith, length-map (Methods s c) (λ f. (fun_row s f).address))) in
    omega arith

-- the words from 3 on are the tables of the lineage
pub display-word : (s : ShapesView) (c k : ℕ) → length (lineage s c) ≤ 8 → k < 8 → get_or (table s c) (3 + k) 0 ≡ get_or (map table_address (lineage s c)) k 0
unfolding table
display-word s c k l h =
    let display = map table_address (lineage s c) in
    let addresses = map (λ f. (fun_row s f).address) (Methods s c) in
    let short : length display ≤ 8 = omega (arith, length-map (lineage s c) table_address) in
    get_or-behind_three _ _ _ (padded 8 display ++ padded 53 addresses) k
    ∙ get_or_append_left (padded 8 display) (padded 53 addresses) 0 k (omega (arith, length-padded 8 display short))
    ∙ get_or-padded 8 display k short h

-- the words from 11 on are the addresses of the methods
pub method-word : (s : ShapesView) (c m : ℕ) → length (lineage s c) ≤ 8 → length (Methods s c) ≤ 53 → m < 53
    → get_or (table s c) (11 + m) 0 ≡ get_or (map (λ f. (fun_row s f).address) (Methods s c)) m 0
unfolding table
method-word s c m l few h =
    let display = map table_address (lineage s c) in
    let addresses = map (λ f. (fun_row s f).address) (Methods s c) in
    let short : length display ≤ 8 = omega (arith, length-map (lineage s c) table_address) in
    let long = length-padded 8 display short in
    let place : 11 + m ≡ 3 + (8 + m) = omega arith in
    ap (λ k. get_or (table s c) k 0) place
    ∙ get_or-behind_three _ _ _ (padded 8 display ++ padded 53 addresses) (8 + m)
    ∙ get_or-append_right (padded 8 display) (padded 53 addresses) 8 (8 + m) 0 long (omega arith)
    ∙ ap (λ k. get_or (padded 53 addresses) k 0) (omega arith)
    ∙ get_or-padded 53 addresses m (omega (arith, length-map (Methods s c) (λ f. (fun_row s f).address))) h

-- a class's word, by its place in the table
pub table_word-at : (s : ShapesView) (c k x : ℕ) → c < length s.classes → length (lineage s c) ≤ 8 → length (Methods s c) ≤ 53 → k < 64
    → get_or (table s c) k 0 ≡ x → table_word s c k ≡ Some x
unfolding table_word
table_word-at s c k x there l m h e =
    let long = length-table s c l m in
    let inside : k < length (table s c) = omega arith in
    grind (arith, nat_tests, slice_get-get_or (table s c) k 0 inside)

-- past 64 words a table has none
pub table_word-past : (s : ShapesView) (c k : ℕ) → length (lineage s c) ≤ 8 → length (Methods s c) ≤ 53 → 64 ≤ k → table_word s c k ≡ None
unfolding table_word
table_word-past s c k l m h =
    let long = length-table s c l m in
    let outside : length (table s c) ≤ k = omega arith in
    grind (arith, nat_tests, slice_get_past (table s c) k outside)

-- no class, no table
pub table_word-no_class : (s : ShapesView) (c k : ℕ) → length s.classes ≤ c → table_word s c k ≡ None
unfolding table_word
table_word-no_class s c k l = grind (arith, nat_tests)
