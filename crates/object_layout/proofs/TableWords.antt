use Rattle.std.proofs.Common.{◌≡◌, ℕ, suc, ◌+◌, ◌-◌, ◌<◌, ◌≤◌, nat_le, None, Some, length, get_or, map, slice_index, refl, ap, sym, ◌∙◌, ⊎_elim, arith, if◌then◌else◌}
use Rattle.std.proofs.lemmas.Bool.{cases_lt}
use Rattle.std.proofs.lemmas.Bool.Decides.{nat_tests}
use Rattle.std.proofs.lemmas.List.{get_or-map, get_or_past, length-map}
use Rattle.std.proofs.lemmas.Option.{slice_get_within}
use Rattle.object_layout.specs.declared.laying.LaidClass.{LaidClass}
use Rattle.object_layout.specs.Areas.{table_address}
use Rattle.object_layout.specs.Classes.{ShapesView, lineage, Methods, fun_row, table, table_word}
use Rattle.object_layout.specs.Faults.{first_fault}
use Rattle.object_layout.specs.Layout.{IsLaid}
use Rattle.object_layout.proofs.Sound.{classes_sound}
use Rattle.object_layout.proofs.Tables.{table_word-at, table_word-past, display-word, method-word}
use Rattle.object_layout.proofs.LookUps.{lineage-laid, depth-laid, ancestor_laid}

-- The words of a class's table, by what is kept beside its row.

-- a word of the table, by its place
word-kept : (s : ShapesView) (c k x : ℕ) (laid : LaidClass) → first_fault s ≡ None → IsLaid s c laid → k < 64 → get_or (table s c) k 0 ≡ x → Some x ≡ table_word s c k
word-kept s c k x laid sound h l e =
    let there = slice_get_within _ _ _ h.row in
    sym (table_word-at s c k x there (omega (arith, lineage-laid s c laid h, h.shallow)) (classes_sound s sound c there).few_methods l e)

-- word 0 is the size of an object
pub size-word : (s : ShapesView) (c : ℕ) (laid : LaidClass) → first_fault s ≡ None → IsLaid s c laid → Some (1 + length laid.fields) ≡ table_word s c 0
unfolding table
size-word s c laid sound h = word-kept s c 0 _ laid sound h (omega arith) (ap (λ xs. 1 + length xs) h.whole)

-- word 1 is the depth
pub depth-word : (s : ShapesView) (c : ℕ) (laid : LaidClass) → first_fault s ≡ None → IsLaid s c laid → Some laid.depth ≡ table_word s c 1
unfolding table
depth-word s c laid sound h = word-kept s c 1 _ laid sound h (omega arith) (depth-laid s c laid h)

-- word 2 is 0
pub zero-word : (s : ShapesView) (c : ℕ) (laid : LaidClass) → first_fault s ≡ None → IsLaid s c laid → Some 0 ≡ table_word s c 2
unfolding table
zero-word s c laid sound h = word-kept s c 2 _ laid sound h (omega arith) refl

-- an ancestor's table, or 0 past the class itself
display-kept : (s : ShapesView) (c k : ℕ) (laid : LaidClass) → IsLaid s c laid → k < 8
    → get_or (map table_address (lineage s c)) k 0 ≡ (if nat_le k laid.depth then table_address (slice_index laid.lineage k) else 0)
display-kept s c k laid h l =
    let long = lineage-laid s c laid h in
    ⊎_elim
    (λ (inside : k < suc laid.depth).
    let e = get_or-map table_address (lineage s c) k 0 0 (omega arith) ∙ ap table_address (ancestor_laid s c laid h k (omega arith)) in
    grind (arith, nat_tests))
    (λ (past : suc laid.depth ≤ k).
    let e = get_or_past (map table_address (lineage s c)) k 0 (omega (arith, length-map (lineage s c) table_address)) in
    grind (arith, nat_tests))
    (cases_lt k (suc laid.depth))

-- the words 3 to 10 are the display
pub level_word : (s : ShapesView) (c word : ℕ) (laid : LaidClass) → first_fault s ≡ None → IsLaid s c laid → 3 ≤ word → word < 11
    → Some (if nat_le (word - 3) laid.depth then table_address (slice_index laid.lineage (word - 3)) else 0) ≡ table_word s c word
level_word s c word laid sound h l m =
    let place : 3 + (word - 3) ≡ word = omega arith in
    word-kept s c (3 + (word - 3)) _ laid sound h (omega arith)
    (display-word s c (word - 3) (omega (arith, lineage-laid s c laid h, h.shallow)) (omega arith) ∙ display-kept s c (word - 3) laid h (omega arith))
    ∙ ap (table_word s c) place

-- the words from 11 on are the methods
pub slot_word : (s : ShapesView) (c word : ℕ) (laid : LaidClass) → first_fault s ≡ None → IsLaid s c laid → 11 ≤ word → word < 64
    → Some (slice_index (map (λ f. (fun_row s f).address) (Methods s c)) (word - 11)) ≡ table_word s c word
slot_word s c word laid sound h l m =
    let place : 11 + (word - 11) ≡ word = omega arith in
    let few = (classes_sound s sound c (slice_get_within _ _ _ h.row)).few_methods in
    word-kept s c (11 + (word - 11)) _ laid sound h (omega arith)
    (method-word s c (word - 11) (omega (arith, lineage-laid s c laid h, h.shallow)) few (omega arith))
    ∙ ap (table_word s c) place

-- a table has 64 words
pub no_word : (s : ShapesView) (c word : ℕ) (laid : LaidClass) → first_fault s ≡ None → IsLaid s c laid → 64 ≤ word → None ≡ table_word s c word
no_word s c word laid sound h l =
    let few = (classes_sound s sound c (slice_get_within _ _ _ h.row)).few_methods in
    sym (table_word-past s c word (omega (arith, lineage-laid s c laid h, h.shallow)) few l)
