-- How far class tables, descriptors and stacks go: they end below the heap.
use Rattle.std.proofs.Common.{◌≡◌, ◌+◌, ◌-◌, ◌*◌, ◌<◌, ◌≤◌, ℕ, suc, Bool, true, false, if◌then◌else◌, ◌==◌, Option, Some, None, List, [], length, map, replicate, slice_get, nat_lt, arith, refl}
use Rattle.std.specs.Option.{option_map, option_and_then}
use Rattle.std.proofs.lemmas.Bool.Decides.{nat_tests}
use Rattle.std.proofs.lemmas.List.{length-append, length-map, length-replicate}
use Rattle.std.proofs.lemmas.Option.{slice_get_within}
use Rattle.object_layout.specs.declared.rows.KindRow.{KindRow}
use Rattle.object_layout.specs.Areas.{heap_start, table_address, descriptor_address}
use Rattle.object_layout.specs.Classes.{ShapesView, lineage, Depth, Methods, fun_row, Element, descriptor, descriptor_word, padded, table, table_word}
use Rattle.object_layout.specs.Laws.{ClassLaws}
use Rattle.tal_image.specs.Image.{ImageParts}
use Rattle.tal_image.specs.Formed.{Formed}

-- a padded list has its length
length-padded : (n : ℕ) (words : List ℕ) → length words ≤ n → length (padded n words) ≡ n
unfolding padded
length-padded n words few = let a = length-append words (replicate (n - length words) 0) in let b = length-replicate {A = ℕ} (n - length words) 0 in omega arith

-- a table has 64 words
length-table : (s : ShapesView) (laws : ClassLaws s) (c : ℕ) (there : c < length s.classes) → length (table s c) ≡ 64
unfolding table Depth
length-table s laws c there =
    let shallow = laws.shallow c there in
    let few = laws.few_methods c there in
    let lines = length-map (lineage s c) table_address in
    let names = length-map (Methods s c) (λ f. (fun_row s f).address) in
    let display = length-padded 8 (map table_address (lineage s c)) (omega arith) in
    let methods = length-padded 53 (map (λ f. (fun_row s f).address) (Methods s c)) (omega arith) in
    let both = length-append (padded 8 (map table_address (lineage s c))) (padded 53 (map (λ f. (fun_row s f).address) (Methods s c))) in
    omega arith

-- a class table lies below the heap
pub table-low : (s : ShapesView) → ClassLaws s → (c k w : ℕ) → table_word s c k ≡ Some w → table_address c + 4 * k < heap_start
unfolding table_word table_address
table-low s laws c k w h = go (nat_lt c (length s.classes)) refl h
  where
    here : c < length s.classes → slice_get (table s c) k ≡ Some w → 0x200000 + 256 * c + 4 * k < heap_start
    here there e = let few = laws.few_classes in let l = slice_get_within (table s c) k w e in let n = length-table s laws c there in omega arith

    go : (b : Bool) → nat_lt c (length s.classes) ≡ b → (if b then slice_get (table s c) k else None) ≡ Some w → 0x200000 + 256 * c + 4 * k < heap_start
    go true e f = here (grind (arith, nat_tests)) f
    go false e f = absurd cc

-- and so does a descriptor
pub descriptor-low : (s : ShapesView) → ClassLaws s → (d k w : ℕ) → descriptor_word s d k ≡ Some w → descriptor_address d + 4 * k < heap_start
unfolding descriptor_word Element descriptor descriptor_address
descriptor-low s laws d k w h = go (slice_get s.kinds d) refl h
  where
    go : (o : Option KindRow) → slice_get s.kinds d ≡ o → option_and_then (λ t. slice_get (descriptor t) k) (option_map (λ (row : KindRow). row.element) o) ≡ Some w → 0x280000 + 16 * d + 4 * k < heap_start
    go None e f = absurd cc
    go (Some row) e f = let few = laws.few_kinds in let l = slice_get_within s.kinds d row e in let m = slice_get_within (descriptor row.element) k w f in omega arith

-- there are 64 stacks at most
pub few-stacks : (image : ImageParts) → Formed image → image.stacks ≤ 64
few-stacks image formed = let h = formed.condition_2 in grind (arith, nat_tests)
