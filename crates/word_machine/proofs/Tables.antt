-- Where the words of class tables and descriptors stand.
use Rattle.std.proofs.Common.{◌≡◌, ◌+◌, ◌-◌, ◌*◌, ◌<◌, ◌≤◌, ℕ, suc, Bool, true, false, if◌then◌else◌, Option, Some, None, arith, refl, ◌∙◌, ap, List, [], length, map, replicate, slice_get, nat_lt}
use Rattle.std.specs.Option.{option_map, option_and_then, option_map_or}
use Rattle.std.proofs.lemmas.Bool.Decides.{nat_tests}
use Rattle.std.proofs.lemmas.List.{length-append, length-map, length-replicate}
use Rattle.std.proofs.lemmas.Option.{slice_get_within, slice_get-map}
use Rattle.object_layout.specs.declared.rows.ClassRow.{ClassRow}
use Rattle.object_layout.specs.declared.rows.KindRow.{KindRow}
use Rattle.object_layout.specs.Areas.{descriptors_start, statics_start, table_address, descriptor_address}
use Rattle.object_layout.specs.Classes.{ShapesView, lineage, Depth, Methods, fun_row, Element, descriptor, descriptor_word, padded, table, table_word}
use Rattle.object_layout.specs.Laws.{ClassLaws}
use Rattle.word_machine.proofs.Lists.{behind-read, front-read}

-- a padded list has its length
length-padded : (n : ℕ) (words : List ℕ) → length words ≤ n → length (padded n words) ≡ n
unfolding padded
length-padded n words few = let a = length-append words (replicate (n - length words) 0) in let b = length-replicate {A = ℕ} (n - length words) 0 in omega arith

module _ (s : ShapesView) (laws : ClassLaws s) (c : ℕ) (there : c < length s.classes) where
  -- the tables of the lineage take 8 words, and the methods 53
  length-display : length (padded 8 (map table_address (lineage s c))) ≡ 8
  unfolding Depth
  length-display = let shallow = laws.shallow c there in let count = length-map (lineage s c) table_address in length-padded 8 (map table_address (lineage s c)) (omega arith)

  length-methods : length (padded 53 (map (λ f. (fun_row s f).address) (Methods s c))) ≡ 53
  length-methods =
      let few = laws.few_methods c there in let count = length-map (Methods s c) (λ f. (fun_row s f).address) in
      length-padded 53 (map (λ f. (fun_row s f).address) (Methods s c)) (omega arith)

  -- a table has 64 words
  pub length-table : length (table s c) ≡ 64
  unfolding table
  length-table =
      let display = padded 8 (map table_address (lineage s c)) in
      let methods = padded 53 (map (λ f. (fun_row s f).address) (Methods s c)) in
      let both = length-append display methods in
      let first = length-display in
      let second = length-methods in
      omega arith

  -- the words from 11 on are the addresses of the methods
  method-read : (k f : ℕ) → slice_get (Methods s c) k ≡ Some f → slice_get (table s c) (11 + k) ≡ Some (fun_row s f).address
  unfolding table padded
  method-read k f h =
      let display = padded 8 (map table_address (lineage s c)) in
      let addresses = map (λ g. (fun_row s g).address) (Methods s c) in
      let methods = padded 53 addresses in
      let at : 11 + k ≡ suc (suc (suc (length display + k))) = let first = length-display in omega arith in
      let address : slice_get addresses k ≡ Some (fun_row s f).address = slice_get-map (λ g. (fun_row s g).address) (Methods s c) k ∙ ap (option_map (λ g. (fun_row s g).address)) h in
      rw at (behind-read display methods k ∙ front-read addresses _ k _ address)

-- a word of a table, of a class that is there
pub table-there : (s : ShapesView) (c k w : ℕ) → table_word s c k ≡ Some w → (c < length s.classes) × (slice_get (table s c) k ≡ Some w)
unfolding table_word
table-there s c k w h = go (nat_lt c (length s.classes)) refl h
  where
    go : (b : Bool) → nat_lt c (length s.classes) ≡ b → (if b then slice_get (table s c) k else None) ≡ Some w → (c < length s.classes) × (slice_get (table s c) k ≡ Some w)
    go true e f = (grind (arith, nat_tests), f)
    go false e f = absurd cc

-- it stands below the descriptors
pub table-below : (s : ShapesView) → ClassLaws s → (c k w : ℕ) → table_word s c k ≡ Some w → table_address c + 4 * k < descriptors_start
unfolding table_address
table-below s laws c k w h =
    let there = table-there s c k w h in
    let few = laws.few_classes in
    let within = slice_get_within (table s c) k w there.1 in
    let size = length-table s laws c there.0 in
    let class = there.0 in
    omega arith

-- a class that has methods is there
methods-there : (s : ShapesView) (c k f : ℕ) → slice_get (Methods s c) k ≡ Some f → c < length s.classes
unfolding Methods
methods-there s c k f h = go (slice_get s.classes c) refl h
  where
    go : (o : Option ClassRow) → slice_get s.classes c ≡ o → slice_get (option_map_or (λ (row : ClassRow). row.methods) o []) k ≡ Some f → c < length s.classes
    go None e h = absurd cc
    go (Some row) e h = slice_get_within s.classes c row e

-- the word of a method
pub method-word : (s : ShapesView) → ClassLaws s → (c k f : ℕ) → slice_get (Methods s c) k ≡ Some f → table_word s c (11 + k) ≡ Some (fun_row s f).address
unfolding table_word
method-word s laws c k f h =
    let there = methods-there s c k f h in
    let test : nat_lt c (length s.classes) ≡ true = grind (arith, nat_tests) in
    rw test (method-read s laws c there k f h)

-- a word of a descriptor, of a kind that is there
pub descriptor-there : (s : ShapesView) (d k w : ℕ) → descriptor_word s d k ≡ Some w → (d < length s.kinds) × (k < 4)
unfolding descriptor_word Element descriptor
descriptor-there s d k w h = go (slice_get s.kinds d) refl h
  where
    go : (o : Option KindRow) → slice_get s.kinds d ≡ o
        → option_and_then (λ t. slice_get (descriptor t) k) (option_map (λ (row : KindRow). row.element) o) ≡ Some w → (d < length s.kinds) × (k < 4)
    go None e h = absurd cc
    go (Some row) e h = (slice_get_within s.kinds d row e, slice_get_within (descriptor row.element) k w h)

-- it stands below the statics
pub descriptor-below : (s : ShapesView) → ClassLaws s → (d k w : ℕ) → descriptor_word s d k ≡ Some w → descriptor_address d + 4 * k < statics_start
unfolding descriptor_address
descriptor-below s laws d k w h = let there = descriptor-there s d k w h in let few = laws.few_kinds in omega arith
