-- The words of marks: what a mark of a unit names is there in the image, and its word has 32 bits.
use Rattle.std.specs.Prelude.{sum}
use Rattle.std.specs.List.{sum_by}
use Rattle.std.specs.Option.{option_map}
use Rattle.std.proofs.Common.{◌≡◌, ℕ, zero, suc, ◌+◌, ◌*◌, ◌<◌, ◌≤◌, ◌^◌, Bool, true, cond, List, [], ◌∷◌, length, map, Some, None, slice_get, ◌⊎◌, inl, inr, refl, sym, ap, ◌∙◌, subst, arith}
use Rattle.std.proofs.lemmas.Bool.{cases_eq, ne_eqb, lt-ltb, leb-true}
use Rattle.std.proofs.lemmas.List.Sums.{sum-map, sum_by-cons}
use Rattle.std.proofs.lemmas.Option.{get_or_from_slice_get}
use Rattle.object_layout.specs.declared.rows.FunRow.{FunRow}
use Rattle.object_layout.specs.Areas.{code_start, statics_start, table_address, descriptor_address}
use Rattle.tal_image.specs.declared.parts.FunctionPart.{FunctionPart}
use Rattle.tal_image.specs.declared.parts.ArrayPart.{ArrayPart}
use Rattle.tal_image.specs.Conditions.{fun_rows, array_places, array_room, mark_word, most_words}
use Rattle.tal_image.specs.Formed.{IsWord, tables}
use Rattle.unit_files.specs.declared.parts.UnitMark.{UnitMark}
use Rattle.unit_files.specs.Unit.{UnitParts}
use Rattle.unit_files.specs.Conditions.{marked_rows}
use Rattle.unit_files.specs.Formed.{unit_tables}
use Rattle.image_linker.specs.LinkedRows.{table_names, linked_function, linked_array}
use Rattle.image_linker.specs.LinkedCode.{marked_index, marked_word}
use Rattle.image_linker.specs.Linked.{linked_image, linked_places}
use Rattle.image_linker.proofs.Formed.Members.{In}
use Rattle.image_linker.proofs.Formed.Rows.{there, map_get}
use Rattle.image_linker.proofs.Formed.Clean.{Clean}
use Rattle.image_linker.proofs.Formed.Tables.{sig_fits, class_fits, kind_fits, array_fits, function_fits}
use Rattle.image_linker.proofs.Formed.Types.{upto}

-- how many bytes functions have
unfoldable pub total : List FunctionPart → ℕ
total [] = 0
total (f ∷ fs) = f.length + total fs

-- each function has a row
length-rows : (a : ℕ) (fs : List FunctionPart) → length (fun_rows a fs) ≡ length fs
unfolding fun_rows
length-rows a [] = refl
length-rows a (f ∷ fs) = ap suc (length-rows (a + f.length) fs)

-- functions stand within their bytes
address_within : (a : ℕ) (fs : List FunctionPart) (k : ℕ) (r : FunRow) → slice_get (fun_rows a fs) k ≡ Some r → r.address ≤ a + total fs
unfolding fun_rows total
address_within a [] k r e = absurd cc
address_within a (f ∷ fs) zero r e = let is : record { sig = f.sig; address = a } ≡ r = cc in let at = ap (λ (x : FunRow). x.address) is in omega (arith, at)
address_within a (f ∷ fs) (suc k) r e = let later = address_within (a + f.length) fs k r e in omega (arith, later)

-- each data array has a place
length-places : (a : ℕ) (xs : List ArrayPart) → length (array_places a xs) ≡ length xs
unfolding array_places
length-places a [] = refl
length-places a (x ∷ xs) = ap suc (length-places (a + 4 * array_room x) xs)

-- data arrays stand within their words
place_within : (a : ℕ) (xs : List ArrayPart) (k p : ℕ) → slice_get (array_places a xs) k ≡ Some p → p ≤ a + 4 * sum_by (λ (x : ArrayPart). 2 + x.size) xs
unfolding array_places
place_within a [] k p e = absurd cc
place_within a (x ∷ xs) zero p e = let is : a ≡ p = cc in omega (arith, is)
place_within a (x ∷ xs) (suc k) p e = let later = place_within (a + 4 * array_room x) xs k p e in let more = sum_by-cons (λ (y : ArrayPart). 2 + y.size) x xs in omega (arith, later, more)

-- what a mark names is there, with its word
pub record Named (units : List UnitParts) (u : UnitParts) (m : UnitMark) : Type 0 where
  pub index_word : IsWord (marked_index (table_names units) u m)
  pub word_is : mark_word (tables (linked_image units)) (linked_image units).functions (length (linked_image units).statics) (linked_image units).arrays m.tag (marked_index (table_names units) u m)
      ≡ Some (marked_word (linked_places units) m.tag (marked_index (table_names units) u m))
  pub small : marked_word (linked_places units) m.tag (marked_index (table_names units) u m) < 2 ^ 32

module _ (units : List UnitParts) (c : Clean units) (short : total (linked_image units).functions ≤ 1048576) (u : UnitParts) (h : In u units) where
  -- a test that holds leaves the value
  some_if : {A : Type 0} (b : Bool) (x : A) → b ≡ true → cond b (Some x) None ≡ Some x
  some_if b x e = ap (λ (v : Bool). cond v (Some x) None) e

  -- what a mark of these rows names is there
  Fits : UnitMark → Type 0
  Fits m = m.index < marked_rows (unit_tables u) (length u.functions) (length u.arrays) m.tag → Named units u m

  -- null of a class, an array kind, a signature
  named_1 : (o i : ℕ) → Fits (record { offset = o; tag = 1; index = i })
  unfolding Fits marked_rows marked_index marked_word mark_word
  named_1 o i lt =
      let few = upto 0 1024 (length (linked_image units).classes) c.few_classes in
      let below = class_fits units c u i h lt in
      record { index_word = omega (arith, below, few); word_is = some_if _ 0 (lt-ltb _ _ below); small = omega arith }

  -- null of an array kind
  named_3 : (o i : ℕ) → Fits (record { offset = o; tag = 3; index = i })
  unfolding Fits marked_rows marked_index marked_word mark_word
  named_3 o i lt =
      let few = upto 0 256 (length (linked_image units).kinds) c.few_kinds in
      let below = kind_fits units c u i h lt in
      record { index_word = omega (arith, below, few); word_is = some_if _ 0 (lt-ltb _ _ below); small = omega arith }

  -- null of a signature
  named_5 : (o i : ℕ) → Fits (record { offset = o; tag = 5; index = i })
  unfolding Fits marked_rows marked_index marked_word mark_word
  named_5 o i lt =
      let few = upto 1 4096 (length (linked_image units).sigs) c.few_sigs in
      let below = sig_fits units c u i h lt in
      record { index_word = omega (arith, below, few); word_is = some_if _ 0 (lt-ltb _ _ below); small = omega arith }

  -- a function
  named_6 : (o i : ℕ) → Fits (record { offset = o; tag = 6; index = i })
  unfolding Fits marked_rows marked_index marked_word mark_word linked_image
  named_6 o i lt =
      let k = linked_function (table_names units) u i in
      let few = upto 1 16384 (length (linked_image units).functions) c.few_functions in
      let below = function_fits units c u i h lt in
      let r = there (fun_rows code_start (linked_image units).functions) k (omega (arith, below, length-rows code_start (linked_image units).functions)) in
      let inside = address_within code_start (linked_image units).functions k r.0 r.1 in
      let at = get_or_from_slice_get (map (λ (row : FunRow). row.address) (fun_rows code_start (linked_image units).functions)) k r.0.address 0 (map_get (λ (row : FunRow). row.address) (fun_rows code_start (linked_image units).functions) k r.0 r.1) in
      record {
        index_word = omega (arith, below, few);
        word_is = ap (option_map (λ (row : FunRow). row.address)) r.1 ∙ ap Some (sym at);
        small = omega (arith, inside, short, at);
      }

  -- a class's table, an array kind's descriptor
  named_7 : (o i : ℕ) → Fits (record { offset = o; tag = 7; index = i })
  unfolding Fits marked_rows marked_index marked_word mark_word table_address
  named_7 o i lt =
      let few = upto 0 1024 (length (linked_image units).classes) c.few_classes in
      let below = class_fits units c u i h lt in
      record { index_word = omega (arith, below, few); word_is = some_if _ _ (lt-ltb _ _ below); small = omega (arith, below, few) }

  -- the descriptor of an array kind
  named_8 : (o i : ℕ) → Fits (record { offset = o; tag = 8; index = i })
  unfolding Fits marked_rows marked_index marked_word mark_word descriptor_address
  named_8 o i lt =
      let few = upto 0 256 (length (linked_image units).kinds) c.few_kinds in
      let below = kind_fits units c u i h lt in
      record { index_word = omega (arith, below, few); word_is = some_if _ _ (lt-ltb _ _ below); small = omega (arith, below, few) }

  -- a data array
  named_10 : (o i : ℕ) → Fits (record { offset = o; tag = 10; index = i })
  unfolding Fits marked_rows marked_index marked_word mark_word linked_image
  named_10 o i lt =
      let k = linked_array (table_names units) u i in
      let few = upto 0 65536 (length (linked_image units).arrays) c.few_arrays in
      let below = array_fits units c u i h lt in
      let places = array_places (statics_start + 4 * length (linked_image units).statics) (linked_image units).arrays in
      let p = there places k (omega (arith, below, length-places (statics_start + 4 * length (linked_image units).statics) (linked_image units).arrays)) in
      let inside = place_within (statics_start + 4 * length (linked_image units).statics) (linked_image units).arrays k p.0 p.1 in
      let words = leb-true (length (linked_image units).statics + sum (map (λ (a : ArrayPart). 2 + a.size) (linked_image units).arrays)) most_words c.few_words in
      let at = get_or_from_slice_get places k p.0 0 p.1 in
      record {
        index_word = omega (arith, below, few);
        word_is = p.1 ∙ ap Some (sym at);
        small = omega (arith, inside, words, at, sum-map (λ (a : ArrayPart). 2 + a.size) (linked_image units).arrays);
      }

  -- no other tag names anything
  no_rows : (tag : ℕ) → (tag ≡ 1 → ⊥) → (tag ≡ 3 → ⊥) → (tag ≡ 5 → ⊥) → (tag ≡ 6 → ⊥) → (tag ≡ 7 → ⊥) → (tag ≡ 8 → ⊥) → (tag ≡ 10 → ⊥) → marked_rows (unit_tables u) (length u.functions) (length u.arrays) tag ≡ 0
  unfolding marked_rows
  no_rows tag a b c₁ d e f g = rw (ne_eqb tag 1 a, ne_eqb tag 3 b, ne_eqb tag 5 c₁, ne_eqb tag 6 d, ne_eqb tag 7 e, ne_eqb tag 8 f, ne_eqb tag 10 g) refl

  -- what a mark of a unit names is there in the image
  pub named : (m : UnitMark) → m.index < marked_rows (unit_tables u) (length u.functions) (length u.arrays) m.tag → Named units u m
  unfolding Fits
  named m lt = by (cases_eq m.tag 1) (cases_eq m.tag 3) (cases_eq m.tag 5) (cases_eq m.tag 6) (cases_eq m.tag 7) (cases_eq m.tag 8) (cases_eq m.tag 10)
    where
      at : (k : ℕ) → Fits (record { offset = m.offset; tag = k; index = m.index }) → m.tag ≡ k → Named units u m
      at k fits e = subst (λ n. Fits (record { offset = m.offset; tag = n; index = m.index })) (sym e) fits lt

      by : (m.tag ≡ 1) ⊎ (m.tag ≡ 1 → ⊥) → (m.tag ≡ 3) ⊎ (m.tag ≡ 3 → ⊥) → (m.tag ≡ 5) ⊎ (m.tag ≡ 5 → ⊥) → (m.tag ≡ 6) ⊎ (m.tag ≡ 6 → ⊥) → (m.tag ≡ 7) ⊎ (m.tag ≡ 7 → ⊥) → (m.tag ≡ 8) ⊎ (m.tag ≡ 8 → ⊥) → (m.tag ≡ 10) ⊎ (m.tag ≡ 10 → ⊥) → Named units u m
      by (inl e) _ _ _ _ _ _ = at 1 (named_1 m.offset m.index) e
      by (inr a) (inl e) _ _ _ _ _ = at 3 (named_3 m.offset m.index) e
      by (inr a) (inr b) (inl e) _ _ _ _ = at 5 (named_5 m.offset m.index) e
      by (inr a) (inr b) (inr d) (inl e) _ _ _ = at 6 (named_6 m.offset m.index) e
      by (inr a) (inr b) (inr d) (inr f) (inl e) _ _ = at 7 (named_7 m.offset m.index) e
      by (inr a) (inr b) (inr d) (inr f) (inr g) (inl e) _ = at 8 (named_8 m.offset m.index) e
      by (inr a) (inr b) (inr d) (inr f) (inr g) (inr i) (inl e) = at 10 (named_10 m.offset m.index) e
      by (inr a) (inr b) (inr d) (inr f) (inr g) (inr i) (inr j) = let none = no_rows m.tag a b d f g i j in absurd (omega (arith, lt, none))
