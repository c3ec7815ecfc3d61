-- The heap, the stacks and the functions at which they begin: conditions 1, 2 and 15.
use Rattle.std.specs.Prelude.{◌==◌, nat_lt, nat_le, ◌||◌, not, slice_index_or}
use Rattle.std.specs.List.{flat_map, range_with_len}
use Rattle.std.specs.Option.{option_map_or, option_to_list}
use Rattle.std.proofs.Common.{◌≡◌, ℕ, zero, suc, ◌+◌, ◌<◌, ◌≤◌, Bool, true, false, List, ◌++◌, length, map, Option, Some, None, slice_get, inl, inr, refl, sym, ap, ◌∙◌, subst, arith}
use Rattle.std.proofs.lemmas.Bool.{ltb-true, lt-ltb, eqb-true, false≢true, or_cases, or_parts, not-false, cases_eq}
use Rattle.std.proofs.lemmas.Option.{slice_get_within}
use Rattle.file_fields.specs.Parts.{Each}
use Rattle.tal_image.specs.declared.parts.FunctionPart.{FunctionPart}
use Rattle.tal_types.specs.declared.signatures.Sig.{Sig}
use Rattle.tal_image.specs.Conditions.{where_given, heap_fits, stacks_fit, entry_fits, starts_stack}
use Rattle.tal_image.specs.Formed.{IsEntry}
use Rattle.unit_files.specs.Unit.{UnitParts}
use Rattle.unit_files.specs.Formed.{UnitFormed}
use Rattle.image_linker.specs.Linked.{given_numbers, stack_entry, linked_image, no_entry}
use Rattle.image_linker.proofs.Formed.Members.{In, in_read, from_filter, from_map, none_found}
use Rattle.image_linker.proofs.Formed.Clean.{Clean}
use Rattle.image_linker.proofs.Formed.Types.{upto}

-- the one number that units give is one of theirs, and fits
given_fits : (ok : ℕ → Bool) (number : UnitParts → ℕ) (units : List UnitParts) → ((u : UnitParts) → In u units → where_given true ok (number u) ≡ true) → length (given_numbers (map number units)) ≡ 1 → ok (slice_index_or (given_numbers (map number units)) 0 0) ≡ true
given_fits ok number units each one =
    let n = slice_index_or (given_numbers (map number units)) 0 0 in
    let there : In n (given_numbers (map number units)) = in_read (given_numbers (map number units)) 0 0 (omega (arith, one)) in
    let kept = from_filter (λ k. nat_lt 0 k) n (map number units) there in
    let u = from_map number n units kept.0 in
    let fits : (n == 0 || ok n) ≡ true = subst (λ k. where_given true ok k ≡ true) u.2 (each u.0 u.1) in
    elim (or_cases (n == 0) (ok n) fits) [ inl zero_is ↦ absurd (let z = eqb-true n 0 zero_is in let p = ltb-true 0 n kept.1 in omega (arith, z, p)) | inr is ↦ is ]

-- a number of a range is one of its elements
in_range : (a n s : ℕ) → a ≤ s → s < a + n → In s (range_with_len a n)
in_range a zero s low high = absurd (omega arith)
in_range a (suc n) s low high = elim (cases_eq a s) [ inl e ↦ inl e | inr other ↦ inr (in_range (a + 1) n s (omega (arith, other)) (omega arith)) ]

-- a list with one number for each stack
one_each : (Is : ℕ → Type 0) (entry : ℕ → Option ℕ) (a n : ℕ) → ((s : ℕ) → a ≤ s → s < a + n → (f : ℕ) × (entry s ≡ Some f) × Is f)
    → (length (flat_map (λ s. option_to_list (entry s)) (range_with_len a n)) ≡ n) × Each Is (flat_map (λ s. option_to_list (entry s)) (range_with_len a n))
one_each Is entry a zero h = (refl, tt)
one_each Is entry a (suc n) h =
    let first = h a (omega arith) (omega arith) in
    let later = one_each Is entry (a + 1) n (λ s low high. h s (omega arith) (omega arith)) in
    let rest = flat_map (λ s. option_to_list (entry s)) (range_with_len (a + 1) n) in
    (ap (λ o. length (option_to_list o ++ rest)) first.1 ∙ ap suc later.0, subst (λ o. Each Is (option_to_list o ++ rest)) (sym first.1) (first.2, later.1))

-- the function of an entry is there
entry_within : (sigs : List Sig) (functions : List FunctionPart) (f : ℕ) → entry_fits sigs functions f ≡ true → f < length functions
unfolding entry_fits
entry_within sigs functions f h = there (slice_get functions f) refl h
  where
    there : (o : Option FunctionPart) → slice_get functions f ≡ o → option_map_or (λ (row : FunctionPart). option_map_or starts_stack (slice_get sigs row.sig) false) o false ≡ true → f < length functions
    there None e k = absurd (false≢true k)
    there (Some row) e k = slice_get_within functions f row e

module _ (units : List UnitParts) (formed : (u : UnitParts) → In u units → UnitFormed u) (c : Clean units) where
  -- condition 1
  pub heap_formed : heap_fits (linked_image units).heap_words ≡ true
  unfolding linked_image
  heap_formed = given_fits heap_fits (λ (u : UnitParts). u.heap_words) units (λ u h. (formed u h).condition_1) c.heap_words

  -- condition 2
  pub stacks_formed : stacks_fit (linked_image units).stacks ≡ true
  unfolding linked_image
  stacks_formed = given_fits stacks_fit (λ (u : UnitParts). u.stacks) units (λ u h. (formed u h).condition_2) c.stacks

  -- each stack of the image has a fit entry
  fit_entry : (s : ℕ) → 0 ≤ s → s < 0 + (linked_image units).stacks → (f : ℕ) × (stack_entry units s ≡ Some f) × IsEntry (linked_image units).sigs (linked_image units).functions f
  fit_entry s low high =
      let most = upto 2 64 (linked_image units).stacks stacks_formed in
      let fits = none_found (no_entry units (linked_image units)) (range_with_len 0 64) c.entries s (in_range 0 64 s low (omega (arith, high, most))) in
      there (stack_entry units s) refl fits
    where
      there : (o : Option ℕ) → stack_entry units s ≡ o → option_map_or (λ f. nat_le (linked_image units).stacks s || not (entry_fits (linked_image units).sigs (linked_image units).functions f)) o (nat_lt s (linked_image units).stacks) ≡ false
          → (f : ℕ) × (stack_entry units s ≡ Some f) × IsEntry (linked_image units).sigs (linked_image units).functions f
      there None e k = absurd (false≢true (sym k ∙ lt-ltb s (linked_image units).stacks (omega arith)))
      there (Some f) e k =
          let fit = not-false (entry_fits (linked_image units).sigs (linked_image units).functions f) (or_parts (nat_le (linked_image units).stacks s) (not (entry_fits (linked_image units).sigs (linked_image units).functions f)) k).1 in
          let inside = entry_within (linked_image units).sigs (linked_image units).functions f fit in
          let few = upto 1 16384 (length (linked_image units).functions) c.few_functions in
          (f, e, record { word = omega (arith, inside, few); condition_15 = fit })

  -- condition 15
  pub entries_formed : (length (linked_image units).entries ≡ (linked_image units).stacks) × Each (IsEntry (linked_image units).sigs (linked_image units).functions) (linked_image units).entries
  unfolding linked_image
  entries_formed = one_each (IsEntry (linked_image units).sigs (linked_image units).functions) (stack_entry units) 0 (linked_image units).stacks fit_entry
