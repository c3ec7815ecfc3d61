-- The index of rising numbers, and the functions that have the bytes of the code.
use Rattle.std.proofs.Common.{ℕ, suc, ◌≡◌, ◌≢◌, ◌<◌, ◌≤◌, ◌+◌, ◌-◌, ◌⊎◌, inl, inr, true, false, nat_eq, nat_le, nat_lt, ◌==◌, ◌&&◌, List, [], ◌∷◌, ◌++◌, length, map, replicate, take, drop, get_or, Option, MatchOption, Some, None, slice_get, if◌then◌else◌, refl, sym, ap, subst, ◌∙◌, All, append_assoc, arith}
use Rattle.std.specs.Option.{option_and_then}
use Rattle.std.specs.List.{sum_by}
use Rattle.std.proofs.lemmas.Bool.{cases_lt, cases_eq}
use Rattle.std.proofs.lemmas.Bool.Decides.{nat_tests}
use Rattle.std.proofs.lemmas.List.{append-nil, take_all, drop_more, drop_all, length-append, length-replicate, get_or_append_left, get_or-append_right, get_or-replicate, get_or_past}
use Rattle.std.proofs.lemmas.List.Sums.{sum_by-cons}
use Rattle.std.proofs.Math.Seq.{get_or-append_seam}
use Rattle.std.proofs.lemmas.Grind.{get_or_default_zero}
use Rattle.tal_types.specs.declared.views.Span.{Span}
use Rattle.object_layout.specs.Areas.{code_start}
use Rattle.tal_image.specs.declared.image.Image.TheInside.{Inside}
use Rattle.tal_image.specs.declared.parts.FunctionPart.{FunctionPart}
use Rattle.tal_image.specs.Kept.{KeepsImage, IsAtKey, IsIndex, kept_place, owners}
use Rattle.tal_image.specs.Shown.{spans, span_of, begun_by}
use Rattle.tal_image.proofs.Finding.KeyedRows.{at-map}
use Rattle.tal_image.proofs.Finding.Spans.{starts_after, ends_within, length-spans, span_of-missing}

-- what an index of the first i numbers has for a number
abbrev Known : List ℕ → ℕ → ℕ → Option ℕ → Type 0
Known xs i n at = MatchOption at ((j : ℕ) → j < i → get_or xs j 0 ≢ n) (λ j. (j < i) × (get_or xs j 0 ≡ n))

abbrev pub Knows : List ℕ → ℕ → List ℕ → Type 0
Knows xs i places = (n : ℕ) → Known xs i n (kept_place places n)

-- one number more changes nothing elsewhere
known_other : (xs : List ℕ) (i n : ℕ) (at : Option ℕ) → get_or xs i 0 ≢ n → Known xs i n at → Known xs (i + 1) n at
known_other xs i n None other missing = λ j before is. by_side j before is (cases_lt j i)
  where
    by_side : (j : ℕ) → j < i + 1 → get_or xs j 0 ≡ n → (j < i) ⊎ (i ≤ j) → ⊥
    by_side j before is (inl early) = missing j early is
    by_side j before is (inr late) = let last : j ≡ i = omega arith in other (subst (λ k. get_or xs k 0 ≡ n) last is)
known_other xs i n (Some j) other found = (omega (arith, found.0), found.1)

-- a place in an index is told by what stands there
kept_place-is : (places others : List ℕ) (n : ℕ) → get_or others n 0 ≡ get_or places n 0 → kept_place others n ≡ kept_place places n
unfolding kept_place
kept_place-is places others n same = rw same refl

module _ (xs places filled : List ℕ) (i : ℕ) (long : length filled ≡ get_or xs i 0) (short : length places ≤ get_or xs i 0) (old : (n : ℕ) → n < length places → get_or filled n 0 ≡ get_or places n 0) (new : (n : ℕ) → length places ≤ n → n < get_or xs i 0 → get_or filled n 0 ≡ 0) where
  -- an index that was filled up to the next number, and has its place behind, is as before elsewhere
  elsewhere : (n : ℕ) → (n < get_or xs i 0) ⊎ (get_or xs i 0 ≤ n) → get_or xs i 0 ≢ n → get_or (filled ++ (i + 1) ∷ []) n 0 ≡ get_or places n 0
  elsewhere n (inl before) other = get_or_append_left filled ((i + 1) ∷ []) 0 n (omega (arith, long)) ∙ inside (cases_lt n (length places))
    where
      inside : (n < length places) ⊎ (length places ≤ n) → get_or filled n 0 ≡ get_or places n 0
      inside (inl there) = old n there
      inside (inr past) = new n past before ∙ sym (get_or_past places n 0 past)
  elsewhere n (inr behind) other =
      let many = length-append filled ((i + 1) ∷ []) in
      get_or_past (filled ++ (i + 1) ∷ []) n 0 (omega (arith, many, long, other)) ∙ sym (get_or_past places n 0 (omega arith))

  -- and it has the place of the number
  here : kept_place (filled ++ (i + 1) ∷ []) (get_or xs i 0) ≡ Some i
  unfolding kept_place
  here =
      let is : get_or (filled ++ (i + 1) ∷ []) (get_or xs i 0) 0 ≡ i + 1 = subst (λ k. get_or (filled ++ (i + 1) ∷ []) k 0 ≡ i + 1) long (get_or-append_seam filled (i + 1) [] 0) in
      let some : nat_lt 0 (i + 1) ≡ true = grind (arith, nat_tests) in
      let place : i + 1 - 1 ≡ i = omega arith in
      rw (is, some) (ap Some place)

  -- so it is an index of one number more
  pub known_more : Knows xs i places → Knows xs (i + 1) (filled ++ (i + 1) ∷ [])
  known_more known n = by_case (cases_eq (get_or xs i 0) n)
    where
      by_case : (get_or xs i 0 ≡ n) ⊎ (get_or xs i 0 ≢ n) → Known xs (i + 1) n (kept_place (filled ++ (i + 1) ∷ []) n)
      by_case (inl is) = subst (λ k. Known xs (i + 1) k (kept_place (filled ++ (i + 1) ∷ []) k)) is (rw here (omega arith, refl))
      by_case (inr other) = rw (kept_place-is places (filled ++ (i + 1) ∷ []) n (elsewhere n (cases_lt n (get_or xs i 0)) other)) (known_other xs i n (kept_place places n) other (known n))

-- an index of no numbers
pub known_none : (xs : List ℕ) → Knows xs 0 []
unfolding kept_place
known_none xs n = λ j before. absurd (omega arith)

-- an index of all numbers has the place of each
pub known_all : (xs places : List ℕ) → Knows xs (length xs) places → IsIndex (λ (n : ℕ). n) xs places
known_all xs places known = λ n. all n (kept_place places n) (known n)
  where
    all : (n : ℕ) (at : Option ℕ) → Known xs (length xs) n at → IsAtKey (λ (n : ℕ). n) xs n at
    all n None missing = λ i d within is. missing i within (sym (get_or_default_zero xs i d within) ∙ is)
    all n (Some i) found = (found.0, λ d. get_or_default_zero xs i d found.0 ∙ found.1)

-- an index of keys is one of the rows that have them
pub index-map : {A : Type 0} (key : A → ℕ) (xs : List A) (keys places : List ℕ) → keys ≡ map key xs → IsIndex (λ (n : ℕ). n) keys places → IsIndex key xs places
index-map key xs keys places are index n = at-map key xs n (kept_place places n) (subst (λ l. IsAtKey (λ (m : ℕ). m) l n (kept_place places n)) are (index n))

-- what is found in an index stands where the number is the key
pub index-at : {A : Type 0} (key : A → ℕ) (xs : List A) (places : List ℕ) (n : ℕ) (at : Option ℕ) → IsIndex key xs places → at ≡ kept_place places n → IsAtKey key xs n at
index-at key xs places n at index is = subst (IsAtKey key xs n) (sym is) (index n)

-- the owners of the bytes so far and of those still to come, one function on
pub owners_more : (done all : List ℕ) (next i before behind : ℕ) (fs : List FunctionPart) (d : FunctionPart) → i < length fs → before ≡ length done → behind ≡ length done → done ++ owners next (drop i fs) ≡ all → (take (before + (get_or fs i d).length) done ++ replicate (before + (get_or fs i d).length - behind) next) ++ owners (next + 1) (drop (i + 1) fs) ≡ all
unfolding owners
owners_more done all next i before behind fs d within is also rest =
    let f = get_or fs i d in
    let many : before + f.length - behind ≡ f.length = omega arith in
    ap (λ l. (l ++ replicate (before + f.length - behind) next) ++ owners (next + 1) (drop (i + 1) fs)) (take_all (before + f.length) done (omega arith))
    ∙ ap (λ n. (done ++ replicate n next) ++ owners (next + 1) (drop (i + 1) fs)) many
    ∙ append_assoc done (replicate f.length next) (owners (next + 1) (drop (i + 1) fs))
    ∙ ap (λ l. done ++ l) (sym (ap (owners next) (drop_more fs i d within)))
    ∙ rest

-- and at the end
pub owners_done : (done all : List ℕ) (next i : ℕ) (fs : List FunctionPart) → length fs ≤ i → done ++ owners next (drop i fs) ≡ all → done ≡ all
unfolding owners
owners_done done all next i fs past before = sym (append-nil done) ∙ ap (λ l. done ++ l) (sym (ap (owners next) (drop_all i fs past))) ∙ before

-- bytes have as many owners as there are of them
length-owners : (k : ℕ) (fs : List FunctionPart) → length (owners k fs) ≡ sum_by (λ (f : FunctionPart). f.length) fs
unfolding owners
length-owners k [] = omega arith
length-owners k (f ∷ fs) =
    let whole = sum_by-cons (λ (f : FunctionPart). f.length) f fs in
    let rest = length-owners (k + 1) fs in
    let both = length-append (replicate f.length k) (owners (k + 1) fs) in
    let here = length-replicate f.length k in
    omega arith

-- the owner of a byte is the function that has it
pub owned : (a k : ℕ) (fs : List FunctionPart) (o n : ℕ) → o < length (owners k fs) → n ≡ get_or (owners k fs) o n → (k ≤ n) × (n < k + length fs) × (span_of (a + o) (spans a fs) ≡ slice_get (spans a fs) (n - k))
unfolding owners spans span_of
owned a k [] o n within is = absurd (omega arith)
owned a k (f ∷ fs) o n within is = by_side (λ w e. owned (a + f.length) (k + 1) fs (o - f.length) n w e) (cases_lt o f.length)
  where
    Later : Type 0
    Later = o - f.length < length (owners (k + 1) fs) → n ≡ get_or (owners (k + 1) fs) (o - f.length) n → (k + 1 ≤ n) × (n < k + 1 + length fs) × (span_of (a + f.length + (o - f.length)) (spans (a + f.length) fs) ≡ slice_get (spans (a + f.length) fs) (n - (k + 1)))

    front : length (replicate f.length k) ≡ f.length
    front = length-replicate f.length k

    by_side : Later → (o < f.length) ⊎ (f.length ≤ o) → (k ≤ n) × (n < k + length (f ∷ fs)) × (span_of (a + o) (spans a (f ∷ fs)) ≡ slice_get (spans a (f ∷ fs)) (n - k))
    by_side rest (inl inside) =
        let owner : n ≡ k = is ∙ get_or_append_left (replicate f.length k) (owners (k + 1) fs) n o (omega (arith, front)) ∙ get_or-replicate f.length o k n inside in
        let from : nat_le a (a + o) ≡ true = grind (arith, nat_tests) in
        let to : nat_lt (a + o) (a + f.length) ≡ true = grind (arith, nat_tests) in
        let first : n - k ≡ 0 = omega arith in
        (omega arith, omega arith, rw (from, to, first) refl)
    by_side rest (inr past) =
        let many = length-append (replicate f.length k) (owners (k + 1) fs) in
        let later : n ≡ get_or (owners (k + 1) fs) (o - f.length) n = is ∙ get_or-append_right (replicate f.length k) (owners (k + 1) fs) f.length o n front past in
        let (low, high, has) = rest (omega (arith, many, front)) later in
        let miss : (nat_le a (a + o) && nat_lt (a + o) (a + f.length)) ≡ false = grind (arith, nat_tests) in
        let place : a + f.length + (o - f.length) ≡ a + o = omega arith in
        let next : n - k ≡ suc (n - (k + 1)) = omega arith in
        (omega arith, omega arith, rw (miss, next) (subst (λ pc. span_of pc (spans (a + f.length) fs) ≡ slice_get (spans (a + f.length) fs) (n - (k + 1))) place has))

-- a byte that has no owner is in no function
pub unowned : (a k : ℕ) (fs : List FunctionPart) (o : ℕ) → length (owners k fs) ≤ o → span_of (a + o) (spans a fs) ≡ None
unowned a k fs o past = span_of-missing (a + o) (spans a fs) (λ j d within.
    let many = length-owners k fs in
    let ends = ends_within a fs j d (rw length-spans at within) in
    inr (omega arith))

-- nor is one before the first
pub unowned-before : (a : ℕ) (fs : List FunctionPart) (pc : ℕ) → pc < a → span_of pc (spans a fs) ≡ None
unowned-before a fs pc before = span_of-missing pc (spans a fs) (λ j d within.
    let start = starts_after a fs j d (rw length-spans at within) in
    inl (omega arith))

-- no function begins before the first
begun_by-before : (a : ℕ) (fs : List FunctionPart) (address : ℕ) → address < a → begun_by address (spans a fs) ≡ None
unfolding spans begun_by
begun_by-before a [] address before = refl
begun_by-before a (f ∷ fs) address before =
    let miss : nat_eq a address ≡ false = grind (arith, nat_tests) in
    rw miss (begun_by-before (a + f.length) fs address (omega arith))

-- the signature of a span that starts at an address
abbrev pub begun : ℕ → Span → Option ℕ
begun address s = if s.start == address then Some s.sig else None

-- the function that begins at an address is the one that has its byte, if that begins there
pub begun_by-owner : (a : ℕ) (fs : List FunctionPart) (address : ℕ) → All (λ f. 0 < f.length) fs → begun_by address (spans a fs) ≡ option_and_then (begun address) (span_of address (spans a fs))
unfolding spans begun_by span_of
begun_by-owner a [] address some = refl
begun_by-owner a (f ∷ fs) address some = by_case (begun_by-owner (a + f.length) fs address (λ k d within. some (suc k) d (omega arith))) (cases_eq a address) (cases_lt address (a + f.length))
  where
    Later : Type 0
    Later = begun_by address (spans (a + f.length) fs) ≡ option_and_then (begun address) (span_of address (spans (a + f.length) fs))

    by_case : Later → (a ≡ address) ⊎ (a ≢ address) → (address < a + f.length) ⊎ (a + f.length ≤ address) → begun_by address (spans a (f ∷ fs)) ≡ option_and_then (begun address) (span_of address (spans a (f ∷ fs)))
    by_case rest (inl here) side =
        let bytes : 0 < f.length = some 0 f (omega arith) in
        let hit : nat_eq a address ≡ true = grind (arith, nat_tests) in
        let from : nat_le a address ≡ true = grind (arith, nat_tests) in
        let to : nat_lt address (a + f.length) ≡ true = grind (arith, nat_tests) in
        rw (hit, from, to, hit) refl
    by_case rest (inr other) (inl early) =
        let miss : nat_eq a address ≡ false = grind (arith, nat_tests) in
        rw (miss, begun_by-before (a + f.length) fs address early) (none (cases_lt address a))
      where
        none : (address < a) ⊎ (a ≤ address) → None ≡ option_and_then (begun address) (span_of address (spans a (f ∷ fs)))
        none (inl before) = rw (unowned-before a (f ∷ fs) address before) refl
        none (inr behind) =
            let miss : nat_eq a address ≡ false = grind (arith, nat_tests) in
            let from : nat_le a address ≡ true = grind (arith, nat_tests) in
            let to : nat_lt address (a + f.length) ≡ true = grind (arith, nat_tests) in
            rw (from, to, miss) refl
    by_case rest (inr other) (inr late) =
        let miss : nat_eq a address ≡ false = grind (arith, nat_tests) in
        let out : (nat_le a address && nat_lt address (a + f.length)) ≡ false = grind (arith, nat_tests) in
        rw (miss, out) rest

module _ (a : Inside) (k : KeepsImage a) (pc o : ℕ) (place : pc ≡ code_start + o) where
  -- what an image keeps of a byte's owner is the function that has it
  pub owner_there : (n : ℕ) → o < length a.owners.items → n ≡ get_or a.owners.items o n → (n < length a.rows.functions.items) × (span_of pc (spans code_start a.rows.functions.items) ≡ slice_get (spans code_start a.rows.functions.items) n)
  owner_there n within is =
      let fs = a.rows.functions.items in
      let has = owned code_start 0 fs o n (rw (← k.owners) within) (subst (λ l. n ≡ get_or l o n) k.owners is) in
      let first : n - 0 ≡ n = omega arith in
      (omega (arith, has.1), rw place (subst (λ i. span_of (code_start + o) (spans code_start fs) ≡ slice_get (spans code_start fs) i) first has.2))

  -- where it keeps none there is none
  pub owner_nowhere : length a.owners.items ≤ o → span_of pc (spans code_start a.rows.functions.items) ≡ None
  owner_nowhere past = rw place (unowned code_start 0 a.rows.functions.items o (rw (← k.owners) past))
