-- The functions of an image lie one after another.
use Rattle.std.proofs.Common.{ℕ, zero, suc, ◌≡◌, ◌<◌, ◌≤◌, ◌+◌, ◌⊎◌, inl, inr, true, false, nat_le, nat_lt, ◌&&◌, List, [], ◌∷◌, length, get_or, map, Option, Some, None, slice_get, refl, ap, sym, ◌∙◌, All, arith}
use Rattle.std.specs.List.{sum_by}
use Rattle.std.proofs.lemmas.Option.{slice_get_within, get_or_from_slice_get}
use Rattle.std.proofs.lemmas.Bool.Decides.{nat_tests}
use Rattle.std.proofs.lemmas.List.Sums.{sum_by-cons}
use Rattle.object_layout.specs.declared.rows.FunRow.{FunRow}
use Rattle.tal_types.specs.declared.views.Span.{Span}
use Rattle.tal_image.specs.declared.parts.FunctionPart.{FunctionPart}
use Rattle.tal_image.specs.Conditions.{Tables, length_fits, fun_rows}
use Rattle.tal_image.specs.Fields.{after_function}
use Rattle.tal_image.specs.Formed.{EachAfter, IsFunction}
use Rattle.tal_image.proofs.Reading.Lengths.{code_length}
use Rattle.tal_image.specs.Shown.{spans, span_of}

-- the addresses in the rows of functions are those at which their spans start
pub addresses-spans : (a : ℕ) (fs : List FunctionPart) → map (λ (f : FunRow). f.address) (fun_rows a fs) ≡ map (λ (s : Span). s.start) (spans a fs)
unfolding fun_rows spans
addresses-spans a [] = refl
addresses-spans a (f ∷ fs) = ap (λ l. a ∷ l) (addresses-spans (a + f.length) fs)

-- each function has a span
pub length-spans : (a : ℕ) (fs : List FunctionPart) → length (spans a fs) ≡ length fs
unfolding spans
length-spans a [] = refl
length-spans a (f ∷ fs) = ap suc (length-spans (a + f.length) fs)

-- none starts before the first
pub starts_after : (a : ℕ) (fs : List FunctionPart) (i : ℕ) (d : Span) → i < length fs → a ≤ (get_or (spans a fs) i d).start
unfolding spans
starts_after a [] i d within = absurd (omega arith)
starts_after a (f ∷ fs) zero d within = omega arith
starts_after a (f ∷ fs) (suc i) d within = let rest = starts_after (a + f.length) fs i d (omega arith) in omega arith

-- none ends past all of the code
pub ends_within : (a : ℕ) (fs : List FunctionPart) (i : ℕ) (d : Span) → i < length fs → (get_or (spans a fs) i d).end ≤ a + sum_by (λ (f : FunctionPart). f.length) fs
unfolding spans
ends_within a [] i d within = absurd (omega arith)
ends_within a (f ∷ fs) zero d within = let whole = sum_by-cons (λ (f : FunctionPart). f.length) f fs in omega arith
ends_within a (f ∷ fs) (suc i) d within =
    let whole = sum_by-cons (λ (f : FunctionPart). f.length) f fs in
    let rest = ends_within (a + f.length) fs i d (omega arith) in
    omega arith

-- a function that meets its condition has a byte at least, and no more than are left
fits : (later left n : ℕ) → length_fits later left n ≡ true → (1 ≤ n) × (n ≤ left)
fits later left n holds = grind (arith, nat_tests)

-- functions have a byte at least
pub has_bytes : (t : Tables) (left : ℕ) (fs : List FunctionPart) → EachAfter after_function (λ later left f. IsFunction t later left f) left fs → All (λ f. 0 < f.length) fs
has_bytes t left [] each k d within = absurd (omega arith)
has_bytes t left (f ∷ fs) each zero d within = (fits (length fs) left f.length each.0.condition_13).0
has_bytes t left (f ∷ fs) each (suc k) d within = has_bytes t (after_function left f) fs each.1 k d (omega arith)

-- they have no more than the code
pub code_holds : (t : Tables) (left : ℕ) (fs : List FunctionPart) → EachAfter after_function (λ later left f. IsFunction t later left f) left fs → sum_by (λ (f : FunctionPart). f.length) fs ≤ left
code_holds t left [] each = omega arith
code_holds t left (f ∷ fs) each =
    let whole = sum_by-cons (λ (f : FunctionPart). f.length) f fs in
    let here = fits (length fs) left f.length each.0.condition_13 in
    let rest = code_holds t (after_function left f) fs each.1 in
    omega arith

-- the bytes of all functions, one function after another
pub code_length-sum : (fs : List FunctionPart) → code_length fs ≡ sum_by (λ (f : FunctionPart). f.length) fs
unfolding code_length
code_length-sum [] = omega arith
code_length-sum (f ∷ fs) =
    let whole = sum_by-cons (λ (f : FunctionPart). f.length) f fs in
    let rest = code_length-sum fs in
    omega arith

-- where each starts behind an address or ends before it, none has the byte there
pub span_of-missing : (pc : ℕ) (ss : List Span) → ((k : ℕ) (d : Span) → k < length ss → (pc < (get_or ss k d).start) ⊎ ((get_or ss k d).end ≤ pc)) → span_of pc ss ≡ None
unfolding span_of
span_of-missing pc [] out = refl
span_of-missing pc (s ∷ ss) out =
    let miss : (nat_le s.start pc && nat_lt pc s.end) ≡ false = elim (out 0 s (omega arith)) [
      | inl below ↦ grind (arith, nat_tests)
      | inr above ↦ grind (arith, nat_tests)
    ] in
    rw miss (span_of-missing pc ss (λ k d w. out (suc k) d (omega arith)))

-- the span of a function whose row and start are these
pub span_at : (a : ℕ) (fs : List FunctionPart) (i : ℕ) (row : FunctionPart) (start : ℕ) → i < length fs → row ≡ get_or fs i row → start ≡ get_or (map (λ (s : Span). s.start) (spans a fs)) i start → slice_get (spans a fs) i ≡ Some (record { start = start; end = start + row.length; sig = row.sig })
unfolding spans
span_at a [] i row start within is begins = absurd (omega arith)
span_at a (f ∷ fs) zero row start within is begins =
    let of : ℕ → FunctionPart → Option Span = λ s r. Some (record { start = s; end = s + r.length; sig = r.sig }) in
    ap (λ s. of s f) (sym begins) ∙ ap (λ r. of start r) (sym is)
span_at a (f ∷ fs) (suc i) row start within is begins = span_at (a + f.length) fs i row start (omega arith) is begins

-- a span is its function's
pub get_or-span : (a : ℕ) (fs : List FunctionPart) (i : ℕ) (s : Span) → slice_get (spans a fs) i ≡ Some s → (i < length fs) × (get_or (spans a fs) i s ≡ s)
get_or-span a fs i s there = (rw length-spans at (slice_get_within (spans a fs) i s there), get_or_from_slice_get (spans a fs) i s s there)

-- a span ends within the code
pub span_within : (a : ℕ) (fs : List FunctionPart) (i : ℕ) (s : Span) → slice_get (spans a fs) i ≡ Some s → s.end ≤ a + sum_by (λ (f : FunctionPart). f.length) fs
span_within a fs i s there = let is = get_or-span a fs i s there in let last = ends_within a fs i s is.0 in let same = ap (λ (x : Span). x.end) is.1 in omega arith
