-- Functions that lie one after another, by the addresses of their bytes.
use Rattle.std.specs.Prelude.{if◌then◌else◌, ◌==◌, nat_lt, nat_le, ◌&&◌, slice_get}
use Rattle.std.proofs.Common.{◌≡◌, ℕ, zero, suc, ◌+◌, ◌-◌, ◌<◌, ◌≤◌, ◌⊎◌, inl, inr, Bool, true, false, Some, None, List, [], ◌∷◌, refl, sym, ap, subst, ◌∙◌, arith}
use Rattle.std.proofs.lemmas.Bool.{cases_lt}
use Rattle.std.proofs.lemmas.Bool.Decides.{nat_tests}
use Rattle.std.proofs.lemmas.Option.{none-some, same_Some}
use Rattle.tal_types.specs.declared.views.Span.{Span}
use Rattle.tal_image.specs.declared.parts.FunctionPart.{FunctionPart}
use Rattle.tal_image.specs.Conditions.{function_begins}
use Rattle.tal_image.specs.Shown.{spans, span_of, begun_by}

-- each function has a byte at least, and one of so many signatures
abbrev pub AreFunctions : ℕ → List FunctionPart → Type 0
AreFunctions sigs [] = Unit {0}
AreFunctions sigs (f ∷ fs) = (1 ≤ f.length) × (f.sig < sigs) × AreFunctions sigs fs

-- how many bytes they have
abbrev pub total : List FunctionPart → ℕ
total [] = 0
total (f ∷ fs) = f.length + total fs

-- a function that has a byte at an address
pub record Covers (a : ℕ) (sigs : ℕ) (fs : List FunctionPart) (pc : ℕ) (s : Span) : Type 0 where
  pub here : span_of pc (spans a fs) ≡ Some s
  pub start : s.start ≤ pc
  pub end : pc < s.end
  pub within : s.end ≤ a + total fs
  pub after : a ≤ s.start
  pub sig : s.sig < sigs
  -- it has each byte from its first to its last, and no other function begins among them
  pub same : (at : ℕ) → s.start ≤ at → at < s.end → span_of at (spans a fs) ≡ Some s
  pub inner : (at : ℕ) → s.start < at → at < s.end → begun_by at (spans a fs) ≡ None
  pub begins : begun_by s.start (spans a fs) ≡ Some s.sig

module _ (a : ℕ) (f : FunctionPart) (fs : List FunctionPart) where
  -- the first function has the bytes from its first to its last
  span-first : (pc : ℕ) → a ≤ pc → pc < a + f.length → span_of pc (spans a (f ∷ fs)) ≡ Some (record { start = a; end = a + f.length; sig = f.sig })
  unfolding spans span_of
  span-first pc low high = let t : (nat_le a pc && nat_lt pc (a + f.length)) ≡ true = grind (arith, nat_tests) in rw t refl

  -- the other bytes have the functions after it
  span-later : (pc : ℕ) → a + f.length ≤ pc → span_of pc (spans a (f ∷ fs)) ≡ span_of pc (spans (a + f.length) fs)
  unfolding spans span_of
  span-later pc l = let t : (nat_le a pc && nat_lt pc (a + f.length)) ≡ false = grind (arith, nat_tests) in rw t refl

  begun-first : (pc : ℕ) → a ≡ pc → begun_by pc (spans a (f ∷ fs)) ≡ Some f.sig
  unfolding spans begun_by
  begun-first pc e = let t : (a == pc) ≡ true = grind (arith, nat_tests) in rw t refl

  begun-later : (pc : ℕ) → a < pc → begun_by pc (spans a (f ∷ fs)) ≡ begun_by pc (spans (a + f.length) fs)
  unfolding spans begun_by
  begun-later pc l = let t : (a == pc) ≡ false = grind (arith, nat_tests) in rw t refl

-- no function begins before the first
begun-below : (fs : List FunctionPart) (a pc : ℕ) → pc < a → begun_by pc (spans a fs) ≡ None
unfolding spans begun_by
begun-below [] a pc l = refl
begun-below (f ∷ fs) a pc l = let t : (a == pc) ≡ false = grind (arith, nat_tests) in rw t (begun-below fs (a + f.length) pc (omega arith))

-- the bytes at which functions begin are bytes of functions
begun-range : (fs : List FunctionPart) (a sigs pc g : ℕ) → AreFunctions sigs fs → begun_by pc (spans a fs) ≡ Some g → (a ≤ pc) × (pc < a + total fs)
unfolding spans begun_by
begun-range [] a sigs pc g h e = absurd cc
begun-range (f ∷ fs) a sigs pc g h e = go (a == pc) refl e (λ k. begun-range fs (a + f.length) sigs pc g h.2 k)
  where
    go : (t : Bool) → (a == pc) ≡ t → (if t then Some f.sig else begun_by pc (spans (a + f.length) fs)) ≡ Some g
        → (begun_by pc (spans (a + f.length) fs) ≡ Some g → (a + f.length ≤ pc) × (pc < a + f.length + total fs)) → (a ≤ pc) × (pc < a + (f.length + total fs))
    go true p e later = let q : a ≡ pc = grind (arith, nat_tests) in let some = h.0 in (omega arith, omega arith)
    go false p e later = let r = later e in let u = r.0 in let v = r.1 in (omega arith, omega arith)

-- each byte from the first to the last is one function's
pub covered : (fs : List FunctionPart) (a sigs pc : ℕ) → AreFunctions sigs fs → a ≤ pc → pc < a + total fs → (s : Span) × Covers a sigs fs pc s
covered [] a sigs pc h low high = absurd (omega arith)
covered (f ∷ fs) a sigs pc h low high = go (cases_lt pc (a + f.length)) (λ l. covered fs (a + f.length) sigs pc h.2 l (omega arith))
  where
    go : (pc < a + f.length) ⊎ (a + f.length ≤ pc) → (a + f.length ≤ pc → (s : Span) × Covers (a + f.length) sigs fs pc s) → (s : Span) × Covers a sigs (f ∷ fs) pc s
    go (inl l) later =
        let some = h.0 in (
          record { start = a; end = a + f.length; sig = f.sig },
          record {
            here = span-first a f fs pc low l;
            start = low;
            end = l;
            within = omega arith;
            after = omega arith;
            sig = h.1;
            same = λ at u v. span-first a f fs at u v;
            inner = λ at u v. begun-later a f fs at u ∙ begun-below fs (a + f.length) at v;
            begins = begun-first a f fs a refl;
          },
        )
    go (inr l) later =
        let some = h.0 in
        let t = later l in
        let c = t.1 in
        let w = c.within in
        let b = c.after in (
          t.0,
          record {
            here = span-later a f fs pc l ∙ c.here;
            start = c.start;
            end = c.end;
            within = omega arith;
            after = omega arith;
            sig = c.sig;
            same = λ at u v. span-later a f fs at (omega arith) ∙ c.same at u v;
            inner = λ at u v. begun-later a f fs at (omega arith) ∙ c.inner at u v;
            begins = begun-later a f fs t.0.start (omega arith) ∙ c.begins;
          },
        )

-- the function that begins at an address, with what it covers
pub begun_covered : (fs : List FunctionPart) (a sigs pc g : ℕ) → AreFunctions sigs fs → begun_by pc (spans a fs) ≡ Some g
    → (s : Span) × Covers a sigs fs pc s × (s.start ≡ pc) × (s.sig ≡ g)
begun_covered fs a sigs pc g h e =
    let r = begun-range fs a sigs pc g h e in
    let t = covered fs a sigs pc h r.0 r.1 in
    let c = t.1 in
    let low = c.start in
    let high = c.end in
    let first : t.0.start ≡ pc = elim (cases_lt t.0.start pc) [
      | inl l ↦ absurd (none-some g (sym (c.inner pc l high) ∙ e))
      | inr l ↦ omega arith
    ] in
    (t.0, c, first, same_Some t.0.sig g (sym c.begins ∙ ap (λ (n : ℕ). begun_by n (spans a fs)) first ∙ e))

-- a function by its number begins at its address
pub numbered : (fs : List FunctionPart) (a sigs n : ℕ) (f : FunctionPart) → AreFunctions sigs fs → slice_get fs n ≡ Some f
    → (s : Span) × (slice_get (spans a fs) n ≡ Some s) × (s.sig ≡ f.sig) × (begun_by s.start (spans a fs) ≡ Some s.sig)
unfolding spans
numbered [] a sigs n f h e = absurd cc
numbered (g ∷ fs) a sigs zero f h e = (record { start = a; end = a + g.length; sig = g.sig }, refl, ap (λ (x : FunctionPart). x.sig) (same_Some g f e), begun-first a g fs a refl)
numbered (g ∷ fs) a sigs (suc n) f h e =
    let t = numbered fs (a + g.length) sigs n f h.2 e in
    let r = begun-range fs (a + g.length) sigs t.0.start t.0.sig h.2 t.3 in
    let low = r.0 in
    let some = h.0 in
    (t.0, t.1, t.2, begun-later a g fs t.0.start (omega arith) ∙ t.3)

-- where no function begins at an offset, none begins at its address
pub not_begun : (fs : List FunctionPart) (a sigs offset : ℕ) → AreFunctions sigs fs → function_begins offset fs ≡ false → begun_by (a + offset) (spans a fs) ≡ None
unfolding function_begins spans begun_by
not_begun [] a sigs offset h e = refl
not_begun (f ∷ fs) a sigs offset h e = go (offset == 0) (nat_lt offset f.length) refl refl e (λ k. not_begun fs (a + f.length) sigs (offset - f.length) h.2 k)
  where
    go : (s t : Bool) → (offset == 0) ≡ s → nat_lt offset f.length ≡ t → (if s then true else if t then false else function_begins (offset - f.length) fs) ≡ false
        → (function_begins (offset - f.length) fs ≡ false → begun_by (a + f.length + (offset - f.length)) (spans (a + f.length) fs) ≡ None)
        → (if a == (a + offset) then Some f.sig else begun_by (a + offset) (spans (a + f.length) fs)) ≡ None
    go true t p q e later = absurd cc
    go false true p q e later =
        let k : (a == (a + offset)) ≡ false = grind (arith, nat_tests) in
        let l : offset < f.length = grind (arith, nat_tests) in
        rw k (begun-below fs (a + f.length) (a + offset) (omega arith))
    go false false p q e later =
        let k : (a == (a + offset)) ≡ false = grind (arith, nat_tests) in
        let l : f.length ≤ offset = grind (arith, nat_tests) in
        let on : a + f.length + (offset - f.length) ≡ a + offset = omega arith in
        rw k (subst (λ (n : ℕ). begun_by n (spans (a + f.length) fs) ≡ None) on (later e))
