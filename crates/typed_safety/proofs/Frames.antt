-- The values of a stack against the types of its top frame's slots.
use Rattle.std.proofs.Common.{◌≡◌, ◌≤◌, ℕ, zero, suc, true, nat_lt, Some, None, Option, arith, refl, List, [], ◌∷◌, length, drop, slice_get, slice_set}
use Rattle.std.proofs.lemmas.Bool.{and_parts}
use Rattle.std.proofs.lemmas.Bool.Decides.{nat_tests}
use Rattle.object_layout.specs.Laws.{ClassLaws}
use Rattle.tal_types.specs.declared.types.Ty.{Ty}
use Rattle.tal_types.specs.Types.{sub}
use Rattle.tal_types.specs.Contexts.{all_sub}
use Rattle.tal_image.specs.Shown.{shown}
use Rattle.typed_machine.specs.Values.{Value, Ret, fits_among}
use Rattle.typed_machine.specs.Operands.{slot_count}
use Rattle.typed_machine.specs.Effects.{has_above}
use Rattle.typed_machine.specs.Frames.{Scope, fits_in, FramesFit}
use Rattle.typed_safety.proofs.Scopes.{rows}
use Rattle.typed_safety.proofs.Values.{fits-sub}

-- there is a value, and it has the type
abbrev pub ValueFits : Scope → Option Value → Ty → Type 0
ValueFits l None t = ⊥
ValueFits l (Some w) t = fits_in l w t ≡ true

-- a value that has a type stands above the values that count it
slot-more : (l : Scope) (w : Value) (t : Ty) (ws : List Value) → fits_in l w t ≡ true → slot_count (w ∷ ws) ≡ suc (slot_count ws)
unfolding slot_count fits_among
slot-more l w t ws h = grind arith

-- and above the top return place
above-more : (l : Scope) (w : Value) (t : Ty) (ws : List Value) (n : ℕ) → fits_in l w t ≡ true → has_above n ws ≡ true → has_above (suc n) (w ∷ ws) ≡ true
unfolding fits_among
above-more l (Ret a) t ws n h e = absurd (grind arith)
above-more l w t ws n h e = e

module _ (l : Scope) (result : Ty) where
  -- frames fit slots of higher types
  pub frames-sub : ClassLaws (rows l) → (ts us : List Ty) (vs : List Value) → all_sub (rows l) ts us ≡ true → FramesFit l result ts vs → FramesFit l result us vs
  unfolding all_sub
  frames-sub laws [] [] vs e h = h
  frames-sub laws (t ∷ ts) [] vs e h = absurd (grind arith)
  frames-sub laws [] (u ∷ us) vs e h = absurd (grind arith)
  frames-sub laws (t ∷ ts) (u ∷ us) [] e h = h
  frames-sub laws (t ∷ ts) (u ∷ us) (v ∷ vs) e h =
      let parts = and_parts (sub (rows l) t u) _ e in
      (fits-sub (shown l.image) l.live l.shapes laws v t u h.0 parts.0, frames-sub laws ts us vs parts.1 h.1)

  -- a slot's value stands above the top return place
  pub slot-deep : (ts : List Ty) (vs : List Value) (i : ℕ) (t : Ty) → FramesFit l result ts vs → slice_get ts i ≡ Some t → nat_lt i (slot_count vs) ≡ true
  slot-deep [] vs i t h e = absurd (grind arith)
  slot-deep (u ∷ ts) [] i t h e = absurd h
  slot-deep (u ∷ ts) (v ∷ vs) zero t h e = rw (slot-more l v u vs h.0) (grind (arith, nat_tests))
  slot-deep (u ∷ ts) (v ∷ vs) (suc i) t h e = rw (slot-more l v u vs h.0) (let k = slot-deep ts vs i t h.1 e in grind (arith, nat_tests))

  -- it has the slot's type
  pub slot-value : (ts : List Ty) (vs : List Value) (i : ℕ) (t : Ty) → FramesFit l result ts vs → slice_get ts i ≡ Some t → ValueFits l (slice_get vs i) t
  slot-value [] vs i t h e = absurd (grind arith)
  slot-value (u ∷ ts) [] i t h e = absurd h
  slot-value (u ∷ ts) (v ∷ vs) zero t h e = grind arith
  slot-value (u ∷ ts) (v ∷ vs) (suc i) t h e = slot-value ts vs i t h.1 e

  -- a slot gets a value and its type
  pub frames-set : (ts : List Ty) (vs : List Value) (i : ℕ) (u t : Ty) (w : Value) → FramesFit l result ts vs → slice_get ts i ≡ Some u → fits_in l w t ≡ true
      → FramesFit l result (slice_set ts i t) (slice_set vs i w)
  frames-set [] vs i u t w h e g = absurd (grind arith)
  frames-set (x ∷ ts) [] i u t w h e g = absurd h
  frames-set (x ∷ ts) (v ∷ vs) zero u t w h e g = (g, h.1)
  frames-set (x ∷ ts) (v ∷ vs) (suc i) u t w h e g = (h.0, frames-set ts vs i u t w h.1 e g)

  -- the slots on top go, and their values with them
  pub frames-drop : (ts : List Ty) (vs : List Value) (n : ℕ) → n ≤ length ts → FramesFit l result ts vs → FramesFit l result (drop n ts) (drop n vs)
  frames-drop ts vs zero e h = h
  frames-drop [] vs (suc n) e h = absurd (omega arith)
  frames-drop (t ∷ ts) [] (suc n) e h = absurd h
  frames-drop (t ∷ ts) (v ∷ vs) (suc n) e h = frames-drop ts vs n (omega arith) h.1

  -- the slots' values lie above the top return place
  pub frames-above : (ts : List Ty) (vs : List Value) (n : ℕ) → n ≤ length ts → FramesFit l result ts vs → has_above n vs ≡ true
  frames-above ts vs zero e h = refl
  frames-above [] vs (suc n) e h = absurd (omega arith)
  frames-above (t ∷ ts) [] (suc n) e h = absurd h
  frames-above (t ∷ ts) (v ∷ vs) (suc n) e h = above-more l v t vs n h.0 (frames-above ts vs n (omega arith) h.1)
