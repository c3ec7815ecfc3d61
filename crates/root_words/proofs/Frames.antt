-- The walk over a stack lists the words of the values in reference slots.
use Rattle.std.specs.Prelude.{unwrap_or}
use Rattle.std.specs.Option.{option_map}
use Rattle.std.proofs.Common.{◌≡◌, ◌≤◌, ◌+◌, inl, inr, ℕ, zero, suc, nat_eq, nat_lt, Bool, true, false, cond, if◌then◌else◌, Option, Some, None, List, [], ◌∷◌, map, length, refl, ◌∙◌, ap, arith}
use Rattle.std.proofs.lemmas.Bool.{false≢true}
use Rattle.std.proofs.lemmas.Bool.Decides.{nat_tests}
use Rattle.tal_types.specs.declared.types.Ty.{Ty}
use Rattle.tal_types.specs.declared.signatures.FrameRow.{FrameRow}
use Rattle.tal_types.specs.Contexts.{LiveContext, ContextView, Dead, Live}
use Rattle.tal_types.specs.Shown.{ShownImage}
use Rattle.tal_flow.specs.Strongest.{PlacedInst, At, at_in, start, falls_from, placed_at}
use Rattle.tal_image.specs.Image.{ImageParts}
use Rattle.tal_image.specs.Shown.{shown}
use Rattle.frame_tables.specs.FrameRows.{RowAt, frame_row_at}
use Rattle.frame_tables.specs.FrameWalks.{IsStack, IsStackFrom, references, frame_references_from}
use Rattle.tal_checker.specs.Instructions.{instructions}
use Rattle.tal_checker.specs.WellTyped.{strongest_at}
use Rattle.tal_checker.specs.Frames.{may_refer, reference_bits, register_types, row_in, frames_of, RowsByAddress}
use Rattle.typed_machine.specs.Values.{Value, Number, Null, Ref, Code, Ret, Tab, Desc, Word, fits_among}
use Rattle.typed_machine.specs.Frames.{Scope, fits_in, FramesFit}
use Rattle.typed_machine.specs.Reaching.{slots_at, frame_references}
use Rattle.root_words.proofs.Words.{words-if}
use Rattle.root_words.proofs.Bits.{BitsFrom, bits-first, bits-next, bits-test}

-- ---- rows

-- there is a row wherever a context is live, and it is the context's
abbrev pub RowsTell : ImageParts → Type 0
RowsTell image = (place : ℕ) (c : LiveContext) → strongest_at image place ≡ Live c → frame_row_at (frames_of image) place ≡ Some (row_in (Live c))

-- where a context is live an instruction begins
live-placed : (v : ShownImage) (xs : List PlacedInst) (c : ContextView) (pc : ℕ) (d : LiveContext) → at_in v xs c pc ≡ Live d → (x : PlacedInst) × (placed_at xs pc ≡ Some x)
unfolding at_in placed_at
live-placed v [] c pc d e = cc
live-placed v (x ∷ xs) c pc d e = go (nat_eq x.pc pc) e (λ h. live-placed v xs (falls_from v (start v x.pc c) x) pc d h)
  where
    go : (b : Bool) → cond b (start v x.pc c) (at_in v xs (falls_from v (start v x.pc c) x) pc) ≡ Live d
        → (at_in v xs (falls_from v (start v x.pc c) x) pc ≡ Live d → (y : PlacedInst) × (placed_at xs pc ≡ Some y)) → (y : PlacedInst) × (cond b (Some x) (placed_at xs pc) ≡ Some y)
    go true e more = (x, refl)
    go false e more = more e

strongest-placed : (image : ImageParts) (pc : ℕ) (c : LiveContext) → strongest_at image pc ≡ Live c → (x : PlacedInst) × (placed_at (instructions image.code) pc ≡ Some x)
unfolding strongest_at At
strongest-placed image pc c e = live-placed (shown image) (instructions image.code) Dead pc c e

pub rows-tell : RowsByAddress → (image : ImageParts) → RowsTell image
rows-tell law image pc c e =
    let x = strongest-placed image pc c e in
    law image pc ∙ (ap (option_map (λ (x : PlacedInst). row_in (strongest_at image pc))) x.1 ∙ ap (λ k. Some (row_in k)) e)

-- what the row of a live context has
live-slots : (c : LiveContext) → (row_in (Live c)).slots ≡ length c.slots
unfolding row_in
live-slots c = refl

live-refs : (c : LiveContext) → (row_in (Live c)).refs ≡ reference_bits c.slots
unfolding row_in
live-refs c = refl

pub live-regs : (c : LiveContext) → (row_in (Live c)).regs ≡ reference_bits (register_types c)
unfolding row_in
live-regs c = refl

-- ---- frames

references-none : (table : List RowAt) (place : ℕ) → references table place [] ≡ []
references-none table place = go (frame_row_at table place)
  where
    go : (o : Option FrameRow) → unwrap_or (option_map (λ r. frame_references_from table r 0 []) o) [] ≡ []
    go None = refl
    go (Some r) = refl

-- a value that fits a type is no place to return to: it stands in a slot
slot-step : (l : Scope) (t : Ty) (types : List Ty) (v : Value) (values : List Value) → fits_in l v t ≡ true
    → frame_references l.image (t ∷ types) (v ∷ values)
    ≡ (if may_refer t then v ∷ frame_references l.image types values else frame_references l.image types values)
unfolding fits_among
slot-step l t types (Number w) values h = refl
slot-step l t types Null values h = refl
slot-step l t types (Ref i) values h = refl
slot-step l t types (Code a) values h = refl
slot-step l t types (Ret a) values h = absurd (false≢true h)
slot-step l t types (Tab c) values h = refl
slot-step l t types (Desc k) values h = refl

-- a stack has its end word at least
pub frames-some : (l : Scope) (t : Ty) (types : List Ty) (values : List Value) → FramesFit l t types values → 1 ≤ length values
frames-some l t [] [] h = absurd h
frames-some l t (u ∷ us) [] h = absurd h
frames-some l t [] (v ∷ values) h = omega arith
frames-some l t (u ∷ us) (v ∷ values) h = omega arith

module _ (l : Scope) (places : List ℕ) (rows : RowsTell l.image) where
  walk-lists : (t : Ty) (row : FrameRow) (slot : ℕ) (types : List Ty) (values : List Value) → slot + length types ≡ row.slots → BitsFrom row.refs slot types
      → FramesFit l t types values
      → frame_references_from (frames_of l.image) row slot (map (Word places) values) ≡ map (Word places) (frame_references l.image types values)
  unfolding Word
  walk-lists t row slot [] [] n b h = absurd h
  walk-lists t row slot (u ∷ us) [] n b h = absurd h
  walk-lists t row slot [] (Ret zero ∷ values) n b h =
      let over : nat_lt slot row.slots ≡ false = grind (arith, nat_tests) in
      rw (over, h.0) (references-none (frames_of l.image) 0)
  walk-lists t row slot [] (Ret (suc a) ∷ values) n b (c, sig, here, function, below, frames) =
      let over : nat_lt slot row.slots ≡ false = grind (arith, nat_tests) in
      let next = walk-lists sig.result (row_in (Live c)) 0 c.slots values (rw (live-slots c) (omega arith)) (bits-first (row_in (Live c)).refs c.slots (live-refs c)) frames in
      rw (over, rows (suc a) c here, here) next
  walk-lists t row slot [] (Number w ∷ values) n b h = absurd h
  walk-lists t row slot [] (Null ∷ values) n b h = absurd h
  walk-lists t row slot [] (Ref w ∷ values) n b h = absurd h
  walk-lists t row slot [] (Code w ∷ values) n b h = absurd h
  walk-lists t row slot [] (Tab w ∷ values) n b h = absurd h
  walk-lists t row slot [] (Desc w ∷ values) n b h = absurd h
  walk-lists t row slot (u ∷ us) (v ∷ values) n b h =
      let inside : nat_lt slot row.slots ≡ true = grind (arith, nat_tests) in
      let next = walk-lists t row (slot + 1) us values (omega arith) (bits-next row.refs slot u us b) h.1 in
      rw (inside, bits-test row.refs slot u us b, next, slot-step l u us v values h.0) (words-if places (may_refer u) v (frame_references l.image us values))

  walk-goes : (t : Ty) (row : FrameRow) (slot : ℕ) (types : List Ty) (values : List Value) → slot + length types ≡ row.slots → FramesFit l t types values
      → IsStackFrom (frames_of l.image) row slot (map (Word places) values)
  unfolding Word
  walk-goes t row slot [] [] n h = absurd h
  walk-goes t row slot (u ∷ us) [] n h = absurd h
  walk-goes t row slot [] (Ret zero ∷ values) n h =
      let over : nat_lt slot row.slots ≡ false = grind (arith, nat_tests) in
      rw over (inl (refl, ap (map (Word places)) h.0))
  walk-goes t row slot [] (Ret (suc a) ∷ values) n (c, sig, here, function, below, frames) =
      let over : nat_lt slot row.slots ≡ false = grind (arith, nat_tests) in
      let next : IsStackFrom (frames_of l.image) (row_in (Live c)) 0 (map (Word places) values) = walk-goes sig.result (row_in (Live c)) 0 c.slots values (rw (live-slots c) (omega arith)) frames in
      rw over (inr (rw (rows (suc a) c here) next))
  walk-goes t row slot [] (Number w ∷ values) n h = absurd h
  walk-goes t row slot [] (Null ∷ values) n h = absurd h
  walk-goes t row slot [] (Ref w ∷ values) n h = absurd h
  walk-goes t row slot [] (Code w ∷ values) n h = absurd h
  walk-goes t row slot [] (Tab w ∷ values) n h = absurd h
  walk-goes t row slot [] (Desc w ∷ values) n h = absurd h
  walk-goes t row slot (u ∷ us) (v ∷ values) n h =
      let inside : nat_lt slot row.slots ≡ true = grind (arith, nat_tests) in
      rw inside (walk-goes t row (slot + 1) us values (omega arith) h.1)

  -- the words of a whole stack are frames, from the place on where its top frame goes on
  pub stack_goes : (t : Ty) (place : ℕ) (c : LiveContext) (values : List Value) → strongest_at l.image place ≡ Live c → FramesFit l t c.slots values
      → IsStack (frames_of l.image) place (map (Word places) values)
  stack_goes t place c values e h = rw (rows place c e) (walk-goes t (row_in (Live c)) 0 c.slots values (rw (live-slots c) (omega arith)) h)

  -- and the walk lists the words of its references
  pub stack_lists : (t : Ty) (place : ℕ) (c : LiveContext) (values : List Value) → strongest_at l.image place ≡ Live c → FramesFit l t c.slots values
      → references (frames_of l.image) place (map (Word places) values) ≡ map (Word places) (frame_references l.image (slots_at l.image place) values)
  stack_lists t place c values e h =
      rw (rows place c e, e) (walk-lists t (row_in (Live c)) 0 c.slots values (rw (live-slots c) (omega arith)) (bits-first (row_in (Live c)).refs c.slots (live-refs c)) h)
