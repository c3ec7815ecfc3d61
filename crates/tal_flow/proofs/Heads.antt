use Rattle.std.proofs.Common.{◌≡◌, ℕ, Bool, true, false, ◌&&◌, ◌||◌, not, if◌then◌else◌, Option, Some, None, arith, refl, List, [], ◌∷◌}
use Rattle.std.specs.Option.{option_map, option_and_then, option_or}
use Rattle.ia32_code.specs.declared.instruction.Reg.{Reg}
use Rattle.ia32_code.specs.declared.instruction.Reg.TheVariants.{Edx}
use Rattle.ia32_code.specs.declared.instruction.Operand.{Operand}
use Rattle.ia32_code.specs.declared.instruction.Operand.TheVariants.{R, M, I}
use Rattle.object_layout.specs.Classes.{ShapesView}
use Rattle.tal_types.specs.declared.types.Ty.{Ty}
use Rattle.tal_types.specs.declared.types.Ty.TheVariants.{Num, Ref, Obj}
use Rattle.tal_types.specs.declared.types.FlagKind.{FlagKind}
use Rattle.tal_types.specs.declared.types.FlagKind.TheVariants.{NullTest, Bound, IsA}
use Rattle.tal_types.specs.declared.signatures.Sig.{Sig}
use Rattle.tal_types.specs.Types.{within}
use Rattle.tal_types.specs.Contexts.{LiveContext, ContextView, Dead, Live, ContextBelow, same, plain, entry}
use Rattle.tal_types.specs.Shown.{ShownImage}
use Rattle.tal_flow.specs.declared.forms.Form.{Form}
use Rattle.tal_flow.specs.declared.forms.Form.TheVariants.{Compute, Move, Address, PopTo, CallTo, CallBy, Return, Jump, Branch}
use Rattle.tal_flow.specs.declared.places.Place.{Place}
use Rattle.tal_flow.specs.declared.places.Place.TheVariants.{Slot, Head}
use Rattle.tal_flow.specs.declared.edges.Told.{Told}
use Rattle.tal_flow.specs.declared.edges.Told.TheVariants.{Equal, Unequal, Below}
use Rattle.tal_flow.specs.Forms.{form_of}
use Rattle.tal_flow.specs.declared.operands.Resolved.{Resolved}
use Rattle.tal_flow.specs.Places.{operand_place, resolve}
use Rattle.tal_flow.specs.Afterwards.{write, store_place, store_at, store, add_head, note_head, write_high, give_kind, after_call, pop_to, after_form}
use Rattle.tal_flow.specs.Edges.{refine_reg, add_pair, meet_class, meet, refine, told_by_fall, falling, falls_to}
use Rattle.tal_flow.specs.Rules.{next_address, Falls}
use Rattle.tal_flow.specs.Strongest.{PlacedInst, falls_from, known_at, carried, start, at_in, At, OneHead, HasOneHead, BlocksHaveOneHead}
use Rattle.tal_types.specs.Laws.{TypeLaws}

-- No table register has two heads in a strongest context.

-- what is above a context with one head has no more
pub head-above : (s : ShapesView) (a : LiveContext) (b : ContextView) → ContextBelow s (Live a) b → OneHead a → HasOneHead b
head-above s a Dead h one = tt
head-above s a (Live b) h one = λ t r q e f. one t r q (h.heads t r e) (h.heads t q f)

-- a write adds no head
write-head : (c : LiveContext) (r : Reg) (t : Ty) → OneHead c → OneHead (write r t c)
unfolding write
write-head c r t h = λ i a b e f. h i a b (grind arith) (grind arith)

-- nor does the upper half of a wide result
write_high-head : (c : LiveContext) (r : Bool) → OneHead c → OneHead (write_high r c)
unfolding write_high
write_high-head c false h = h
write_high-head c true h = write-head c Edx Num h

-- nor a kind
give_kind-head : (c : LiveContext) (k : Option FlagKind) → OneHead c → OneHead (give_kind k c)
unfolding give_kind
give_kind-head c k h = h

-- nor a value at a place
store_place-head : (c : LiveContext) (p : Option Place) (t : Ty) → OneHead c → OneHead (store_place p t c)
store_place-head c (Some (Slot i)) t h = h
store_place-head c p t h = h

-- nor a value in an operand
store-head : (c : LiveContext) (d : Resolved) (t : Ty) → OneHead c → OneHead (store d t c)
unfolding store
store-head c d t h = go d.operand
  where
    go : (x : Operand) → OneHead (store_at x d.place t c)
    go (R r) = write-head c r t h
    go (M m) = store_place-head c d.place t h
    go (I n) = h

module _ (types : TypeLaws) where
  -- a register that was just written has no head yet
  add-head-one : (c : LiveContext) (r b : Reg) (t : Ty) → OneHead c → OneHead (add_head r b (write r t c))
  unfolding add_head write
  add-head-one c r b t h = λ i x y e f. one_of c r b t h i x y e f
    where
      one_of : (c : LiveContext) (r b : Reg) (t : Ty) → OneHead c → (i x y : Reg) → (same i r && same x b || not (same i r) && (not (same x r) && c.heads i x)) ≡ true
          → (same i r && same y b || not (same i r) && (not (same y r) && c.heads i y)) ≡ true → x ≡ y
      one_of c r b t h i x y e f = grind (arith, types.same_or_not, h i x y)

  -- a MOV notes a head of a register whose heads it has just dropped
  note_head-one : (c : LiveContext) (d : Resolved) (t : Ty) (p : Option Place) → OneHead c → OneHead (note_head d.operand p (store d t c))
  unfolding note_head store
  note_head-one c d t p h = go d.operand p
    where
      noted : (r b : Reg) (x : Bool) → OneHead (if x then write r t c else add_head r b (write r t c))
      noted r b true = write-head c r t h
      noted r b false = add-head-one c r b t h

      go : (x : Operand) (p : Option Place) → OneHead (note_head x p (store_at x d.place t c))
      go (R r) (Some (Head b k)) = noted r b (same b r)
      go (R r) p = write-head c r t h
      go (M m) p = store_place-head c d.place t h
      go (I n) p = h

  -- a call leaves no heads
  after_call-head : (c : LiveContext) (t : Ty) → OneHead (after_call t c)
  unfolding after_call
  after_call-head c t = λ i x y e f. absurd (grind arith)

  -- a POP adds none
  pop_to-head : (c : LiveContext) (r : Reg) → OneHead c → OneHead (pop_to r c)
  unfolding pop_to
  pop_to-head c r h = write-head c r _ h

  -- what an instruction leaves has one head at most
  after_form-head : (v : ShownImage) (c : LiveContext) (pc : ℕ) (f : Form) → OneHead c → OneHead (after_form v c pc f)
  unfolding after_form
  after_form-head v c pc (Compute xs d r k) h = give_kind-head _ k (write_high-head _ r (store-head c (resolve v c pc d) Num h))
  after_form-head v c pc (Move d x) h = note_head-one c (resolve v c pc d) _ (operand_place v c x) h
  after_form-head v c pc (Address r m) h = write-head c r Num h
  after_form-head v c pc (PopTo r) h = pop_to-head c r h
  after_form-head v c pc (CallTo t) h = after_call-head c _
  after_form-head v c pc (CallBy x) h = after_call-head c _
  after_form-head v c pc f h = h

  -- each of two contexts has one head at most, and so has the one that a test picks
  either-head : (b : Bool) (c d : ContextView) → HasOneHead c → HasOneHead d → HasOneHead (if b then c else d)
  either-head true c d g h = g
  either-head false c d g h = h

  -- more about a register adds no head
  refine_reg-head : (c : LiveContext) (r : Reg) (t : Ty) → OneHead c → OneHead (refine_reg r t c)
  unfolding refine_reg
  refine_reg-head c r t h = h

  -- nor does a class test
  meet_class-head : (s : ShapesView) (c : LiveContext) (r : Reg) (k d : ℕ) → OneHead c → HasOneHead (meet_class s c r k d)
  meet_class-head s c r k d h =
      either-head (within s k d) _ _ (refine_reg-head c r (Obj k) h)
      (either-head (within s d k) (Live (refine_reg r (Obj d) c)) Dead (refine_reg-head c r (Obj d) h) tt)

  -- nor does a test of a register's class
  meet-head : (s : ShapesView) (c : LiveContext) (r : Reg) (t : Ty) (d : ℕ) → OneHead c → HasOneHead (meet s c r t d)
  unfolding meet
  meet-head s c r (Obj k) d h = meet_class-head s c r k d h
  meet-head s c r (Ref k) d h = meet_class-head s c r k d h
  meet-head s c r t d h = h

  -- nor does a pair
  add_pair-head : (c : LiveContext) (i a : Reg) → OneHead c → OneHead (add_pair i a c)
  unfolding add_pair
  add_pair-head c i a h = h

  -- nor does refinement
  refine-head : (s : ShapesView) (c : LiveContext) (k : FlagKind) (e : Told) → OneHead c → HasOneHead (refine s c k e)
  unfolding refine
  refine-head s c (NullTest r) Unequal h = refine_reg-head c r _ h
  refine-head s c (Bound i a) Below h = add_pair-head c i a h
  refine-head s c (IsA r d) Equal h = meet-head s c r (c.regs r) d h
  refine-head s c k e h = h

  -- what falls through has one head at most
  falls_to-head : (v : ShownImage) (a : ContextView) (pc : ℕ) (f : Form) → HasOneHead a → HasOneHead (falls_to v a pc f)
  unfolding falls_to falling
  falls_to-head v Dead pc f h = tt
  falls_to-head v (Live c) pc Return h = tt
  falls_to-head v (Live c) pc (Jump t) h = tt
  falls_to-head v (Live c) pc (Branch k t) h = refine-head v.shapes c c.kind (told_by_fall k) h
  falls_to-head v (Live c) pc f h = after_form-head v c pc f h

  -- what falls through has one head a register
  pub falls-head : (v : ShownImage) (a : ContextView) (x : PlacedInst) → HasOneHead a → HasOneHead (falls_from v a x)
  unfolding Falls
  falls-head v a x h = falls_to-head v a x.pc (form_of (next_address x.pc x.len) x.inst) h

  -- the context of a signature has none
  entry-head : (sig : Sig) → HasOneHead (entry sig)
  unfolding entry plain
  entry-head sig = λ t r q e f. absurd (grind arith)

  -- so has what stands at an address
  pub start-head : (v : ShownImage) → BlocksHaveOneHead v → (pc : ℕ) (a : ContextView) → HasOneHead a → HasOneHead (start v pc a)
  unfolding start known_at
  start-head v blocks pc a h = go (option_and_then v.sig (v.function_at pc)) (v.block_at pc) refl
    where
      go : (o : Option Sig) (b : Option ContextView) → v.block_at pc ≡ b → HasOneHead (carried a (option_or (option_map entry o) b))
      go (Some sig) b e = entry-head sig
      go None (Some d) e = blocks pc d e
      go None None e = h

  -- the contexts of instructions one after another have one at most
  at_in-head : (v : ShownImage) → BlocksHaveOneHead v → (xs : List PlacedInst) (a : ContextView) (pc : ℕ) → HasOneHead a → HasOneHead (at_in v xs a pc)
  unfolding at_in
  at_in-head v blocks [] a pc h = tt
  at_in-head v blocks (x ∷ xs) a pc h =
      let s = start-head v blocks x.pc a h in
      either-head _ _ _ s (at_in-head v blocks xs (falls_from v (start v x.pc a) x) pc (falls-head v (start v x.pc a) x s))

  -- and each strongest context
  pub at-head : (v : ShownImage) → BlocksHaveOneHead v → (xs : List PlacedInst) (pc : ℕ) → HasOneHead (At v xs pc)
  unfolding At
  at-head v blocks xs pc = at_in-head v blocks xs Dead pc tt
