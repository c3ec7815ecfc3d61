use Rattle.std.proofs.Common.{◌≡◌, ℕ, Bool, true, false, if◌then◌else◌, nat_eq, Option, Some, None, arith, refl, List, [], ◌∷◌}
use Rattle.std.specs.Option.{option_map, option_and_then, option_or}
use Rattle.ia32_code.specs.declared.instruction.Reg.{Reg}
use Rattle.ia32_code.specs.declared.instruction.Reg.TheVariants.{Edx, Esp}
use Rattle.ia32_code.specs.declared.instruction.Operand.{Operand}
use Rattle.ia32_code.specs.declared.instruction.Operand.TheVariants.{R, M, I}
use Rattle.object_layout.specs.Classes.{ShapesView}
use Rattle.tal_types.specs.declared.types.Ty.{Ty}
use Rattle.tal_types.specs.declared.types.Ty.TheVariants.{Num, Ref, Obj, Junk}
use Rattle.tal_types.specs.declared.types.FlagKind.{FlagKind}
use Rattle.tal_types.specs.declared.types.FlagKind.TheVariants.{NullTest, Bound, IsA}
use Rattle.tal_types.specs.declared.signatures.Sig.{Sig}
use Rattle.tal_types.specs.Types.{within}
use Rattle.tal_types.specs.Contexts.{LiveContext, ContextView, Dead, Live, same, plain, entry, register_type}
use Rattle.tal_types.specs.Shown.{ShownImage}
use Rattle.tal_flow.specs.declared.forms.Form.{Form}
use Rattle.tal_flow.specs.declared.forms.Form.TheVariants.{Compute, Move, Address, PopTo, CallTo, CallBy, Return, Jump, Branch}
use Rattle.tal_flow.specs.declared.places.Place.{Place}
use Rattle.tal_flow.specs.declared.places.Place.TheVariants.{Slot, Head}
use Rattle.tal_flow.specs.declared.edges.Told.{Told}
use Rattle.tal_flow.specs.declared.edges.Told.TheVariants.{Equal, Unequal, Below}
use Rattle.tal_flow.specs.Forms.{form_of}
use Rattle.tal_flow.specs.Places.{spares_esp, operand_place, resolve}
use Rattle.tal_flow.specs.Afterwards.{write, store_place, store, add_head, note_head, write_high, give_kind, after_call, pop_to, after_form}
use Rattle.tal_flow.specs.Edges.{refine_reg, add_pair, not_null, meet_class, meet, refine, told_by_fall, falling, falls_to}
use Rattle.tal_flow.specs.Rules.{operand_rule, rule_of_form, rule_of, next_address, Falls}
use Rattle.tal_flow.specs.Strongest.{PlacedInst, NoRuleAt, falls_from, known_at, carried, start, contexts, at_in, At, NoneFails, HasJunkEsp, BlocksHaveJunkEsp}
use Rattle.tal_flow.proofs.LeastRules.{no_number, none-rule}
use Rattle.tal_flow.proofs.Monotone.{no_operand_rule}
use Rattle.tal_types.specs.Laws.{TypeLaws}

-- Nothing is known of what ESP holds in a strongest context.

module _ (types : TypeLaws) where
  -- a register that is not ESP
  apart : (r : Reg) → same r Esp ≡ false → same Esp r ≡ false
  apart r e = grind (arith, types.same_reflexive, types.same_or_not)

  -- a write of another register leaves ESP's type
  write-esp : (c : LiveContext) (r : Reg) (t : Ty) → same r Esp ≡ false → c.regs Esp ≡ Junk → (write r t c).regs Esp ≡ Junk
  unfolding write
  write-esp c r t e h = rw (apart r e) h

  -- so does the upper half of a wide result
  write_high-esp : (c : LiveContext) (wide : Bool) → c.regs Esp ≡ Junk → (write_high wide c).regs Esp ≡ Junk
  unfolding write_high same
  write_high-esp c false h = h
  write_high-esp c true h = write-esp c Edx Num refl h

  -- a value at a place leaves all registers
  store_place-esp : (c : LiveContext) (p : Option Place) (t : Ty) → c.regs Esp ≡ Junk → (store_place p t c).regs Esp ≡ Junk
  store_place-esp c (Some (Slot i)) t h = h
  store_place-esp c p t h = h

  -- a value in an operand that is not ESP
  store-esp : (v : ShownImage) (c : LiveContext) (pc : ℕ) (d : Operand) (t : Ty) → spares_esp d ≡ true → c.regs Esp ≡ Junk → (store (resolve v c pc d) t c).regs Esp ≡ Junk
  unfolding store spares_esp
  store-esp v c pc (R r) t e h = write-esp c r t (grind arith) h
  store-esp v c pc (M m) t e h = store_place-esp c (operand_place v c (M m)) t h
  store-esp v c pc (I n) t e h = h

  -- a head that is noted leaves all registers
  note_head-esp : (c : LiveContext) (d : Operand) (p : Option Place) → c.regs Esp ≡ Junk → (note_head d p c).regs Esp ≡ Junk
  unfolding note_head add_head
  note_head-esp c (R r) (Some (Head b k)) h = go (same b r)
    where
      go : (t : Bool) → (if t then c else add_head r b c).regs Esp ≡ Junk
      go true = h
      go false = h
  note_head-esp c d p h = h

  -- what an instruction leaves, where no rule of its operands fails
  after_form-esp : (v : ShownImage) (c : LiveContext) (pc : ℕ) (f : Form) → operand_rule v c pc f ≡ None → c.regs Esp ≡ Junk → (after_form v c pc f).regs Esp ≡ Junk
  unfolding after_form operand_rule give_kind pop_to after_call same
  after_form-esp v c pc (Compute xs d wide k) e h = write_high-esp _ wide (store-esp v c pc d Num (grind arith) h)
  after_form-esp v c pc (Move d x) e h = note_head-esp _ d (operand_place v c x) (store-esp v c pc d _ (grind arith) h)
  after_form-esp v c pc (Address r m) e h = write-esp c r Num (grind arith) h
  after_form-esp v c pc (PopTo r) e h = write-esp c r _ (grind arith) h
  after_form-esp v c pc (CallTo t) e h = refl
  after_form-esp v c pc (CallBy x) e h = refl
  after_form-esp v c pc f e h = h

  -- each of two contexts tells nothing of ESP, and so does the one that a test picks
  either-esp : (b : Bool) (c d : ContextView) → HasJunkEsp c → HasJunkEsp d → HasJunkEsp (if b then c else d)
  either-esp true c d h g = h
  either-esp false c d h g = g

  -- more about a register, which is nothing new of ESP
  refine_reg-esp : (c : LiveContext) (r : Reg) (t : Ty) → (r ≡ Esp → t ≡ Junk) → c.regs Esp ≡ Junk → (refine_reg r t c).regs Esp ≡ Junk
  unfolding refine_reg
  refine_reg-esp c r t e h = grind (arith, types.same_or_not)

  -- what is not null of a type that tells nothing tells nothing
  not_null-junk : (t : Ty) → t ≡ Junk → not_null t ≡ Junk
  unfolding not_null
  not_null-junk t e = grind arith

  -- a class test of a register that is not ESP
  meet_class-esp : (s : ShapesView) (c : LiveContext) (r : Reg) (k d : ℕ) → (r ≡ Esp → ⊥) → c.regs Esp ≡ Junk → HasJunkEsp (meet_class s c r k d)
  meet_class-esp s c r k d e h =
      either-esp (within s k d) _ _ (refine_reg-esp c r (Obj k) (λ g. absurd (e g)) h)
      (either-esp (within s d k) (Live (refine_reg r (Obj d) c)) Dead (refine_reg-esp c r (Obj d) (λ g. absurd (e g)) h) tt)

  -- a test of the class of a register: ESP's type has none
  meet-esp : (s : ShapesView) (c : LiveContext) (r : Reg) (t : Ty) (d : ℕ) → (r ≡ Esp → t ≡ Junk) → c.regs Esp ≡ Junk → HasJunkEsp (meet s c r t d)
  unfolding meet
  meet-esp s c r (Obj k) d e h = meet_class-esp s c r k d (λ g. let f = e g in cc) h
  meet-esp s c r (Ref k) d e h = meet_class-esp s c r k d (λ g. let f = e g in cc) h
  meet-esp s c r t d e h = h

  -- the type of a register that is ESP
  esp_type : (c : LiveContext) (r : Reg) → c.regs Esp ≡ Junk → r ≡ Esp → c.regs r ≡ Junk
  esp_type c r h e = rw e h

  -- refinement
  refine-esp : (s : ShapesView) (c : LiveContext) (k : FlagKind) (told : Told) → c.regs Esp ≡ Junk → HasJunkEsp (refine s c k told)
  unfolding refine add_pair
  refine-esp s c (NullTest r) Unequal h = refine_reg-esp c r (not_null (c.regs r)) (λ e. not_null-junk (c.regs r) (esp_type c r h e)) h
  refine-esp s c (Bound i a) Below h = h
  refine-esp s c (IsA r d) Equal h = meet-esp s c r (c.regs r) d (esp_type c r h) h
  refine-esp s c k told h = h

  -- what falls through, where no rule fails
  falls_to-esp : (v : ShownImage) (a : ContextView) (pc next : ℕ) (f : Form) → rule_of_form v a pc next f ≡ None → HasJunkEsp a → HasJunkEsp (falls_to v a pc f)
  unfolding falls_to falling
  falls_to-esp v Dead pc next f e h = tt
  falls_to-esp v (Live c) pc next Return e h = tt
  falls_to-esp v (Live c) pc next (Jump t) e h = tt
  falls_to-esp v (Live c) pc next (Branch k t) e h = refine-esp v.shapes c c.kind (told_by_fall k) h
  falls_to-esp v (Live c) pc next f e h = after_form-esp v c pc f (no_operand_rule types v c pc next f e) h

  -- the same of an instruction
  falls-esp : (v : ShownImage) (a : ContextView) (x : PlacedInst) → NoRuleAt v a x → HasJunkEsp a → HasJunkEsp (falls_from v a x)
  unfolding Falls rule_of
  falls-esp v a x e h =
      falls_to-esp v a x.pc (next_address x.pc x.len) (form_of (next_address x.pc x.len) x.inst) (no_number _ (none-rule v a x.pc x.inst x.len e)) h

  -- the context of a signature
  entry-esp : (sig : Sig) → HasJunkEsp (entry sig)
  unfolding entry plain register_type
  entry-esp sig = refl

  -- what stands at an address
  start-esp : (v : ShownImage) → BlocksHaveJunkEsp v → (pc : ℕ) (a : ContextView) → HasJunkEsp a → HasJunkEsp (start v pc a)
  unfolding start known_at
  start-esp v blocks pc a h = go (option_and_then v.sig (v.function_at pc)) (v.block_at pc) refl
    where
      go : (o : Option Sig) (b : Option ContextView) → v.block_at pc ≡ b → HasJunkEsp (carried a (option_or (option_map entry o) b))
      go (Some sig) b e = entry-esp sig
      go None (Some d) e = blocks pc d e
      go None None e = h

  -- the contexts of instructions one after another, where no rule fails
  at_in-esp : (v : ShownImage) → BlocksHaveJunkEsp v → (xs : List PlacedInst) (a : ContextView) (pc : ℕ) → NoneFails v xs (contexts v xs a) → HasJunkEsp a → HasJunkEsp (at_in v xs a pc)
  unfolding at_in
  at_in-esp v blocks [] a pc n h = tt
  at_in-esp v blocks (x ∷ xs) a pc n h =
      let s = start-esp v blocks x.pc a h in
      either-esp (nat_eq x.pc pc) _ _ s (at_in-esp v blocks xs (falls_from v (start v x.pc a) x) pc n.1 (falls-esp v (start v x.pc a) x n.0 s))

  -- and each strongest context
  pub at-esp : (v : ShownImage) → BlocksHaveJunkEsp v → (xs : List PlacedInst) (pc : ℕ) → NoneFails v xs (contexts v xs Dead) → HasJunkEsp (At v xs pc)
  unfolding At
  at-esp v blocks xs pc n = at_in-esp v blocks xs Dead pc n tt
