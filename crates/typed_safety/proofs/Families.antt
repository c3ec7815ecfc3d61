-- Operands that are compared: by their types' families, and what flags tell of them.
use Rattle.std.proofs.Common.{◌≡◌, ◌≢◌, ◌⊎◌, ◌∙◌, sym, ap, ℕ, Bool, true, if◌then◌else◌, Option, Some, None, is_some, refl, arith, [], ◌∷◌}
use Rattle.std.specs.Option.{option_map, option_map_or}
use Rattle.ia32_code.specs.declared.instruction.Reg.{Reg}
use Rattle.ia32_code.specs.declared.instruction.Reg.TheVariants.{Esp}
use Rattle.ia32_code.specs.declared.instruction.Cond.{Cond}
use Rattle.ia32_code.specs.declared.instruction.Alu.TheVariants as alu
use Rattle.ia32_code.specs.declared.instruction.Operand.{Operand}
use Rattle.ia32_code.specs.declared.instruction.Operand.TheVariants.{R, M, I}
use Rattle.ia32_code.specs.declared.instruction.Inst.TheVariants as inst
use Rattle.stack_states.specs.declared.flag_bits.FlagBits.{FlagBits}
use Rattle.ia32_step.specs.Effects.{executed}
use Rattle.tal_types.specs.declared.types.Ty.{Ty}
use Rattle.tal_types.specs.declared.types.Ty.TheVariants as ty
use Rattle.tal_types.specs.declared.types.FlagKind.{FlagKind}
use Rattle.tal_types.specs.declared.types.FlagKind.TheVariants as kind
use Rattle.tal_types.specs.declared.views.Mark.{Mark}
use Rattle.tal_types.specs.Contexts.{LiveContext, same}
use Rattle.tal_types.specs.Shown.{ShownImage}
use Rattle.tal_flow.specs.declared.places.Place.{Place}
use Rattle.tal_flow.specs.declared.places.Place.TheVariants.{Display}
use Rattle.tal_flow.specs.declared.rows.Family.{Family}
use Rattle.tal_flow.specs.declared.rows.Family.TheVariants.{Numbers, Objects, Arrays, Others}
use Rattle.tal_flow.specs.Places.{place_type, is_readable, spares_esp, found, readable, operand_place, operand_type}
use Rattle.tal_flow.specs.Rows.{family, has_null, first_head, null_kind}
use Rattle.tal_flow.specs.Afterwards.{with_kind}
use Rattle.tal_flow.specs.Edges.{allows}
use Rattle.tal_image.specs.Shown.{shown}
use Rattle.typed_machine.specs.Values.{Value, Number, Word, fits_among}
use Rattle.typed_machine.specs.States.{State, Known, Equality, places_of, with_flags}
use Rattle.typed_machine.specs.Operands.{marked_value, operand_value, word_among}
use Rattle.typed_machine.specs.Words.{words_of}
use Rattle.typed_machine.specs.Effects.{goes_on, is_known, is_object, may_be_null, is_bare_zero, known_of_values, is_display, known_of}
use Rattle.typed_machine.specs.Frames.{Scope, fits_in}
use Rattle.typed_machine.specs.Typing.{KindTold, is_null}
use Rattle.typed_safety.specs.Laws.{ImageLaws}
use Rattle.typed_safety.proofs.Scopes.{resolved, type_of, value_of, place_of}
use Rattle.typed_safety.proofs.Frames.{ValueFits}
use Rattle.typed_safety.proofs.Fitted.{StateFits, place-fits}
use Rattle.typed_safety.proofs.Reading.{operand-read}
use Rattle.typed_safety.proofs.Operations.{Leads, flags-fit}

-- ---- values of a family

-- a value of the family is a number
pub number-family : (l : Scope) (w : Value) (t : Ty) → fits_in l w t ≡ true → family t ≡ Numbers → (n : ℕ) × (w ≡ Number n)
unfolding fits_among
number-family l (Number n) t h e = (n, refl)
number-family l w t h e = absurd (grind arith)

-- a reference, or null
pub object_family : (l : Scope) (w : Value) (t : Ty) → fits_in l w t ≡ true → (family t ≡ Objects) ⊎ (family t ≡ Arrays) → is_object w ≡ true
unfolding fits_among
object_family l w t h e = grind arith

-- null, or what has a type beside null
pub null-family : (l : Scope) (w : Value) (t : Ty) → fits_in l w t ≡ true → has_null (family t) ≡ true → may_be_null w ≡ true
unfolding fits_among
null-family l w t h e = grind arith

-- what may be null is no number
pub null-known : (w u : Value) (bare : Bool) → may_be_null w ≡ true → bare ≡ true → known_of_values w u bare ≡ Some Equality
unfolding known_of_values
null-known w u bare h e = grind arith

-- two objects
pub objects_known : (w u : Value) (bare : Bool) → is_object w ≡ true → is_object u ≡ true → known_of_values w u bare ≡ Some Equality
unfolding known_of_values
objects_known w u bare h e = grind arith

-- the register whose object's table is in another
pub first_head-some : (c : LiveContext) (t r : Reg) → first_head c t ≡ Some r → c.heads t r ≡ true
first_head-some c t r e = grind arith

-- such a family is not the last one
pub null-other : (f : Family) → has_null f ≡ true → f ≢ Others
null-other f h e = grind arith

-- nor is that of objects or arrays
pub object_other : (f g : Family) → (g ≡ Objects) ⊎ (g ≡ Arrays) → f ≡ g → f ≢ Others
object_other f g which e n = grind arith

-- it is one of the two
pub object_which : (f g : Family) → (g ≡ Objects) ⊎ (g ≡ Arrays) → f ≡ g → (f ≡ Objects) ⊎ (f ≡ Arrays)
object_which f g which e = grind arith

-- ---- what the flags tell

-- there is something known, and flags tell what the kind says
abbrev pub FlagsTell : Scope → State → FlagBits → Option Known → FlagKind → Type 0
FlagsTell l s f None k = ⊥
FlagsTell l s f (Some known) k = ((a : Cond) → allows k a ≡ true → is_known known a ≡ true) × KindTold l (record s.thread { flags = f; known = known }) k

-- the flags of CMP
abbrev pub compared : ShownImage → State → Operand → Operand → FlagBits
compared v s d x = (executed (inst.Alu alu.Cmp d x) (words_of s (word_among v s (d ∷ x ∷ [])))).flags

-- what CMP knows of its operands
abbrev pub known_by_compare : Scope → State → Operand → Operand → Option Known
known_by_compare l s d x = known_of (value_of l s d) (value_of l s x) (is_bare_zero x (value_of l s x)) (is_display (shown l.image) s d)

-- the word of what the running instruction's mark stands for is the number that is marked
abbrev pub MarksHold : Scope → State → Operand → Type 0
MarksHold l s x = (n : ℕ) (mark : Mark) → x ≡ I n → (shown l.image).mark_at s.thread.place ≡ Some mark → Word (places_of s) (marked_value n mark) ≡ n

module _ (l : Scope) (result : Ty) (c : LiveContext) (s : State) (h : StateFits l result c s) where
  -- they lead on
  pub flags-lead : (next : ℕ) (f : FlagBits) (o : Option Known) (k : FlagKind) → FlagsTell l s f o k
      → Leads l result (with_kind k c) next (option_map (λ known. goes_on next (with_flags f known s)) o)
  flags-lead next f None k t = t
  flags-lead next f (Some known) k t = (refl, place-fits l result _ _ next (flags-fit l result c s k f known h t.0 t.1))

-- what is equal tells equality alone
pub equal-tells : (l : Scope) (s : State) (f : FlagBits) → FlagsTell l s f (Some Equality) kind.Eq
unfolding allows is_known
equal-tells l s f = (λ a allowed. grind arith, tt)

-- a comparison with null
pub null-tells : (l : Scope) (s : State) (f : FlagBits) (d : Operand) (w : Value) (v : ShownImage) → operand_value v s d ≡ Some w → (((r : Reg) → d ≡ R r → f.zero ≡ is_null w))
    → FlagsTell l s f (Some Equality) (null_kind d)
unfolding operand_value allows is_known
null-tells l s f (R r) w v e zero = (λ a allowed. grind arith, zero r refl ∙ ap is_null (sym (held (same r Esp) e)))
  where
    held : (b : Bool) → (if b then None else Some (s.thread.regs r)) ≡ Some w → s.thread.regs r ≡ w
    held b e = grind arith
null-tells l s f (M m) w v e zero = (λ a allowed. grind arith, tt)
null-tells l s f (I n) w v e zero = (λ a allowed. grind arith, tt)

-- an operand spares ESP, and memory has a place
pub record IsFound (l : Scope) (c : LiveContext) (s : State) (x : Operand) : Type 0 where
  pub spares : spares_esp x ≡ true
  pub finds : found (resolved l c s x) ≡ true

-- what a register that is read holds
pub register-holds : (l : Scope) (s : State) (r : Reg) (w : Value) → value_of l s (R r) ≡ Some w → s.thread.regs r ≡ w
unfolding operand_value
register-holds l s r w e = grind arith

module _ (l : Scope) (result : Ty) (c : LiveContext) (s : State) (h : StateFits l result c s) (laws : ImageLaws l.image) where
  -- what is compared is no display, where it has a family
  pub family-readable : (x : Operand) → found (resolved l c s x) ≡ true → family (type_of l c s x) ≢ Others
      → readable (resolved l c s x) ≡ true
  unfolding found readable operand_place operand_type
  family-readable (R r) a n = refl
  family-readable (I k) a n = refl
  family-readable (M m) a n = go (place_of l c m) a n
    where
      go : (p : Option Place) → is_some p ≡ true → family (option_map_or (place_type c) p ty.Junk) ≢ Others → option_map_or is_readable p true ≡ true
      go None a n = absurd (grind arith)
      go (Some (Display t k)) a n = absurd (n refl)
      go (Some p) a n = refl

  -- the value of an operand that has a family
  pub family-value : (x : Operand) → IsFound l c s x → family (type_of l c s x) ≢ Others
      → (w : Value) × (value_of l s x ≡ Some w) × (fits_in l w (type_of l c s x) ≡ true)
  family-value x is n = go (value_of l s x) refl (operand-read l result c s h laws x is.spares is.finds (family-readable x is.finds n))
    where
      go : (o : Option Value) → value_of l s x ≡ o → ValueFits l o (type_of l c s x)
          → (w : Value) × (value_of l s x ≡ Some w) × (fits_in l w (type_of l c s x) ≡ true)
      go None e f = absurd f
      go (Some w) e f = (w, e, f)
