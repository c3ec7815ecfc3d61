use Rattle.std.specs.Prelude.{◌≡◌, ◌==◌, Bool, true, false, not, ◌&&◌, ◌||◌, List, [], ◌∷◌, slice_index_or}
use Rattle.ia32_code.specs.OperandForms.{number}
use Rattle.ia32_code.specs.declared.instruction.Reg.{Reg}
use Rattle.ia32_code.specs.declared.instruction.Reg.TheVariants.{Eax, Ecx, Edx, Ebx, Esp, Ebp, Esi, Edi}
use Rattle.object_layout.specs.Classes.{ShapesView}
use Rattle.tal_types.specs.declared.types.Ty.{Ty}
use Rattle.tal_types.specs.declared.types.Ty.TheVariants.{Junk}
use Rattle.tal_types.specs.declared.types.FlagKind.{FlagKind}
use Rattle.tal_types.specs.declared.types.FlagKind.TheVariants.{Lost, Eq, Num, NullTest, Bound, IsA}
use Rattle.tal_types.specs.declared.signatures.Sig.{Sig}
use Rattle.tal_types.specs.Types.{sub}

-- Contexts, what is known before an instruction, and their order.

-- what is known where a run may come: a type for each register, the types of the frame's slots, slot 0
-- first, what the flags tell, and two relations of registers. pairs i a: register i is below the length
-- of the array in a. heads t r: t holds the table of the object in r
pub record LiveContext : Type 0 where
  pub regs : Reg → Ty
  pub slots : List Ty
  pub kind : FlagKind
  pub pairs : Reg → Reg → Bool
  pub heads : Reg → Reg → Bool

-- a context: dead where no run comes, or live
pub data ContextView : Type 0 where
  Dead : ContextView
  Live : LiveContext → ContextView

-- the two are one register
unfoldable pub same : Reg → Reg → Bool
same r q = number r == number q

-- whether the first kind is below the second: what is known of the flags lets both be used
unfoldable pub kind_below : FlagKind → FlagKind → Bool
kind_below k Lost = true
kind_below Eq Eq = true
kind_below Num Eq = true
kind_below Num Num = true
kind_below (NullTest r) Eq = true
kind_below (NullTest r) (NullTest q) = same r q
kind_below (Bound i a) Eq = true
kind_below (Bound i a) Num = true
kind_below (Bound i a) (Bound j b) = same i j && same a b
kind_below (IsA r c) Eq = true
kind_below (IsA r c) (IsA q d) = same r q && (c == d)
kind_below _ _ = false

-- the lists are equally long, and each type is below the other's
unfoldable pub all_sub : ShapesView → List Ty → List Ty → Bool
all_sub s [] [] = true
all_sub s (t ∷ ts) (u ∷ us) = sub s t u && all_sub s ts us
all_sub s _ _ = false

-- the first live context is below the second: its types, slots and kind are, and it has all the other's pairs and heads
pub record LiveBelow (s : ShapesView) (a b : LiveContext) : Type 0 where
  pub regs : (r : Reg) → sub s (a.regs r) (b.regs r) ≡ true
  pub slots : all_sub s a.slots b.slots ≡ true
  pub kind : kind_below a.kind b.kind ≡ true
  pub pairs : (i r : Reg) → b.pairs i r ≡ true → a.pairs i r ≡ true
  pub heads : (t r : Reg) → b.heads t r ≡ true → a.heads t r ≡ true

-- the first context is below the second; the dead one is below all
abbrev pub ContextBelow : ShapesView → ContextView → ContextView → Type 0
ContextBelow s Dead b = Unit {0}
ContextBelow s (Live a) Dead = ⊥
ContextBelow s (Live a) (Live b) = LiveBelow s a b

-- a test of each register
abbrev pub every : (Reg → Bool) → Bool
every p = p Eax && (p Ecx && (p Edx && (p Ebx && (p Esp && (p Ebp && (p Esi && p Edi))))))

-- the first relation has all of the second
unfoldable pub has_all : (Reg → Reg → Bool) → (Reg → Reg → Bool) → Bool
has_all p q = every (λ r. every (λ t. not (q r t) || p r t))

-- the order of live contexts as a test
unfoldable pub live_below : ShapesView → LiveContext → LiveContext → Bool
live_below s a b =
    every (λ r. sub s (a.regs r) (b.regs r))
    && (all_sub s a.slots b.slots && (kind_below a.kind b.kind && (has_all a.pairs b.pairs && has_all a.heads b.heads)))

-- the order of contexts as a test
unfoldable pub context_below : ShapesView → ContextView → ContextView → Bool
context_below s Dead b = true
context_below s (Live a) Dead = false
context_below s (Live a) (Live b) = live_below s a b

-- the type of a register among those of EAX, ECX, EDX, EBX, EBP, ESI and EDI; ESP has none
unfoldable pub register_type : List Ty → Reg → Ty
register_type types Eax = slice_index_or types 0 Junk
register_type types Ecx = slice_index_or types 1 Junk
register_type types Edx = slice_index_or types 2 Junk
register_type types Ebx = slice_index_or types 3 Junk
register_type types Esp = Junk
register_type types Ebp = slice_index_or types 4 Junk
register_type types Esi = slice_index_or types 5 Junk
register_type types Edi = slice_index_or types 6 Junk

-- types alone: nothing is known of the flags, and no pairs and heads
unfoldable pub plain : List Ty → List Ty → ContextView
plain types slots = Live (record { regs = register_type types; slots = slots; kind = Lost; pairs = λ i a. false; heads = λ t r. false })

-- the context at a function's first instruction: its parameters, and no slots
unfoldable pub entry : Sig → ContextView
entry sig = plain sig.params []
