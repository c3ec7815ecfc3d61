-- What a spelled instruction's operands are: one at most is in memory, ESP is never an index, and what is used lives.
use Rattle.std.proofs.Common.{◌≡◌, ◌≢◌, ℕ, Bool, true, false, ◌&&◌, ◌⊎◌, inl, inr, Option, Some, None, refl, ap, arith}
use Rattle.std.specs.Prelude.{◌==◌, if◌then◌else◌, option_map}
use Rattle.ia32_code.specs.declared.instruction.Reg.{Reg}
use Rattle.ia32_code.specs.declared.instruction.Reg.TheVariants.{Esp}
use Rattle.ia32_code.specs.declared.instruction.Alu.{Alu}
use Rattle.ia32_code.specs.declared.instruction.Shift.{Shift}
use Rattle.ia32_code.specs.declared.instruction.Count.{Count}
use Rattle.ia32_code.specs.declared.instruction.Count.TheVariants.{By, Cl}
use Rattle.ia32_code.specs.declared.instruction.Mem.{Mem}
use Rattle.ia32_code.specs.declared.instruction.Operand.{Operand}
use Rattle.ia32_code.specs.declared.instruction.Operand.TheVariants.{R, M, I}
use Rattle.ia32_code.specs.declared.instruction.Inst.{Inst}
use Rattle.ia32_code.specs.declared.instruction.Inst.TheVariants as inst
use Rattle.ia32_code.specs.declared.operand_form.OperandForm.{OperandForm}
use Rattle.ia32_code.specs.declared.spelling.Spelling.{Spelling}
use Rattle.ia32_code.specs.declared.row.Row.{Row}
use Rattle.ia32_code.specs.OperandForms.{number}
use Rattle.ia32_code.specs.Spells.{text}
use Rattle.tal_image.specs.Image.{ImageParts}
use Rattle.typed_machine.specs.States.{State}
use Rattle.typed_safety.specs.Laws.{PointsToLiving, OperandsLive}
use Rattle.ia32_code.specs.Canonical.{usable, memory_form, shortest_form, with_form, is_absolute, alu_of, mov_of, test_of, step_of, imul2_of, imul3_of, shift_of, push_of, Canonical}

-- ---- what is said of operands

-- an operand's index is not ESP
abbrev pub SparesIndex : Operand → Type 0
SparesIndex (R r) = Unit {0}
SparesIndex (M x) = x.index ≢ Some Esp
SparesIndex (I n) = Unit {0}

-- one of two operands at most is in memory
abbrev pub OneInMemory : Operand → Operand → Type 0
OneInMemory (M a) (M b) = ⊥
OneInMemory d x = Unit {0}

-- the operand is no number
abbrev pub IsNoNumber : Operand → Type 0
IsNoNumber (R r) = Unit {0}
IsNoNumber (M x) = Unit {0}
IsNoNumber (I n) = ⊥

-- of two operands this is said of both, and one at most is in memory
pub record PairIsPlain (Said : Operand → Type 0) (d x : Operand) : Type 0 where
  pub first : Said d
  pub second : Said x
  pub one : OneInMemory d x

-- so it is with the operands of an instruction that are read or written
abbrev pub IsPlain : (Operand → Type 0) → Inst → Type 0
IsPlain Said (inst.Alu op d x) = PairIsPlain Said d x
IsPlain Said (inst.Mov d x) = PairIsPlain Said d x
IsPlain Said (inst.Lea d x) = Unit {0}
IsPlain Said (inst.Test d x) = PairIsPlain Said d x
IsPlain Said (inst.Inc d) = Said d
IsPlain Said (inst.Dec d) = Said d
IsPlain Said (inst.Not d) = Said d
IsPlain Said (inst.Neg d) = Said d
IsPlain Said (inst.Mul x) = Said x
IsPlain Said (inst.Imul1 x) = Said x
IsPlain Said (inst.Div x) = Said x
IsPlain Said (inst.Idiv x) = Said x
IsPlain Said (inst.Imul2 d x) = PairIsPlain Said d x
IsPlain Said (inst.Imul3 d x n) = PairIsPlain Said d x
IsPlain Said (inst.Shift op d by) = Said d
IsPlain Said inst.Cdq = Unit {0}
IsPlain Said inst.Nop = Unit {0}
IsPlain Said (inst.Push x) = Said x
IsPlain Said (inst.Pop r) = Unit {0}
IsPlain Said (inst.CallRel z) = Unit {0}
IsPlain Said (inst.CallAt x) = Said x × IsNoNumber x
IsPlain Said inst.Ret = Unit {0}
IsPlain Said (inst.Jmp z) = Unit {0}
IsPlain Said (inst.Jcc c z) = Unit {0}
IsPlain Said (inst.Priv op arg) = Unit {0}

-- ---- forms of memory operands

-- a filled row that there is has a text
abbrev IsSpelled : Option Spelling → Type 0
IsSpelled s = option_map text s ≢ None

-- a register that may be an index is not ESP
usable-spares : (i : Reg) (s : ℕ) → usable i s ≡ true → Some i ≢ Some Esp
usable-spares Esp s h e = absurd (cc)
usable-spares i s h e = absurd (cc)

-- a form that hangs on a test passes it
passed : (t : Bool) (f : OperandForm) → (if t then Some f else None) ≢ None → t ≡ true
passed true f h = refl
passed false f h = absurd (h refl)

-- an operand in memory that has a form
memory_form-spares : (b i : Option Reg) (s d : ℕ) → memory_form b i s d ≢ None → i ≢ Some Esp
memory_form-spares b None s d h e = absurd (cc)
memory_form-spares None (Some i) s d h e = usable-spares i s (passed (usable i s) _ h) e
memory_form-spares (Some b) (Some i) s d h e = usable-spares i s (passed (usable i s) _ h) e

-- any operand that has a form
shortest_form-spares : (o : Operand) → shortest_form o ≢ None → SparesIndex o
shortest_form-spares (R r) h = tt
shortest_form-spares (M m) h = memory_form-spares m.base m.index m.scale m.disp h
shortest_form-spares (I n) h = tt

-- an operand whose form a spelled row has
formed : (o : Operand) (s : OperandForm → Spelling) → IsSpelled (with_form (shortest_form o) s) → SparesIndex o
formed o s h = shortest_form-spares o (λ e. h (ap (λ f. option_map text (with_form f s)) e))

-- and it is no number
form_no_number : (o : Operand) (s : OperandForm → Spelling) → IsSpelled (with_form (shortest_form o) s) → IsNoNumber o
form_no_number (R r) s h = tt
form_no_number (M m) s h = tt
form_no_number (I n) s h = absurd (h refl)

-- one of two rows is spelled
split : (t : Bool) (x y : Option Spelling) → IsSpelled (if t then x else y) → (t ≡ true) ⊎ IsSpelled y
split true x y h = inl refl
split false x y h = inr h

-- the second of two tests
second-holds : (a b : Bool) → (a && b) ≡ true → b ≡ true
second-holds true b h = h
second-holds false b h = grind arith

-- an address alone has no index
absolute-spares : (b i : Option Reg) (s : ℕ)
    → (elim b as (λ _. Bool) [ None ↦ (elim i as (λ _. Bool) [ None ↦ s == 0 | Some j ↦ false ]) | Some k ↦ false ]) ≡ true → i ≢ Some Esp
absolute-spares None None s h e = absurd (cc)
absolute-spares None (Some i) s h e = absurd (cc)
absolute-spares (Some b) i s h e = absurd (cc)

-- where EAX and an address alone have a row of their own
eax-or-form : (r : Reg) (m : Mem) (x : Option Spelling) (s : OperandForm → Spelling)
    → IsSpelled (if (number r == 0) && is_absolute m then x else with_form (shortest_form (M m)) s) → SparesIndex (M m)
eax-or-form r m x s h =
    elim (split ((number r == 0) && is_absolute m) x (with_form (shortest_form (M m)) s) h) as (λ _. m.index ≢ Some Esp) [
      | inl e ↦ absolute-spares m.base m.index m.scale (second-holds (number r == 0) (is_absolute m) e)
      | inr k ↦ formed (M m) s k
    ]

-- ---- by groups of instructions

-- one operand is a register or a number
beside-register : (d : Operand) (r : Reg) → OneInMemory d (R r)
beside-register (R q) r = tt
beside-register (M m) r = tt
beside-register (I n) r = tt

beside-number : (d : Operand) (n : ℕ) → OneInMemory d (I n)
beside-number (R q) n = tt
beside-number (M m) n = tt
beside-number (I k) n = tt

-- the operations on two operands
alu_of-plain : (op : Alu) (dst src : Operand) → IsSpelled (alu_of op dst src) → PairIsPlain SparesIndex dst src
alu_of-plain op dst (R r) h = record { first = formed dst _ h; second = tt; one = beside-register dst r }
alu_of-plain op dst (I n) h = record { first = formed dst _ h; second = tt; one = beside-number dst n }
alu_of-plain op (R r) (M m) h = record { first = tt; second = formed (M m) _ h; one = tt }
alu_of-plain op (M k) (M m) h = absurd (h refl)
alu_of-plain op (I k) (M m) h = absurd (h refl)

-- MOV
mov_of-plain : (dst src : Operand) → IsSpelled (mov_of dst src) → PairIsPlain SparesIndex dst src
mov_of-plain (R d) (R r) h = record { first = tt; second = tt; one = tt }
mov_of-plain (R d) (I n) h = record { first = tt; second = tt; one = tt }
mov_of-plain (R d) (M m) h = record { first = tt; second = eax-or-form d m _ _ h; one = tt }
mov_of-plain (M m) (R r) h = record { first = eax-or-form r m _ _ h; second = tt; one = tt }
mov_of-plain (M m) (I n) h = record { first = formed (M m) _ h; second = tt; one = tt }
mov_of-plain (M m) (M k) h = absurd (h refl)
mov_of-plain (I n) src h = absurd (h refl)

-- TEST
test_of-plain : (dst src : Operand) → IsSpelled (test_of dst src) → PairIsPlain SparesIndex dst src
test_of-plain dst (R r) h = record { first = formed dst _ h; second = tt; one = beside-register dst r }
test_of-plain dst (I n) h = record { first = formed dst _ h; second = tt; one = beside-number dst n }
test_of-plain dst (M m) h = absurd (h refl)

-- INC and DEC
step_of-plain : (short : Reg → Row) (row : Row) (g : ℕ) (o : Operand) → IsSpelled (step_of short row g o) → SparesIndex o
step_of-plain short row g (R r) h = tt
step_of-plain short row g (M m) h = formed (M m) _ h
step_of-plain short row g (I n) h = tt

-- IMUL of two operands
imul2_of-plain : (dst src : Operand) → IsSpelled (imul2_of dst src) → PairIsPlain SparesIndex dst src
imul2_of-plain (R d) src h = record { first = tt; second = formed src _ h; one = tt }
imul2_of-plain (M m) src h = absurd (h refl)
imul2_of-plain (I n) src h = absurd (h refl)

-- IMUL of three operands
imul3_of-plain : (dst src : Operand) (n : ℕ) → IsSpelled (imul3_of dst src n) → PairIsPlain SparesIndex dst src
imul3_of-plain (R d) src n h = record { first = tt; second = formed src _ h; one = tt }
imul3_of-plain (M m) src n h = absurd (h refl)
imul3_of-plain (I k) src n h = absurd (h refl)

-- the shifts
shift_of-plain : (op : Shift) (o : Operand) (by : Count) → IsSpelled (shift_of op o by) → SparesIndex o
shift_of-plain op o (By n) h = formed o _ h
shift_of-plain op o Cl h = formed o _ h

-- PUSH
push_of-plain : (o : Operand) → IsSpelled (push_of o) → SparesIndex o
push_of-plain (R r) h = tt
push_of-plain (M m) h = formed (M m) _ h
push_of-plain (I n) h = tt

-- an instruction with a canonical spelling
pub Canonical-plain : (i : Inst) → Canonical i ≢ None → IsPlain SparesIndex i
Canonical-plain (inst.Alu op d x) h = alu_of-plain op d x h
Canonical-plain (inst.Mov d x) h = mov_of-plain d x h
Canonical-plain (inst.Lea d x) h = tt
Canonical-plain (inst.Test d x) h = test_of-plain d x h
Canonical-plain (inst.Inc o) h = step_of-plain _ _ 0 o h
Canonical-plain (inst.Dec o) h = step_of-plain _ _ 1 o h
Canonical-plain (inst.Not o) h = formed o _ h
Canonical-plain (inst.Neg o) h = formed o _ h
Canonical-plain (inst.Mul o) h = formed o _ h
Canonical-plain (inst.Imul1 o) h = formed o _ h
Canonical-plain (inst.Div o) h = formed o _ h
Canonical-plain (inst.Idiv o) h = formed o _ h
Canonical-plain (inst.Imul2 d x) h = imul2_of-plain d x h
Canonical-plain (inst.Imul3 d x n) h = imul3_of-plain d x n h
Canonical-plain (inst.Shift op o by) h = shift_of-plain op o by h
Canonical-plain inst.Cdq h = tt
Canonical-plain inst.Nop h = tt
Canonical-plain (inst.Push o) h = push_of-plain o h
Canonical-plain (inst.Pop r) h = tt
Canonical-plain (inst.CallRel z) h = tt
Canonical-plain (inst.CallAt o) h = (formed o _ h, form_no_number o _ h)
Canonical-plain inst.Ret h = tt
Canonical-plain (inst.Jmp z) h = tt
Canonical-plain (inst.Jcc c z) h = tt
Canonical-plain (inst.Priv op arg) h = tt

-- ---- operands in memory that may be used

-- an operand in memory spares ESP as its index, and what it points to lives
abbrev pub MayUse : ImageParts → (ℕ → Bool) → State → Operand → Type 0
MayUse image live s (M x) = (x.index ≢ Some Esp) × PointsToLiving image live s (M x)
MayUse image live s x = Unit {0}

module _ (image : ImageParts) (live : ℕ → Bool) (s : State) where
  -- so it is with one operand
  may_use : (x : Operand) → SparesIndex x → PointsToLiving image live s x → MayUse image live s x
  may_use (R r) spares lives = tt
  may_use (M a) spares lives = (spares, lives)
  may_use (I n) spares lives = tt

  -- and with two
  both-used : (d x : Operand) → PairIsPlain SparesIndex d x → PointsToLiving image live s d × PointsToLiving image live s x → PairIsPlain (MayUse image live s) d x
  both-used d x p lives = record { first = may_use d p.first lives.0; second = may_use x p.second lives.1; one = p.one }

  -- and with those of an instruction
  pub plain-used : (i : Inst) → IsPlain SparesIndex i → OperandsLive image live s i → IsPlain (MayUse image live s) i
  plain-used (inst.Alu op d x) p lives = both-used d x p lives
  plain-used (inst.Mov d x) p lives = both-used d x p lives
  plain-used (inst.Lea d x) p lives = tt
  plain-used (inst.Test d x) p lives = both-used d x p lives
  plain-used (inst.Inc d) p lives = may_use d p lives
  plain-used (inst.Dec d) p lives = may_use d p lives
  plain-used (inst.Not d) p lives = may_use d p lives
  plain-used (inst.Neg d) p lives = may_use d p lives
  plain-used (inst.Mul x) p lives = may_use x p lives
  plain-used (inst.Imul1 x) p lives = may_use x p lives
  plain-used (inst.Div x) p lives = may_use x p lives
  plain-used (inst.Idiv x) p lives = may_use x p lives
  plain-used (inst.Imul2 d x) p lives = both-used d x p lives
  plain-used (inst.Imul3 d x n) p lives = both-used d x p lives
  plain-used (inst.Shift op d by) p lives = may_use d p lives
  plain-used inst.Cdq p lives = tt
  plain-used inst.Nop p lives = tt
  plain-used (inst.Push x) p lives = may_use x p lives
  plain-used (inst.Pop r) p lives = tt
  plain-used (inst.CallRel z) p lives = tt
  plain-used (inst.CallAt x) p lives = (may_use x p.0 lives, p.1)
  plain-used inst.Ret p lives = tt
  plain-used (inst.Jmp z) p lives = tt
  plain-used (inst.Jcc c z) p lives = tt
  plain-used (inst.Priv op arg) p lives = tt
