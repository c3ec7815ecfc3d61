-- What an instruction's form tells of the instruction, and of what it does to words.
use Rattle.std.proofs.Common.{◌≡◌, ◌%◌, ◌==◌, ℕ, Bool, true, false, if◌then◌else◌, Option, Some, None, Result, Ok, Err, refl, subst, List, [], ◌∷◌, length, slice_get}
use Rattle.std.specs.Option.{option_map_or}
use Rattle.ia32_code.specs.declared.instruction.Reg.{Reg}
use Rattle.ia32_code.specs.declared.instruction.Reg.TheVariants.{Eax, Ecx, Edx, Esp}
use Rattle.ia32_code.specs.declared.instruction.Alu.TheVariants as alu
use Rattle.ia32_code.specs.declared.instruction.Count.TheVariants.{By, Cl}
use Rattle.ia32_code.specs.declared.instruction.Shift.{Shift}
use Rattle.ia32_code.specs.declared.instruction.Operand.{Operand}
use Rattle.ia32_code.specs.declared.instruction.Operand.TheVariants.{R, M, I}
use Rattle.ia32_code.specs.declared.instruction.Inst.{Inst}
use Rattle.ia32_code.specs.declared.instruction.Inst.TheVariants as inst
use Rattle.ia32_code.specs.declared.reading.Stop.{Stop}
use Rattle.ia32_code.specs.declared.reading.Stop.TheVariants.{Short, Unknown}
use Rattle.ia32_code.specs.declared.row.Row.{Row}
use Rattle.ia32_code.specs.declared.row.Row.TheVariants.{Imul3Byte}
use Rattle.ia32_code.specs.declared.spelling.Spelling.{Spelling}
use Rattle.ia32_code.specs.OperandForms.{operand}
use Rattle.ia32_code.specs.Table.{line}
use Rattle.ia32_code.specs.Reading.{spelling_at}
use Rattle.ia32_code.specs.Spells.{meaning}
use Rattle.ia32_code.specs.Decoding.{decoded_as, decoded}
use Rattle.ia32_code.specs.declared.decoding.Decoded.TheVariants.{One}
use Rattle.ia32_step.specs.Operands.{WordState}
use Rattle.ia32_step.specs.Effects.{executed}
use Rattle.tal_types.specs.declared.types.FlagKind.{FlagKind}
use Rattle.tal_types.specs.declared.types.FlagKind.TheVariants as kind
use Rattle.tal_flow.specs.declared.forms.Form.{Form}
use Rattle.tal_flow.specs.declared.forms.Form.TheVariants.{Compute, Compare, TestBits}
use Rattle.tal_flow.specs.Forms.{form_of}

-- ---- spelled instructions

-- a product of two operands goes to a register, where it has a third
abbrev pub MultipliesIntoRegister : Inst → Type 0
MultipliesIntoRegister (inst.Imul3 (R r) x n) = Unit {0}
MultipliesIntoRegister (inst.Imul3 d x n) = ⊥
MultipliesIntoRegister i = Unit {0}

-- so it is with each line of the table of spellings
line-multiplies : (row : Row) (r : Reg) (m : Operand) (n : ℕ) → MultipliesIntoRegister ((line row).gives r m n)
line-multiplies Imul3Byte r m n = tt
line-multiplies row r m n = tt

-- so it is with an instruction that bytes begin with
pub front-multiplies : (bytes : List ℕ) (i : Inst) (len : ℕ) → decoded bytes ≡ One i len → MultipliesIntoRegister i
unfolding decoded
front-multiplies bytes i len h = go (spelling_at bytes) h
  where
    go : (r : Result (Spelling × List ℕ) Stop) → decoded_as (length bytes) r ≡ One i len → MultipliesIntoRegister i
    go (Ok x) e = let same : meaning x.0 ≡ i = cc in subst MultipliesIntoRegister same (line-multiplies x.0.row x.0.reg (operand x.0.form) x.0.number)
    go (Err Short) e = absurd (cc)
    go (Err Unknown) e = absurd (cc)

-- ---- forms

-- the kind tells nothing of registers
abbrev pub is_plain : FlagKind → Bool
is_plain kind.Lost = true
is_plain kind.Eq = true
is_plain kind.Num = true
is_plain k = false

-- memory that is written is the first source
abbrev pub WritesSource : List Operand → Operand → Type 0
WritesSource sources (R r) = Unit {0}
WritesSource sources (M m) = slice_get sources 0 ≡ Some (M m)
WritesSource sources (I n) = Unit {0}

-- an operation gives a plain kind, or it leaves the flags; and it writes a register or its first source
pub record OperationTells (i : Inst) (sources : List Operand) (d : Operand) (k : Option FlagKind) : Type 0 where
  pub plain : option_map_or is_plain k true ≡ true
  pub leaves : k ≡ None → (m : WordState) → (executed i m).flags ≡ m.flags
  pub writes : WritesSource sources d

-- what each form tells; a comparison is CMP's or TEST's
abbrev pub FormTells : Inst → Form → Type 0
FormTells i (Compute sources d wide k) = OperationTells i sources d k
FormTells i (Compare d x) = i ≡ inst.Alu alu.Cmp d x
FormTells i (TestBits d x) = i ≡ inst.Test d x
FormTells i form = Unit {0}

-- an operation whose destination is its first source
writes-first : (d : Operand) (sources : List Operand) → WritesSource (d ∷ sources) d
writes-first (R r) sources = tt
writes-first (M m) sources = refl
writes-first (I n) sources = tt

-- an operation that gives a kind
gives : (i : Inst) (sources : List Operand) (d : Operand) (k : FlagKind) → is_plain k ≡ true → WritesSource sources d → OperationTells i sources d (Some k)
gives i sources d k plain writes = record { plain = plain; leaves = λ none. absurd (cc); writes = writes }

-- one that leaves the flags
keeps : (i : Inst) (sources : List Operand) (d : Operand) → ((m : WordState) → (executed i m).flags ≡ m.flags) → WritesSource sources d → OperationTells i sources d None
keeps i sources d leaves writes = record { plain = refl; leaves = λ none. leaves; writes = writes }

-- ADD, of which one form drops slots
add-tells : (next : ℕ) (d x : Operand) → FormTells (inst.Alu alu.Add d x) (form_of next (inst.Alu alu.Add d x))
unfolding form_of
add-tells next (R Esp) (I n) = tt
add-tells next d x = gives _ _ d kind.Num refl (writes-first d (x ∷ []))

-- LEA is of memory into a register, or refused
lea_tells : (next : ℕ) (d x : Operand) → FormTells (inst.Lea d x) (form_of next (inst.Lea d x))
unfolding form_of
lea_tells next (R r) (M m) = tt
lea_tells next d x = tt

-- NOT leaves the flags
not-leaves : (d : Operand) (m : WordState) → (executed (inst.Not d) m).flags ≡ m.flags
not-leaves (R r) m = refl
not-leaves (M a) m = refl
not-leaves (I n) m = refl

-- a shift by a multiple of 32 leaves the flags
shift-leaves : (op : Shift) (d : Operand) (n : ℕ) (m : WordState) → (n % 32 == 0) ≡ true → (executed (inst.Shift op d (By n)) m).flags ≡ m.flags
shift-leaves op d n m e = rw e refl

-- a shift by a number
shift-tells : (op : Shift) (d : Operand) (n : ℕ) (b : Bool) → (n % 32 == 0) ≡ b → OperationTells (inst.Shift op d (By n)) (d ∷ []) d (if b then None else Some kind.Eq)
shift-tells op d n true e = keeps _ _ d (λ m. shift-leaves op d n m e) (writes-first d [])
shift-tells op d n false e = gives _ _ d kind.Eq refl (writes-first d [])

-- IMUL of three operands
imul-tells : (d x : Operand) (n : ℕ) → MultipliesIntoRegister (inst.Imul3 d x n) → OperationTells (inst.Imul3 d x n) (x ∷ I n ∷ []) d (Some kind.Lost)
imul-tells (R r) x n h = gives _ _ (R r) kind.Lost refl tt
imul-tells (M m) x n h = absurd h
imul-tells (I k) x n h = absurd h

-- the form of an instruction that is spelled
pub form_tells : (next : ℕ) (i : Inst) → MultipliesIntoRegister i → FormTells i (form_of next i)
unfolding form_of
form_tells next (inst.Alu alu.Cmp d x) h = refl
form_tells next (inst.Alu alu.Add d x) h = add-tells next d x
form_tells next (inst.Alu op d x) h = gives _ _ d kind.Num refl (writes-first d (x ∷ []))
form_tells next (inst.Lea d x) h = lea_tells next d x
form_tells next (inst.Test d x) h = refl
form_tells next (inst.Inc d) h = gives _ _ d kind.Eq refl (writes-first d [])
form_tells next (inst.Dec d) h = gives _ _ d kind.Eq refl (writes-first d [])
form_tells next (inst.Not d) h = keeps _ _ d (not-leaves d) (writes-first d [])
form_tells next (inst.Neg d) h = gives _ _ d kind.Num refl (writes-first d [])
form_tells next (inst.Mul x) h = gives _ _ (R Eax) kind.Lost refl tt
form_tells next (inst.Imul1 x) h = gives _ _ (R Eax) kind.Lost refl tt
form_tells next (inst.Div x) h = gives _ _ (R Eax) kind.Lost refl tt
form_tells next (inst.Idiv x) h = gives _ _ (R Eax) kind.Lost refl tt
form_tells next (inst.Imul2 d x) h = gives _ _ d kind.Lost refl (writes-first d (x ∷ []))
form_tells next (inst.Imul3 d x n) h = imul-tells d x n h
form_tells next (inst.Shift op d (By n)) h = shift-tells op d n _ refl
form_tells next (inst.Shift op d Cl) h = gives _ _ d kind.Lost refl (writes-first d (R Ecx ∷ []))
form_tells next inst.Cdq h = keeps _ _ (R Edx) (λ m. refl) tt
form_tells next i h = tt
