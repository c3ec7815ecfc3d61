-- What operations compute, by the words of their operands: where a memory has the word of the operand that is there, it computes
-- what a memory of that word alone does.
use Rattle.std.proofs.Common.{◌≡◌, ℕ, Bool, false, ◌⊎◌, inl, inr, List, [], ◌∷◌, Some, None, refl, ap, ap₂, ◌∙◌}
use Rattle.ia32_code.specs.declared.instruction.Reg.TheVariants.{Eax, Edx}
use Rattle.ia32_code.specs.declared.instruction.Alu.{Alu}
use Rattle.ia32_code.specs.declared.instruction.Alu.TheVariants as alu
use Rattle.ia32_code.specs.declared.instruction.Shift.{Shift}
use Rattle.ia32_code.specs.declared.instruction.Count.{Count}
use Rattle.ia32_code.specs.declared.instruction.Operand.{Operand}
use Rattle.ia32_code.specs.declared.instruction.Operand.TheVariants.{R, M, I}
use Rattle.ia32_code.specs.declared.instruction.Inst.{Inst}
use Rattle.ia32_code.specs.declared.instruction.Inst.TheVariants as inst
use Rattle.stack_states.specs.declared.flag_bits.FlagBits.{FlagBits}
use Rattle.ia32_step.specs.declared.effect.Effect.TheVariants as step
use Rattle.ia32_step.specs.Flags.{sign_of}
use Rattle.ia32_step.specs.Sums.{alu_computed, and_of, inc_of, dec_of, neg_of, not_of}
use Rattle.ia32_step.specs.Shifts.{shift_computed}
use Rattle.ia32_step.specs.Products.{mul_of, imul_wide_of, imul_of, div_of, idiv_of}
use Rattle.ia32_step.specs.Operands.{WordState, address_of, read_word, put_word, shift_count}
use Rattle.ia32_step.specs.Effects.{executed, effect_of, next_of, behind, eax, edx, put_product, put_quotient, divided}
use Rattle.ia32_step.specs.Reaches.{IsReached, Reaches, is_system}

-- ---- operands over a memory

-- the same registers, flags and place over another memory
abbrev pub over : (ℕ → ℕ) → WordState → WordState
over f m = record m { memory = f }

-- the same over a memory that has this word everywhere
abbrev pub over_word : ℕ → WordState → WordState
over_word w m = over (λ a. w) m

-- the memory has this word where the operand points, if it points there
abbrev pub Agrees : (ℕ → ℕ) → ℕ → List ℕ → Operand → Type 0
Agrees f w regs (R r) = Unit {0}
Agrees f w regs (M x) = f (address_of x regs) ≡ w
Agrees f w regs (I n) = Unit {0}

-- and so for each of several operands
abbrev pub AllAgree : (ℕ → ℕ) → ℕ → List ℕ → List Operand → Type 0
AllAgree f w regs [] = Unit {0}
AllAgree f w regs (x ∷ xs) = Agrees f w regs x × AllAgree f w regs xs

-- the words that several operands name are mapped
abbrev pub AllReached : WordState → (ℕ → Bool) → List Operand → Type 0
AllReached m mapped [] = Unit {0}
AllReached m mapped (x ∷ xs) = IsReached x m mapped × AllReached m mapped xs

-- an operand's word is the same over both memories
pub read-alike : (f : ℕ → ℕ) (w : ℕ) (m : WordState) (x : Operand) → Agrees f w m.regs x → read_word x (over f m) ≡ read_word x (over_word w m)
read-alike f w m (R r) h = refl
read-alike f w m (M x) h = h
read-alike f w m (I n) h = refl

-- ---- operations that put one word

-- an operation that puts a word into its destination and sets the flags, from the words of its sources
pub record Operates (i : Inst) (sources : List Operand) (d : Operand) : Type 0 where
  pub value : WordState → ℕ
  pub flags : WordState → FlagBits
  pub value_alike : (f : ℕ → ℕ) (w : ℕ) (m : WordState) → AllAgree f w m.regs sources → value (over f m) ≡ value (over_word w m)
  pub flags_alike : (f : ℕ → ℕ) (w : ℕ) (m : WordState) → AllAgree f w m.regs sources → flags (over f m) ≡ flags (over_word w m)
  pub done_is : (m : WordState) → executed i m ≡ record (put_word d (value m) m) { flags = flags m }
  pub effect_is : (m : WordState) (len : ℕ) → effect_of i m len ≡ step.Next
  pub next_is : (m : WordState) (len : ℕ) → next_of i m len ≡ behind m len
  pub reaches : (m : WordState) (mapped : ℕ → Bool) → IsReached d m mapped → AllReached m mapped sources → Reaches i m mapped
  pub runs : is_system i ≡ false

-- a word that is put leaves the flags
put-keeps_flags : (d : Operand) (w : ℕ) (m : WordState) → put_word d w m ≡ record (put_word d w m) { flags = m.flags }
put-keeps_flags (R r) w m = refl
put-keeps_flags (M x) w m = refl
put-keeps_flags (I n) w m = refl

-- INC, DEC, NOT and NEG
pub inc-operates : (d : Operand) → Operates (inst.Inc d) (d ∷ []) d
inc-operates d = record {
  value = λ m. (inc_of (read_word d m) m.flags).value;
  flags = λ m. (inc_of (read_word d m) m.flags).flags;
  value_alike = λ f w m h. ap (λ n. (inc_of n m.flags).value) (read-alike f w m d h.0);
  flags_alike = λ f w m h. ap (λ n. (inc_of n m.flags).flags) (read-alike f w m d h.0);
  done_is = λ m. refl;
  effect_is = λ m len. refl;
  next_is = λ m len. refl;
  reaches = λ m mapped h hs. h;
  runs = refl;
}

pub dec-operates : (d : Operand) → Operates (inst.Dec d) (d ∷ []) d
dec-operates d = record {
  value = λ m. (dec_of (read_word d m) m.flags).value;
  flags = λ m. (dec_of (read_word d m) m.flags).flags;
  value_alike = λ f w m h. ap (λ n. (dec_of n m.flags).value) (read-alike f w m d h.0);
  flags_alike = λ f w m h. ap (λ n. (dec_of n m.flags).flags) (read-alike f w m d h.0);
  done_is = λ m. refl;
  effect_is = λ m len. refl;
  next_is = λ m len. refl;
  reaches = λ m mapped h hs. h;
  runs = refl;
}

pub not-operates : (d : Operand) → Operates (inst.Not d) (d ∷ []) d
not-operates d = record {
  value = λ m. not_of (read_word d m);
  flags = λ m. m.flags;
  value_alike = λ f w m h. ap not_of (read-alike f w m d h.0);
  flags_alike = λ f w m h. refl;
  done_is = λ m. put-keeps_flags d (not_of (read_word d m)) m;
  effect_is = λ m len. refl;
  next_is = λ m len. refl;
  reaches = λ m mapped h hs. h;
  runs = refl;
}

pub neg-operates : (d : Operand) → Operates (inst.Neg d) (d ∷ []) d
neg-operates d = record {
  value = λ m. (neg_of (read_word d m)).value;
  flags = λ m. (neg_of (read_word d m)).flags;
  value_alike = λ f w m h. ap (λ n. (neg_of n).value) (read-alike f w m d h.0);
  flags_alike = λ f w m h. ap (λ n. (neg_of n).flags) (read-alike f w m d h.0);
  done_is = λ m. refl;
  effect_is = λ m len. refl;
  next_is = λ m len. refl;
  reaches = λ m mapped h hs. h;
  runs = refl;
}

-- the shifts, whose count may be in ECX
pub shift-operates : (op : Shift) (d : Operand) (by : Count) (more : List Operand) → Operates (inst.Shift op d by) (d ∷ more) d
shift-operates op d by more = record {
  value = λ m. (shift_computed op (read_word d m) (shift_count by m.regs) m.flags).value;
  flags = λ m. (shift_computed op (read_word d m) (shift_count by m.regs) m.flags).flags;
  value_alike = λ f w m h. ap (λ n. (shift_computed op n (shift_count by m.regs) m.flags).value) (read-alike f w m d h.0);
  flags_alike = λ f w m h. ap (λ n. (shift_computed op n (shift_count by m.regs) m.flags).flags) (read-alike f w m d h.0);
  done_is = λ m. refl;
  effect_is = λ m len. refl;
  next_is = λ m len. refl;
  reaches = λ m mapped h hs. h;
  runs = refl;
}

-- CDQ
pub cdq_operates : Operates inst.Cdq (R Eax ∷ []) (R Edx)
cdq_operates = record {
  value = λ m. sign_of (eax m);
  flags = λ m. m.flags;
  value_alike = λ f w m h. refl;
  flags_alike = λ f w m h. refl;
  done_is = λ m. refl;
  effect_is = λ m len. refl;
  next_is = λ m len. refl;
  reaches = λ m mapped h hs. tt;
  runs = refl;
}

-- IMUL of two and of three operands
pub imul-operates : (d x : Operand) → Operates (inst.Imul2 d x) (d ∷ x ∷ []) d
imul-operates d x = record {
  value = λ m. (imul_of (read_word d m) (read_word x m) m.flags).value;
  flags = λ m. (imul_of (read_word d m) (read_word x m) m.flags).flags;
  value_alike = λ f w m h. ap₂ (λ a b. (imul_of a b m.flags).value) (read-alike f w m d h.0) (read-alike f w m x h.1.0);
  flags_alike = λ f w m h. ap₂ (λ a b. (imul_of a b m.flags).flags) (read-alike f w m d h.0) (read-alike f w m x h.1.0);
  done_is = λ m. refl;
  effect_is = λ m len. refl;
  next_is = λ m len. refl;
  reaches = λ m mapped h hs. (h, hs.1.0);
  runs = refl;
}

pub imul_number_operates : (d x : Operand) (n : ℕ) → Operates (inst.Imul3 d x n) (x ∷ I n ∷ []) d
imul_number_operates d x n = record {
  value = λ m. (imul_of (read_word x m) n m.flags).value;
  flags = λ m. (imul_of (read_word x m) n m.flags).flags;
  value_alike = λ f w m h. ap (λ a. (imul_of a n m.flags).value) (read-alike f w m x h.0);
  flags_alike = λ f w m h. ap (λ a. (imul_of a n m.flags).flags) (read-alike f w m x h.0);
  done_is = λ m. refl;
  effect_is = λ m len. refl;
  next_is = λ m len. refl;
  reaches = λ m mapped h hs. (h, hs.0);
  runs = refl;
}

-- CMP alone puts its result nowhere
abbrev pub Stores : Alu → Type 0
Stores alu.Add = Unit {0}
Stores alu.Or = Unit {0}
Stores alu.And = Unit {0}
Stores alu.Sub = Unit {0}
Stores alu.Xor = Unit {0}
Stores alu.Cmp = ⊥

-- what an operation other than CMP leaves
alu-done : (op : Alu) → Stores op → (d x : Operand) (m : WordState)
    → executed (inst.Alu op d x) m
    ≡ record (put_word d (alu_computed op (read_word d m) (read_word x m)).value m) { flags = (alu_computed op (read_word d m) (read_word x m)).flags }
alu-done alu.Add h d x m = refl
alu-done alu.Or h d x m = refl
alu-done alu.And h d x m = refl
alu-done alu.Sub h d x m = refl
alu-done alu.Xor h d x m = refl
alu-done alu.Cmp h d x m = absurd h

-- ADD, OR, AND, SUB and XOR
pub alu-operates : (op : Alu) → Stores op → (d x : Operand) → Operates (inst.Alu op d x) (d ∷ x ∷ []) d
alu-operates op stores d x = record {
  value = λ m. (alu_computed op (read_word d m) (read_word x m)).value;
  flags = λ m. (alu_computed op (read_word d m) (read_word x m)).flags;
  value_alike = λ f w m h. ap₂ (λ a b. (alu_computed op a b).value) (read-alike f w m d h.0) (read-alike f w m x h.1.0);
  flags_alike = λ f w m h. ap₂ (λ a b. (alu_computed op a b).flags) (read-alike f w m d h.0) (read-alike f w m x h.1.0);
  done_is = alu-done op stores d x;
  effect_is = λ m len. refl;
  next_is = λ m len. refl;
  reaches = λ m mapped h hs. (h, hs.1.0);
  runs = refl;
}

-- ---- operations on EDX and EAX

-- an operation that puts a wide result into EDX and EAX, or is the divide error, from the words of its sources
pub record Widens (i : Inst) (sources : List Operand) : Type 0 where
  pub alike : (f : ℕ → ℕ) (w : ℕ) (m : WordState) → AllAgree f w m.regs sources → executed i (over f m) ≡ over f (executed i (over_word w m))
  pub effect_alike : (f : ℕ → ℕ) (w : ℕ) (m : WordState) (len : ℕ) → AllAgree f w m.regs sources → effect_of i (over f m) len ≡ effect_of i (over_word w m) len
  -- the other registers stay
  pub others : (a c d b e p s z : ℕ) (m : WordState) → m.regs ≡ a ∷ c ∷ d ∷ b ∷ e ∷ p ∷ s ∷ z ∷ []
      → (executed i m).regs ≡ read_word (R Eax) (executed i m) ∷ c ∷ read_word (R Edx) (executed i m) ∷ b ∷ e ∷ p ∷ s ∷ z ∷ []
  pub effects : (m : WordState) (len : ℕ) → (effect_of i m len ≡ step.Next) ⊎ (effect_of i m len ≡ step.Fault 0)
  pub next_is : (m : WordState) (len : ℕ) → next_of i m len ≡ behind m len
  pub reaches : (m : WordState) (mapped : ℕ → Bool) → AllReached m mapped sources → Reaches i m mapped
  pub runs : is_system i ≡ false

-- MUL, and IMUL of one operand
pub mul-widens : (x : Operand) → Widens (inst.Mul x) (R Eax ∷ x ∷ [])
mul-widens x = record {
  alike = λ f w m h. ap (λ n. put_product (mul_of (eax m) n m.flags) (over f m)) (read-alike f w m x h.1.0);
  effect_alike = λ f w m len h. refl;
  others = λ a c d b e p s z m h. rw h refl;
  effects = λ m len. inl refl;
  next_is = λ m len. refl;
  reaches = λ m mapped hs. hs.1.0;
  runs = refl;
}

pub imul_wide-widens : (x : Operand) → Widens (inst.Imul1 x) (R Eax ∷ x ∷ [])
imul_wide-widens x = record {
  alike = λ f w m h. ap (λ n. put_product (imul_wide_of (eax m) n m.flags) (over f m)) (read-alike f w m x h.1.0);
  effect_alike = λ f w m len h. refl;
  others = λ a c d b e p s z m h. rw h refl;
  effects = λ m len. inl refl;
  next_is = λ m len. refl;
  reaches = λ m mapped hs. hs.1.0;
  runs = refl;
}

-- a quotient leaves the memory
quotient-alike : (q : _) (m : WordState) (f : ℕ → ℕ) (w : ℕ) → put_quotient q (over f m) ≡ over f (put_quotient q (over_word w m))
quotient-alike None m f w = refl
quotient-alike (Some q) m f w = refl

-- a quotient leaves the other registers
quotient-others : (q : _) (a c d b e p s z : ℕ) (m : WordState) → m.regs ≡ a ∷ c ∷ d ∷ b ∷ e ∷ p ∷ s ∷ z ∷ []
    → (put_quotient q m).regs ≡ read_word (R Eax) (put_quotient q m) ∷ c ∷ read_word (R Edx) (put_quotient q m) ∷ b ∷ e ∷ p ∷ s ∷ z ∷ []
quotient-others None a c d b e p s z m h = rw h refl
quotient-others (Some q) a c d b e p s z m h = rw h refl

-- a division goes on, or is the divide error
quotient-effects : (q : _) → (divided q ≡ step.Next) ⊎ (divided q ≡ step.Fault 0)
quotient-effects None = inr refl
quotient-effects (Some q) = inl refl

-- DIV and IDIV
pub div-widens : (x : Operand) → Widens (inst.Div x) (R Eax ∷ R Edx ∷ x ∷ [])
div-widens x = record {
  alike = λ f w m h. ap (λ n. put_quotient (div_of (edx m) (eax m) n) (over f m)) (read-alike f w m x h.1.1.0) ∙ quotient-alike _ m f w;
  effect_alike = λ f w m len h. ap (λ n. divided (div_of (edx m) (eax m) n)) (read-alike f w m x h.1.1.0);
  others = λ a c d b e p s z m h. quotient-others (div_of (edx m) (eax m) (read_word x m)) a c d b e p s z m h;
  effects = λ m len. quotient-effects (div_of (edx m) (eax m) (read_word x m));
  next_is = λ m len. refl;
  reaches = λ m mapped hs. hs.1.1.0;
  runs = refl;
}

pub idiv-widens : (x : Operand) → Widens (inst.Idiv x) (R Eax ∷ R Edx ∷ x ∷ [])
idiv-widens x = record {
  alike = λ f w m h. ap (λ n. put_quotient (idiv_of (edx m) (eax m) n) (over f m)) (read-alike f w m x h.1.1.0) ∙ quotient-alike _ m f w;
  effect_alike = λ f w m len h. ap (λ n. divided (idiv_of (edx m) (eax m) n)) (read-alike f w m x h.1.1.0);
  others = λ a c d b e p s z m h. quotient-others (idiv_of (edx m) (eax m) (read_word x m)) a c d b e p s z m h;
  effects = λ m len. quotient-effects (idiv_of (edx m) (eax m) (read_word x m));
  next_is = λ m len. refl;
  reaches = λ m mapped hs. hs.1.1.0;
  runs = refl;
}

-- ---- instructions that set the flags alone

-- an instruction that does nothing but set the flags, from the words of two operands
pub record SetsFlags (i : Inst) (d x : Operand) : Type 0 where
  pub flags : ℕ → ℕ → FlagBits
  pub done_is : (m : WordState) → executed i m ≡ record m { flags = flags (read_word d m) (read_word x m) }
  pub effect_is : (m : WordState) (len : ℕ) → effect_of i m len ≡ step.Next
  pub next_is : (m : WordState) (len : ℕ) → next_of i m len ≡ behind m len
  pub reaches : (m : WordState) (mapped : ℕ → Bool) → IsReached d m mapped → IsReached x m mapped → Reaches i m mapped
  pub runs : is_system i ≡ false

-- CMP and TEST
pub cmp-sets : (d x : Operand) → SetsFlags (inst.Alu alu.Cmp d x) d x
cmp-sets d x = record {
  flags = λ a b. (alu_computed alu.Cmp a b).flags;
  done_is = λ m. refl;
  effect_is = λ m len. refl;
  next_is = λ m len. refl;
  reaches = λ m mapped h k. (h, k);
  runs = refl;
}

pub test-sets : (d x : Operand) → SetsFlags (inst.Test d x) d x
test-sets d x = record {
  flags = λ a b. (and_of a b).flags;
  done_is = λ m. refl;
  effect_is = λ m len. refl;
  next_is = λ m len. refl;
  reaches = λ m mapped h k. (h, k);
  runs = refl;
}
