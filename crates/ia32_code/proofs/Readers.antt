-- Each reader goes from left to right, and reads some bytes.
use Rattle.std.proofs.Common.{◌≡◌, ℕ, ◌*◌, ◌/◌, ◌%◌, Bool, true, false, cond, eqb, ◌&&◌, List, [], ◌∷◌, Option, Some, None, refl, arith, lit<}
use Rattle.ia32_code.specs.declared.instruction.Reg.{Reg}
use Rattle.ia32_code.specs.declared.instruction.Reg.TheVariants.{Eax}
use Rattle.ia32_code.specs.declared.row.Row.{Row}
use Rattle.ia32_code.specs.declared.row.Row.TheVariants.{Nop, Imul2}
use Rattle.ia32_code.specs.declared.row.ModRm.{ModRm}
use Rattle.ia32_code.specs.declared.row.ModRm.TheVariants.{Absent, Register, Memory, Digit}
use Rattle.ia32_code.specs.declared.row.Trailing.{Trailing}
use Rattle.ia32_code.specs.declared.row.Trailing.TheVariants as trailing
use Rattle.ia32_code.specs.declared.operand_form.Displacement.TheVariants.{NoDisp, Disp8, Disp32}
use Rattle.ia32_code.specs.declared.operand_form.OperandForm.{OperandForm}
use Rattle.ia32_code.specs.declared.operand_form.OperandForm.TheVariants.{Direct, Based, Absolute, Indexed, Unbased}
use Rattle.ia32_code.specs.OperandForms.{reg}
use Rattle.ia32_code.specs.Table.{line}
use Rattle.ia32_code.specs.Opcodes.{row_with, row_with_digit}
use Rattle.ia32_code.specs.Canonical.{fill}
use Rattle.ia32_code.specs.Reading.{CodeReader, given, seq, byte_at, word_at, four_bytes, disp_at, sib_at, form_at, trailing_at, end_at, modrm_at, digit_at, row_at, by_modrm_at, opened_at, spelling_at}
use Rattle.ia32_code.proofs.OpcodeRows.{HasDigitRow, digit_row}
use Rattle.ia32_code.proofs.TakesFront.{TakesFront, Readable, TakesFront_byte_at, Readable_byte_at, TakesFront_given, Readable_given, TakesFront_none, TakesFront_seq, Readable_seq, TakesFront_byte, TakesFront_cond}

-- a reader that goes from left to right, and reads something
pub record Whole {A : Type 0} (p : CodeReader A) : Type 0 where
  pub takes : TakesFront p
  pub live : Readable p

-- one byte
Whole-byte_at : Whole byte_at
Whole-byte_at = record { takes = TakesFront_byte_at; live = Readable_byte_at }

-- a value
pub Whole-given : {A : Type 0} (v : A) → Whole (given v)
Whole-given v = record { takes = TakesFront_given v; live = Readable_given v }

-- one after the other
pub Whole-seq : {A B : Type 0} (p : CodeReader A) (f : A → CodeReader B) → Whole p → ((a : A) → Whole (f a)) → Whole (seq p f)
Whole-seq p f x y =
    record { takes = TakesFront_seq p f x.takes (λ a. (y a).takes) (λ a. (y a).live); live = Readable_seq p f x.takes (λ a. (y a).takes) x.live (y x.live.value).live }

-- one or the other
pub Whole-cond : {A : Type 0} (b : Bool) (p q : CodeReader A) → Whole p → Whole q → Whole (cond b p q)
Whole-cond true p q x y = x
Whole-cond false p q x y = y

-- a word
pub Whole-word_at : Whole word_at
unfolding word_at
Whole-word_at =
    Whole-seq byte_at (λ a. seq byte_at (λ b. seq byte_at (λ c. seq byte_at (λ d. given (four_bytes a b c d))))) Whole-byte_at (λ a.
    Whole-seq byte_at (λ b. seq byte_at (λ c. seq byte_at (λ d. given (four_bytes a b c d)))) Whole-byte_at (λ b.
    Whole-seq byte_at (λ c. seq byte_at (λ d. given (four_bytes a b c d))) Whole-byte_at (λ c.
    Whole-seq byte_at (λ d. given (four_bytes a b c d)) Whole-byte_at (λ d. Whole-given (four_bytes a b c d)))))

-- a displacement
Whole-disp_at : (mode : ℕ) → Whole (disp_at mode)
unfolding disp_at
Whole-disp_at mode =
    Whole-cond (eqb mode 0) _ _ (Whole-given NoDisp)
    (Whole-cond (eqb mode 1) _ _ (Whole-seq byte_at (λ d. given (Disp8 d)) Whole-byte_at (λ d. Whole-given (Disp8 d)))
    (Whole-seq word_at (λ d. given (Disp32 d)) Whole-word_at (λ d. Whole-given (Disp32 d))))

-- an index byte
Whole-sib_at : (mode : ℕ) → Whole (sib_at mode)
unfolding sib_at
Whole-sib_at mode =
    Whole-seq byte_at
    (λ s. cond (eqb mode 0 && eqb (s % 8) 5) (seq word_at (λ n. given (Unbased (s / 64) (reg (s / 8 % 8)) n))) (seq (disp_at mode) (λ d. given (Indexed (s / 64) (reg (s / 8 % 8)) (reg (s % 8)) d))))
    Whole-byte_at
    (λ s.
    Whole-cond (eqb mode 0 && eqb (s % 8) 5) _ _
    (Whole-seq word_at (λ n. given (Unbased (s / 64) (reg (s / 8 % 8)) n)) Whole-word_at (λ n. Whole-given (Unbased (s / 64) (reg (s / 8 % 8)) n)))
    (Whole-seq (disp_at mode) (λ d. given (Indexed (s / 64) (reg (s / 8 % 8)) (reg (s % 8)) d)) (Whole-disp_at mode)
    (λ d. Whole-given (Indexed (s / 64) (reg (s / 8 % 8)) (reg (s % 8)) d))))

-- a form
pub Whole-form_at : (m : ℕ) → Whole (form_at m)
unfolding form_at
Whole-form_at m =
    Whole-cond (eqb (m / 64) 3) _ _ (Whole-given (Direct (reg (m % 8))))
    (Whole-cond (eqb (m % 8) 4) _ _ (Whole-sib_at (m / 64))
    (Whole-cond (eqb (m / 64) 0 && eqb (m % 8) 5) _ _
    (Whole-seq word_at (λ n. given (Absolute n)) Whole-word_at (λ n. Whole-given (Absolute n)))
    (Whole-seq (disp_at (m / 64)) (λ d. given (Based (reg (m % 8)) d)) (Whole-disp_at (m / 64)) (λ d. Whole-given (Based (reg (m % 8)) d)))))

-- the number at the end
Whole-trailing_at : (s : Trailing) → Whole (trailing_at s)
unfolding trailing_at
Whole-trailing_at trailing.Nothing = Whole-given 0
Whole-trailing_at trailing.Byte = Whole-byte_at
Whole-trailing_at trailing.Word = Whole-word_at

-- the end of a row
Whole-end_at : (row : Row) (r : Reg) (f : OperandForm) → Whole (end_at row r f)
unfolding end_at
Whole-end_at row r f =
    Whole-seq (trailing_at (line row).trailing) (λ n. given (fill row r f n)) (Whole-trailing_at (line row).trailing) (λ n. Whole-given (fill row r f n))

-- a form and the end of a row
Whole-modrm_at : (row : Row) (m : ℕ) → Whole (modrm_at row m)
unfolding modrm_at
Whole-modrm_at row m = Whole-seq (form_at m) (λ f. end_at row (reg (m / 8 % 8)) f) (Whole-form_at m) (λ f. Whole-end_at row (reg (m / 8 % 8)) f)

-- ---- rows

-- a digit decides from left to right
TakesFront_digit_at : (o : Option Row) (m : ℕ) → TakesFront (digit_at o m)
unfolding digit_at
TakesFront_digit_at None m = TakesFront_none
TakesFront_digit_at (Some row) m = (Whole-modrm_at row m).takes

-- the digit of a row of the table is read
live_digit : (row : Row) (g : ℕ) → HasDigitRow row g → (m : ℕ) → m / 8 % 8 ≡ g → Readable (digit_at (row_with_digit (line row).code (m / 8 % 8)) m)
unfolding digit_at
live_digit row g h m e = rw (e, h.found) (Whole-modrm_at h.other m).live

-- a row that an opcode finds is read from left to right
TakesFront_by_modrm_at : (s : ModRm) (w : Row) → ((g : ℕ) → s ≡ Digit g → HasDigitRow w g) → TakesFront (by_modrm_at s w)
unfolding by_modrm_at digit_at
TakesFront_by_modrm_at Absent w digit = (Whole-end_at w Eax (Direct Eax)).takes
TakesFront_by_modrm_at Register w digit = (Whole-seq byte_at (λ m. modrm_at w m) Whole-byte_at (λ m. Whole-modrm_at w m)).takes
TakesFront_by_modrm_at Memory w digit =
    TakesFront_byte (λ m. digit_at (row_at Memory w m) m) (λ m. TakesFront_digit_at (row_at Memory w m) m) 0 (lit< tt) (Whole-modrm_at w 0).live
TakesFront_by_modrm_at (Digit g) w digit =
    let h = digit g refl in
    TakesFront_byte (λ m. digit_at (row_at (Digit g) w m) m) (λ m. TakesFront_digit_at (row_at (Digit g) w m) m)
    (8 * g) (let small = h.small in omega arith) (live_digit w g h (8 * g) (let small = h.small in omega arith))

-- what an opcode finds is read from left to right
TakesFront_opened_at : (code : List ℕ) (o : Option Row) → row_with code ≡ o → TakesFront (opened_at o)
unfolding opened_at
TakesFront_opened_at code None e = TakesFront_none
TakesFront_opened_at code (Some row) e = TakesFront_by_modrm_at (line row).modrm row (λ g m. digit_row code row g e m)

-- some opcode is one byte
live_nop : Readable (opened_at (row_with (0x90 ∷ [])))
unfolding opened_at by_modrm_at row_with
live_nop = (Whole-end_at Nop Eax (Direct Eax)).live

-- and some is two
live_imul : Readable (opened_at (row_with (0x0F ∷ 0xAF ∷ [])))
unfolding opened_at by_modrm_at digit_at row_with
live_imul = (Whole-seq byte_at (λ m. modrm_at Imul2 m) Whole-byte_at (λ m. Whole-modrm_at Imul2 m)).live

-- what follows a first byte is read from left to right
TakesFront_first : (b : ℕ) → TakesFront (cond (eqb b 0x0F) (seq byte_at (λ c. opened_at (row_with (0x0F ∷ c ∷ [])))) (opened_at (row_with (b ∷ []))))
TakesFront_first b =
    TakesFront_cond (eqb b 0x0F) _ _
    (TakesFront_byte (λ c. opened_at (row_with (0x0F ∷ c ∷ []))) (λ c. TakesFront_opened_at (0x0F ∷ c ∷ []) (row_with (0x0F ∷ c ∷ [])) refl) 0xAF (lit< tt) live_imul)
    (TakesFront_opened_at (b ∷ []) (row_with (b ∷ [])) refl)

-- the whole reader goes from left to right
pub TakesFront_spelling_at : TakesFront spelling_at
unfolding spelling_at
TakesFront_spelling_at =
    TakesFront_byte (λ b. cond (eqb b 0x0F) (seq byte_at (λ c. opened_at (row_with (0x0F ∷ c ∷ [])))) (opened_at (row_with (b ∷ [])))) TakesFront_first 0x90 (lit< tt) live_nop
