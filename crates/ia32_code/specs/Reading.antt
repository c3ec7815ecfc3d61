-- How an instruction is read from the front of bytes: the row by its opcode, and then what the table says of that row.
-- `decoded_law` and `front_law` say that what is read is exactly what is spelled.
use Rattle.std.specs.Prelude.{◌≡◌, ℕ, ◌+◌, ◌*◌, ◌/◌, ◌%◌, List, [], ◌∷◌, Option, Some, None, Result, Ok, Err, ◌==◌, ◌&&◌, if◌then◌else◌}
use Rattle.ia32_code.specs.declared.instruction.Reg.{Reg}
use Rattle.ia32_code.specs.declared.instruction.Reg.TheVariants.{Eax}
use Rattle.ia32_code.specs.declared.reading.Stop.{Stop}
use Rattle.ia32_code.specs.declared.reading.Stop.TheVariants.{Short, Unknown}
use Rattle.ia32_code.specs.declared.row.Row.{Row}
use Rattle.ia32_code.specs.declared.row.ModRm.{ModRm}
use Rattle.ia32_code.specs.declared.row.ModRm.TheVariants.{Absent, Memory, Digit}
use Rattle.ia32_code.specs.declared.row.Trailing.{Trailing}
use Rattle.ia32_code.specs.declared.row.Trailing.TheVariants as trailing
use Rattle.ia32_code.specs.declared.operand_form.Displacement.{Displacement}
use Rattle.ia32_code.specs.declared.operand_form.Displacement.TheVariants.{NoDisp, Disp8, Disp32}
use Rattle.ia32_code.specs.declared.operand_form.OperandForm.{OperandForm}
use Rattle.ia32_code.specs.declared.operand_form.OperandForm.TheVariants.{Direct, Based, Absolute, Indexed, Unbased}
use Rattle.ia32_code.specs.declared.spelling.Spelling.{Spelling}
use Rattle.ia32_code.specs.OperandForms.{reg}
use Rattle.ia32_code.specs.Table.{line}
use Rattle.ia32_code.specs.Opcodes.{row_with, row_with_digit}
use Rattle.ia32_code.specs.Canonical.{fill}

-- ---- readers

-- a reader gives a value and the bytes after it, or says why there is none
abbrev pub CodeReader : Type 0 → Type 0
CodeReader A = List ℕ → Result (A × List ℕ) Stop

-- what was read goes on to a next reader; a stop stays
abbrev pub onward : {A B : Type 0} → Result A Stop → (A → Result B Stop) → Result B Stop
onward (Ok x) f = f x
onward (Err e) f = Err e

-- a value without bytes
abbrev pub given : {A : Type 0} → A → CodeReader A
given x bytes = Ok (x, bytes)

-- nothing begins so
abbrev pub none : {A : Type 0} → CodeReader A
none bytes = Err Unknown

-- one reader after the other
abbrev pub seq : {A B : Type 0} → CodeReader A → (A → CodeReader B) → CodeReader B
seq p f bytes = onward (p bytes) (λ x. f x.0 x.1)

-- a byte
abbrev pub byte_at : CodeReader ℕ
byte_at [] = Err Short
byte_at (b ∷ bytes) = Ok (b, bytes)

-- a word by its bytes, the lowest first
abbrev pub four_bytes : ℕ → ℕ → ℕ → ℕ → ℕ
four_bytes a b c d = a + 256 * b + 65536 * c + 16777216 * d

-- a word
unfoldable pub word_at : CodeReader ℕ
word_at = seq byte_at (λ a. seq byte_at (λ b. seq byte_at (λ c. seq byte_at (λ d. given (four_bytes a b c d)))))

-- ---- operand forms

-- a displacement, by the mode
unfoldable pub disp_at : ℕ → CodeReader Displacement
disp_at mode =
    if mode == 0 then given NoDisp
    else (if mode == 1 then seq byte_at (λ d. given (Disp8 d))
    else seq word_at (λ d. given (Disp32 d)))

-- an index byte and the displacement, by the mode
unfoldable pub sib_at : ℕ → CodeReader OperandForm
sib_at mode = seq byte_at (λ s.
    if mode == 0 && s % 8 == 5
    then seq word_at (λ n. given (Unbased (s / 64) (reg (s / 8 % 8)) n))
    else seq (disp_at mode) (λ d. given (Indexed (s / 64) (reg (s / 8 % 8)) (reg (s % 8)) d)))

-- what belongs to a ModRM byte
unfoldable pub form_at : ℕ → CodeReader OperandForm
form_at m =
    if m / 64 == 3 then given (Direct (reg (m % 8)))
    else (if m % 8 == 4 then sib_at (m / 64)
    else (if m / 64 == 0 && m % 8 == 5 then seq word_at (λ n. given (Absolute n))
    else seq (disp_at (m / 64)) (λ d. given (Based (reg (m % 8)) d))))

-- ---- filled rows

-- the number at the end
unfoldable pub trailing_at : Trailing → CodeReader ℕ
trailing_at trailing.Nothing = given 0
trailing_at trailing.Byte = byte_at
trailing_at trailing.Word = word_at

-- the end of a row
unfoldable pub end_at : Row → Reg → OperandForm → CodeReader Spelling
end_at row r f = seq (trailing_at (line row).trailing) (λ n. given (fill row r f n))

-- what follows the ModRM byte of a row
unfoldable pub modrm_at : Row → ℕ → CodeReader Spelling
modrm_at row m = seq (form_at m) (λ f. end_at row (reg (m / 8 % 8)) f)

-- the same, if there is a row
unfoldable pub digit_at : Option Row → ℕ → CodeReader Spelling
digit_at None m = none
digit_at (Some row) m = modrm_at row m

-- the row that a ModRM byte leaves: none of memory alone where it is a register; a digit tells rows of one opcode apart
abbrev pub row_at : ModRm → Row → ℕ → Option Row
row_at Memory row m = if m / 64 == 3 then None else Some row
row_at (Digit g) row m = row_with_digit (line row).code (m / 8 % 8)
row_at _ row m = Some row

-- what follows the opcode of a row, by the use of the ModRM byte
unfoldable pub by_modrm_at : ModRm → Row → CodeReader Spelling
by_modrm_at Absent row = end_at row Eax (Direct Eax)
by_modrm_at modrm row = seq byte_at (λ m. digit_at (row_at modrm row m) m)

-- what follows an opcode, by the first row that has it
unfoldable pub opened_at : Option Row → CodeReader Spelling
opened_at None = none
opened_at (Some row) = by_modrm_at (line row).modrm row

-- an instruction's spelling; the byte 0F asks for a second one
unfoldable pub spelling_at : CodeReader Spelling
spelling_at = seq byte_at (λ b.
    if b == 0x0F then seq byte_at (λ c. opened_at (row_with (0x0F ∷ c ∷ [])))
    else opened_at (row_with (b ∷ [])))

-- what a reader of the code gives, seen through a view, is what was read
abbrev pub GivesRead : {X Y : Type 0} → (X → Y) → Result X Stop → Result Y Stop → Type 0
GivesRead view (Ok x) read = read ≡ Ok (view x)
GivesRead view (Err e) read = read ≡ Err e
