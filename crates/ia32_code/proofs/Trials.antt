-- The look-ups of the code against those of the table, by trying each byte.
use Rattle.std.proofs.Common.{◌≡◌, ℕ, zero, suc, ◌+◌, ◌-◌, ◌/◌, ◌%◌, ◌<◌, ◌≤◌, ◌≢◌, Bool, true, false, cond, eqb, leb, ◌&&◌, ◌||◌, List, [], ◌∷◌, Option, Some, None, refl, sym, ap, ◌∙◌, arith, inl, inr}
use Rattle.std.specs.Prelude.{option_map}
use Rattle.std.specs.List.{list_all}
use Rattle.std.specs.Str.{bytes_eq}
use Rattle.std.proofs.lemmas.Bool.{cases_eq, leb-true, ne_eqb}
use Rattle.ia32_code.specs.declared.instruction.Alu.{Alu}
use Rattle.ia32_code.specs.declared.row.Row.{Row}
use Rattle.ia32_code.specs.declared.row.Row.TheVariants.{AluStore, AluLoad, AluEax, AluWord, AluByte, ShiftOne, ShiftBy, ShiftCl, PushReg, PopReg, JccWord, JccByte, PrivBare, PrivByte}
use Rattle.ia32_code.specs.declared.row.ModRm.{ModRm}
use Rattle.ia32_code.specs.declared.row.ModRm.TheVariants.{Digit}
use Rattle.ia32_code.specs.OperandForms.{reg}
use Rattle.ia32_code.specs.Table.{line, opcode_bytes, among}
use Rattle.ia32_code.specs.Opcodes.{rows, row_with, has_digit, row_with_digit, operation_of, shift_of_number, condition_of}
use Rattle.ia32_code.proofs.OperandForms.{both_true}
use Rattle.ia32_code.proofs.OpcodeRows.{either, Each, at_one, found_as_all, row_of_code, row_of_digit}

-- ---- trying each number below a limit

-- what a function gives at each of them
abbrev pub tried : {A : Type 0} → (ℕ → A) → ℕ → List A
tried f zero = []
tried f (suc n) = f n ∷ tried f n

-- equal lists have equal heads and tails
parts_are : {A : Type 0} (a b : A) (s t : List A) → a ∷ s ≡ b ∷ t → (a ≡ b) × (s ≡ t)
parts_are a b s t e = (cc, cc)

-- functions that give the same at each give the same at one
pub by_trial : {A : Type 0} (f g : ℕ → A) (n k : ℕ) → tried f n ≡ tried g n → k < n → f k ≡ g k
by_trial f g zero k e lt = absurd (omega arith)
by_trial f g (suc n) k e lt =
    let two = parts_are (f n) (g n) (tried f n) (tried g n) e in
    elim (cases_eq k n) [ inl h ↦ rw h two.0 | inr h ↦ by_trial f g n k two.1 (omega arith) ]

-- the same from a number on
pub by_trial_from : {A : Type 0} (f g : ℕ → A) (from n b : ℕ) → tried (λ k. f (k + from)) n ≡ tried (λ k. g (k + from)) n → from ≤ b → b < from + n → f b ≡ g b
by_trial_from f g from n b e low high =
    let back : b - from + from ≡ b = omega arith in
    ap f (sym back) ∙ by_trial (λ k. f (k + from)) (λ k. g (k + from)) n (b - from) e (omega arith) ∙ ap g back

-- ---- operations in the upper bits of an opcode

-- the row of an operation, by the lower three bits
abbrev pub operation_at : Option Alu → ℕ → Option Row
operation_at None k = None
operation_at (Some op) k = cond (eqb k 1) (Some (AluStore op)) (cond (eqb k 3) (Some (AluLoad op)) (cond (eqb k 5) (Some (AluEax op)) None))

-- an opcode below 64 has the row of its operation
pub operation_row : (b : ℕ) → b < 64 → operation_at (operation_of (b / 8)) (b % 8) ≡ row_with (b ∷ [])
unfolding row_with operation_of
operation_row b lt = by_trial (λ b. operation_at (operation_of (b / 8)) (b % 8)) (λ b. row_with (b ∷ [])) 64 b refl lt

-- and none where the lower bits are of no row
pub operation_none : (op : Alu) (k : ℕ) → k ≢ 1 → k ≢ 3 → k ≢ 5 → operation_at (Some op) k ≡ None
operation_none op k a b c = rw (ne_eqb k 1 a, ne_eqb k 3 b, ne_eqb k 5 c) refl

-- ---- what an opcode holds in its lower bits

-- `50` to `57`
pub push_row : (b : ℕ) → 0x50 ≤ b → b < 0x58 → Some (PushReg (reg (b - 0x50))) ≡ row_with (b ∷ [])
unfolding row_with
push_row b low high = by_trial_from (λ b. Some (PushReg (reg (b - 0x50)))) (λ b. row_with (b ∷ [])) 0x50 8 b refl low high

-- `58` to `5F`
pub pop_row : (b : ℕ) → 0x58 ≤ b → b < 0x60 → Some (PopReg (reg (b - 0x58))) ≡ row_with (b ∷ [])
unfolding row_with
pop_row b low high = by_trial_from (λ b. Some (PopReg (reg (b - 0x58)))) (λ b. row_with (b ∷ [])) 0x58 8 b refl low high

-- `70` to `7F`
pub short_row : (b : ℕ) → 0x70 ≤ b → b < 0x80 → option_map (λ cc. JccByte cc) (condition_of (b - 0x70)) ≡ row_with (b ∷ [])
unfolding row_with condition_of
short_row b low high = by_trial_from (λ b. option_map (λ cc. JccByte cc) (condition_of (b - 0x70))) (λ b. row_with (b ∷ [])) 0x70 16 b refl low high

-- `0F 80` to `0F 8F`
pub long_row : (b : ℕ) → 0x80 ≤ b → b < 0x90 → option_map (λ cc. JccWord cc) (condition_of (b - 0x80)) ≡ row_with (0x0F ∷ b ∷ [])
unfolding row_with condition_of
long_row b low high = by_trial_from (λ b. option_map (λ cc. JccWord cc) (condition_of (b - 0x80))) (λ b. row_with (0x0F ∷ b ∷ [])) 0x80 16 b refl low high

-- `EC` to `EF`
pub port_row : (b : ℕ) → 0xEC ≤ b → b < 0xF0 → Some (PrivBare b) ≡ row_with (b ∷ [])
unfolding row_with
port_row b low high = by_trial_from (λ b. Some (PrivBare b)) (λ b. row_with (b ∷ [])) 0xEC 4 b refl low high

-- `FA` and `FB`
pub flag_row : (b : ℕ) → 0xFA ≤ b → b < 0xFC → Some (PrivBare b) ≡ row_with (b ∷ [])
unfolding row_with
flag_row b low high = by_trial_from (λ b. Some (PrivBare b)) (λ b. row_with (b ∷ [])) 0xFA 2 b refl low high

-- `E4` to `E7`
pub byte_port_row : (b : ℕ) → 0xE4 ≤ b → b < 0xE8 → Some (PrivByte b) ≡ row_with (b ∷ [])
unfolding row_with
byte_port_row b low high = by_trial_from (λ b. Some (PrivByte b)) (λ b. row_with (b ∷ [])) 0xE4 4 b refl low high

-- ---- opcodes of no row

-- a number in none of the ranges
abbrev pub Outside : List (ℕ × ℕ) → ℕ → Type 0
Outside [] b = Unit {0}
Outside (r ∷ rs) b = (r.0 ≤ b → b ≤ r.1 → ⊥) × Outside rs b

-- in one of them, as a test
abbrev within : List (ℕ × ℕ) → ℕ → Bool
within [] b = false
within (r ∷ rs) b = (leb r.0 b && leb b r.1) || within rs b

-- the test tells
not_within : (rs : List (ℕ × ℕ)) (b : ℕ) → Outside rs b → within rs b ≢ true
not_within [] b out e = absurd cc
not_within (r ∷ rs) b out e =
    elim (either (leb r.0 b && leb b r.1) (within rs b) e) [
      | inl h ↦ (let two = both_true (leb r.0 b) (leb b r.1) h in out.0 (leb-true r.0 b two.0) (leb-true b r.1 two.1))
      | inr h ↦ not_within rs b out.1 h
    ]

-- the opcodes that have rows
abbrev pub opcodes : List (ℕ × ℕ)
opcodes =
    (0, 0x5F) ∷ (0x68, 0x6B) ∷ (0x70, 0x7F) ∷ (0x81, 0x81) ∷ (0x83, 0x83) ∷ (0x85, 0x85) ∷ (0x89, 0x89) ∷ (0x8B, 0x8B) ∷ (0x8D, 0x8D) ∷ (0x90, 0x90) ∷ (0x99, 0x99)
    ∷ (0xA1, 0xA1) ∷ (0xA3, 0xA3) ∷ (0xA9, 0xA9) ∷ (0xB8, 0xBF) ∷ (0xC1, 0xC1) ∷ (0xC3, 0xC3) ∷ (0xC7, 0xC7) ∷ (0xCC, 0xCD) ∷ (0xCF, 0xCF) ∷ (0xD1, 0xD1) ∷ (0xD3, 0xD3)
    ∷ (0xE4, 0xE9) ∷ (0xEB, 0xEF) ∷ (0xF4, 0xF4) ∷ (0xF7, 0xF7) ∷ (0xFA, 0xFB) ∷ (0xFF, 0xFF) ∷ []

-- a code of one byte is one of them
abbrev one_within : List ℕ → Bool
one_within (b ∷ []) = within opcodes b
one_within _ = true

-- each row's is
all_within : list_all (λ w. one_within (line w).code) rows ≡ true
all_within = refl

-- nothing was found where nothing can be
none_found : {A : Type 0} (o : Option A) → ((x : A) → o ≡ Some x → ⊥) → None ≡ o
none_found None h = refl
none_found (Some x) h = absurd (h x refl)

-- another byte has no row
pub no_row : (b : ℕ) → Outside opcodes b → None ≡ row_with (b ∷ [])
unfolding row_with
no_row b out = none_found (row_with (b ∷ [])) (λ row e.
    let fits = found_as_all (λ w. bytes_eq (line w).code (b ∷ [])) (λ w. one_within (line w).code) rows row e all_within in
    not_within opcodes b out (rw (row_of_code (b ∷ []) row e).code_is at fits))

-- ---- digits

-- the row of an opcode of one byte and a digit
pub at_opcode : (escaped : Bool) (opcode b d : ℕ) (o : Option Row) → escaped ≡ false → opcode ≡ b → o ≡ row_with_digit (b ∷ []) d → o ≡ row_with_digit (opcode_bytes escaped opcode) d
at_opcode escaped opcode b d o plain is h = rw (plain, is) h

-- `81`
pub word_row : (d : ℕ) → d < 8 → option_map (λ op. AluWord op) (operation_of d) ≡ row_with_digit (0x81 ∷ []) d
unfolding row_with_digit operation_of
word_row d lt = by_trial (λ d. option_map (λ op. AluWord op) (operation_of d)) (λ d. row_with_digit (0x81 ∷ []) d) 8 d refl lt

-- `83`
pub byte_row : (d : ℕ) → d < 8 → option_map (λ op. AluByte op) (operation_of d) ≡ row_with_digit (0x83 ∷ []) d
unfolding row_with_digit operation_of
byte_row d lt = by_trial (λ d. option_map (λ op. AluByte op) (operation_of d)) (λ d. row_with_digit (0x83 ∷ []) d) 8 d refl lt

-- `D1`
pub one_row : (d : ℕ) → d < 8 → option_map (λ op. ShiftOne op) (shift_of_number d) ≡ row_with_digit (0xD1 ∷ []) d
unfolding row_with_digit shift_of_number
one_row d lt = by_trial (λ d. option_map (λ op. ShiftOne op) (shift_of_number d)) (λ d. row_with_digit (0xD1 ∷ []) d) 8 d refl lt

-- `C1`
pub by_row : (d : ℕ) → d < 8 → option_map (λ op. ShiftBy op) (shift_of_number d) ≡ row_with_digit (0xC1 ∷ []) d
unfolding row_with_digit shift_of_number
by_row d lt = by_trial (λ d. option_map (λ op. ShiftBy op) (shift_of_number d)) (λ d. row_with_digit (0xC1 ∷ []) d) 8 d refl lt

-- `D3`
pub cl_row : (d : ℕ) → d < 8 → option_map (λ op. ShiftCl op) (shift_of_number d) ≡ row_with_digit (0xD3 ∷ []) d
unfolding row_with_digit shift_of_number
cl_row d lt = by_trial (λ d. option_map (λ op. ShiftCl op) (shift_of_number d)) (λ d. row_with_digit (0xD3 ∷ []) d) 8 d refl lt

-- the opcodes that digits tell apart
abbrev pub digit_opcodes : List ℕ
digit_opcodes = 0x81 ∷ 0x83 ∷ 0xC1 ∷ 0xC7 ∷ 0xD1 ∷ 0xD3 ∷ 0xF7 ∷ 0xFF ∷ []

-- a code is one of them
abbrev is_digit_code : List ℕ → Bool
is_digit_code (b ∷ []) = among digit_opcodes b
is_digit_code _ = false

-- a line with a digit has such a code
abbrev digit_fits : ModRm → List ℕ → Bool
digit_fits (Digit g) code = is_digit_code code
digit_fits _ code = true

-- each line of the table does
all_digits : list_all (λ w. digit_fits (line w).modrm (line w).code) rows ≡ true
all_digits = refl

-- what is found by a digit has such a code
found_by_digit : (code : List ℕ) (d : ℕ) (row : Row) → row_with_digit code d ≡ Some row → is_digit_code code ≡ true
unfolding row_with_digit
found_by_digit code d row e =
    let l = row_of_digit code d row e in
    let test = λ (w : Row). bytes_eq (line w).code code && has_digit d (line w).modrm in
    let fits = found_as_all test (λ w. digit_fits (line w).modrm (line w).code) rows row e all_digits in
    rw (l.modrm_is, l.code_is) at fits

-- another opcode has no row with a digit
pub no_digit_row : (b d : ℕ) → Each (λ n. b ≢ n) digit_opcodes → None ≡ row_with_digit (b ∷ []) d
no_digit_row b d each = none_found (row_with_digit (b ∷ []) d) (λ row e. at_one (λ n. b ≢ n) digit_opcodes b each (found_by_digit (b ∷ []) d row e) refl)

-- nor has one after 0F
pub no_escaped_digit : (escaped : Bool) (opcode d : ℕ) → escaped ≡ true → None ≡ row_with_digit (opcode_bytes escaped opcode) d
no_escaped_digit escaped opcode d e = rw e (none_found (row_with_digit (0x0F ∷ opcode ∷ []) d) (λ row k. let code = found_by_digit (0x0F ∷ opcode ∷ []) d row k in absurd cc))
