-- The rows of opcodes: what is looked up is in the table, and each row is looked up by its opcode.
use Rattle.std.proofs.Common.{◌≡◌, ℕ, ◌/◌, ◌%◌, ◌<◌, Bool, true, false, not, eqb, ltb, ◌&&◌, ◌||◌, List, [], ◌∷◌, ◌++◌, Some, refl, sym, ap, subst, ◌∙◌, ◌⊎◌, inl, inr}
use Rattle.std.specs.List.{find, list_all}
use Rattle.std.specs.Str.{bytes_eq}
use Rattle.std.proofs.lemmas.Bool.{cases_Bool, eqb-true, eq-eqb, ltb-true, true≢false}
use Rattle.std.proofs.lemmas.Slice.Eq.{bytes_eq-Decides}
use Rattle.ia32_code.specs.declared.instruction.Reg.TheVariants.{Eax}
use Rattle.ia32_code.specs.declared.instruction.Alu.TheVariants as alu
use Rattle.ia32_code.specs.declared.instruction.Shift.TheVariants.{Shl}
use Rattle.ia32_code.specs.declared.instruction.Cond.TheVariants as cond
use Rattle.ia32_code.specs.declared.row.Row.{Row}
use Rattle.ia32_code.specs.declared.row.Row.TheVariants.{AluStore, AluLoad, AluEax, AluWord, AluByte, MovStore, MovReg, MovWord, TestWord, IncReg, Inc, DecReg, Dec, Not, Neg, Mul, Imul1, Div, Idiv, ShiftOne, ShiftBy, ShiftCl, PushReg, Push, PopReg, CallAt, JccWord, JccByte, PrivBare, PrivByte}
use Rattle.ia32_code.specs.declared.row.ModRm.{ModRm}
use Rattle.ia32_code.specs.declared.row.ModRm.TheVariants.{Absent, Register, Memory, Digit}
use Rattle.ia32_code.specs.declared.operand_form.OperandForm.TheVariants.{Direct}
use Rattle.ia32_code.specs.Table.{line, is_row, among, priv_bare, priv_with_byte}
use Rattle.ia32_code.specs.Opcodes.{rows, row_with, has_digit, row_with_digit}
use Rattle.ia32_code.specs.Reading.{end_at, modrm_at, digit_at, by_modrm_at, opened_at, spelling_at}
use Rattle.ia32_code.proofs.OperandForms.{both_true}

-- ---- finding

-- equal answers have equal values
some_is : {A : Type 0} (x y : A) → Some x ≡ Some y → x ≡ y
some_is x y e = cc

-- what is found meets the test
pub found_meets : {A : Type 0} (p : A → Bool) (xs : List A) (x : A) → find p xs ≡ Some x → p x ≡ true
found_meets p [] x e = absurd cc
found_meets p (y ∷ ys) x e =
    elim (cases_Bool (p y)) [
      | inl t ↦ subst (λ z. p z ≡ true) (some_is y x (rw t at e)) t
      | inr f ↦ found_meets p ys x (rw f at e)
    ]

-- what is found is as all are
pub found_as_all : {A : Type 0} (p q : A → Bool) (xs : List A) (x : A) → find p xs ≡ Some x → list_all q xs ≡ true → q x ≡ true
found_as_all p q [] x e all = absurd cc
found_as_all p q (y ∷ ys) x e all =
    let two = both_true (q y) (list_all q ys) all in
    elim (cases_Bool (p y)) [
      | inl t ↦ subst (λ z. q z ≡ true) (some_is y x (rw t at e)) two.0
      | inr f ↦ found_as_all p q ys x (rw f at e) two.1
    ]

-- what is found by one test shows that another finds something
found_again : {A : Type 0} (p q : A → Bool) (xs : List A) (x : A) → find p xs ≡ Some x → q x ≡ true → (y : A) × (find q xs ≡ Some y)
found_again p q [] x e h = absurd cc
found_again p q (y ∷ ys) x e h =
    elim (cases_Bool (q y)) [
      | inl t ↦ (y, rw t refl)
      | inr f ↦ elim (cases_Bool (p y)) [
        | inl t ↦ absurd (true≢false (sym h ∙ ap q (sym (some_is y x (rw t at e))) ∙ f))
        | inr g ↦ (let more = found_again p q ys x (rw g at e) h in (more.0, rw f more.1))
      ]
    ]

-- ---- what is looked up is in the table

-- what is said of a row with an opcode
pub record IsLine (row : Row) (code : List ℕ) (sl : ModRm) : Type 0 where
  pub code_is : (line row).code ≡ code
  pub modrm_is : (line row).modrm ≡ sl
  pub is_row : is_row row ≡ true

-- the rows that are looked up are those of the table
all_rows : list_all is_row rows ≡ true
all_rows = refl

-- a row that an opcode finds has it
pub row_of_code : (code : List ℕ) (row : Row) → row_with code ≡ Some row → IsLine row code (line row).modrm
unfolding row_with
row_of_code code row e = record {
  code_is = (bytes_eq-Decides (line row).code code).0 (found_meets (λ w. bytes_eq (line w).code code) rows row e);
  modrm_is = refl;
  is_row = found_as_all (λ w. bytes_eq (line w).code code) is_row rows row e all_rows;
}

-- a row that has a digit has it in its line
digit_is : (d : ℕ) (sl : ModRm) → has_digit d sl ≡ true → sl ≡ Digit d
digit_is d Absent h = absurd cc
digit_is d Register h = absurd cc
digit_is d Memory h = absurd cc
digit_is d (Digit g) h = ap (λ (x : ℕ). Digit x) (eqb-true g d h)

-- a row that an opcode and a digit find has both
pub row_of_digit : (code : List ℕ) (d : ℕ) (row : Row) → row_with_digit code d ≡ Some row → IsLine row code (Digit d)
unfolding row_with_digit
row_of_digit code d row e =
    let test = λ (w : Row). bytes_eq (line w).code code && has_digit d (line w).modrm in
    let two = both_true (bytes_eq (line row).code code) (has_digit d (line row).modrm) (found_meets test rows row e) in
    record {
      code_is = (bytes_eq-Decides (line row).code code).0 two.0;
      modrm_is = digit_is d (line row).modrm two.1;
      is_row = found_as_all test is_row rows row e all_rows;
    }

-- a digit is below 8
abbrev small_digit : ModRm → Bool
small_digit Absent = true
small_digit Register = true
small_digit Memory = true
small_digit (Digit g) = ltb g 8

-- each digit of the table is
all_small : list_all (λ w. small_digit (line w).modrm) rows ≡ true
all_small = refl

-- the digit of a row finds one
pub record HasDigitRow (row : Row) (g : ℕ) : Type 0 where
  pub small : g < 8
  pub other : Row
  pub found : row_with_digit (line row).code g ≡ Some other

-- a row of the table that has a digit is found by one
pub digit_row : (code : List ℕ) (row : Row) (g : ℕ) → row_with code ≡ Some row → (line row).modrm ≡ Digit g → HasDigitRow row g
unfolding row_with row_with_digit
digit_row code row g e m =
    let test = λ (w : Row). bytes_eq (line w).code code in
    let own = λ (w : Row). bytes_eq (line w).code (line row).code && has_digit g (line w).modrm in
    let small : small_digit (Digit g) ≡ true = ap small_digit (sym m) ∙ found_as_all test (λ w. small_digit (line w).modrm) rows row e all_small in
    let both : own row ≡ true = rw ((bytes_eq-Decides (line row).code (line row).code).1 refl, m) (eq-eqb g g refl) in
    let other = found_again test own rows row e both in
    record { small = ltb-true g 8 small; other = other.0; found = other.1 }

-- ---- each row is looked up by its opcode

-- the row is found by its opcode, or by its opcode and its digit
abbrev pub IsFound : ModRm → Row → List ℕ → Type 0
IsFound Absent row code = row_with code ≡ Some row
IsFound Register row code = row_with code ≡ Some row
IsFound Memory row code = row_with code ≡ Some row
IsFound (Digit g) row code =
    (first : Row) × (d : ℕ) × (row_with code ≡ Some first) × ((line first).modrm ≡ Digit d) × ((line first).code ≡ code) × (row_with_digit code g ≡ Some row)

-- one of two tests held
pub either : (a b : Bool) → (a || b) ≡ true → (a ≡ true) ⊎ (b ≡ true)
either true b e = inl refl
either false b e = inr e

-- each number of a list is so
abbrev pub Each : (ℕ → Type 0) → List ℕ → Type 0
Each P [] = Unit {0}
Each P (a ∷ more) = P a × Each P more

-- what is so of each is so of one of them
pub at_one : (P : ℕ → Type 0) (ns : List ℕ) (n : ℕ) → Each P ns → among ns n ≡ true → P n
at_one P [] n all e = absurd cc
at_one P (a ∷ more) n all e = elim (either (eqb n a) (among more n) e) [ inl h ↦ subst P (sym (eqb-true n a h)) all.0 | inr h ↦ at_one P more n all.1 h ]

-- an opcode of the system that stands alone finds its row
bare_found : (op : ℕ) → among priv_bare op ≡ true → row_with (op ∷ []) ≡ Some (PrivBare op)
unfolding row_with
bare_found op h = at_one (λ n. row_with (n ∷ []) ≡ Some (PrivBare n)) priv_bare op (refl, (refl, (refl, (refl, (refl, (refl, (refl, (refl, (refl, tt))))))))) h

-- and so does one with a byte
byte_found : (op : ℕ) → among priv_with_byte op ≡ true → row_with (op ∷ []) ≡ Some (PrivByte op)
unfolding row_with
byte_found op h = at_one (λ n. row_with (n ∷ []) ≡ Some (PrivByte n)) priv_with_byte op (refl, (refl, (refl, (refl, (refl, tt))))) h

-- each row is found, with all that its opcode may hold
pub row_found : (row : Row) → is_row row ≡ true → IsFound (line row).modrm row (line row).code
unfolding row_with row_with_digit
row_found (PrivBare op) h = bare_found op h
row_found (PrivByte op) h = byte_found op h
row_found (AluWord alu.Add) h = (AluWord alu.Add, 0, refl, refl, refl, refl)
row_found (AluWord _) h = (AluWord alu.Add, 0, refl, refl, refl, refl)
row_found (AluByte alu.Add) h = (AluByte alu.Add, 0, refl, refl, refl, refl)
row_found (AluByte _) h = (AluByte alu.Add, 0, refl, refl, refl, refl)
row_found MovWord h = (MovWord, 0, refl, refl, refl, refl)
row_found TestWord h = (TestWord, 0, refl, refl, refl, refl)
row_found Not h = (TestWord, 0, refl, refl, refl, refl)
row_found Neg h = (TestWord, 0, refl, refl, refl, refl)
row_found Mul h = (TestWord, 0, refl, refl, refl, refl)
row_found Imul1 h = (TestWord, 0, refl, refl, refl, refl)
row_found Div h = (TestWord, 0, refl, refl, refl, refl)
row_found Idiv h = (TestWord, 0, refl, refl, refl, refl)
row_found Inc h = (Inc, 0, refl, refl, refl, refl)
row_found Dec h = (Inc, 0, refl, refl, refl, refl)
row_found CallAt h = (Inc, 0, refl, refl, refl, refl)
row_found Push h = (Inc, 0, refl, refl, refl, refl)
row_found (ShiftOne Shl) h = (ShiftOne Shl, 4, refl, refl, refl, refl)
row_found (ShiftOne _) h = (ShiftOne Shl, 4, refl, refl, refl, refl)
row_found (ShiftBy Shl) h = (ShiftBy Shl, 4, refl, refl, refl, refl)
row_found (ShiftBy _) h = (ShiftBy Shl, 4, refl, refl, refl, refl)
row_found (ShiftCl Shl) h = (ShiftCl Shl, 4, refl, refl, refl, refl)
row_found (ShiftCl _) h = (ShiftCl Shl, 4, refl, refl, refl, refl)
row_found (AluStore alu.Add) h = refl
row_found (AluLoad alu.Add) h = refl
row_found (AluEax alu.Add) h = refl
row_found (MovReg Eax) h = refl
row_found (IncReg Eax) h = refl
row_found (DecReg Eax) h = refl
row_found (PushReg Eax) h = refl
row_found (PopReg Eax) h = refl
row_found (JccWord cond.O) h = refl
row_found (JccByte cond.O) h = refl
row_found MovStore h = refl
row_found _ h = refl

-- ---- the first bytes of each row

-- one byte other than 0F, or 0F and another
abbrev pub is_opcode : List ℕ → Bool
is_opcode [] = false
is_opcode (b ∷ []) = not (eqb b 0x0F)
is_opcode (b ∷ c ∷ []) = eqb b 0x0F
is_opcode (b ∷ c ∷ d ∷ more) = false

-- each opcode of the table is one
all_opcodes : list_all (λ w. is_opcode (line w).code) rows ≡ true
all_opcodes = refl

-- the opcode of a row that was found
found_opcode : (sl : ModRm) (row : Row) → IsFound sl row (line row).code → is_opcode (line row).code ≡ true
unfolding row_with row_with_digit
found_opcode Absent row h = found_as_all (λ w. bytes_eq (line w).code (line row).code) (λ w. is_opcode (line w).code) rows row h all_opcodes
found_opcode Register row h = found_as_all (λ w. bytes_eq (line w).code (line row).code) (λ w. is_opcode (line w).code) rows row h all_opcodes
found_opcode Memory row h = found_as_all (λ w. bytes_eq (line w).code (line row).code) (λ w. is_opcode (line w).code) rows row h all_opcodes
found_opcode (Digit g) row h =
    found_as_all (λ w. bytes_eq (line w).code (line row).code && has_digit g (line w).modrm) (λ w. is_opcode (line w).code) rows row h.5 all_opcodes

-- what is not so is false
not_true : (b : Bool) → not b ≡ true → b ≡ false
not_true true e = absurd cc
not_true false e = refl

-- an opcode is read
read_opcode : (code more : List ℕ) → is_opcode code ≡ true → spelling_at (code ++ more) ≡ opened_at (row_with code) more
unfolding spelling_at
read_opcode [] more o = absurd cc
read_opcode (b ∷ []) more o = rw (not_true (eqb b 0x0F) o) refl
read_opcode (b ∷ c ∷ []) more o = rw (eqb-true b 0x0F o) refl
read_opcode (b ∷ c ∷ d ∷ rest) more o = absurd cc

-- the first bytes of a row lead to it
abbrev pub Leads : ModRm → Row → List ℕ → Type 0
Leads Absent row code = (more : List ℕ) → spelling_at (code ++ more) ≡ end_at row Eax (Direct Eax) more
Leads Register row code = (m : ℕ) (more : List ℕ) → spelling_at (code ++ m ∷ more) ≡ modrm_at row m more
Leads Memory row code = (m : ℕ) (more : List ℕ) → eqb (m / 64) 3 ≡ false → spelling_at (code ++ m ∷ more) ≡ modrm_at row m more
Leads (Digit g) row code = (m : ℕ) (more : List ℕ) → m / 8 % 8 ≡ g → spelling_at (code ++ m ∷ more) ≡ modrm_at row m more

-- by the way in which the row is found
leads_at : (sl : ModRm) (row : Row) (code : List ℕ) → sl ≡ (line row).modrm → is_opcode code ≡ true → IsFound sl row code → Leads sl row code
unfolding opened_at by_modrm_at digit_at
leads_at Absent row code e o h = λ more. read_opcode code more o ∙ rw (h, ← e) refl
leads_at Register row code e o h = λ m more. read_opcode code (m ∷ more) o ∙ rw (h, ← e) refl
leads_at Memory row code e o h = λ m more t. read_opcode code (m ∷ more) o ∙ rw (h, ← e, t) refl
leads_at (Digit g) row code e o h = λ m more t. read_opcode code (m ∷ more) o ∙ rw (h.2, h.3, h.4, t, h.5) refl

-- every opcode leads to its row
pub leads : (row : Row) → is_row row ≡ true → Leads (line row).modrm row (line row).code
leads row h =
    let found = row_found row h in
    leads_at (line row).modrm row (line row).code refl (found_opcode (line row).modrm row found) found
