-- What the parts of a file stand for, both ways: values that are as they must be, and their bytes.
use Rattle.std.specs.Prelude.{◌≡◌, ℕ, ◌<◌, ◌^◌, Bool, true, List, [], ◌∷◌, ◌++◌, length}
use Rattle.file_fields.specs.Grammar.{Grammar, done, Field, fields_text, Sound, number_bytes}

-- sound fields that stand for a value, with these bytes
abbrev pub FieldsOf : {A : Type 0} → Grammar A → A → List ℕ → Type 0
FieldsOf g x text = (fs : List Field) × Sound g fs (done x) × (fields_text fs ≡ text)

-- The sound fields of a part are those of the values that are as they must be, and their bytes are the value's.
pub record Means {A : Type 0} (g : Grammar A) (Is : A → Type 0) (text : A → List ℕ) : Type 0 where
  pub whole : (x : A) → Is x → FieldsOf g x (text x)
  pub back : (fs : List Field) (x : A) → Sound g fs (done x) → Is x × (fields_text fs ≡ text x)

-- a number of 32 bits that meets a test
abbrev pub Checked : (ℕ → Bool) → ℕ → Type 0
Checked ok n = (n < 2 ^ 32) × (ok n ≡ true)

-- two numbers of 32 bits that meet a test
abbrev pub CheckedPair : (ℕ → ℕ → Bool) → ℕ × ℕ → Type 0
CheckedPair ok p = (p.0 < 2 ^ 32) × (p.1 < 2 ^ 32) × (ok p.0 p.1 ≡ true)

-- their bytes
abbrev pub pair_bytes : ℕ × ℕ → List ℕ
pair_bytes p = number_bytes p.0 ++ number_bytes p.1

-- each row is as it must be after those before it, of which something is kept, and before so many others
abbrev pub EachAfter : {S A : Type 0} → (S → A → S) → (ℕ → S → A → Type 0) → S → List A → Type 0
EachAfter step Is kept [] = Unit {0}
EachAfter step Is kept (x ∷ xs) = Is (length xs) kept x × EachAfter step Is (step kept x) xs

-- each row is as it must be
abbrev pub Each : {A : Type 0} → (A → Type 0) → List A → Type 0
Each Is xs = EachAfter {S = ℕ} (λ kept x. kept) (λ later kept x. Is x) 0 xs

-- so many rows, all as they must be
abbrev pub Counted : {A : Type 0} → ℕ → (List A → Type 0) → List A → Type 0
Counted n Are xs = (length xs ≡ n) × Are xs

-- so many rows, each as it must be after those before it
abbrev pub AreRows : {S A : Type 0} → (S → A → S) → (ℕ → S → A → Type 0) → ℕ → S → List A → Type 0
AreRows step Is n kept xs = Counted n (EachAfter step Is kept) xs
