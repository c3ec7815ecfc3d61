-- Reading from left to right, up to the first token that no sentence has there.
use Rattle.std.specs.Prelude.{◌≡◌, ℕ, zero, suc, ℤ, List, [], ◌∷◌, Option, Some, None, Result, Ok, Err, Bool, false, ◌==◌, if◌then◌else◌}
use Rattle.ia32_code.specs.declared.instruction.Reg.{Reg}
use Rattle.ia32_code.specs.declared.instruction.Reg.TheVariants.{Esp}
use Rattle.text_tokens.specs.Token.{Lexeme, Key, Register, Name, Number, Mark, EndOfLine}
use Rattle.text_tokens.specs.declared.token.Keyword.{Keyword}
use Rattle.tal_syntax.specs.declared.tokens_read.Stop.{Stop}
use Rattle.tal_syntax.specs.declared.tokens_read.Stop.TheVariants.{Refused, Memory}

-- A reader gives a value and the tokens behind it, or the tokens from the first that it refuses.
abbrev pub Read : Type 0 → Type 0
Read A = List Lexeme → Result (A × List Lexeme) (List Lexeme)

-- the ? of the logic: the second step, if the first gave a value
infixl 10 ◌>>?◌
abbrev pub ◌>>?◌ : {A B : Type 0} → Result A (List Lexeme) → (A → Result B (List Lexeme)) → Result B (List Lexeme)
(Ok x) >>? f = f x
(Err e) >>? f = Err e

-- what a reader of the code gives, and what is left then
abbrev pub GivesVia : {A B : Type 0} → (A → B) → Result A Stop → Result (B × List Lexeme) (List Lexeme) → List Lexeme → Type 0
GivesVia view (Ok x) read left = read ≡ Ok (view x, left)
GivesVia view (Err Refused) read left = read ≡ Err left
GivesVia view (Err Memory) read left = Unit {0}

-- the same where the value is what the definition has
abbrev pub GivesSame : {A : Type 0} → Result A Stop → Result (A × List Lexeme) (List Lexeme) → List Lexeme → Type 0
GivesSame (Ok x) read left = read ≡ Ok (x, left)
GivesSame (Err Refused) read left = read ≡ Err left
GivesSame (Err Memory) read left = Unit {0}

-- a value, and no token
abbrev pub pure : {A : Type 0} → A → Read A
pure x ts = Ok (x, ts)

-- one after the other
abbrev pub both : {A B : Type 0} → Read A → Read B → Read (A × B)
both p q ts = p ts >>? λ x. q x.1 >>? λ y. Ok ((x.0, y.0), y.1)

-- what is made of a value
abbrev pub reads : {A B : Type 0} → (A → B) → Read A → Read B
reads make p ts = p ts >>? λ x. Ok (make x.0, x.1)

-- the first token decides how to go on behind it
abbrev pub choose : {A : Type 0} → (Lexeme → Option (Read A)) → Read A
choose pick [] = Err []
choose pick (t ∷ ts) = elim (pick t) [ None ↦ Err (t ∷ ts) | Some p ↦ p ts ]

-- one token that means something
abbrev pub one_of : {A : Type 0} → (Lexeme → Option A) → Read A
one_of means [] = Err []
one_of means (t ∷ ts) = elim (means t) [ None ↦ Err (t ∷ ts) | Some x ↦ Ok (x, ts) ]

abbrev pub is_mark : ℕ → Lexeme → Bool
is_mark m (Mark b) = b == m
is_mark m _ = false

-- behind a mark if it stands there, else from the first token on
abbrev pub if_mark : {A : Type 0} → ℕ → Read A → Read A → Read A
if_mark m p q [] = q []
if_mark m p q (t ∷ ts) = if is_mark m t then p ts else q (t ∷ ts)

-- the keyword decides
abbrev pub by_key : {A : Type 0} → (Keyword → Option (Read A)) → Lexeme → Option (Read A)
by_key pick (Key k) = pick k
by_key pick _ = None

-- ---- single tokens

abbrev pub of_mark : ℕ → Lexeme → Option (Unit {0})
of_mark m (Mark b) = if b == m then Some tt else None
of_mark m _ = None

unfoldable pub mark_at : ℕ → Read (Unit {0})
mark_at m = one_of (of_mark m)

abbrev pub of_name : Lexeme → Option (List ℕ)
of_name (Name w) = Some w
of_name _ = None

unfoldable pub name_at : Read (List ℕ)
name_at = one_of of_name

abbrev pub of_number : Lexeme → Option ℤ
of_number (Number n) = Some n
of_number _ = None

unfoldable pub number_at : Read ℤ
number_at = one_of of_number

abbrev pub of_end : Lexeme → Option (Unit {0})
of_end EndOfLine = Some tt
of_end _ = None

unfoldable pub line_end_at : Read (Unit {0})
line_end_at = one_of of_end

-- a register that may have a type
abbrev pub typed : Reg → Option Reg
typed Esp = None
typed r = Some r

abbrev pub of_typed : Lexeme → Option Reg
of_typed (Register r) = typed r
of_typed _ = None

unfoldable pub typed_at : Read Reg
typed_at = one_of of_typed

-- ---- lists

-- the first of a list, and the others
abbrev pub cons : {A : Type 0} → A × List A → List A
cons x = x.0 ∷ x.1

-- up to n more rows, each with what stands before it, and the closing mark
unfoldable pub more_at : {A : Type 0} → ℕ → Read A → ℕ → Read (List A)
more_at close next zero = reads (λ u. []) (mark_at close)
more_at close next (suc n) = if_mark close (pure []) (reads cons (both next (more_at close next n)))

-- more rows than any line has
unfoldable pub most : ℕ
most = 18446744073709551615

-- a row, more rows, and the closing mark
unfoldable pub some_rows : {A : Type 0} → ℕ → Read A → Read A → Read (List A)
some_rows close item next = reads cons (both item (more_at close next most))

-- a row behind a comma
unfoldable pub comma_at : {A : Type 0} → Read A → Read A
comma_at item = reads (λ x. x.1) (both (mark_at 44) item)

-- rows between commas, and the closing mark
unfoldable pub rows_at : {A : Type 0} → ℕ → Read A → Read (List A)
rows_at close item = if_mark close (pure []) (some_rows close item (comma_at item))
