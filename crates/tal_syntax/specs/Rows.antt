-- Reading types, and lists of rows.
use Rattle.std.specs.Prelude.{◌≡◌, ℕ, List, ◌∷◌, Option, Some, None, Bool, true, false}
use Rattle.ia32_code.specs.declared.instruction.Reg.{Reg}
use Rattle.text_tokens.specs.Token.{Lexeme, Mark}
use Rattle.text_tokens.specs.declared.token.Keyword.{Keyword}
use Rattle.text_tokens.specs.declared.token.Keyword.TheVariants as key
use Rattle.tal_syntax.specs.declared.form.TypeText.{TypeText}
use Rattle.tal_syntax.specs.declared.form.TypeText.TheVariants as ty
use Rattle.tal_syntax.specs.declared.form.RegType.{RegType}
use Rattle.tal_syntax.specs.Reading.{Read, pure, both, reads, choose, by_key, name_at, typed_at}

-- a mark was taken, or stays
abbrev pub Peels : ℕ → Bool → List Lexeme → List Lexeme → Type 0
Peels m true old new = old ≡ Mark m ∷ new
Peels m false old new = (new ≡ old) × ((ts : List Lexeme) → old ≡ Mark m ∷ ts → ⊥)

-- a type, by its first word
abbrev pub type_key : Keyword → Option (Read TypeText)
type_key key.Num = Some (pure ty.Num)
type_key key.Junk = Some (pure ty.Junk)
type_key key.Ref = Some (reads (λ n. ty.Ref n) name_at)
type_key key.Obj = Some (reads (λ n. ty.Obj n) name_at)
type_key key.ArrRef = Some (reads (λ n. ty.ArrRef n) name_at)
type_key key.Arr = Some (reads (λ n. ty.Arr n) name_at)
type_key key.Fun = Some (reads (λ n. ty.Fun n) name_at)
type_key key.Code = Some (reads (λ n. ty.Code n) name_at)
type_key key.Tab = Some (reads (λ n. ty.Tab n) name_at)
type_key key.Desc = Some (reads (λ n. ty.Desc n) name_at)
type_key _ = None

unfoldable pub type_at : Read TypeText
type_at = choose (by_key type_key)

-- a register with its type
abbrev pub reg_type : Reg × TypeText → RegType
reg_type x = record { reg = x.0; ty = x.1 }

unfoldable pub reg_type_at : Read RegType
reg_type_at = reads reg_type (both typed_at type_at)
