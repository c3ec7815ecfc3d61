-- The terms of an operand in memory, from left to right.
use Rattle.std.specs.Prelude.{ℕ, ℤ, ◌+◌, ◌%◌, ◌^◌, true, false, not, ◌||◌, ◌==◌, List, [], ◌∷◌, Option, Some, None, is_some, if◌then◌else◌}
use Rattle.std.specs.Option.{option_and_then, option_map}
use Rattle.std.specs.Int.{w64, cast_unsigned}
use Rattle.ia32_code.specs.declared.instruction.Reg.{Reg}
use Rattle.tal_syntax.specs.declared.form.Term.{Term}
use Rattle.tal_syntax.specs.declared.form.Term.TheVariants as term
use Rattle.tal_names.specs.Declarations.{Names}
use Rattle.tal_names.specs.NameSets.{number_of_name}
use Rattle.tal_names.specs.LookUps.{field_byte, method_byte, display_byte}
use Rattle.tal_operands.specs.declared.addresses.Address.{Address}

-- the word of a number that is written, modulo 2^32
abbrev pub word : ℤ → ℕ
word n = cast_unsigned w64 n % 2 ^ 32

-- no terms
abbrev pub no_terms : Address
no_terms = record { base = None; index = None; scale = 0; crowded = false; disp = 0; counted = false; place = None; twice = false; unknown = false }

-- The first register without a factor is the base, one other register the index.
unfoldable pub with_unscaled : Address → Reg → Address
with_unscaled a r =
    if not (is_some a.base) then record a { base = Some r }
    else if not (is_some a.index) then record a { index = Some r }
    else record a { crowded = true }

-- two to the power of the scale is the factor
unfoldable pub factor_scale : ℕ → ℕ
factor_scale k = if k == 2 then 1 else if k == 4 then 2 else if k == 8 then 3 else 0

-- a register with a factor is the index
unfoldable pub with_scaled : Address → Reg → ℕ → Address
with_scaled a r k = if not (is_some a.index) then record a { index = Some r; scale = factor_scale k } else record a { crowded = true }

-- a number of bytes more, which is there or not
unfoldable pub with_bytes : Address → Option ℕ → Address
with_bytes a None = record a { counted = true; unknown = true }
with_bytes a (Some n) = record a { counted = true; disp = (a.disp + n) % 2 ^ 32 }

-- a static more, which is there or not
unfoldable pub with_static : Address → Option ℕ → Address
with_static a None = record a { twice = a.twice || is_some a.place; place = Some 0; unknown = true }
with_static a (Some s) = record a { twice = a.twice || is_some a.place; place = Some s }

-- the terms so far, with one more
unfoldable pub with_term : Names → Address → Term → Address
with_term m a (term.Register r) = with_unscaled a r
with_term m a (term.Scaled r k) = with_scaled a r k
with_term m a (term.Number n) = with_bytes a (Some (word n))
with_term m a (term.FieldByte c f) = with_bytes a (option_and_then (λ k. field_byte m k f) (number_of_name m.classes c))
with_term m a (term.MethodByte c x) = with_bytes a (option_and_then (λ k. method_byte m k x) (number_of_name m.classes c))
with_term m a (term.DisplayByte c) = with_bytes a (option_map (display_byte m) (number_of_name m.classes c))
with_term m a (term.StaticAt s) = with_static a (number_of_name m.statics s)

-- the terms so far, with all these
unfoldable pub with_terms : Names → Address → List Term → Address
with_terms m a [] = a
with_terms m a (t ∷ ts) = with_terms m (with_term m a t) ts

-- what the terms make
abbrev pub terms_address : Names → List Term → Address
terms_address m terms = with_terms m no_terms terms
