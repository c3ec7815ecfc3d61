-- The operands of a module's instructions, a row each.
use Rattle.std.specs.Prelude.{ℕ, ℤ, pos, int_lt, Bool, true, false, not, ◌||◌, ◌&&◌, Option, Some, None, is_some, if◌then◌else◌}
use Rattle.std.specs.Option.{option_map}
use Rattle.code_words.specs.declared.words.OperandWord.{OperandWord}
use Rattle.code_words.specs.declared.words.OperandWord.TheVariants as say
use Rattle.tal_syntax.specs.declared.form.Arg.{Arg}
use Rattle.tal_syntax.specs.declared.form.Arg.TheVariants as arg
use Rattle.tal_types.specs.declared.types.Ty.{Ty}
use Rattle.tal_types.specs.declared.types.Ty.TheVariants as ty
use Rattle.tal_names.specs.Declarations.{Names}
use Rattle.tal_names.specs.NameSets.{number_of_name}
use Rattle.tal_names.specs.LookUps.{type_of}
use Rattle.tal_operands.specs.declared.addresses.Address.{Address}
use Rattle.tal_operands.specs.declared.operands.Hole.{Hole}
use Rattle.tal_operands.specs.declared.operands.Sense.{Sense}
use Rattle.tal_operands.specs.declared.operands.OperandFaults.{OperandFaults}
use Rattle.tal_operands.specs.declared.operands.Operand.{Operand}
use Rattle.tal_operands.specs.Addresses.{word, terms_address}

-- The word that stands for a hole while an instruction is spelled: no byte, sign extended, so that the spelling has four bytes
-- for it. 0 comes in its place.
abbrev pub wide : ℕ
wide = 0x01000000

abbrev pub hole : ℕ → ℕ → Option Hole
hole kind index = Some (record { kind = kind; index = index })

abbrev pub sense : ℕ → ℕ → Option Sense
sense tag index = Some (record { tag = tag; index = index })

abbrev pub no_faults : OperandFaults
no_faults = record { unknown = false; crowded = false; special = false; range = false; null_type = false }

-- an operand without a name
abbrev pub plain_operand : OperandWord → Operand
plain_operand w = record { word = w; near = None; far = None; sense = None; faults = no_faults }

-- an immediate number for a row, by the kind of its hole and the tag of its mark
unfoldable pub row_operand : ℕ → ℕ → Option ℕ → Operand
row_operand kind tag None = record { word = say.Number wide; near = None; far = hole kind 0; sense = sense tag 0; faults = record no_faults { unknown = true; special = true } }
row_operand kind tag (Some i) = record { word = say.Number wide; near = None; far = hole kind i; sense = sense tag i; faults = record no_faults { special = true } }

-- the mark of null: a reference to objects, to arrays or to functions may be null
unfoldable pub null_sense : Ty → Option Sense
null_sense (ty.Ref c) = sense 1 c
null_sense (ty.ArrRef k) = sense 3 k
null_sense (ty.Fun s) = sense 5 s
null_sense _ = None

-- null of a type
unfoldable pub null_operand : Option Ty → Operand
null_operand None = record { word = say.Number 0; near = None; far = None; sense = None; faults = record no_faults { unknown = true; special = true } }
null_operand (Some t) = record { word = say.Number 0; near = None; far = None; sense = null_sense t; faults = record no_faults { special = true; null_type = not (is_some (null_sense t)) } }

-- An operand in memory. The address of a static is a hole, beside which there is no number and no second static.
unfoldable pub memory_operand : Address → Operand
memory_operand a = record {
  word = say.Memory (record { base = a.base; index = a.index; scale = a.scale; disp = if is_some a.place then wide else a.disp });
  near = option_map (λ s. record { kind = 5; index = s }) a.place;
  far = None;
  sense = None;
  faults = record no_faults { unknown = a.unknown; crowded = a.crowded; range = a.twice || (is_some a.place && a.counted) };
}

-- the entries of the Nucleus are 0 to 10
unfoldable pub is_nucleus_entry : ℤ → Bool
is_nucleus_entry k = not (int_lt k (pos 0)) && not (int_lt (pos 10) k)

-- a call of the Nucleus
unfoldable pub nucleus_operand : ℤ → Operand
nucleus_operand k = record { word = say.Target (pos 0); near = None; far = hole 7 (word k); sense = None; faults = record no_faults { range = not (is_nucleus_entry k) } }

-- a function that is called
unfoldable pub called_operand : Option ℕ → Operand
called_operand None = record { word = say.Target (pos 0); near = None; far = hole 6 0; sense = None; faults = record no_faults { unknown = true } }
called_operand (Some f) = record { word = say.Target (pos 0); near = None; far = hole 6 f; sense = None; faults = no_faults }

-- An operand. A call's target is a function, another target a label at this distance.
unfoldable pub arg_operand : Names → Bool → ℤ → Arg → Operand
arg_operand m call distance (arg.Register r) = plain_operand (say.Register r)
arg_operand m call distance arg.Cl = plain_operand say.Cl
arg_operand m call distance (arg.Number n) = plain_operand (say.Number (word n))
arg_operand m call distance (arg.Null t) = null_operand (type_of m t)
arg_operand m call distance (arg.Tab c) = row_operand 1 7 (number_of_name m.classes c)
arg_operand m call distance (arg.Desc k) = row_operand 2 8 (number_of_name m.kinds k)
arg_operand m call distance (arg.Code f) = row_operand 3 6 (number_of_name m.functions f)
arg_operand m call distance (arg.DataOf d) = row_operand 4 10 (number_of_name m.arrays d)
arg_operand m call distance (arg.Memory terms) = memory_operand (terms_address m terms)
arg_operand m call distance (arg.Nucleus k) = nucleus_operand k
arg_operand m call distance (arg.Target n) = if call then called_operand (number_of_name m.functions n) else plain_operand (say.Target distance)
