-- The unit of one function that returns, as the tests put it together, keeps the conditions.
use Rattle.std.proofs.Common.{false, [], ◌∷◌, refl, lit<, arith}
use Rattle.ia32_code.specs.declared.instruction.Inst.TheVariants as inst
use Rattle.ia32_code.specs.declared.instruction.Reg.TheVariants.{Eax}
use Rattle.ia32_code.specs.declared.operand_form.OperandForm.TheVariants.{Direct}
use Rattle.ia32_code.specs.declared.row.Row.TheVariants.{Ret}
use Rattle.ia32_code.specs.Spells.{Spells}
use Rattle.tal_types.specs.declared.types.Ty.TheVariants.{Num, Junk}
use Rattle.tal_image.specs.declared.parts.Tables.{Tables}
use Rattle.tal_image.specs.Conditions.{type_fits, part_length_fits}
use Rattle.tal_image.specs.Image.{type_tag, type_index}
use Rattle.tal_image.specs.Formed.{IsType}
use Rattle.text_tokens.specs.Words.{first_written, word_written}
use Rattle.unit_files.specs.Unit.{UnitParts, own_functions}
use Rattle.unit_files.specs.Conditions.{is_name}
use Rattle.unit_files.specs.Formed.{UnitFormed, IsName}

-- the unit
abbrev pub shortest : UnitParts
shortest = record {
  heap_words = 0;
  stacks = 0;
  names = (115 ∷ []) ∷ (102 ∷ []) ∷ [];
  sigs = record { name = 0; ext = false; sig = record { params = Junk ∷ Junk ∷ Junk ∷ Junk ∷ Junk ∷ Junk ∷ Junk ∷ []; result = Num } } ∷ [];
  functions = record { name = 1; ext = false; length = 1; sig = 0 } ∷ [];
  entries = [];
  classes = [];
  kinds = [];
  statics = [];
  arrays = [];
  code = 195 ∷ [];
  blocks = [];
  marks = [];
  fixups = [];
}

-- the one instruction
spelled : Spells (195 ∷ []) inst.Ret
spelled = record { spelling = record { row = Ret; reg = Eax; form = Direct Eax; number = 0 }; fits = record { row = refl; modrm = (refl, refl); trailing = refl }; text_is = refl; meaning_is = refl }

-- the tables
abbrev t : Tables
t = record { sigs = 1; classes = 0; kinds = 0 }

junk : IsType t Junk
unfolding type_fits type_tag type_index
junk = record { word = lit< tt; condition_12 = refl }

number : IsType t Num
unfolding type_fits type_tag type_index
number = record { word = lit< tt; condition_12 = refl }

-- its names
s_is : IsName (115 ∷ [])
unfolding is_name word_written first_written
s_is = record { long = refl; condition_28 = refl }

f_is : IsName (102 ∷ [])
unfolding is_name word_written first_written
f_is = record { long = refl; condition_28 = refl }

-- the unit is formed
pub formed : UnitFormed shortest
unfolding own_functions part_length_fits
formed = record {
  condition_1 = refl;
  condition_2 = refl;
  condition_3 = refl;
  condition_4 = refl;
  condition_5 = refl;
  condition_6 = refl;
  condition_7 = refl;
  condition_8 = refl;
  condition_9 = refl;
  condition_10 = refl;
  condition_11 = refl;
  names_28 = refl;
  entries_15 = refl;
  fixups_30 = refl;
  names = (s_is, (f_is, tt));
  sigs = (
    record { mention = record { word = lit< tt; condition_29 = refl }; sig = record { seven = refl; params = (junk, (junk, (junk, (junk, (junk, (junk, (junk, tt))))))); result = number } },
    tt,
  );
  functions = (record { mention = record { word = lit< tt; condition_29 = refl }; length_word = lit< tt; condition_13 = refl; sig_word = lit< tt; condition_14 = refl }, tt);
  entries = tt;
  classes = tt;
  kinds = tt;
  statics = tt;
  arrays = tt;
  bodies = (record { text = 195 ∷ []; means = inst.Ret } ∷ []) ∷ [];
  condition_23 = ((lit< tt, spelled, omega arith, refl), tt);
  code = refl;
  blocks = tt;
  marks = tt;
  fixups = tt;
}
