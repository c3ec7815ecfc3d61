-- Where the labels of a function lie in a unit's code.
use Rattle.std.specs.Prelude.{ℕ, ℤ, pos, ◌+◌, ◌-ℤ◌, Bool, true, false, nat_lt, List, [], ◌∷◌, ◌++◌, Option, Some, None, slice_get, if◌then◌else◌}
use Rattle.std.specs.Option.{option_and_then, option_map, option_map_or, option_or}
use Rattle.ia32_code.specs.Canonical.{canonical_length}
use Rattle.code_words.specs.declared.words.Words.{Words}
use Rattle.code_words.specs.Meaning.{meant_by}
use Rattle.code_words.specs.declared.words.Mnemonic.{Mnemonic}
use Rattle.tal_image.specs.Conditions.{most_code}
use Rattle.tal_syntax.specs.declared.form.Arg.{Arg}
use Rattle.tal_syntax.specs.declared.form.Arg.TheVariants as arg
use Rattle.tal_syntax.specs.declared.form.Form.{Form}
use Rattle.tal_syntax.specs.declared.form.Form.TheVariants as form
use Rattle.tal_syntax.specs.declared.module.TextLine.{TextLine}
use Rattle.tal_names.specs.Declarations.{Names}
use Rattle.tal_names.specs.NameSets.{is_named, number_of_name}
use Rattle.tal_operands.specs.Instructions.{is_call, line_instruction}

-- the labels' names in the order of the lines, a name that is given again where it was first, and at which offsets they are
pub record LabelsView : Type 0 where
  pub names : List (List ℕ)
  pub offsets : List ℕ

abbrev pub no_labels : LabelsView
no_labels = record { names = []; offsets = [] }

-- no offset is farther
abbrev pub farthest : ℕ
farthest = most_code + 255

-- The offset behind so many bytes more. Behind the most code that a unit has it stands still: a line there is refused.
unfoldable pub offset_behind : ℕ → ℕ → ℕ
offset_behind offset n = if nat_lt most_code offset then offset else offset + n

-- how long the canonical spelling of what words mean is, 0 where there is none
unfoldable pub words_length : Words → ℕ
words_length w = option_map_or canonical_length (meant_by w) 0

-- How many bytes an instruction has, 0 where it has no spelling. A distance has four bytes in each case.
unfoldable pub inst_length : Names → Mnemonic → List Arg → ℕ
inst_length m mnemonic args = words_length (line_instruction m mnemonic args (pos 0)).words

-- a label more
unfoldable pub with_label : LabelsView → List ℕ → ℕ → LabelsView
with_label ls n offset = if is_named ls.names n then ls else record { names = ls.names ++ n ∷ []; offsets = ls.offsets ++ offset ∷ [] }

-- the labels of these lines, of which the first begins at an offset; a function's lines are labels and instructions
unfoldable pub with_labels : Names → LabelsView → ℕ → List TextLine → LabelsView
with_labels m ls offset [] = ls
with_labels m ls offset (l ∷ more) = elim (l.form) [
  | form.Label n rs slots ↦ with_labels m (with_label ls n offset) offset more
  | form.Inst mnemonic args ↦ with_labels m ls (offset_behind offset (inst_length m mnemonic args)) more
  | _ ↦ ls
]

-- the labels of a function whose first instruction is at an offset
abbrev pub labels_of : Names → ℕ → List TextLine → LabelsView
labels_of m offset lines = with_labels m no_labels offset lines

-- where the label with a name is
unfoldable pub label_offset : LabelsView → List ℕ → Option ℕ
label_offset ls n = option_and_then (slice_get ls.offsets) (number_of_name ls.names n)

-- the name of the label to which an instruction goes: a call goes to none
unfoldable pub first_target : List Arg → Option (List ℕ)
first_target [] = None
first_target (arg.Target n ∷ args) = Some n
first_target (_ ∷ args) = first_target args

unfoldable pub label_of : Mnemonic → List Arg → Option (List ℕ)
label_of mnemonic args = if is_call mnemonic then None else first_target args

-- how far an instruction's label is from the next instruction; none where it is not known, and 0 where it has none
unfoldable pub distance_to : Option (List ℕ) → LabelsView → ℕ → Option ℤ
distance_to None ls next = Some (pos 0)
distance_to (Some n) ls next = option_map (λ offset. pos offset -ℤ pos next) (label_offset ls n)

abbrev pub distance_at : Names → LabelsView → ℕ → Mnemonic → List Arg → Option ℤ
distance_at m ls offset mnemonic args = distance_to (label_of mnemonic args) ls (offset_behind offset (inst_length m mnemonic args))
