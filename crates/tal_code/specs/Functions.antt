-- What the lines of a function add to a unit's code, or their first fault.
use Rattle.std.specs.Prelude.{ℕ, ℤ, pos, ◌+◌, ◌-◌, Bool, true, false, not, ◌&&◌, nat_lt, nat_le, List, [], ◌∷◌, ◌++◌, length, map, Option, Some, None, is_some, Result, Ok, Err, if◌then◌else◌}
use Rattle.std.specs.Option.{option_map_or, option_to_list, unwrap_or}
use Rattle.tal_types.specs.declared.types.Ty.{Ty}
use Rattle.tal_types.specs.declared.types.Ty.TheVariants as ty
use Rattle.code_words.specs.declared.words.Mnemonic.{Mnemonic}
use Rattle.tal_image.specs.Conditions.{most_code}
use Rattle.tal_syntax.specs.declared.form.Arg.{Arg}
use Rattle.tal_syntax.specs.declared.form.Form.{Form}
use Rattle.tal_syntax.specs.declared.form.Form.TheVariants as form
use Rattle.tal_syntax.specs.declared.form.RegType.{RegType}
use Rattle.tal_syntax.specs.declared.form.TypeText.{TypeText}
use Rattle.tal_syntax.specs.declared.module.TextLine.{TextLine}
use Rattle.tal_names.specs.Declarations.{Names}
use Rattle.tal_names.specs.LookUps.{type_of}
use Rattle.tal_operands.specs.declared.operands.Sense.{Sense}
use Rattle.tal_operands.specs.declared.instructions.Instruction.{Instruction}
use Rattle.tal_operands.specs.Instructions.{line_instruction, inst_fault}
use Rattle.tal_rows.specs.Lines.{is_twice, slots_given, label_line}
use Rattle.unit_files.specs.declared.parts.UnitBlock.{UnitBlock}
use Rattle.unit_files.specs.declared.parts.UnitMark.{UnitMark}
use Rattle.unit_files.specs.declared.parts.FixUp.{FixUp}
use Rattle.asm_faults.specs.declared.AsmFault.{AsmFault}
use Rattle.tal_code.specs.declared.holes.HolePlace.{HolePlace}
use Rattle.tal_code.specs.declared.holes.HoledCode.{HoledCode}
use Rattle.tal_code.specs.Holes.{holed_code, open_bytes}
use Rattle.tal_code.specs.Labels.{LabelsView, labels_of, distance_at}

-- the code of a unit so far, with its blocks, marks and fix-ups
pub record UnitCodeView : Type 0 where
  pub code : List ℕ
  pub blocks : List UnitBlock
  pub marks : List UnitMark
  pub fixups : List FixUp

abbrev pub no_code : UnitCodeView
no_code = record { code = []; blocks = []; marks = []; fixups = [] }

-- the most blocks, marks and fix-ups
abbrev pub most_blocks : ℕ
most_blocks = 65536

abbrev pub most_marks : ℕ
most_marks = 65536

abbrev pub most_fixups : ℕ
most_fixups = 262144

-- ---- an instruction

-- the mark of an instruction at an offset, and the fix-up of a hole of it
unfoldable pub instruction_marks : ℕ → Option Sense → List UnitMark
instruction_marks offset None = []
instruction_marks offset (Some s) = record { offset = offset; tag = s.tag; index = s.index } ∷ []

unfoldable pub fixups_of : ℕ → Option HolePlace → List FixUp
fixups_of offset None = []
fixups_of offset (Some p) = record { offset = offset + p.at; kind = p.hole.kind; index = p.hole.index } ∷ []

-- an instruction more; one without a spelling adds nothing
unfoldable pub with_inst : UnitCodeView → Option Sense → Option HoledCode → UnitCodeView
with_inst u s None = u
with_inst u s (Some c) = record {
  code = u.code ++ open_bytes c;
  blocks = u.blocks;
  marks = u.marks ++ instruction_marks (length u.code) s;
  fixups = u.fixups ++ fixups_of (length u.code) c.near ++ fixups_of (length u.code) c.far;
}

-- its counts are within their limits
unfoldable pub has_room : UnitCodeView → Bool
has_room u = nat_le (length u.code) most_code && nat_le (length u.marks) most_marks && nat_le (length u.fixups) most_fixups

-- what is made, or the code of a fault
abbrev pub unless_fault : {A : Type 0} → Option ℕ → A → Result A ℕ
unless_fault None made = Ok made
unless_fault (Some code) made = Err code

-- the bytes of an instruction with so many operands: it has three at most
unfoldable pub line_code : Instruction → ℕ → Option HoledCode
line_code i operands = if nat_le operands 3 then holed_code i else None

-- the code with an instruction, whose label is so far away, if it is known
unfoldable pub inst_line : Names → UnitCodeView → Mnemonic → List Arg → Option ℤ → Result UnitCodeView ℕ
inst_line m u mnemonic args distance =
    let i = line_instruction m mnemonic args (unwrap_or distance (pos 0)) in
    let c = line_code i (length args) in
    unless_fault (inst_fault i (is_some c) (is_some distance) (has_room (with_inst u i.sense c))) (with_inst u i.sense c)

-- ---- a label

-- the first of the lines is an instruction
unfoldable pub begins_with_inst : List TextLine → Bool
begins_with_inst [] = false
begins_with_inst (l ∷ more) = elim (l.form) [ form.Inst mnemonic args ↦ true | _ ↦ false ]

-- A label may stand behind the function's first instruction and before an instruction, once. `before` is the code before the
-- function, which has as many blocks less as there are labels before this one.
unfoldable pub is_placed : LabelsView → UnitCodeView → UnitCodeView → List ℕ → List TextLine → Bool
is_placed ls before u n more =
    nat_lt (length before.code) (length u.code) && begins_with_inst more && not (is_twice ls.names n (length u.blocks - length before.blocks))

-- the types of slots
abbrev pub slot_types : Names → List TypeText → List Ty
slot_types m ts = map (λ t. unwrap_or (type_of m t) ty.Junk) ts

-- a block more
unfoldable pub with_block : UnitCodeView → List Ty → List Ty → UnitCodeView
with_block u regs slots = record u { blocks = u.blocks ++ record { offset = length u.code; regs = regs; slots = slots } ∷ [] }

-- the code with a label's block
unfoldable pub block_line : Names → UnitCodeView → List RegType → Option (List TypeText) → Bool → Result UnitCodeView ℕ
block_line m u rs slots placed = elim (label_line m rs slots placed (length u.blocks)) [
  | Err code ↦ Err code
  | Ok regs ↦ Ok (with_block u regs (slot_types m (slots_given slots)))
]

-- ---- a function

-- whether an instruction is among a function's lines, which are labels and instructions
unfoldable pub has_code : List TextLine → Bool
has_code [] = false
has_code (l ∷ more) = elim (l.form) [ form.Inst mnemonic args ↦ true | form.Label n rs slots ↦ has_code more | _ ↦ false ]

-- What a line of a function makes of the code, before these lines; none where the line is no label and no instruction. The
-- labels are those of the whole function, and `before` is the code before it.
unfoldable pub code_line : Names → LabelsView → UnitCodeView → UnitCodeView → Form → List TextLine → Option (Result UnitCodeView ℕ)
code_line m ls before u (form.Label n rs slots) more = Some (block_line m u rs slots (is_placed ls before u n more))
code_line m ls before u (form.Inst mnemonic args) more = Some (inst_line m u mnemonic args (distance_at m ls (length u.code) mnemonic args))
code_line m ls before u _ more = None

-- the code goes on with what a line made; a fault is told with the line's number
abbrev pub on_line : ℕ → Result UnitCodeView ℕ → (UnitCodeView → Result UnitCodeView AsmFault) → Result UnitCodeView AsmFault
on_line number (Ok u) more = more u
on_line number (Err code) more = Err (record { line = number; code = code })

-- the code with a function's lines, up to the first line that is none
unfoldable pub with_lines : Names → LabelsView → UnitCodeView → UnitCodeView → List TextLine → Result UnitCodeView AsmFault
with_lines m ls before u [] = Ok u
with_lines m ls before u (l ∷ more) =
    option_map_or (λ made. on_line l.number made (λ v. with_lines m ls before v more)) (code_line m ls before u l.form more) (Ok u)

-- the code of a unit with one function more, of which these are the lines behind its first
unfoldable pub function_code : Names → UnitCodeView → List TextLine → Result UnitCodeView AsmFault
function_code m u lines = with_lines m (labels_of m (length u.code) lines) u u lines
