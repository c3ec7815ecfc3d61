-- What a line declares, or the least code of its faults: the trials of each form stand in the order of their codes. A form is
-- tried with what the lines before it have made: how many rows its table has, and for statics and data arrays how many words
-- these take. The codes: 11 a name that is not declared, 12 one that is declared twice, 14 a class that breaks the rules of
-- classes, 15 a function without an instruction, 16 a count above its limit, 17 a number that does not fit, 18 a type that is not
-- allowed.
use Rattle.std.specs.Prelude.{ℕ, ℤ, pos, negsuc, ◌+◌, Bool, true, false, not, ◌&&◌, ◌||◌, nat_lt, nat_le, ◌==◌, List, [], ◌∷◌, ◌++◌, length, map, Option, Some, None, is_some, Result, Ok, slice_index_or, if◌then◌else◌}
use Rattle.std.specs.Option.{option_map_or, unwrap_or}
use Rattle.ia32_code.specs.declared.instruction.Reg.{Reg}
use Rattle.ia32_code.specs.declared.instruction.Reg.TheVariants as reg
use Rattle.ia32_code.specs.OperandForms.{number}
use Rattle.object_layout.specs.declared.rows.FieldTy.{FieldTy}
use Rattle.object_layout.specs.declared.rows.FieldTy.TheVariants as field
use Rattle.tal_types.specs.declared.types.Ty.{Ty}
use Rattle.tal_types.specs.declared.types.Ty.TheVariants as ty
use Rattle.tal_types.specs.declared.signatures.Sig.{Sig}
use Rattle.tal_syntax.specs.declared.form.RegType.{RegType}
use Rattle.tal_syntax.specs.declared.form.TypeText.{TypeText}
use Rattle.tal_names.specs.Declarations.{Names}
use Rattle.tal_names.specs.NameSets.{number_of_name}
use Rattle.tal_names.specs.LookUps.{type_of, depth}
use Rattle.tal_rows.specs.declared.lines.DataLine.{DataLine}
use Rattle.tal_rows.specs.declared.lines.EntryLine.{EntryLine}
use Rattle.tal_rows.specs.Trials.{need_value, unless}

-- Row k of a table has name k. A name that is declared again has the number of an earlier row.
unfoldable pub is_twice : List (List ℕ) → List ℕ → ℕ → Bool
is_twice names n rows = option_map_or (λ k. nat_lt k rows) (number_of_name names n) false

-- what a field, a static or an element may hold
unfoldable pub field_type : Ty → Option FieldTy
field_type ty.Num = Some field.Num
field_type (ty.Ref c) = Some (field.Ref c)
field_type (ty.ArrRef k) = Some (field.ArrRef k)
field_type (ty.Fun s) = Some (field.Fun s)
field_type _ = None

-- a number that is not negative
unfoldable pub natural : ℤ → Option ℕ
natural (pos n) = Some n
natural (negsuc n) = None

-- ---- registers with their types

-- all types are known
unfoldable pub all_known : Names → List RegType → Bool
all_known m [] = true
all_known m (r ∷ rows) = is_some (type_of m r.ty) && all_known m rows

-- the register is among them
unfoldable pub has_register : Reg → List RegType → Bool
has_register r [] = false
has_register r (x ∷ rows) = number x.reg == number r || has_register r rows

-- a register of the rows stands before itself
unfoldable pub repeats : List RegType → List RegType → Bool
repeats before [] = false
repeats before (r ∷ rows) = has_register r.reg before || repeats (before ++ r ∷ []) rows

-- the type of a register: junk where it has no row
unfoldable pub type_in : Names → List RegType → Reg → Ty
type_in m [] r = ty.Junk
type_in m (x ∷ rows) r = if number x.reg == number r then unwrap_or (type_of m x.ty) ty.Junk else type_in m rows r

-- the types of EAX, ECX, EDX, EBX, EBP, ESI and EDI
abbrev pub types_in : Names → List RegType → List Ty
types_in m rows = map (type_in m rows) (reg.Eax ∷ reg.Ecx ∷ reg.Edx ∷ reg.Ebx ∷ reg.Ebp ∷ reg.Esi ∷ reg.Edi ∷ [])

-- ---- lines

-- a signature: its types are known; no register and no name twice; 4096 signatures at most
unfoldable pub sig_line : Names → List ℕ → List RegType → TypeText → ℕ → Result Sig ℕ
sig_line m n ps r rows =
    unless (not (all_known m ps)) 11 (need_value (type_of m r) 11 (λ result.
    unless (repeats [] ps) 12 (unless (is_twice m.sigs n rows) 12 (unless (nat_le 4096 rows) 16
    (Ok (record { params = types_in m ps; result = result }))))))

-- an array kind: its type is known; no name twice; 256 kinds at most; it holds numbers or references that may be null
unfoldable pub kind_line : Names → List ℕ → TypeText → ℕ → Result FieldTy ℕ
kind_line m n t rows =
    need_value (type_of m t) 11 (λ found. unless (is_twice m.kinds n rows) 12 (unless (nat_le 256 rows) 16 (need_value (field_type found) 18 (λ held. Ok held))))

-- a static: the same, where statics and data arrays take 65536 words at most
unfoldable pub static_line : Names → List ℕ → TypeText → ℕ → ℕ → Result FieldTy ℕ
static_line m n t rows words =
    need_value (type_of m t) 11 (λ found. unless (is_twice m.statics n rows) 12 (unless (nat_le 65536 words) 16 (need_value (field_type found) 18 (λ held. Ok held))))

-- a data array does not fit behind so many words, with the two before its elements
unfoldable pub is_too_long : ℤ → ℕ → Bool
is_too_long size words = option_map_or (λ n. nat_lt 65536 (words + 2 + n)) (natural size) false

-- there are as many numbers as elements, and the elements are numbers
unfoldable pub numbers_fit : Names → ℕ → ℕ → Option (List ℤ) → Bool
numbers_fit m kind size None = true
numbers_fit m kind size (Some ns) = slice_index_or m.number_kinds kind false && length ns == size

-- a data array: its kind is declared; no name twice; the words; its length is not negative, and its numbers fit
unfoldable pub data_line : Names → List ℕ → List ℕ → ℤ → Option (List ℤ) → ℕ → ℕ → Result DataLine ℕ
data_line m n k size ns rows words =
    need_value (number_of_name m.kinds k) 11 (λ kind. unless (is_twice m.arrays n rows) 12 (unless (is_too_long size words) 16
    (need_value (natural size) 17 (λ found. unless (not (numbers_fit m kind found ns)) 17 (Ok (record { kind = kind; length = found }))))))

-- a function: its signature is declared; no name twice; it is extern or has an instruction; 16384 functions at most
unfoldable pub function_line : Names → List ℕ → List ℕ → Bool → ℕ → Result ℕ ℕ
function_line m n s has_code rows =
    need_value (number_of_name m.sigs s) 11 (λ sig. unless (is_twice m.functions n rows) 12 (unless (not has_code) 15 (unless (nat_le 16384 rows) 16 (Ok sig))))

-- the class below which a class is: its row is an earlier one, with six classes above it at most
unfoldable pub parent_row_fits : Names → ℕ → ℕ → Bool
parent_row_fits m rows p = nat_lt p rows && nat_lt (depth m p) 7

-- the first line of a class: the class above it is declared; no name twice; it fits; 1024 classes at most
unfoldable pub class_line : Names → List ℕ → Option (List ℕ) → ℕ → Result (Option ℕ) ℕ
class_line m n None rows = unless (is_twice m.classes n rows) 12 (unless (nat_le 1024 rows) 16 (Ok None))
class_line m n (Some above) rows =
    need_value (number_of_name m.classes above) 11 (λ p. unless (is_twice m.classes n rows) 12 (unless (not (parent_row_fits m rows p)) 14 (unless (nat_le 1024 rows) 16 (Ok (Some p)))))

-- an entry: its function is declared; no stack has two; the stacks are 0 to 63
unfoldable pub entry_line : Names → ℤ → List ℕ → Bool → Result EntryLine ℕ
entry_line m stack f is_given =
    need_value (number_of_name m.functions f) 11 (λ function. unless is_given 12 (need_value (natural stack) 17 (λ s. unless (nat_lt 63 s) 17
    (Ok (record { stack = s; function = function })))))

-- the slots of a label
unfoldable pub slots_given : Option (List TypeText) → List TypeText
slots_given None = []
slots_given (Some ts) = ts

-- all types are known
unfoldable pub slots_known : Names → List TypeText → Bool
slots_known m [] = true
slots_known m (t ∷ ts) = is_some (type_of m t) && slots_known m ts

-- a label: its types are known; no register twice; it stands where a label may; 64 slots and 65536 blocks at most
unfoldable pub label_line : Names → List RegType → Option (List TypeText) → Bool → ℕ → Result (List Ty) ℕ
label_line m rs slots is_placed blocks =
    unless (not (all_known m rs)) 11 (unless (not (slots_known m (slots_given slots))) 11
    (unless (repeats [] rs) 12 (unless (not is_placed) 15 (unless (nat_lt 64 (length (slots_given slots)) || nat_le 65536 blocks) 16 (Ok (types_in m rs))))))
