-- Reading the code, and what is said of it: for each byte of the code it is kept what begins there, and whether a function
-- does.
use Rattle.std.specs.Prelude.{◌≡◌, ℕ, zero, suc, ◌+◌, ◌<◌, Bool, true, false, not, ◌&&◌, ◌==◌, nat_lt, nat_le, is_some, List, [], ◌∷◌, ◌++◌, length, take, drop, replicate, Option, Some, None, slice_get, slice_index_or, Result, Ok, if◌then◌else◌}
use Rattle.std.specs.List.{flat_map}
use Rattle.ia32_code.specs.declared.instruction.Inst.{Inst}
use Rattle.ia32_code.specs.Spells.{Spells}
use Rattle.object_layout.specs.Areas.{table_address, descriptor_address}
use Rattle.file_fields.specs.declared.fault.ImageFault.{ImageFault}
use Rattle.tal_image.specs.declared.parts.FunctionPart.{FunctionPart}
use Rattle.tal_image.specs.declared.start.Start.{Start}
use Rattle.tal_image.specs.declared.start.Start.TheVariants.{Nothing, Instruction, Immediate}
use Rattle.tal_image.specs.Conditions.{Tables, Spelled, block_fits, mark_fits, marked_number, marked_number_at, same_number}
use Rattle.tal_image.specs.Fields.{function_instructions, bodies, all_instructions, code_bytes}
use Rattle.file_fields.specs.Grammar.{AreBytes}
use Rattle.file_fields.specs.Reading.{◌▸◌, Reads, run}

-- so many, of which the first is this one and the others are that
unfoldable pub headed : {A : Type 0} → A → A → ℕ → List A
headed first other zero = []
headed first other (suc n) = first ∷ replicate n other

-- what begins where an instruction with this immediate number does, if it has one
abbrev pub start_with : Option ℕ → Start
start_with None = Instruction
start_with (Some n) = Immediate n

-- what begins where an instruction does
abbrev pub start_of : Inst → Start
start_of i = start_with (marked_number i)

-- for each byte of instructions, what begins there
abbrev pub instruction_starts : List Spelled → List Start
instruction_starts code = flat_map (λ (s : Spelled). headed (start_of s.means) Nothing (length s.text)) code

-- for each byte of functions, whether one begins there
abbrev pub function_starts : List FunctionPart → List Bool
function_starts functions = flat_map (λ (f : FunctionPart). headed true false f.length) functions

-- what begins at a byte, and whether a function does
abbrev pub start_at : List Start → ℕ → Start
start_at starts k = slice_index_or starts k Nothing

abbrev pub starts_at : List Bool → ℕ → Bool
starts_at starts k = slice_index_or starts k false

-- whether an instruction begins
abbrev pub is_start : Start → Bool
is_start Nothing = false
is_start Instruction = true
is_start (Immediate n) = true

-- the immediate number of what begins
abbrev pub start_number : Start → Option ℕ
start_number Nothing = None
start_number Instruction = None
start_number (Immediate n) = Some n

-- the instructions of so many bytes
abbrev pub body_at : ℕ → Reads (List Spelled)
body_at n file at = run (function_instructions n n) file at

-- the instructions of functions one after another
abbrev pub bodies_at : List FunctionPart → Reads (List Spelled)
bodies_at functions file at = run (bodies functions) file at ▸ λ x. Ok (all_instructions x.0, x.1)

-- where instructions begin, behind those before them
abbrev pub starts_behind : List Start → Result (List Spelled × ℕ) ImageFault → Result (List Start × ℕ) ImageFault
starts_behind front read = read ▸ λ x. Ok (front ++ instruction_starts x.0, x.1)

-- where the instructions of functions begin
abbrev pub code_at : List FunctionPart → Reads (List Start)
code_at functions file at = starts_behind [] (bodies_at functions file at)

-- whether a block may begin at an offset
unfoldable pub place_fits : List Start → List Bool → ℕ → ℕ → Bool
place_fits instructions functions least offset = nat_le least offset && is_start (start_at instructions offset) && not (starts_at functions offset)

-- whether a mark may stand at an offset
unfoldable pub offset_fits : List Start → ℕ → ℕ → Bool
offset_fits starts least offset = nat_le least offset && is_some (start_number (start_at starts offset))

-- the word that a mark stands for, by the addresses of functions and the places of data arrays
unfoldable pub mark_word_by : Tables → List ℕ → List ℕ → ℕ → ℕ → Option ℕ
mark_word_by t addresses places tag index =
    if tag == 1 then (if nat_lt index t.classes then Some 0 else None)
    else if tag == 3 then (if nat_lt index t.kinds then Some 0 else None)
    else if tag == 5 then (if nat_lt index t.sigs then Some 0 else None)
    else if tag == 6 then slice_get addresses index
    else if tag == 7 then (if nat_lt index t.classes then Some (table_address index) else None)
    else if tag == 8 then (if nat_lt index t.kinds then Some (descriptor_address index) else None)
    else if tag == 10 then slice_get places index
    else None

-- whether a mark at an offset may have a tag and an index
abbrev pub mark_says : Tables → List ℕ → List ℕ → List Start → ℕ → ℕ → ℕ → Bool
mark_says t addresses places starts offset tag index = same_number (mark_word_by t addresses places tag index) (start_number (start_at starts offset))

-- ---- what was read

-- each function has a byte at least
abbrev pub AllPositive : List FunctionPart → Type 0
AllPositive [] = Unit {0}
AllPositive (f ∷ functions) = (0 < f.length) × AllPositive functions

-- these instructions stand one after another in a file from a place on, each with a spelling of its own
abbrev pub StandAt : List ℕ → ℕ → List Spelled → Type 0
StandAt file at [] = Unit {0}
StandAt file at (s ∷ more) = (0 < length s.text) × (s.text ≡ take (length s.text) (drop at file)) × Spells s.text s.means × StandAt file (at + length s.text) more

-- What is read of the code of functions is instructions that stand in the file, up to the place where the reader then is. What
-- a condition asks of an offset in them is looked up in what is kept.
pub record ReadCodeLaws : Type 0 where
  pub stand : (file : List ℕ) → AreBytes file → (functions : List FunctionPart) (at : ℕ) (xs : List (List Spelled)) (end : ℕ)
      → run (bodies functions) file at ≡ Ok (xs, end) → StandAt file at (all_instructions xs) × (end ≡ at + length (code_bytes (all_instructions xs)))
  pub bytes : (file : List ℕ) (at : ℕ) (code : List Spelled) → StandAt file at code → code_bytes code ≡ take (length (code_bytes code)) (drop at file)
  pub block : (file : List ℕ) (at : ℕ) (code : List Spelled) → StandAt file at code → (functions : List FunctionPart) → AllPositive functions
      → (least offset : ℕ) → block_fits functions code least offset ≡ place_fits (instruction_starts code) (function_starts functions) least offset
  pub mark : (file : List ℕ) (at : ℕ) (code : List Spelled) → StandAt file at code
      → (least offset : ℕ) → mark_fits code least offset ≡ offset_fits (instruction_starts code) least offset
  pub number : (file : List ℕ) (at : ℕ) (code : List Spelled) → StandAt file at code
      → (offset : ℕ) → marked_number_at offset code ≡ start_number (start_at (instruction_starts code) offset)
