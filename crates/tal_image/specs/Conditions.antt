-- What the fields of an image file must meet, each condition by its number: what a condition looks at are earlier fields.
use Rattle.std.specs.Prelude.{ℕ, zero, suc, ◌+◌, ◌-◌, ◌*◌, ◌%◌, Bool, true, false, not, ◌&&◌, ◌||◌, nat_lt, nat_le, ◌==◌, List, [], ◌∷◌, length, Option, Some, None, is_some, slice_get, slice_index, if◌then◌else◌}
use Rattle.std.specs.Option.{option_map, option_map_or}
use Rattle.std.specs.List.{list_all}
use Rattle.ia32_code.specs.declared.instruction.Inst.{Inst}
use Rattle.ia32_code.specs.declared.instruction.Inst.TheVariants as inst
use Rattle.ia32_code.specs.declared.instruction.Alu.{Alu}
use Rattle.ia32_code.specs.declared.instruction.Alu.TheVariants.{Cmp}
use Rattle.ia32_code.specs.declared.instruction.Operand.{Operand}
use Rattle.ia32_code.specs.declared.instruction.Operand.TheVariants.{R, M, I}
use Rattle.object_layout.specs.declared.rows.ClassRow.{ClassRow}
use Rattle.object_layout.specs.declared.rows.KindRow.{KindRow}
use Rattle.object_layout.specs.declared.rows.FunRow.{FunRow}
use Rattle.object_layout.specs.Areas.{code_start, statics_start, table_address, descriptor_address}
use Rattle.object_layout.specs.Classes.{ShapesView, Depth, Fields, signatures}
use Rattle.tal_types.specs.declared.signatures.Sig.{Sig}
use Rattle.tal_types.specs.Types.{of_field}
pub use Rattle.file_fields.specs.Grammar.{between}
pub use Rattle.tal_image.specs.declared.parts.Tables.{Tables}
use Rattle.tal_image.specs.declared.parts.FunctionPart.{FunctionPart}
use Rattle.tal_image.specs.Image.{ArrayPart, type_tag}

-- the most bytes of code, and the most words of statics and data arrays
abbrev pub most_code : ℕ
most_code = 1048576

abbrev pub most_words : ℕ
most_words = 65536

-- a condition of a number that a file may leave out, if it is one of those: then 0 stands for what is not given
abbrev pub where_given : Bool → (ℕ → Bool) → ℕ → Bool
where_given false ok = ok
where_given true ok = λ n. n == 0 || ok n

-- 1: the heap has 64 to 4194304 words, a multiple of 4
abbrev pub heap_fits : ℕ → Bool
heap_fits n = between 64 4194304 n && n % 4 == 0

-- 2 to 11: the limits of the stacks, of the counts of signatures, functions, classes, kinds, statics and data arrays, of the
-- code's length in bytes, and of the counts of blocks and marks
abbrev pub stacks_fit : ℕ → Bool
stacks_fit n = between 2 64 n

abbrev pub sigs_fit : ℕ → Bool
sigs_fit n = between 1 4096 n

abbrev pub functions_fit : ℕ → Bool
functions_fit n = between 1 16384 n

abbrev pub classes_fit : ℕ → Bool
classes_fit n = between 0 1024 n

abbrev pub kinds_fit : ℕ → Bool
kinds_fit n = between 0 256 n

abbrev pub statics_fit : ℕ → Bool
statics_fit n = between 0 65536 n

abbrev pub arrays_fit : ℕ → Bool
arrays_fit n = between 0 65536 n

abbrev pub code_fits : ℕ → Bool
code_fits n = between 1 most_code n

abbrev pub blocks_fit : ℕ → Bool
blocks_fit n = between 0 65536 n

abbrev pub marks_fit : ℕ → Bool
marks_fit n = between 0 65536 n

-- how many indexes each tag has, from tag 0 on: a type of a class, of an array kind, of a signature; the number and junk have 0 alone
abbrev pub table_sizes : Tables → List ℕ
table_sizes t = 1 ∷ t.classes ∷ t.classes ∷ t.kinds ∷ t.kinds ∷ t.sigs ∷ t.sigs ∷ t.classes ∷ t.kinds ∷ 1 ∷ []

-- 12: a type has a tag to 9 and an index in its table
unfoldable pub type_fits : Tables → ℕ → ℕ → Bool
type_fits t tag index = nat_lt index (slice_index (table_sizes t) tag)

-- 13: a function has a byte at least, not more than are left of the code, and all of them where no function follows
abbrev pub length_fits : ℕ → ℕ → ℕ → Bool
length_fits later left n = nat_le 1 n && nat_le n left && (nat_lt 0 later || n == left)

-- the same, where an extern function has no bytes
unfoldable pub part_length_fits : Bool → ℕ → ℕ → ℕ → Bool
part_length_fits false later left n = length_fits later left n
part_length_fits true later left n = n == 0 && (nat_lt 0 later || n == left)

-- 14: the function's signature is there
abbrev pub sig_fits : Tables → ℕ → Bool
sig_fits t s = nat_lt s t.sigs

-- a signature of seven times junk, with a number as its result
unfoldable pub starts_stack : Sig → Bool
starts_stack s = list_all (λ t. type_tag t == 9) s.params && type_tag s.result == 0

-- 15: the function at which a stack begins is there, and its signature is seven times junk with a number as its result
unfoldable pub entry_fits : List Sig → List FunctionPart → ℕ → Bool
entry_fits sigs functions f = option_map_or (λ (row : FunctionPart). option_map_or starts_stack (slice_get sigs row.sig) false) (slice_get functions f) false

-- functions one after another from an address on
unfoldable pub fun_rows : ℕ → List FunctionPart → List FunRow
fun_rows address [] = []
fun_rows address (f ∷ fs) = record { sig = f.sig; address = address } ∷ fun_rows (address + f.length) fs

-- the classes with the functions that their methods name
abbrev pub class_view : List FunctionPart → List ClassRow → ShapesView
class_view functions classes = record { classes = classes; kinds = []; funs = fun_rows code_start functions; sigs = 0 }

-- 16: a class has no parent, or an earlier class at most six below its root, so that it is at most seven below it
unfoldable pub parent_fits : ShapesView → ℕ → Bool
parent_fits s zero = true
parent_fits s (suc p) = nat_lt p (length s.classes) && nat_lt (Depth s p) 7

-- what a class takes over from its parent: how many fields, and the signatures of its methods
unfoldable pub inherited_fields : ShapesView → ℕ → ℕ
inherited_fields s zero = 0
inherited_fields s (suc p) = length (Fields s p)

unfoldable pub inherited_methods : ShapesView → ℕ → List ℕ
inherited_methods s zero = []
inherited_methods s (suc p) = signatures s p

-- 17: a class has at most 256 fields with the parent's
abbrev pub fields_fit : ℕ → ℕ → Bool
fields_fit inherited n = nat_le (inherited + n) 256

-- 18: what a field, a static or an element holds is a number, or refers to a class, an array kind or a signature and may be null
abbrev pub is_field_tag : ℕ → Bool
is_field_tag tag = tag == 0 || tag == 1 || tag == 3 || tag == 5

-- 19: a class has the methods of its parent at least, and 53 at most
abbrev pub methods_fit : ℕ → ℕ → Bool
methods_fit inherited n = between inherited 53 n

-- 20: the function of a method is there, and in an inherited slot has the slot's signature; these are the inherited slots
-- from this one on
unfoldable pub method_fits : List FunctionPart → List ℕ → ℕ → Bool
method_fits functions [] f = nat_lt f (length functions)
method_fits functions (sig ∷ slots) f = option_map_or (λ (row : FunctionPart). row.sig == sig) (slice_get functions f) false

-- 21: the array kind of a data array is there
abbrev pub kind_fits : Tables → ℕ → Bool
kind_fits t k = nat_lt k t.kinds

-- 22: the statics and the data arrays so far, each with the two words before its elements, take at most 65536 words
abbrev pub array_fits : ℕ → ℕ → Bool
array_fits used n = nat_le (used + 2 + n) most_words

-- the words that the statics and the data arrays so far take, with one more data array
abbrev pub with_array : ℕ → ArrayPart → ℕ
with_array used a = used + 2 + a.size

-- the numbers that the file has for a data array of a kind: all where its elements are numbers, else none
unfoldable pub numbers_given : List KindRow → ℕ → ℕ → ℕ
numbers_given kinds k n = if option_map_or (λ (row : KindRow). type_tag (of_field row.element) == 0) (slice_get kinds k) false then n else 0

-- the same, where an extern data array has none
unfoldable pub part_numbers : Bool → List KindRow → ℕ → ℕ → ℕ
part_numbers false kinds k n = numbers_given kinds k n
part_numbers true kinds k n = 0

-- an instruction and the bytes that spell it
pub record Spelled : Type 0 where
  pub text : List ℕ
  pub means : Inst

-- the instruction that begins at an offset of instructions one after another
unfoldable pub begins_at : ℕ → List Spelled → Option Inst
begins_at offset [] = None
begins_at offset (s ∷ more) = if offset == 0 then Some s.means else if nat_lt offset (length s.text) then None else begins_at (offset - length s.text) more

-- whether a function begins at an offset of the code
unfoldable pub function_begins : ℕ → List FunctionPart → Bool
function_begins offset [] = false
function_begins offset (f ∷ fs) = if offset == 0 then true else if nat_lt offset f.length then false else function_begins (offset - f.length) fs

-- 24: the offsets of blocks rise, and at each an instruction begins that is not the first of a function; the least is the
-- offset of the block before plus 1
unfoldable pub block_fits : List FunctionPart → List Spelled → ℕ → ℕ → Bool
block_fits functions code least offset = nat_le least offset && is_some (begins_at offset code) && not (function_begins offset functions)

-- 25: a block has at most 64 slots
abbrev pub slots_fit : ℕ → Bool
slots_fit n = between 0 64 n

-- an operand's number, where it is an immediate one
unfoldable pub immediate : Operand → Option ℕ
immediate (R r) = None
immediate (M m) = None
immediate (I n) = Some n

-- the number in a comparison
unfoldable pub compared : Alu → Operand → Option ℕ
compared Cmp src = immediate src
compared _ src = None

-- the immediate number of a MOV, a PUSH or a CMP
unfoldable pub marked_number : Inst → Option ℕ
marked_number (inst.Mov dst src) = immediate src
marked_number (inst.Push src) = immediate src
marked_number (inst.Alu op dst src) = compared op src
marked_number _ = None

-- the immediate number of the instruction that begins at an offset
unfoldable pub marked_number_at : ℕ → List Spelled → Option ℕ
marked_number_at offset code = option_map_or marked_number (begins_at offset code) None

-- 26: the offsets of marks rise, and at each a MOV, PUSH or CMP with an immediate begins; the least is the offset of the mark before plus 1
unfoldable pub mark_fits : List Spelled → ℕ → ℕ → Bool
mark_fits code least offset = nat_le least offset && is_some (marked_number_at offset code)

-- how many words a data array takes, with the two before its elements
abbrev pub array_room : ArrayPart → ℕ
array_room a = 2 + a.size

-- data arrays one after another from an address on
unfoldable pub array_places : ℕ → List ArrayPart → List ℕ
array_places address [] = []
array_places address (a ∷ arrays) = address ∷ array_places (address + 4 * array_room a) arrays

-- the word that a mark of each tag stands for, if it may have this index: null of a class, an array kind or a signature; a function's
-- address; a class's table; an array kind's descriptor; a data array's address
unfoldable pub mark_word : Tables → List FunctionPart → ℕ → List ArrayPart → ℕ → ℕ → Option ℕ
mark_word t functions statics arrays tag index =
    if tag == 1 then (if nat_lt index t.classes then Some 0 else None)
    else if tag == 3 then (if nat_lt index t.kinds then Some 0 else None)
    else if tag == 5 then (if nat_lt index t.sigs then Some 0 else None)
    else if tag == 6 then option_map (λ (row : FunRow). row.address) (slice_get (fun_rows code_start functions) index)
    else if tag == 7 then (if nat_lt index t.classes then Some (table_address index) else None)
    else if tag == 8 then (if nat_lt index t.kinds then Some (descriptor_address index) else None)
    else if tag == 10 then slice_get (array_places (statics_start + 4 * statics) arrays) index
    else None

-- both are numbers, and the same one
unfoldable pub same_number : Option ℕ → Option ℕ → Bool
same_number (Some n) (Some m) = n == m
same_number _ _ = false

-- 27: the tag is one of these, and the immediate number is its word
unfoldable pub word_fits : Tables → List FunctionPart → ℕ → List ArrayPart → Option ℕ → ℕ → ℕ → Bool
word_fits t functions statics arrays number tag index = same_number (mark_word t functions statics arrays tag index) number
