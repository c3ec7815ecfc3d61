-- An image, and the bytes of its file.
use Rattle.std.specs.Prelude.{ℕ, suc, List, [], ◌∷◌, ◌++◌, length, Option, Some, None}
use Rattle.std.specs.List.{flat_map}
pub use Rattle.file_fields.specs.Grammar.{number_bytes}
use Rattle.object_layout.specs.declared.rows.FieldTy.{FieldTy}
use Rattle.object_layout.specs.declared.rows.ClassRow.{ClassRow}
use Rattle.object_layout.specs.declared.rows.KindRow.{KindRow}
use Rattle.tal_types.specs.declared.types.Ty.{Ty}
use Rattle.tal_types.specs.declared.types.Ty.TheVariants.{Num, Ref, Obj, ArrRef, Arr, Fun, Code, Tab, Desc, Junk}
use Rattle.tal_types.specs.declared.signatures.Sig.{Sig}
use Rattle.tal_types.specs.Types.{of_field}
pub use Rattle.tal_image.specs.declared.parts.ArrayPart.{ArrayPart}
pub use Rattle.tal_image.specs.declared.parts.BlockPart.{BlockPart}
use Rattle.tal_image.specs.declared.parts.FunctionPart.{FunctionPart}
use Rattle.tal_image.specs.declared.parts.MarkPart.{MarkPart}
use Rattle.tal_image.specs.declared.image_rows.ImageRows.{ImageRows}

-- an image: the heap's words, the stacks, the rows of its tables in their order, the code, and what is said of the code
pub record ImageParts : Type 0 where
  pub heap_words : ℕ
  pub stacks : ℕ
  pub sigs : List Sig
  pub functions : List FunctionPart
  pub entries : List ℕ
  pub classes : List ClassRow
  pub kinds : List KindRow
  pub statics : List FieldTy
  pub arrays : List ArrayPart
  pub code : List ℕ
  pub blocks : List BlockPart
  pub marks : List MarkPart

-- the image of these rows
abbrev pub parts_of : ImageRows → ImageParts
parts_of r = record {
  heap_words = r.heap_words;
  stacks = r.stacks;
  sigs = r.sigs.items;
  functions = r.functions.items;
  entries = r.entries.items;
  classes = r.classes.items;
  kinds = r.kinds.items;
  statics = r.statics;
  arrays = r.arrays.items;
  code = r.code.items;
  blocks = r.blocks.items;
  marks = r.marks.items;
}

-- numbers one after another
abbrev pub numbers : List ℕ → List ℕ
numbers ns = flat_map number_bytes ns

-- the tag of a type
unfoldable pub type_tag : Ty → ℕ
type_tag Num = 0
type_tag (Ref c) = 1
type_tag (Obj c) = 2
type_tag (ArrRef k) = 3
type_tag (Arr k) = 4
type_tag (Fun s) = 5
type_tag (Code s) = 6
type_tag (Tab c) = 7
type_tag (Desc k) = 8
type_tag Junk = 9

-- the index of a type: its class, array kind or signature, and 0 where it has none
unfoldable pub type_index : Ty → ℕ
type_index Num = 0
type_index (Ref c) = c
type_index (Obj c) = c
type_index (ArrRef k) = k
type_index (Arr k) = k
type_index (Fun s) = s
type_index (Code s) = s
type_index (Tab c) = c
type_index (Desc k) = k
type_index Junk = 0

-- a type is two numbers, its tag and its index
abbrev pub type_bytes : Ty → List ℕ
type_bytes t = number_bytes (type_tag t) ++ number_bytes (type_index t)

-- types one after another
abbrev pub types_bytes : List Ty → List ℕ
types_bytes ts = flat_map type_bytes ts

-- the type of what a field, a static or an element holds
abbrev pub field_bytes : FieldTy → List ℕ
field_bytes t = type_bytes (of_field t)

-- the number whose bytes are the letters VRVI
abbrev pub magic_number : ℕ
magic_number = 0x49565256

-- the header: the letters VRVI, the version, the heap's words, the stacks, the counts of the rows with the code's length
abbrev pub header : ImageParts → List ℕ
header i =
    magic_number ∷ 1 ∷ i.heap_words ∷ i.stacks
    ∷ length i.sigs ∷ length i.functions ∷ length i.classes ∷ length i.kinds ∷ length i.statics ∷ length i.arrays
    ∷ length i.code ∷ length i.blocks ∷ length i.marks ∷ []

-- a signature: the types of EAX, ECX, EDX, EBX, EBP, ESI and EDI, and of the result
abbrev pub sig_bytes : Sig → List ℕ
sig_bytes s = types_bytes s.params ++ type_bytes s.result

-- a function: its length in bytes, and its signature
abbrev pub function_bytes : FunctionPart → List ℕ
function_bytes f = number_bytes f.length ++ number_bytes f.sig

-- a class's parent plus 1, or 0 where it has none
unfoldable pub parent_number : Option ℕ → ℕ
parent_number None = 0
parent_number (Some p) = suc p

-- a class: its parent plus 1 or 0; the number of its own fields, and their types; the number of its methods, and a function for each
abbrev pub class_bytes : ClassRow → List ℕ
class_bytes c =
    number_bytes (parent_number c.parent)
    ++ (number_bytes (length c.fields) ++ (flat_map field_bytes c.fields
    ++ (number_bytes (length c.methods) ++ numbers c.methods)))

-- an array kind: the type of its elements
abbrev pub kind_bytes : KindRow → List ℕ
kind_bytes k = field_bytes k.element

-- a data array: its kind, its length, its numbers
abbrev pub array_bytes : ArrayPart → List ℕ
array_bytes a = number_bytes a.kind ++ (number_bytes a.size ++ numbers a.numbers)

-- a block: its place in the code, seven types, the number of its slots, and their types, slot 0 first
abbrev pub block_bytes : BlockPart → List ℕ
block_bytes b = number_bytes b.offset ++ (types_bytes b.types ++ (number_bytes (length b.slots) ++ types_bytes b.slots))

-- a mark: its place in the code, its tag, its index
abbrev pub mark_bytes : MarkPart → List ℕ
mark_bytes m = number_bytes m.offset ++ (number_bytes m.tag ++ number_bytes m.index)

-- the bytes of the image's file, part by part
unfoldable pub FileOf : ImageParts → List ℕ
FileOf i =
    numbers (header i)
    ++ (flat_map sig_bytes i.sigs
    ++ (flat_map function_bytes i.functions
    ++ (numbers i.entries
    ++ (flat_map class_bytes i.classes
    ++ (flat_map kind_bytes i.kinds
    ++ (flat_map field_bytes i.statics
    ++ (flat_map array_bytes i.arrays
    ++ (i.code
    ++ (flat_map block_bytes i.blocks
    ++ flat_map mark_bytes i.marks)))))))))
