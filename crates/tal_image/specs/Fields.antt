-- The fields of an image file, part by part.
use Rattle.std.specs.Prelude.{ℕ, zero, suc, ◌+◌, ◌-◌, Bool, true, false, ◌&&◌, ◌==◌, List, [], ◌∷◌, ◌++◌, length, Option, Some, None, drop, if◌then◌else◌}
use Rattle.std.specs.List.{flat_map}
use Rattle.object_layout.specs.declared.rows.FieldTy.{FieldTy}
use Rattle.object_layout.specs.declared.rows.FieldTy.TheVariants.{Num as NumField, Ref as RefField, ArrRef as ArrRefField, Fun as FunField}
use Rattle.object_layout.specs.declared.rows.ClassRow.{ClassRow}
use Rattle.object_layout.specs.declared.rows.KindRow.{KindRow}
use Rattle.tal_types.specs.declared.types.Ty.{Ty}
use Rattle.tal_types.specs.declared.types.Ty.TheVariants.{Num, Ref, Obj, ArrRef, Arr, Fun, Code, Tab, Desc, Junk}
use Rattle.tal_types.specs.declared.signatures.Sig.{Sig}
use Rattle.file_fields.specs.declared.fault.ImageFault.{ImageFault}
use Rattle.file_fields.specs.declared.fault.ImageFault.TheVariants.{Magic, Version, Bad}
use Rattle.tal_image.specs.declared.parts.Header.{Header}
use Rattle.tal_image.specs.declared.parts.FunctionPart.{FunctionPart}
use Rattle.tal_image.specs.declared.parts.MarkPart.{MarkPart}
use Rattle.tal_image.specs.Image.{ImageParts, ArrayPart, BlockPart, magic_number}
use Rattle.tal_image.specs.Conditions.{Tables, where_given, heap_fits, stacks_fit, sigs_fit, functions_fit, classes_fit, kinds_fit, statics_fit, arrays_fit, code_fits, blocks_fit, marks_fit, type_fits, length_fits, sig_fits, entry_fits, class_view, parent_fits, inherited_fields, inherited_methods, fields_fit, is_field_tag, methods_fit, method_fits, kind_fits, array_fits, with_array, numbers_given, Spelled, block_fits, slots_fit, marked_number_at, mark_fits, word_fits}
use Rattle.file_fields.specs.Grammar.{Grammar, done, pair, instruction, field, checked, each, then_with, many, FaultOf}

-- the tables to which types refer
abbrev pub tables_of : Header → Tables
tables_of h = record { sigs = h.sigs; classes = h.classes; kinds = h.kinds }

-- the header of a file with this magic number, which may leave numbers out or may not
unfoldable pub header_where : ℕ → Bool → Grammar Header
header_where letters partial =
    then_with (field (λ n. n == letters) (λ at. Magic)) (λ magic.
    then_with (field (λ n. n == 1) (λ at. Version)) (λ version.
    then_with (checked (where_given partial heap_fits) 1) (λ heap_words.
    then_with (checked (where_given partial stacks_fit) 2) (λ stacks.
    then_with (checked (where_given partial sigs_fit) 3) (λ sigs.
    then_with (checked (where_given partial functions_fit) 4) (λ functions.
    then_with (checked classes_fit 5) (λ classes.
    then_with (checked kinds_fit 6) (λ kinds.
    then_with (checked statics_fit 7) (λ statics.
    then_with (checked arrays_fit 8) (λ arrays.
    then_with (checked (where_given partial code_fits) 9) (λ code.
    then_with (checked blocks_fit 10) (λ blocks.
    then_with (checked marks_fit 11) (λ marks.
    done (record {
      heap_words = heap_words;
      stacks = stacks;
      sigs = sigs;
      functions = functions;
      classes = classes;
      kinds = kinds;
      statics = statics;
      arrays = arrays;
      code = code;
      blocks = blocks;
      marks = marks;
    }))))))))))))))

-- that of an image file
abbrev pub header_fields : Grammar Header
header_fields = header_where magic_number false

-- the type with a tag and an index
unfoldable pub type_with : ℕ → ℕ → Ty
type_with tag index =
    if tag == 0 then Num
    else if tag == 1 then Ref index
    else if tag == 2 then Obj index
    else if tag == 3 then ArrRef index
    else if tag == 4 then Arr index
    else if tag == 5 then Fun index
    else if tag == 6 then Code index
    else if tag == 7 then Tab index
    else if tag == 8 then Desc index
    else Junk

-- the type of a field, a static or an element with a tag and an index
unfoldable pub field_type_with : ℕ → ℕ → FieldTy
field_type_with tag index =
    if tag == 1 then RefField index
    else if tag == 3 then ArrRefField index
    else if tag == 5 then FunField index
    else NumField

-- a type
unfoldable pub type_field : Tables → Grammar Ty
type_field t = pair (type_fits t) (λ tag index at. Bad at 12) (λ tag index. done (type_with tag index))

-- the type of a field, a static or an element: condition 12 comes before 18
unfoldable pub field_type_field : Tables → Grammar FieldTy
field_type_field t =
    pair (λ tag index. type_fits t tag index && is_field_tag tag) (λ tag index at. Bad at (if type_fits t tag index then 18 else 12))
    (λ tag index. done (field_type_with tag index))

-- a signature
unfoldable pub sig_fields : Tables → Grammar Sig
sig_fields t =
    then_with (each 7 (type_field t)) (λ params.
    then_with (type_field t) (λ result.
    done (record { params = params; result = result })))

-- a function whose length meets a test
unfoldable pub function_where : Tables → (ℕ → Bool) → Grammar FunctionPart
function_where t long =
    then_with (checked long 13) (λ len.
    then_with (checked (sig_fits t) 14) (λ sig.
    done (record { length = len; sig = sig })))

-- a function, where so many come after it and so many bytes of the code are left
abbrev pub function_fields : Tables → ℕ → ℕ → Grammar FunctionPart
function_fields t later left = function_where t (length_fits later left)

-- what is left of the code after a function
abbrev pub after_function : ℕ → FunctionPart → ℕ
after_function left f = left - f.length

-- a class's parent
unfoldable pub parent_of : ℕ → Option ℕ
parent_of zero = None
parent_of (suc p) = Some p

-- the methods of a class with these inherited slots
abbrev pub method_list : List FunctionPart → ℕ → List ℕ → Grammar (List ℕ)
method_list functions n slots = many n (λ later kept. checked (method_fits functions kept) 20) (λ (kept : List ℕ) f. drop 1 kept) slots

-- a class, after these
unfoldable pub class_fields : Tables → List FunctionPart → List ClassRow → Grammar ClassRow
class_fields t functions classes =
    then_with (checked (parent_fits (class_view functions classes)) 16) (λ parent.
    then_with (checked (fields_fit (inherited_fields (class_view functions classes) parent)) 17) (λ own.
    then_with (each own (field_type_field t)) (λ fields.
    then_with (checked (methods_fit (length (inherited_methods (class_view functions classes) parent))) 19) (λ slots.
    then_with (method_list functions slots (inherited_methods (class_view functions classes) parent)) (λ methods.
    done (record { parent = parent_of parent; fields = fields; methods = methods }))))))

-- an array kind
unfoldable pub kind_fields : Tables → Grammar KindRow
kind_fields t = then_with (field_type_field t) (λ element. done (record { element = element }))

-- a number of a data array, which may be any: the condition with this number is met by all
abbrev pub any_number : Grammar ℕ
any_number = checked (λ n. true) 22

-- a data array with so many numbers by its kind and its length, where the statics and the data arrays before it take so many
-- words
unfoldable pub array_where : Tables → (ℕ → ℕ → ℕ) → ℕ → Grammar ArrayPart
array_where t given used =
    then_with (checked (kind_fits t) 21) (λ kind.
    then_with (checked (array_fits used) 22) (λ size.
    then_with (each (given kind size) any_number) (λ ns.
    done (record { kind = kind; size = size; numbers = ns }))))

-- that of an image
abbrev pub array_fields : Tables → List KindRow → ℕ → Grammar ArrayPart
array_fields t kinds used = array_where t (numbers_given kinds) used

-- the instructions of so many bytes; there are not more of them than bytes
unfoldable pub function_instructions : ℕ → ℕ → Grammar (List Spelled)
function_instructions zero room = done []
function_instructions (suc n) zero = done []
function_instructions (suc n) (suc room) = instruction (suc room) (λ text i. then_with (function_instructions n (suc room - length text)) (λ more. done (record { text = text; means = i } ∷ more)))

-- the instructions of functions one after another
unfoldable pub bodies : List FunctionPart → Grammar (List (List Spelled))
bodies [] = done []
bodies (f ∷ fs) = then_with (function_instructions f.length f.length) (λ body. then_with (bodies fs) (λ more. done (body ∷ more)))

-- the instructions of all functions
abbrev pub all_instructions : List (List Spelled) → List Spelled
all_instructions code = flat_map (λ body. body) code

-- the bytes of instructions
abbrev pub code_bytes : List Spelled → List ℕ
code_bytes code = flat_map (λ (s : Spelled). s.text) code

-- a block whose offset meets a test
unfoldable pub block_where : Tables → (ℕ → Bool) → Grammar BlockPart
block_where t place =
    then_with (checked place 24) (λ offset.
    then_with (each 7 (type_field t)) (λ types.
    then_with (checked slots_fit 25) (λ n.
    then_with (each n (type_field t)) (λ slots.
    done (record { offset = offset; types = types; slots = slots })))))

-- a block, where its offset is at least this
abbrev pub block_fields : Tables → List FunctionPart → List Spelled → ℕ → Grammar BlockPart
block_fields t functions code least = block_where t (block_fits functions code least)

-- the least offset of a block, and of a mark, after another
abbrev pub after_block : ℕ → BlockPart → ℕ
after_block least b = b.offset + 1

abbrev pub after_mark : ℕ → MarkPart → ℕ
after_mark least m = m.offset + 1

-- a mark whose offset meets a test, and its tag and index another
unfoldable pub mark_where : (ℕ → Bool) → (ℕ → ℕ → ℕ → Bool) → Grammar MarkPart
mark_where place word =
    then_with (checked place 26) (λ offset.
    pair (word offset) (λ tag index at. Bad at 27) (λ tag index.
    done (record { offset = offset; tag = tag; index = index })))

-- a mark, where its offset is at least this
abbrev pub mark_fields : Tables → List FunctionPart → ℕ → List ArrayPart → List Spelled → ℕ → Grammar MarkPart
mark_fields t functions statics arrays code least = mark_where (mark_fits code least) (λ offset. word_fits t functions statics arrays (marked_number_at offset code))

-- the image of these parts
abbrev pub image_of : Header → List Sig → List FunctionPart → List ℕ → List ClassRow → List KindRow → List FieldTy → List ArrayPart → List (List Spelled) → List BlockPart → List MarkPart → ImageParts
image_of h sigs functions entries classes kinds statics arrays code blocks marks = record {
  heap_words = h.heap_words;
  stacks = h.stacks;
  sigs = sigs;
  functions = functions;
  entries = entries;
  classes = classes;
  kinds = kinds;
  statics = statics;
  arrays = arrays;
  code = code_bytes (all_instructions code);
  blocks = blocks;
  marks = marks;
}

-- one class more
abbrev pub with_class : List ClassRow → ClassRow → List ClassRow
with_class classes c = classes ++ c ∷ []

-- an image, with the instructions of each of its functions
pub record CodedImage : Type 0 where
  pub image : ImageParts
  pub bodies : List (List Spelled)

-- the lists of a file, each after what it looks at: the rows of the tables, then the blocks and the marks
abbrev pub sigs_part : Header → Grammar (List Sig)
sigs_part h = each h.sigs (sig_fields (tables_of h))

abbrev pub functions_part : Header → Grammar (List FunctionPart)
functions_part h = many h.functions (function_fields (tables_of h)) after_function h.code

abbrev pub entries_part : Header → List Sig → List FunctionPart → Grammar (List ℕ)
entries_part h sigs functions = each h.stacks (checked (entry_fits sigs functions) 15)

abbrev pub classes_part : Header → List FunctionPart → Grammar (List ClassRow)
classes_part h functions = many h.classes (λ later classes. class_fields (tables_of h) functions classes) with_class []

abbrev pub kinds_part : Header → Grammar (List KindRow)
kinds_part h = each h.kinds (kind_fields (tables_of h))

abbrev pub statics_part : Header → Grammar (List FieldTy)
statics_part h = each h.statics (field_type_field (tables_of h))

abbrev pub arrays_part : Header → List KindRow → Grammar (List ArrayPart)
arrays_part h kinds = many h.arrays (λ later used. array_fields (tables_of h) kinds used) with_array h.statics

abbrev pub blocks_part : Header → List FunctionPart → List Spelled → Grammar (List BlockPart)
blocks_part h functions code = many h.blocks (λ later least. block_fields (tables_of h) functions code least) after_block 0

abbrev pub marks_part : Header → List FunctionPart → List ArrayPart → List Spelled → Grammar (List MarkPart)
marks_part h functions arrays code =
    many h.marks (λ later least. mark_fields (tables_of h) functions h.statics arrays code least) after_mark 0

-- the image of these parts, with the instructions of its functions
abbrev pub coded : Header → List Sig → List FunctionPart → List ℕ → List ClassRow → List KindRow → List FieldTy → List ArrayPart → List (List Spelled) → List BlockPart → List MarkPart → CodedImage
coded h sigs functions entries classes kinds statics arrays code blocks marks =
    record { image = image_of h sigs functions entries classes kinds statics arrays code blocks marks; bodies = code }

-- the fields of an image file, with what is kept of the instructions
unfoldable pub coded_fields : Grammar CodedImage
coded_fields =
    then_with header_fields (λ h.
    then_with (sigs_part h) (λ sigs.
    then_with (functions_part h) (λ functions.
    then_with (entries_part h sigs functions) (λ entries.
    then_with (classes_part h functions) (λ classes.
    then_with (kinds_part h) (λ kinds.
    then_with (statics_part h) (λ statics.
    then_with (arrays_part h kinds) (λ arrays.
    then_with (bodies functions) (λ code.
    then_with (blocks_part h functions (all_instructions code)) (λ blocks.
    then_with (marks_part h functions arrays (all_instructions code)) (λ marks.
    done (coded h sigs functions entries classes kinds statics arrays code blocks marks))))))))))))

-- the fields of an image file
unfoldable pub image_fields : Grammar ImageParts
image_fields = then_with coded_fields (λ coded. done coded.image)

-- the first fault of bytes that stand for no image
abbrev pub FirstFault : List ℕ → ImageFault → Type 0
FirstFault bytes f = FaultOf image_fields bytes f
