-- What every image keeps, by the numbers of the conditions, and which image bytes stand for.
use Rattle.std.specs.Prelude.{◌≡◌, ℕ, ◌<◌, ◌≤◌, ◌-◌, ◌^◌, Bool, true, List, [], ◌∷◌, length, drop}
use Rattle.ia32_code.specs.Spells.{Spells}
use Rattle.object_layout.specs.declared.rows.FieldTy.{FieldTy}
use Rattle.object_layout.specs.declared.rows.ClassRow.{ClassRow}
use Rattle.object_layout.specs.declared.rows.KindRow.{KindRow}
use Rattle.tal_types.specs.declared.types.Ty.{Ty}
use Rattle.tal_types.specs.declared.signatures.Sig.{Sig}
use Rattle.tal_types.specs.Types.{of_field}
pub use Rattle.file_fields.specs.Parts.{EachAfter, Each}
use Rattle.tal_image.specs.declared.parts.Header.{Header}
use Rattle.tal_image.specs.declared.parts.FunctionPart.{FunctionPart}
use Rattle.tal_image.specs.declared.parts.MarkPart.{MarkPart}
use Rattle.tal_image.specs.Image.{ImageParts, ArrayPart, BlockPart, type_tag, type_index, parent_number, FileOf}
use Rattle.tal_image.specs.Conditions.{Tables, where_given, heap_fits, stacks_fit, sigs_fit, functions_fit, classes_fit, kinds_fit, statics_fit, arrays_fit, code_fits, blocks_fit, marks_fit, type_fits, length_fits, sig_fits, entry_fits, class_view, parent_fits, inherited_fields, inherited_methods, fields_fit, methods_fit, method_fits, kind_fits, array_fits, with_array, numbers_given, Spelled, block_fits, slots_fit, marked_number_at, mark_fits, word_fits}
use Rattle.tal_image.specs.Fields.{all_instructions, code_bytes, after_function, after_block, after_mark, with_class}

-- the number has 32 bits
abbrev pub IsWord : ℕ → Type 0
IsWord n = n < 2 ^ 32

-- a header, in a file that may leave numbers out or may not
pub record IsHeader (partial : Bool) (h : Header) : Type 0 where
  pub condition_1 : where_given partial heap_fits h.heap_words ≡ true
  pub condition_2 : where_given partial stacks_fit h.stacks ≡ true
  pub condition_3 : where_given partial sigs_fit h.sigs ≡ true
  pub condition_4 : where_given partial functions_fit h.functions ≡ true
  pub condition_5 : classes_fit h.classes ≡ true
  pub condition_6 : kinds_fit h.kinds ≡ true
  pub condition_7 : statics_fit h.statics ≡ true
  pub condition_8 : arrays_fit h.arrays ≡ true
  pub condition_9 : where_given partial code_fits h.code ≡ true
  pub condition_10 : blocks_fit h.blocks ≡ true
  pub condition_11 : marks_fit h.marks ≡ true

-- a type
pub record IsType (t : Tables) (ty : Ty) : Type 0 where
  pub word : IsWord (type_index ty)
  pub condition_12 : type_fits t (type_tag ty) (type_index ty) ≡ true

-- the type of a field, a static or an element: these types alone meet condition 18
abbrev pub IsFieldType : Tables → FieldTy → Type 0
IsFieldType t ty = IsType t (of_field ty)

-- a signature
pub record IsSig (t : Tables) (s : Sig) : Type 0 where
  pub seven : length s.params ≡ 7
  pub params : Each (IsType t) s.params
  pub result : IsType t s.result

-- a function before so many others, with so much of the code left
pub record IsFunction (t : Tables) (later left : ℕ) (f : FunctionPart) : Type 0 where
  pub length_word : IsWord f.length
  pub condition_13 : length_fits later left f.length ≡ true
  pub sig_word : IsWord f.sig
  pub condition_14 : sig_fits t f.sig ≡ true

-- the function at which a stack begins
pub record IsEntry (sigs : List Sig) (functions : List FunctionPart) (f : ℕ) : Type 0 where
  pub word : IsWord f
  pub condition_15 : entry_fits sigs functions f ≡ true

-- the function of a method, with these inherited slots from this one on
pub record IsMethod (functions : List FunctionPart) (slots : List ℕ) (f : ℕ) : Type 0 where
  pub word : IsWord f
  pub condition_20 : method_fits functions slots f ≡ true

-- a class after these
pub record IsClass (t : Tables) (functions : List FunctionPart) (classes : List ClassRow) (c : ClassRow) : Type 0 where
  pub parent_word : IsWord (parent_number c.parent)
  pub condition_16 : parent_fits (class_view functions classes) (parent_number c.parent) ≡ true
  pub fields_word : IsWord (length c.fields)
  pub condition_17 : fields_fit (inherited_fields (class_view functions classes) (parent_number c.parent)) (length c.fields) ≡ true
  pub fields : Each (IsFieldType t) c.fields
  pub methods_word : IsWord (length c.methods)
  pub condition_19 : methods_fit (length (inherited_methods (class_view functions classes) (parent_number c.parent))) (length c.methods) ≡ true
  pub methods : EachAfter (λ (slots : List ℕ) f. drop 1 slots) (λ later slots f. IsMethod functions slots f) (inherited_methods (class_view functions classes) (parent_number c.parent)) c.methods

-- a data array, where the statics and the data arrays before it take so many words
pub record ArrayFits (t : Tables) (kinds : List KindRow) (used : ℕ) (a : ArrayPart) : Type 0 where
  pub kind_word : IsWord a.kind
  pub condition_21 : kind_fits t a.kind ≡ true
  pub size_word : IsWord a.size
  pub condition_22 : array_fits used a.size ≡ true
  pub count : length a.numbers ≡ numbers_given kinds a.kind a.size
  pub words : Each IsWord a.numbers

-- the instructions of a function of so many bytes, one after another
abbrev pub IsBody : ℕ → List Spelled → Type 0
IsBody room [] = room ≡ 0
IsBody room (s ∷ more) = (0 < room) × Spells s.text s.means × (length s.text ≤ room) × IsBody (room - length s.text) more

-- each function has its instructions
abbrev pub AreBodies : List FunctionPart → List (List Spelled) → Type 0
AreBodies [] [] = Unit {0}
AreBodies [] (body ∷ bodies) = ⊥
AreBodies (f ∷ fs) [] = ⊥
AreBodies (f ∷ fs) (body ∷ bodies) = IsBody f.length body × AreBodies fs bodies

-- a block, where its offset is at least this
pub record IsBlockPart (t : Tables) (functions : List FunctionPart) (code : List Spelled) (least : ℕ) (b : BlockPart) : Type 0 where
  pub offset_word : IsWord b.offset
  pub condition_24 : block_fits functions code least b.offset ≡ true
  pub seven : length b.types ≡ 7
  pub types : Each (IsType t) b.types
  pub slots_word : IsWord (length b.slots)
  pub condition_25 : slots_fit (length b.slots) ≡ true
  pub slots : Each (IsType t) b.slots

-- a mark, where its offset is at least this
pub record IsMark (t : Tables) (functions : List FunctionPart) (statics : ℕ) (arrays : List ArrayPart) (code : List Spelled) (least : ℕ) (m : MarkPart) : Type 0 where
  pub offset_word : IsWord m.offset
  pub condition_26 : mark_fits code least m.offset ≡ true
  pub tag_word : IsWord m.tag
  pub index_word : IsWord m.index
  pub condition_27 : word_fits t functions statics arrays (marked_number_at m.offset code) m.tag m.index ≡ true

-- the tables to which an image's types refer
abbrev pub tables : ImageParts → Tables
tables i = record { sigs = length i.sigs; classes = length i.classes; kinds = length i.kinds }

-- what every image keeps
pub record Formed (i : ImageParts) : Type 0 where
  pub condition_1 : heap_fits i.heap_words ≡ true
  pub condition_2 : stacks_fit i.stacks ≡ true
  pub condition_3 : sigs_fit (length i.sigs) ≡ true
  pub condition_4 : functions_fit (length i.functions) ≡ true
  pub condition_5 : classes_fit (length i.classes) ≡ true
  pub condition_6 : kinds_fit (length i.kinds) ≡ true
  pub condition_7 : statics_fit (length i.statics) ≡ true
  pub condition_8 : arrays_fit (length i.arrays) ≡ true
  pub condition_9 : code_fits (length i.code) ≡ true
  pub condition_10 : blocks_fit (length i.blocks) ≡ true
  pub condition_11 : marks_fit (length i.marks) ≡ true
  -- condition 12, here and in classes, kinds, statics and blocks
  pub sigs : Each (IsSig (tables i)) i.sigs
  -- conditions 13 and 14
  pub functions : EachAfter after_function (λ later left f. IsFunction (tables i) later left f) (length i.code) i.functions
  -- condition 15
  pub stacks : length i.entries ≡ i.stacks
  pub entries : Each (IsEntry i.sigs i.functions) i.entries
  -- conditions 16 to 20
  pub classes : EachAfter with_class (λ later classes c. IsClass (tables i) i.functions classes c) [] i.classes
  -- condition 18
  pub kinds : Each (λ (k : KindRow). IsFieldType (tables i) k.element) i.kinds
  pub statics : Each (IsFieldType (tables i)) i.statics
  -- conditions 21 and 22
  pub arrays : EachAfter with_array (λ later used a. ArrayFits (tables i) i.kinds used a) (length i.statics) i.arrays
  -- condition 23
  pub bodies : List (List Spelled)
  pub condition_23 : AreBodies i.functions bodies
  pub code : i.code ≡ code_bytes (all_instructions bodies)
  -- conditions 24 and 25
  pub blocks : EachAfter after_block (λ later least b. IsBlockPart (tables i) i.functions (all_instructions bodies) least b) 0 i.blocks
  -- conditions 26 and 27
  pub marks : EachAfter after_mark (λ later least m. IsMark (tables i) i.functions (length i.statics) i.arrays (all_instructions bodies) least m) 0 i.marks

-- the bytes stand for the image
pub record ImageOf (bytes : List ℕ) (i : ImageParts) : Type 0 where
  pub formed : Formed i
  pub file : bytes ≡ FileOf i
