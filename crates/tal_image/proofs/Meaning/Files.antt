-- The file of an image is its fields one after another.
use Rattle.std.specs.List.{flat_map}
use Rattle.std.proofs.Common.{◌≡◌, ℕ, true, false, List, [], ◌∷◌, ◌++◌, length, refl, sym, ap, subst, ◌∙◌, lit<}
use Rattle.std.proofs.lemmas.List.{append-nil}
use Rattle.object_layout.specs.declared.rows.FieldTy.{FieldTy}
use Rattle.object_layout.specs.declared.rows.ClassRow.{ClassRow}
use Rattle.object_layout.specs.declared.rows.KindRow.{KindRow}
use Rattle.tal_types.specs.declared.signatures.Sig.{Sig}
use Rattle.tal_image.specs.declared.parts.Header.{Header}
use Rattle.tal_image.specs.declared.parts.FunctionPart.{FunctionPart}
use Rattle.tal_image.specs.declared.parts.MarkPart.{MarkPart}
use Rattle.tal_image.specs.Image.{ImageParts, ArrayPart, BlockPart, number_bytes, numbers, field_bytes, sig_bytes, function_bytes, class_bytes, kind_bytes, array_bytes, block_bytes, mark_bytes, magic_number, FileOf}
use Rattle.tal_image.specs.Conditions.{Tables, functions_fit, entry_fits, with_array, Spelled}
use Rattle.file_fields.specs.declared.fault.ImageFault.TheVariants.{Bad}
use Rattle.file_fields.specs.Grammar.{done, checked, Field, fields_text, Sound, SoundFile}
use Rattle.file_fields.specs.Laws.{NumberMeanings}
use Rattle.file_fields.specs.Parts.{Means, FieldsOf, Counted}
use Rattle.file_fields.specs.Composed.{at_end, split, join, many_means, each_means, means_as, put_part, put_last, take_part, take_last, supposing}
use Rattle.tal_image.specs.Rows.{header_numbers}
use Rattle.tal_image.specs.Fields.{tables_of, header_fields, sigs_part, functions_part, entries_part, classes_part, kinds_part, statics_part, arrays_part, blocks_part, marks_part, after_function, with_class, after_block, after_mark, all_instructions, code_bytes, CodedImage, coded, coded_fields, image_fields}
use Rattle.tal_image.specs.Formed.{EachAfter, Each, IsHeader, IsSig, IsFunction, IsEntry, IsClass, IsFieldType, ArrayFits, AreBodies, IsBlockPart, IsMark, Formed, ImageOf}
use Rattle.tal_image.proofs.Meaning.Types.{field_type_means}
use Rattle.tal_image.proofs.Meaning.Rows.{sig_means, function_means, kind_means, array_means, mark_means, block_means, class_means}
use Rattle.tal_image.proofs.Meaning.Header.{header_means as letters_means}
use Rattle.tal_image.proofs.Meaning.Bodies.{SomeText, bodies_means, code_length}

-- ---- the lists of a file

-- the rows of each list, each of them as it must be after those before it
abbrev AreSigs : Tables → List Sig → Type 0
AreSigs t xs = Each (IsSig t) xs

abbrev AreFunctions : Header → List FunctionPart → Type 0
AreFunctions h xs = EachAfter after_function (λ later left f. IsFunction (tables_of h) later left f) h.code xs

abbrev AreEntries : List Sig → List FunctionPart → List ℕ → Type 0
AreEntries sigs functions xs = Each (IsEntry sigs functions) xs

abbrev AreClasses : Tables → List FunctionPart → List ClassRow → Type 0
AreClasses t functions xs = EachAfter with_class (λ later classes c. IsClass t functions classes c) [] xs

abbrev AreKinds : Tables → List KindRow → Type 0
AreKinds t xs = Each (λ (k : KindRow). IsFieldType t k.element) xs

abbrev AreStatics : Tables → List FieldTy → Type 0
AreStatics t xs = Each (IsFieldType t) xs

abbrev AreArrays : Header → List KindRow → List ArrayPart → Type 0
AreArrays h kinds xs = EachAfter with_array (λ later used a. ArrayFits (tables_of h) kinds used a) h.statics xs

abbrev AreBlocks : Tables → List FunctionPart → List Spelled → List BlockPart → Type 0
AreBlocks t functions code xs = EachAfter after_block (λ later least b. IsBlockPart t functions code least b) 0 xs

abbrev AreMarks : Header → List FunctionPart → List ArrayPart → List Spelled → List MarkPart → Type 0
AreMarks h functions arrays code xs =
    EachAfter after_mark (λ later least m. IsMark (tables_of h) functions h.statics arrays code least m) 0 xs

-- the bytes of a header
abbrev header_text : Header → List ℕ
header_text h = numbers (header_numbers magic_number h)

module _ (meanings : NumberMeanings) where
  -- the header of an image's file
  header_means : Means header_fields (IsHeader false) header_text
  header_means = letters_means magic_number false (lit< tt) meanings

  -- each list in a file
  sigs_means : (h : Header) → Means (sigs_part h) (Counted h.sigs (AreSigs (tables_of h))) (λ xs. flat_map sig_bytes xs)
  sigs_means h = each_means (sig_means meanings (tables_of h)) h.sigs

  functions_means : (h : Header) → Means (functions_part h) (Counted h.functions (AreFunctions h)) (λ xs. flat_map function_bytes xs)
  functions_means h = many_means after_function (function_means meanings (tables_of h)) h.functions h.code

  entry_means : (sigs : List Sig) (functions : List FunctionPart) → Means (checked (entry_fits sigs functions) 15) (IsEntry sigs functions) number_bytes
  entry_means sigs functions =
      means_as (λ f h. record { word = h.0; condition_15 = h.1 }) (λ f h. (h.word, h.condition_15)) (meanings.one (entry_fits sigs functions) (λ at. Bad at 15))

  entries_means : (h : Header) (sigs : List Sig) (functions : List FunctionPart)
      → Means (entries_part h sigs functions) (Counted h.stacks (AreEntries sigs functions)) numbers
  entries_means h sigs functions = each_means (entry_means sigs functions) h.stacks

  classes_means : (h : Header) (functions : List FunctionPart)
      → Means (classes_part h functions) (Counted h.classes (AreClasses (tables_of h) functions)) (λ xs. flat_map class_bytes xs)
  classes_means h functions = many_means with_class (λ later classes. class_means meanings (tables_of h) functions classes) h.classes []

  kinds_means : (h : Header) → Means (kinds_part h) (Counted h.kinds (AreKinds (tables_of h))) (λ xs. flat_map kind_bytes xs)
  kinds_means h = each_means (kind_means meanings (tables_of h)) h.kinds

  statics_means : (h : Header) → Means (statics_part h) (Counted h.statics (AreStatics (tables_of h))) (λ xs. flat_map field_bytes xs)
  statics_means h = each_means (field_type_means meanings (tables_of h)) h.statics

  arrays_means : (h : Header) (kinds : List KindRow)
      → Means (arrays_part h kinds) (Counted h.arrays (AreArrays h kinds)) (λ xs. flat_map array_bytes xs)
  arrays_means h kinds = many_means with_array (λ later used. array_means meanings (tables_of h) kinds used) h.arrays h.statics

  blocks_means : (h : Header) (functions : List FunctionPart) (code : List Spelled)
      → Means (blocks_part h functions code) (Counted h.blocks (AreBlocks (tables_of h) functions code)) (λ xs. flat_map block_bytes xs)
  blocks_means h functions code = many_means after_block (λ later least. block_means meanings (tables_of h) functions code least) h.blocks 0

  marks_means : (h : Header) (functions : List FunctionPart) (arrays : List ArrayPart) (code : List Spelled)
      → Means (marks_part h functions arrays code) (Counted h.marks (AreMarks h functions arrays code)) (λ xs. flat_map mark_bytes xs)
  marks_means h functions arrays code =
      many_means after_mark (λ later least. mark_means meanings (tables_of h) functions h.statics arrays code least) h.marks 0

-- ---- an image under a header

-- the parts of an image are as they must be under this header
record Under (h : Header) (y : CodedImage) : Type 0 where
  header : IsHeader false h
  sigs : Counted h.sigs (AreSigs (tables_of h)) y.image.sigs
  functions : Counted h.functions (AreFunctions h) y.image.functions
  entries : Counted h.stacks (AreEntries y.image.sigs y.image.functions) y.image.entries
  classes : Counted h.classes (AreClasses (tables_of h) y.image.functions) y.image.classes
  kinds : Counted h.kinds (AreKinds (tables_of h)) y.image.kinds
  statics : Counted h.statics (AreStatics (tables_of h)) y.image.statics
  arrays : Counted h.arrays (AreArrays h y.image.kinds) y.image.arrays
  bodies : AreBodies y.image.functions y.bodies
  blocks : Counted h.blocks (AreBlocks (tables_of h) y.image.functions (all_instructions y.bodies)) y.image.blocks
  marks : Counted h.marks (AreMarks h y.image.functions y.image.arrays (all_instructions y.bodies)) y.image.marks

-- the header of an image's file
abbrev header_of : ImageParts → Header
header_of i = record {
  heap_words = i.heap_words;
  stacks = i.stacks;
  sigs = length i.sigs;
  functions = length i.functions;
  classes = length i.classes;
  kinds = length i.kinds;
  statics = length i.statics;
  arrays = length i.arrays;
  code = length i.code;
  blocks = length i.blocks;
  marks = length i.marks;
}

-- there is a function, and the instructions fill the code
filled : (t : Tables) (left n : ℕ) (functions : List FunctionPart) (xs : List (List Spelled)) → functions_fit n ≡ true → length functions ≡ n
    → EachAfter after_function (λ later room f. IsFunction t later room f) left functions → AreBodies functions xs → length (code_bytes (all_instructions xs)) ≡ left
filled t left n [] xs fits long h b =
    let none : functions_fit 0 ≡ true = subst (λ (z : ℕ). functions_fit z ≡ true) (sym long) fits in
    let no : ⊥ = cc in
    absurd no
filled t left n (f ∷ functions) xs fits long h b = code_length t left f functions xs h b

-- the header of an image that was read under one, and whose code is its instructions, is that one
same_header : (h : Header) (y : CodedImage) → Under h y → y.image.heap_words ≡ h.heap_words → y.image.stacks ≡ h.stacks → y.image.code ≡ code_bytes (all_instructions y.bodies)
    → header_of y.image ≡ h
same_header h y u heap stacks e =
    let code : length y.image.code ≡ h.code =
    ap (λ (z : List ℕ). length z) e ∙ filled (tables_of h) h.code h.functions y.image.functions y.bodies u.header.condition_4 u.functions.0 u.functions.1 u.bodies in
    λ j. record {
      heap_words = heap j;
      stacks = stacks j;
      sigs = u.sigs.0 j;
      functions = u.functions.0 j;
      classes = u.classes.0 j;
      kinds = u.kinds.0 j;
      statics = u.statics.0 j;
      arrays = u.arrays.0 j;
      code = code j;
      blocks = u.blocks.0 j;
      marks = u.marks.0 j;
    }

-- an image under its own header is formed
formed_of : (y : CodedImage) → Under (header_of y.image) y → y.image.code ≡ code_bytes (all_instructions y.bodies) → Formed y.image
formed_of y u e = record {
  condition_1 = u.header.condition_1;
  condition_2 = u.header.condition_2;
  condition_3 = u.header.condition_3;
  condition_4 = u.header.condition_4;
  condition_5 = u.header.condition_5;
  condition_6 = u.header.condition_6;
  condition_7 = u.header.condition_7;
  condition_8 = u.header.condition_8;
  condition_9 = u.header.condition_9;
  condition_10 = u.header.condition_10;
  condition_11 = u.header.condition_11;
  sigs = u.sigs.1;
  functions = u.functions.1;
  stacks = u.entries.0;
  entries = u.entries.1;
  classes = u.classes.1;
  kinds = u.kinds.1;
  statics = u.statics.1;
  arrays = u.arrays.1;
  bodies = y.bodies;
  condition_23 = u.bodies;
  code = e;
  blocks = u.blocks.1;
  marks = u.marks.1;
}

-- the header of an image that is formed
formed_header : (i : ImageParts) → Formed i → IsHeader false (header_of i)
formed_header i f = record {
  condition_1 = f.condition_1;
  condition_2 = f.condition_2;
  condition_3 = f.condition_3;
  condition_4 = f.condition_4;
  condition_5 = f.condition_5;
  condition_6 = f.condition_6;
  condition_7 = f.condition_7;
  condition_8 = f.condition_8;
  condition_9 = f.condition_9;
  condition_10 = f.condition_10;
  condition_11 = f.condition_11;
}

-- ---- the bytes

-- the bytes behind the header of an image's file, with this code in place of its own
abbrev file_behind : ImageParts → List ℕ → List ℕ
file_behind i code =
    flat_map sig_bytes i.sigs
    ++ (flat_map function_bytes i.functions
    ++ (numbers i.entries
    ++ (flat_map class_bytes i.classes
    ++ (flat_map kind_bytes i.kinds
    ++ (flat_map field_bytes i.statics
    ++ (flat_map array_bytes i.arrays
    ++ (code
    ++ (flat_map block_bytes i.blocks
    ++ flat_map mark_bytes i.marks))))))))

-- the image with this code, and its instructions
abbrev with_code : ImageParts → List (List Spelled) → List ℕ → CodedImage
with_code i bodies code =
    let image : ImageParts = record i { code = code } in
    record { image = image; bodies = bodies }

-- bytes of an image that was read under a header
image_is : (h : Header) (y : CodedImage) (bytes : List ℕ) → Under h y
    → y.image.heap_words ≡ h.heap_words → y.image.stacks ≡ h.stacks → y.image.code ≡ code_bytes (all_instructions y.bodies)
    → bytes ≡ header_text h ++ file_behind y.image y.image.code → ImageOf bytes y.image
unfolding FileOf
image_is h y bytes u heap stacks code text =
    let own = same_header h y u heap stacks code in
    record {
      formed = formed_of y (subst (λ (z : Header). Under z y) (sym own) u) code;
      file = text ∙ ap (λ (z : Header). header_text z ++ file_behind y.image y.image.code) (sym own);
    }

module _ (meanings : NumberMeanings) (some : SomeText) where
  -- the fields of an image that is formed
  fields_of : (i : ImageParts) (f : Formed i) → FieldsOf coded_fields (with_code i f.bodies i.code) (FileOf i)
  unfolding coded_fields FileOf
  fields_of i f =
      let h = header_of i in
      let all = all_instructions f.bodies in
      let make = λ (ms : List MarkPart). coded h i.sigs i.functions i.entries i.classes i.kinds i.statics i.arrays f.bodies i.blocks ms in
      let y = make i.marks in
      let marks = put_last (marks_means meanings h i.functions i.arrays all) make i.marks (refl, f.marks) in
      let blocks = put_part (blocks_means meanings h i.functions all) _ i.blocks y _ (refl, f.blocks) marks in
      let code = put_part (bodies_means some i.functions) _ f.bodies y _ f.condition_23 blocks in
      let arrays = put_part (arrays_means meanings h i.kinds) _ i.arrays y _ (refl, f.arrays) code in
      let statics = put_part (statics_means meanings h) _ i.statics y _ (refl, f.statics) arrays in
      let kinds = put_part (kinds_means meanings h) _ i.kinds y _ (refl, f.kinds) statics in
      let classes = put_part (classes_means meanings h i.functions) _ i.classes y _ (refl, f.classes) kinds in
      let entries = put_part (entries_means meanings h i.sigs i.functions) _ i.entries y _ (f.stacks, f.entries) classes in
      let functions = put_part (functions_means meanings h) _ i.functions y _ (refl, f.functions) entries in
      let sigs = put_part (sigs_means meanings h) _ i.sigs y _ (refl, f.sigs) functions in
      subst (λ (z : List ℕ). FieldsOf coded_fields (with_code i f.bodies z) (header_text (header_of i) ++ file_behind i z)) (sym f.code)
      (put_part (header_means meanings) _ h y _ (formed_header i f) sigs)

  -- sound fields of an image are its file, and it is formed
  image_back : (fs : List Field) (y : CodedImage) → Sound coded_fields fs (done y) → ImageOf (fields_text fs) y.image
  unfolding coded_fields
  image_back fs y s =
      supposing (take_part (header_means meanings) _ fs y s) (λ h.
      supposing (take_part (sigs_means meanings h.value) _ h.rest y h.more) (λ sigs.
      supposing (take_part (functions_means meanings h.value) _ sigs.rest y sigs.more) (λ functions.
      supposing (take_part (entries_means meanings h.value sigs.value functions.value) _ functions.rest y functions.more) (λ entries.
      supposing (take_part (classes_means meanings h.value functions.value) _ entries.rest y entries.more) (λ classes.
      supposing (take_part (kinds_means meanings h.value) _ classes.rest y classes.more) (λ kinds.
      supposing (take_part (statics_means meanings h.value) _ kinds.rest y kinds.more) (λ statics.
      supposing (take_part (arrays_means meanings h.value kinds.value) _ statics.rest y statics.more) (λ arrays.
      supposing (take_part (bodies_means some functions.value) _ arrays.rest y arrays.more) (λ code.
      supposing (take_part (blocks_means meanings h.value functions.value (all_instructions code.value)) _ code.rest y code.more) (λ blocks.
      supposing (take_last (marks_means meanings h.value functions.value arrays.value (all_instructions code.value)) _ blocks.rest y blocks.more) (λ marks.
      let make = coded h.value sigs.value functions.value entries.value classes.value kinds.value statics.value arrays.value in
      let under : Under h.value (make code.value blocks.value marks.value) = record {
        header = h.is;
        sigs = sigs.is;
        functions = functions.is;
        entries = entries.is;
        classes = classes.is;
        kinds = kinds.is;
        statics = statics.is;
        arrays = arrays.is;
        bodies = code.is;
        blocks = blocks.is;
        marks = marks.is;
      } in
      let tables = entries.bytes _ (classes.bytes _ (kinds.bytes _ (statics.bytes _ (arrays.bytes _ (code.bytes _ (blocks.bytes _ marks.bytes)))))) in
      subst (λ (z : CodedImage). ImageOf (fields_text fs) z.image) marks.same
      (image_is h.value _ (fields_text fs) under refl refl refl (h.bytes _ (sigs.bytes _ (functions.bytes _ tables)))))))))))))))

  -- bytes that stand for an image are sound fields
  pub stands : (bytes : List ℕ) (i : ImageParts) → ImageOf bytes i → SoundFile image_fields bytes i
  unfolding image_fields
  stands bytes i h =
      let k = fields_of i h.formed in
      let y = with_code i h.formed.bodies i.code in
      record {
        fields = k.0 ++ [];
        parts = h.file ∙ sym k.2 ∙ ap fields_text (sym (append-nil k.0));
        sound = join coded_fields (λ (c : CodedImage). done c.image) k.0 [] y (done i) k.1 refl;
      }

  -- sound fields are the file of an image
  pub read : (bytes : List ℕ) (i : ImageParts) → SoundFile image_fields bytes i → ImageOf bytes i
  unfolding image_fields
  read bytes i s =
      let a = split coded_fields (λ c. done c.image) s.fields i s.sound in
      let k = at_end a.value.image i a.second a.more in
      let parts : bytes ≡ fields_text a.first = s.parts ∙ ap fields_text (a.parts ∙ ap (λ (t : List Field). a.first ++ t) k.0 ∙ append-nil a.first) in
      subst (λ (z : ImageParts). ImageOf bytes z) k.1 (subst (λ (z : List ℕ). ImageOf z a.value.image) (sym parts) (image_back a.first a.value a.one))
