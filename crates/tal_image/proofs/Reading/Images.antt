-- What the reader of a whole image reads is what the fields of an image say.
use Rattle.std.proofs.Common.{◌≡◌, ℕ, zero, suc, ◌+◌, ◌-◌, ◌*◌, Option, List, [], ◌∷◌, length, map, take, drop, Result, Ok, Err, refl, sym, ap, ◌∙◌, arith}
use Rattle.std.specs.Prelude.{slice_get}
use Rattle.std.specs.Option.{option_map}
use Rattle.ia32_code.specs.Decoding.{DecodedLaw}
use Rattle.object_layout.specs.declared.rows.FunRow.{FunRow}
use Rattle.object_layout.specs.declared.rows.FieldTy.{FieldTy}
use Rattle.object_layout.specs.declared.rows.ClassRow.{ClassRow}
use Rattle.object_layout.specs.declared.rows.KindRow.{KindRow}
use Rattle.tal_types.specs.declared.signatures.Sig.{Sig}
use Rattle.file_fields.specs.declared.fault.ImageFault.{ImageFault}
use Rattle.tal_image.specs.declared.parts.Header.{Header}
use Rattle.tal_image.specs.declared.parts.FunctionPart.{FunctionPart}
use Rattle.tal_image.specs.declared.start.Start.{Start}
use Rattle.tal_image.specs.Image.{ImageParts, ArrayPart}
use Rattle.object_layout.specs.Areas.{code_start, statics_start}
use Rattle.tal_image.specs.Conditions.{Tables, Spelled, block_fits, marked_number_at, mark_fits, mark_word, word_fits, same_number, fun_rows, array_places}
use Rattle.file_fields.specs.Grammar.{Grammar, AreBytes, done, many, then_with}
use Rattle.file_fields.specs.Reading.{◌▸◌, run}
use Rattle.file_fields.specs.Composed.{run-then_with}
use Rattle.tal_image.specs.Fields.{block_where, mark_where, tables_of, header_fields, coded_fields, image_fields, bodies, all_instructions, code_bytes, after_block, after_mark, sigs_part, functions_part, entries_part, classes_part, kinds_part, statics_part, arrays_part, blocks_part, marks_part, CodedImage, coded}
use Rattle.tal_image.specs.CodeReading.{instruction_starts, function_starts, starts_behind, code_at, place_fits, start_at, start_number, offset_fits, mark_word_by, mark_says, AllPositive}
use Rattle.tal_image.specs.ImageReading.{FrontParts, CodeParts, image_from, front_at, behind_at, image_at}
use Rattle.tal_image.proofs.Reading.Limits.{functions_fit}
use Rattle.tal_image.proofs.Reading.Code.{read_code_laws}

-- ---- marks

-- the address of one function of a list
address_at : (rows : List FunRow) (i : ℕ)
    → option_map (λ (row : FunRow). row.address) (slice_get rows i) ≡ slice_get (map (λ (row : FunRow). row.address) rows) i
address_at [] i = refl
address_at (x ∷ rows) zero = refl
address_at (x ∷ rows) (suc i) = address_at rows i

-- the addresses of functions, and of data arrays behind so many statics
abbrev addresses : List FunctionPart → List ℕ
addresses functions = map (λ (row : FunRow). row.address) (fun_rows code_start functions)

abbrev places : ℕ → List ArrayPart → List ℕ
places statics arrays = array_places (statics_start + 4 * statics) arrays

-- the word of a mark is looked up in these lists
word_same : (t : Tables) (functions : List FunctionPart) (statics : ℕ) (arrays : List ArrayPart) (tag index : ℕ)
    → mark_word t functions statics arrays tag index ≡ mark_word_by t (addresses functions) (places statics arrays) tag index
unfolding mark_word mark_word_by
word_same t functions statics arrays tag index = rw (sym (address_at (fun_rows code_start functions) index)) refl

-- and its tag and index say that number
said_same : (t : Tables) (functions : List FunctionPart) (statics : ℕ) (arrays : List ArrayPart) (code : List Spelled) (begun : List Start) (n tag index : ℕ)
    → marked_number_at n code ≡ start_number (start_at begun n)
    → word_fits t functions statics arrays (marked_number_at n code) tag index ≡ mark_says t (addresses functions) (places statics arrays) begun n tag index
unfolding word_fits
said_same t functions statics arrays code begun n tag index same =
    ap (λ (o : Option ℕ). same_number o (marked_number_at n code)) (word_same t functions statics arrays tag index)
    ∙ ap (same_number (mark_word_by t (addresses functions) (places statics arrays) tag index)) same

-- ---- one part, then what comes

-- what is kept of an image with the instructions of its functions
abbrev only_image : CodedImage × ℕ → Result (ImageParts × ℕ) ImageFault
only_image c = Ok (c.0.image, c.1)

-- the image that comes of a part that was read, by the grammar and by the reader
abbrev AreOne : {A D E : Type 0} → (A → Grammar CodedImage) → List ℕ → (A × ℕ → E × ℕ) → (E × ℕ → Result (D × ℕ) ImageFault)
    → (D × ℕ → Result (ImageParts × ℕ) ImageFault) → A × ℕ → Type 0
AreOne f file kept front behind x = (run (f x.0) file x.1 ▸ only_image) ≡ (front (kept x) ▸ behind)

-- one part is read, and what comes then is the rest
step : {A D : Type 0} (g : Grammar A) (f : A → Grammar CodedImage) (r : Result (A × ℕ) ImageFault) (front : A × ℕ → Result (D × ℕ) ImageFault)
    (behind : D × ℕ → Result (ImageParts × ℕ) ImageFault) (file : List ℕ) (at : ℕ) → run g file at ≡ r
    → ((x : A × ℕ) → r ≡ Ok x → AreOne f file (λ z. z) front behind x) → (run (then_with g f) file at ▸ only_image) ≡ ((r ▸ front) ▸ behind)
step {A} {D} g f r front behind file at e more =
    ap (λ z. z ▸ only_image) (run-then_with g f file at ∙ ap (λ z. z ▸ λ x. run (f x.0) file x.1) e) ∙ go r more
  where
    go : (z : Result (A × ℕ) ImageFault) → ((x : A × ℕ) → z ≡ Ok x → AreOne f file (λ y. y) front behind x)
        → ((z ▸ λ x. run (f x.0) file x.1) ▸ only_image) ≡ ((z ▸ front) ▸ behind)
    go (Ok x) h = h x refl
    go (Err h) k = refl

-- the instructions of all functions in one list
abbrev one_list : Result (List (List Spelled) × ℕ) ImageFault → Result (List Spelled × ℕ) ImageFault
one_list z = z ▸ λ x. Ok (all_instructions x.0, x.1)

-- where they begin
abbrev starts_of : List (List Spelled) × ℕ → List Start × ℕ
starts_of x = (instruction_starts (all_instructions x.0), x.1)

-- the code, of which it is kept where instructions begin
code_step : {D : Type 0} (functions : List FunctionPart) (f : List (List Spelled) → Grammar CodedImage) (front : List Start × ℕ → Result (D × ℕ) ImageFault)
    (behind : D × ℕ → Result (ImageParts × ℕ) ImageFault) (file : List ℕ) (at : ℕ)
    → ((x : List (List Spelled) × ℕ) → run (bodies functions) file at ≡ Ok x → AreOne f file starts_of front behind x)
    → (run (then_with (bodies functions) f) file at ▸ only_image) ≡ ((code_at functions file at ▸ front) ▸ behind)
code_step {D} functions f front behind file at more =
    ap (λ z. z ▸ only_image) (run-then_with (bodies functions) f file at) ∙ go (run (bodies functions) file at) more
  where
    go : (z : Result (List (List Spelled) × ℕ) ImageFault) → ((x : List (List Spelled) × ℕ) → z ≡ Ok x → AreOne f file starts_of front behind x)
        → ((z ▸ λ x. run (f x.0) file x.1) ▸ only_image) ≡ ((starts_behind [] (one_list z) ▸ front) ▸ behind)
    go (Ok x) h = h x refl
    go (Err h) k = refl

-- what comes of the parts behind the tables
abbrev behind_front : FrontParts → CodeParts × ℕ → Result (ImageParts × ℕ) ImageFault
behind_front f b = Ok (image_from f b.0, b.1)

-- the tables
abbrev front_parts : Header → List Sig → List FunctionPart → List ℕ → List ClassRow → List KindRow → List FieldTy → List ArrayPart → FrontParts
front_parts h sigs functions entries classes kinds statics arrays = record {
  header = h;
  sigs = sigs;
  functions = functions;
  entries = entries;
  classes = classes;
  kinds = kinds;
  statics = statics;
  arrays = arrays;
}

-- the code, the blocks and the marks of an image
abbrev behind_fields : Header → List Sig → List FunctionPart → List ℕ → List ClassRow → List KindRow → List FieldTy → List ArrayPart → Grammar CodedImage
behind_fields h sigs functions entries classes kinds statics arrays =
    then_with (bodies functions) (λ code.
    then_with (blocks_part h functions (all_instructions code)) (λ blocks.
    then_with (marks_part h functions arrays (all_instructions code)) (λ marks.
    done (coded h sigs functions entries classes kinds statics arrays code blocks marks))))

-- the blocks
blocks_run : (h : Header) (functions : List FunctionPart) (all : List Spelled) (begun : List Start) (file : List ℕ) (at : ℕ)
    → ((least n : ℕ) → block_fits functions all least n ≡ place_fits begun (function_starts functions) least n)
    → run (blocks_part h functions all) file at
    ≡ run (many h.blocks (λ later least. block_where (tables_of h) (place_fits begun (function_starts functions) least)) after_block 0) file at
blocks_run h functions all begun file at same = λ j.
    let place = λ (least n : ℕ). same least n j in
    run (many h.blocks (λ later least. block_where (tables_of h) (place least)) after_block 0) file at

-- the marks
marks_run : (h : Header) (functions : List FunctionPart) (arrays : List ArrayPart) (all : List Spelled) (begun : List Start) (file : List ℕ) (at : ℕ)
    → ((least n : ℕ) → mark_fits all least n ≡ offset_fits begun least n) → ((n : ℕ) → marked_number_at n all ≡ start_number (start_at begun n))
    → run (marks_part h functions arrays all) file at
    ≡ run (many h.marks (λ later least. mark_where (offset_fits begun least) (mark_says (tables_of h) (addresses functions) (places h.statics arrays) begun)) after_mark 0) file at
marks_run h functions arrays all begun file at fits same = λ j.
    let place = λ (least n : ℕ). fits least n j in
    let word = λ (n tag index : ℕ). said_same (tables_of h) functions h.statics arrays all begun n tag index (same n) j in
    run (many h.marks (λ later least. mark_where (place least) word) after_mark 0) file at

module _ (law : DecodedLaw) (file : List ℕ) (fits : AreBytes file) (h : Header) (sigs : List Sig) (functions : List FunctionPart)
    (entries : List ℕ) (classes : List ClassRow) (kinds : List KindRow) (statics : List FieldTy) (arrays : List ArrayPart) where
  -- the tables of this file
  abbrev tables : FrontParts
  tables = front_parts h sigs functions entries classes kinds statics arrays

  -- the code, the blocks and the marks
  behind_run : (at : ℕ) → AllPositive functions
      → (run (behind_fields h sigs functions entries classes kinds statics arrays) file at ▸ only_image) ≡ (behind_at tables file at ▸ behind_front tables)
  unfolding behind_at
  behind_run at positive =
      code_step functions _ _ (behind_front tables) file at (λ code e.
      let all = all_instructions code.0 in
      let begun = instruction_starts all in
      let laws = read_code_laws law in
      let stand = laws.stand file fits functions at code.0 code.1 e in
      step (blocks_part h functions all) _ _ _ (behind_front tables) file code.1
      (blocks_run h functions all begun file code.1 (laws.block file at all stand.0 functions positive)) (λ blocks eb.
      step (marks_part h functions arrays all) _ _ _ (behind_front tables) file blocks.1
      (marks_run h functions arrays all begun file blocks.1 (laws.mark file at all stand.0) (laws.number file at all stand.0)) (λ marks em.
      let count : length (code_bytes all) ≡ code.1 - at = let q = stand.1 in omega arith in
      ap (λ (z : List ℕ). let r : Result (ImageParts × ℕ) ImageFault = Ok (image_from tables (record { code = z; blocks = blocks.0; marks = marks.0 }), marks.1) in r)
      (laws.bytes file at all stand.0 ∙ ap (λ (n : ℕ). take n (drop at file)) count))))

module _ (law : DecodedLaw) (file : List ℕ) (fits : AreBytes file) where
  -- what comes of the tables
  abbrev behind_tables : FrontParts × ℕ → Result (ImageParts × ℕ) ImageFault
  behind_tables f = behind_at f.0 file f.1 ▸ behind_front f.0

  -- the whole image
  pub image_run : (at : ℕ) → run image_fields file at ≡ image_at file at
  unfolding image_fields coded_fields image_at front_at
  image_run at =
      run-then_with coded_fields (λ coded. done coded.image) file at
      ∙ step header_fields _ _ _ behind_tables file at refl (λ h eh.
      step (sigs_part h.0) _ _ _ behind_tables file h.1 refl (λ sigs es.
      step (functions_part h.0) _ _ _ behind_tables file sigs.1 refl (λ functions ef.
      step (entries_part h.0 sigs.0 functions.0) _ _ _ behind_tables file functions.1 refl (λ entries ee.
      step (classes_part h.0 functions.0) _ _ _ behind_tables file entries.1 refl (λ classes ec.
      step (kinds_part h.0) _ _ _ behind_tables file classes.1 refl (λ kinds ek.
      step (statics_part h.0) _ _ _ behind_tables file kinds.1 refl (λ statics ex.
      step (arrays_part h.0 kinds.0) _ _ _ behind_tables file statics.1 refl (λ arrays ea.
      let fit = functions_fit (tables_of h.0) h.0.functions h.0.code file sigs.1 functions.0 functions.1 ef in
      behind_run law file fits h.0 sigs.0 functions.0 entries.0 classes.0 kinds.0 statics.0 arrays.0 arrays.1 fit.0))))))))
