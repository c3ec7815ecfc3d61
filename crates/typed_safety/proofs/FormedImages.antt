-- What the form of an image tells of its methods, blocks and marks.
use Rattle.std.proofs.Common.{◌≡◌, ◌∙◌, sym, ap, subst, ◌≤◌, ◌+◌, ◌-◌, ◌*◌, ◌==◌, ◌&&◌, ℕ, zero, suc, Bool, true, false, nat_lt, if◌then◌else◌, Option, Some, None, is_some, arith, refl, List, [], ◌∷◌, ◌++◌, length, slice_get, get_or, drop}
use Rattle.std.specs.Option.{option_map, option_map_or}
use Rattle.std.proofs.lemmas.Bool.Decides.{nat_tests}
use Rattle.std.proofs.lemmas.Option.{slice_get-map, slice_get-get_or, get_or_from_slice_get}
use Rattle.ia32_code.specs.declared.instruction.Inst.{Inst}
use Rattle.object_layout.specs.declared.rows.ClassRow.{ClassRow}
use Rattle.object_layout.specs.declared.rows.FieldTy.TheVariants as field
use Rattle.object_layout.specs.declared.rows.FunRow.{FunRow}
use Rattle.object_layout.specs.Areas.{code_start, statics_start, table_address, descriptor_address}
use Rattle.object_layout.specs.Classes.{Methods, fun_row, Below, Element}
use Rattle.object_layout.specs.Laws.{ClassLaws}
use Rattle.tal_types.specs.declared.types.Ty.TheVariants as ty
use Rattle.tal_types.specs.declared.views.Span.{Span}
use Rattle.tal_types.specs.declared.views.Mark.{Mark}
use Rattle.tal_types.specs.Laws.{TypeLaws}
use Rattle.tal_flow.specs.Places.{mark_type}
use Rattle.tal_flow.specs.Strongest.{PlacedInst}
use Rattle.tal_image.specs.declared.parts.FunctionPart.{FunctionPart}
use Rattle.tal_image.specs.declared.parts.MarkPart.{MarkPart}
use Rattle.tal_image.specs.declared.parts.ArrayPart.{ArrayPart}
use Rattle.tal_image.specs.Image.{ImageParts}
use Rattle.tal_image.specs.Conditions.{fun_rows, method_fits, Spelled, begins_at, marked_number_at, marked_number, array_room, array_places, mark_word, same_number, word_fits}
use Rattle.tal_image.specs.Fields.{all_instructions, after_mark, with_class}
use Rattle.tal_image.specs.Formed.{EachAfter, IsClass, IsMethod, IsMark, Formed, tables}
use Rattle.tal_image.specs.Laws.{FormedShapes}
use Rattle.tal_image.specs.Shown.{shown, shapes_of, spans, begun_by, mark_in, data_row_in}
use Rattle.tal_checker.specs.Running.{instruction_in}
use Rattle.tal_checker.specs.Laws.{CodeLaws}
use Rattle.typed_machine.specs.Values.{Number, Null, Ref, Code, Tab, Desc, ArrayOf, Word, fits_among}
use Rattle.typed_machine.specs.Stores.{Object, Store, shapes_in, places_in}
use Rattle.typed_machine.specs.Operands.{marked_value}
use Rattle.typed_safety.specs.Laws.{HasArrays, ImageLaws}

-- a row of a list is as it must be, after those before it
pub each-row : {S A : Type 0} (step : S → A → S) (Is : ℕ → S → A → Type 0) (kept : S) (xs : List A) (i : ℕ) (x : A) → EachAfter step Is kept xs → slice_get xs i ≡ Some x
    → (later : ℕ) × (before : S) × Is later before x
each-row step Is kept [] i x h e = absurd (cc)
each-row step Is kept (y ∷ xs) zero x h e = let same : y ≡ x = cc in (length xs, kept, subst (Is (length xs) kept) same h.0)
each-row step Is kept (y ∷ xs) (suc i) x h e = each-row step Is (step kept y) xs i x h.1 e

-- ---- methods

-- a function that may stand in a slot is there
method-there : (functions : List FunctionPart) (slots : List ℕ) (f : ℕ) → method_fits functions slots f ≡ true → (row : FunctionPart) × (slice_get functions f ≡ Some row)
unfolding method_fits
method-there functions [] f h = (get_or functions f (record { length = 0; sig = 0 }), slice_get-get_or functions f (record { length = 0; sig = 0 }) (grind (arith, nat_tests)))
method-there functions (sig ∷ slots) f h = go (slice_get functions f) h
  where
    go : (o : Option FunctionPart) → option_map_or (λ (row : FunctionPart). row.sig == sig) o false ≡ true → (row : FunctionPart) × (o ≡ Some row)
    go None h = absurd (grind arith)
    go (Some row) h = (row, refl)

-- a function's row has its span's beginning and signature
row-spanned : (a : ℕ) (fs : List FunctionPart) (n : ℕ) (s : Span) (d : FunRow) → slice_get (spans a fs) n ≡ Some s
    → ((get_or (fun_rows a fs) n d).address ≡ s.start) × ((get_or (fun_rows a fs) n d).sig ≡ s.sig)
unfolding spans fun_rows
row-spanned a [] n s d e = absurd (cc)
row-spanned a (f ∷ fs) zero s d e = let same : record { start = a; end = a + f.length; sig = f.sig } ≡ s = cc in (ap (λ (x : Span). x.start) same, ap (λ (x : Span). x.sig) same)
row-spanned a (f ∷ fs) (suc n) s d e = row-spanned (a + f.length) fs n s d e

-- the function of a method begins at its address
methods-begin : (image : ImageParts) (formed : Formed image) → CodeLaws image formed → (c m f : ℕ) → slice_get (Methods (shown image).shapes c) m ≡ Some f
    → (shown image).function_at (fun_row (shown image).shapes f).address ≡ Some (fun_row (shown image).shapes f).sig
unfolding shown shapes_of Methods fun_row
methods-begin image formed code c m f e = go (slice_get image.classes c) refl e
  where
    function : (row : FunctionPart) → slice_get image.functions f ≡ Some row
        → begun_by (fun_row (shown image).shapes f).address (spans code_start image.functions) ≡ Some (fun_row (shown image).shapes f).sig
    function row h =
        let n = code.functions f row h in
        let r = row-spanned code_start image.functions f n.0 (record { sig = 0; address = 0 }) n.1 in
        rw (r.0, r.1) n.3

    go : (o : Option ClassRow) → slice_get image.classes c ≡ o → slice_get (option_map_or (λ (row : ClassRow). row.methods) o []) m ≡ Some f
        → begun_by (fun_row (shown image).shapes f).address (spans code_start image.functions) ≡ Some (fun_row (shown image).shapes f).sig
    go None h k = absurd (cc)
    go (Some row) h k =
        let class = each-row with_class (λ later classes k. IsClass (tables image) image.functions classes k) [] image.classes c row formed.classes h in
        let method = each-row (λ (slots : List ℕ) g. drop 1 slots) (λ later slots g. IsMethod image.functions slots g) _ row.methods m f class.2.methods k in
        let there = method-there image.functions method.1 f method.2.condition_20 in
        function there.0 there.1

-- ---- marks

-- a mark of the image at an address
record MarkAt (image : ImageParts) (code : List Spelled) (pc : ℕ) (mark : Mark) : Type 0 where
  offset : ℕ
  address : code_start + offset ≡ pc
  number : ℕ
  is_number : marked_number_at offset code ≡ Some number
  is_word : mark_word (tables image) image.functions (length image.statics) image.arrays mark.tag mark.index ≡ Some number

-- two numbers that are the same
same-parts : (a b : Option ℕ) → same_number a b ≡ true → (n : ℕ) × (a ≡ Some n) × (b ≡ Some n)
unfolding same_number
same-parts None b h = absurd (grind arith)
same-parts (Some n) None h = absurd (grind arith)
same-parts (Some n) (Some m) h = let same : m ≡ n = grind (arith, nat_tests) in (n, refl, ap (λ k. Some k) same)

-- a mark that is found
mark-found : (image : ImageParts) (code : List Spelled) (marks : List MarkPart) (least pc : ℕ) (mark : Mark)
    → EachAfter after_mark (λ later least m. IsMark (tables image) image.functions (length image.statics) image.arrays code least m) least marks
    → mark_in pc marks ≡ Some mark → MarkAt image code pc mark
unfolding mark_in word_fits
mark-found image code [] least pc mark h e = absurd (cc)
mark-found image code (m ∷ marks) least pc mark h e = go ((code_start + m.offset) == pc) refl e (λ g. mark-found image code marks (m.offset + 1) pc mark h.1 g)
  where
    go : (b : Bool) → ((code_start + m.offset) == pc) ≡ b → (if b then Some (record { tag = m.tag; index = m.index }) else mark_in pc marks) ≡ Some mark
        → (mark_in pc marks ≡ Some mark → MarkAt image code pc mark) → MarkAt image code pc mark
    go true f g later =
        let is : record { tag = m.tag; index = m.index } ≡ mark = cc in
        let at = h.0 in
        let both = same-parts _ _ at.condition_27 in
        subst (MarkAt image code pc) is (record { offset = m.offset; address = grind (arith, nat_tests); number = both.0; is_number = both.2; is_word = both.1 })
    go false f g later = later g

-- the word of a null is 0
null-marked : (b : Bool) (w : ℕ) → (if b then Some 0 else None) ≡ Some w → 0 ≡ w
null-marked true w e = cc
null-marked false w e = absurd (cc)

-- a place of a data array is that of one
array-placed : (address : ℕ) (arrays : List ArrayPart) (d place : ℕ) → slice_get (array_places address arrays) d ≡ Some place → (a : ArrayPart) × (slice_get arrays d ≡ Some a)
unfolding array_places
array-placed address [] d place e = absurd (cc)
array-placed address (a ∷ arrays) zero place e = (a, refl)
array-placed address (a ∷ arrays) (suc d) place e = array-placed (address + 4 * array_room a) arrays d place e

-- a data array by its row
data_array_place : (image : ImageParts) (d place : ℕ) → slice_get (array_places (statics_start + 4 * length image.statics) image.arrays) d ≡ Some place
    → (a : ArrayPart) × (slice_get image.arrays d ≡ Some a) × (data_row_in image d ≡ Some (record { place = place; kind = a.kind; length = a.size }))
unfolding data_row_in
data_array_place image d place e = let a = array-placed _ image.arrays d place e in (a.0, a.1, rw (a.1, e) refl)

module _ (image : ImageParts) (laws : ClassLaws (shown image).shapes) (live : ℕ → Bool) (store : Store) (has : HasArrays image live store) where
  -- a function's address
  code-marked : (n : ℕ) (o : Option ℕ) → (shown image).function_at n ≡ o → fits_among (shown image) live (shapes_in store) (Code n) (option_map_or ty.Code o ty.Junk) ≡ true
  unfolding fits_among
  code-marked n None e = refl
  code-marked n (Some g) e = rw e (grind (arith, nat_tests))

  -- a class's table
  table-marked : (c w : ℕ) → (if nat_lt c (length image.classes) then Some (table_address c) else None) ≡ Some w
      → (fits_among (shown image) live (shapes_in store) (Tab c) (ty.Tab c) ≡ true) × (table_address c ≡ w)
  unfolding fits_among shown shapes_of
  table-marked c w e = go (nat_lt c (length image.classes)) refl e
    where
      go : (b : Bool) → nat_lt c (length image.classes) ≡ b → (if b then Some (table_address c) else None) ≡ Some w → (Below (shown image).shapes c c ≡ true) × (table_address c ≡ w)
      go true f g = (laws.reflexive c (grind (arith, nat_tests)), cc)
      go false f g = absurd (cc)

  -- a kind's descriptor
  kind-marked : (k w : ℕ) → (if nat_lt k (length image.kinds) then Some (descriptor_address k) else None) ≡ Some w
      → (fits_among (shown image) live (shapes_in store) (Desc k) (ty.Desc k) ≡ true) × (descriptor_address k ≡ w)
  unfolding fits_among shown shapes_of Element
  kind-marked k w e = go (nat_lt k (length image.kinds)) refl e
    where
      go : (b : Bool) → nat_lt k (length image.kinds) ≡ b → (if b then Some (descriptor_address k) else None) ≡ Some w
          → ((k == k) && is_some (Element (shown image).shapes k) ≡ true) × (descriptor_address k ≡ w)
      go true f g = let there = slice_get-get_or image.kinds k (record { element = field.Num }) (grind (arith, nat_tests)) in (rw there (grind (arith, nat_tests)), cc)
      go false f g = absurd (cc)

  -- a data array
  array-marked : (d w : ℕ) → slice_get (array_places (statics_start + 4 * length image.statics) image.arrays) d ≡ Some w
      → (fits_among (shown image) live (shapes_in store) (Ref d) (option_map_or ty.Arr ((shown image).data_kind d) ty.Junk) ≡ true) × (get_or (places_in store) d 0 ≡ w)
  unfolding fits_among shown
  array-marked d w e =
      let a = data_array_place image d w e in
      let at = has.stand d _ a.2 in
      let shape : slice_get (shapes_in store) d ≡ Some (ArrayOf a.0.kind a.0.size) = slice_get-map (λ (o : Object). o.shape) store d ∙ (ap (option_map (λ (o : Object). o.shape)) at.here ∙ ap (λ x. Some x) at.shape) in
      let place : slice_get (places_in store) d ≡ Some w = slice_get-map (λ (o : Object). o.place) store d ∙ (ap (option_map (λ (o : Object). o.place)) at.here ∙ ap (λ x. Some x) at.place) in
      (rw (a.1, has.alive d _ a.2, shape) (grind (arith, nat_tests)), get_or_from_slice_get (places_in store) d w 0 place)

  -- what a mark stands for: its value has its type, and the word of the value is the mark's
  marked : (n w : ℕ) (mark : Mark) → mark_word (tables image) image.functions (length image.statics) image.arrays mark.tag mark.index ≡ Some w
      → (fits_among (shown image) live (shapes_in store) (marked_value n mark) (mark_type (shown image) n mark) ≡ true) × (n ≡ w → Word (places_in store) (marked_value n mark) ≡ n)
  unfolding mark_word marked_value Word fits_among
  marked n w mark = go (mark.tag == 1) (mark.tag == 3) (mark.tag == 5) (mark.tag == 6) (mark.tag == 7) (mark.tag == 8) (mark.tag == 10)
    where
      d : ℕ
      d = mark.index

      go : (a b c e f g h : Bool)
          → (if a then (if nat_lt d (length image.classes) then Some 0 else None)
          else if b then (if nat_lt d (length image.kinds) then Some 0 else None)
          else if c then (if nat_lt d (length image.sigs) then Some 0 else None)
          else if e then option_map (λ (row : FunRow). row.address) (slice_get (fun_rows code_start image.functions) d)
          else if f then (if nat_lt d (length image.classes) then Some (table_address d) else None)
          else if g then (if nat_lt d (length image.kinds) then Some (descriptor_address d) else None)
          else if h then slice_get (array_places (statics_start + 4 * length image.statics) image.arrays) d
          else None) ≡ Some w
          → (fits_among (shown image) live (shapes_in store)
          (if a then Null else if b then Null else if c then Null else if e then Code n else if f then Tab d else if g then Desc d else if h then Ref d else Number n)
          (if a then ty.Ref d else if b then ty.ArrRef d else if c then ty.Fun d else if e then option_map_or ty.Code ((shown image).function_at n) ty.Junk
          else if f then ty.Tab d else if g then ty.Desc d else if h then option_map_or ty.Arr ((shown image).data_kind d) ty.Junk else ty.Junk) ≡ true)
          × (n ≡ w → Word (places_in store) (if a then Null else if b then Null else if c then Null else if e then Code n else if f then Tab d else if g then Desc d else if h then Ref d else Number n) ≡ n)
      go true b c e f g h x = (refl, λ y. null-marked _ w x ∙ sym y)
      go false true c e f g h x = (refl, λ y. null-marked _ w x ∙ sym y)
      go false false true e f g h x = (refl, λ y. null-marked _ w x ∙ sym y)
      go false false false true f g h x = (code-marked n _ refl, λ y. refl)
      go false false false false true g h x = let t = table-marked d w x in (t.0, λ y. t.1 ∙ sym y)
      go false false false false false true h x = let t = kind-marked d w x in (t.0, λ y. t.1 ∙ sym y)
      go false false false false false false true x = let t = array-marked d w x in (t.0, λ y. t.1 ∙ sym y)
      go false false false false false false false x = absurd (cc)

-- ---- the laws

-- the number of the instruction at a mark
number-there : (image : ImageParts) (formed : Formed image) → CodeLaws image formed → (pc n : ℕ) (x : PlacedInst) (mark : Mark) → (m : MarkAt image (all_instructions formed.bodies) pc mark)
    → instruction_in image pc ≡ Some x → marked_number x.inst ≡ Some n → n ≡ m.number
unfolding marked_number_at
number-there image formed laws pc n x mark m here is = go (begins_at m.offset (all_instructions formed.bodies)) refl m.is_number
  where
    go : (o : Option Inst) → begins_at m.offset (all_instructions formed.bodies) ≡ o → option_map_or marked_number o None ≡ Some m.number → n ≡ m.number
    go None e f = absurd (cc)
    go (Some i) e f =
        let same = laws.begun m.offset i x e (rw m.address here) in
        let number : Some n ≡ Some m.number = sym is ∙ (ap marked_number same ∙ f) in
        cc

-- what a formed image tells
pub image_laws : TypeLaws → ((image : ImageParts) (formed : Formed image) → CodeLaws image formed) → FormedShapes → (image : ImageParts) → Formed image → ImageLaws image
unfolding shown
image_laws types codes shapes image formed = record {
  types = types;
  heap = formed.condition_1;
  classes = classes;
  methods = methods-begin image formed code;
  blocks = code.blocks;
  marks = λ pc n mark live store e has. let m = at pc mark e in (marked image classes live store has n m.number mark m.is_word).0;
  words = λ pc n x mark live store here e is has. let m = at pc mark e in (marked image classes live store has n m.number mark m.is_word).1 (number-there image formed code pc n x mark m here is);
}
  where
    code : CodeLaws image formed
    code = codes image formed

    classes : ClassLaws (shown image).shapes
    classes = shapes image formed

    at : (pc : ℕ) (mark : Mark) → mark_in pc image.marks ≡ Some mark → MarkAt image (all_instructions formed.bodies) pc mark
    at pc mark e = mark-found image (all_instructions formed.bodies) image.marks 0 pc mark formed.marks e
