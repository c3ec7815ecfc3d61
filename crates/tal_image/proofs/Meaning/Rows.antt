-- What the rows of an image file stand for.
use Rattle.std.specs.List.{flat_map}
use Rattle.std.proofs.Common.{◌≡◌, ℕ, zero, suc, Bool, true, Option, Some, None, List, ◌++◌, length, drop, refl, sym, subst}
use Rattle.object_layout.specs.declared.rows.ClassRow.{ClassRow}
use Rattle.object_layout.specs.declared.rows.KindRow.{KindRow}
use Rattle.tal_types.specs.declared.types.Ty.{Ty}
use Rattle.tal_types.specs.declared.signatures.Sig.{Sig}
use Rattle.file_fields.specs.declared.fault.ImageFault.TheVariants.{Bad}
use Rattle.tal_image.specs.declared.parts.FunctionPart.{FunctionPart}
use Rattle.tal_image.specs.declared.parts.MarkPart.{MarkPart}
use Rattle.tal_image.specs.Image.{ArrayPart, BlockPart, number_bytes, numbers, types_bytes, field_bytes, sig_bytes, function_bytes, parent_number, class_bytes, kind_bytes, array_bytes, block_bytes, mark_bytes}
use Rattle.tal_image.specs.Conditions.{Tables, length_fits, sig_fits, class_view, parent_fits, inherited_fields, inherited_methods, fields_fit, methods_fit, method_fits, kind_fits, array_fits, numbers_given, Spelled, block_fits, slots_fit, marked_number_at, mark_fits, word_fits}
use Rattle.file_fields.specs.Grammar.{Grammar, done, pair, checked, each, then_with, fields_text}
use Rattle.file_fields.specs.Laws.{NumberMeanings}
use Rattle.file_fields.specs.Parts.{FieldsOf, Means, Checked, Counted}
use Rattle.file_fields.specs.Composed.{many_means, each_means, means_as, put_part, put_last, take_part, take_last, supposing}
use Rattle.tal_image.specs.Fields.{type_field, field_type_field, sig_fields, function_where, function_fields, parent_of, method_list, class_fields, kind_fields, array_where, array_fields, block_where, block_fields, mark_where, mark_fields}
use Rattle.tal_image.specs.Formed.{IsWord, EachAfter, Each, IsType, IsFieldType, IsSig, IsFunction, IsMethod, IsClass, ArrayFits, IsBlockPart, IsMark}
use Rattle.tal_image.specs.Rows.{IsFunctionWhere, IsArrayWhere, IsMarkWhere}
use Rattle.tal_image.proofs.Meaning.Types.{type_means, field_type_means}

-- ---- what comes behind the first fields of a row

-- the signature of these types
abbrev signature : List Ty → Ty → Sig
signature params result = record { params = params; result = result }

-- what comes after the seven types of a signature
abbrev pub after_params : Tables → List Ty → Grammar Sig
after_params t params = then_with (type_field t) (λ result. done (signature params result))

-- what comes after the number of slots of a block, and after its seven types
abbrev after_count : Tables → ℕ → List Ty → ℕ → Grammar BlockPart
after_count t offset types n = then_with (each n (type_field t)) (λ slots. done (record { offset = offset; types = types; slots = slots }))

abbrev pub after_types : Tables → ℕ → List Ty → Grammar BlockPart
after_types t offset types = then_with (checked slots_fit 25) (after_count t offset types)

module _ (meanings : NumberMeanings) where
  -- ---- signatures

  -- so many types
  types_means : (t : Tables) (n : ℕ) → Means (each n (type_field t)) (Counted n (Each (IsType t))) types_bytes
  types_means t n = each_means (type_means meanings t) n

  -- a signature
  pub sig_means : (t : Tables) → Means (sig_fields t) (IsSig t) sig_bytes
  unfolding sig_fields
  sig_means t = record {
    whole = λ s h. put_part (types_means t 7) (after_params t) s.params s _ (h.seven, h.params) (put_last (type_means meanings t) (signature s.params) s.result h.result);
    back = λ fs s p.
        supposing (take_part (types_means t 7) (after_params t) fs s p) (λ params.
        supposing (take_last (type_means meanings t) _ params.rest s params.more) (λ result.
        subst (λ (z : Sig). IsSig t z × (fields_text fs ≡ sig_bytes z)) result.same
        (record { seven = params.is.0; params = params.is.1; result = result.is }, params.bytes _ result.bytes)));
  }

  -- ---- functions

  -- a function whose length meets a test
  pub function_where_means : (t : Tables) (long : ℕ → Bool) → Means (function_where t long) (IsFunctionWhere t long) function_bytes
  unfolding function_where
  function_where_means t long = record {
    whole = λ f h.
        put_part (meanings.one long (λ at. Bad at 13)) _ f.length f _ h.0 (put_last (meanings.one (sig_fits t) (λ at. Bad at 14)) _ f.sig h.1);
    back = λ fs f p.
        supposing (take_part (meanings.one long (λ at. Bad at 13)) _ fs f p) (λ len.
        supposing (take_last (meanings.one (sig_fits t) (λ at. Bad at 14)) _ len.rest f len.more) (λ sig.
        subst (λ (z : FunctionPart). IsFunctionWhere t long z × (fields_text fs ≡ function_bytes z)) sig.same ((len.is, sig.is), len.bytes _ sig.bytes)));
  }

  -- a function
  pub function_means : (t : Tables) (later left : ℕ) → Means (function_fields t later left) (IsFunction t later left) function_bytes
  function_means t later left =
      means_as (λ f h. record { length_word = h.0.0; condition_13 = h.0.1; sig_word = h.1.0; condition_14 = h.1.1 })
      (λ f h. ((h.length_word, h.condition_13), (h.sig_word, h.condition_14))) (function_where_means t (length_fits later left))

  -- ---- array kinds

  -- an array kind
  pub kind_means : (t : Tables) → Means (kind_fields t) (λ (k : KindRow). IsFieldType t k.element) kind_bytes
  unfolding kind_fields
  kind_means t = record {
    whole = λ k h. put_last (field_type_means meanings t) (λ ty. (let r : KindRow = record { element = ty } in r)) k.element h;
    back = λ fs k p.
        supposing (take_last (field_type_means meanings t) (λ ty. (let r : KindRow = record { element = ty } in r)) fs k p) (λ element.
        subst (λ (z : KindRow). IsFieldType t z.element × (fields_text fs ≡ kind_bytes z)) element.same (element.is, element.bytes));
  }

  -- ---- data arrays

  -- a number without a condition is a word
  word_means : Means (checked (λ n. true) 22) IsWord number_bytes
  word_means = means_as (λ n h. h.0) (λ n h. (h, refl)) (meanings.one (λ n. true) (λ at. Bad at 22))

  -- so many words
  words_means : (n : ℕ) → Means (each n (checked (λ m. true) 22)) (Counted n (Each IsWord)) numbers
  words_means n = each_means word_means n

  -- a data array with so many numbers
  pub array_where_means : (t : Tables) (count : ℕ → ℕ → ℕ) (used : ℕ) → Means (array_where t count used) (IsArrayWhere t count used) array_bytes
  unfolding array_where
  array_where_means t count used = record {
    whole = λ a h.
        put_part (meanings.one (kind_fits t) (λ at. Bad at 21)) _ a.kind a _ h.0
        (put_part (meanings.one (array_fits used) (λ at. Bad at 22)) _ a.size a _ h.1
        (put_last (words_means (count a.kind a.size)) _ a.numbers h.2));
    back = λ fs a p.
        supposing (take_part (meanings.one (kind_fits t) (λ at. Bad at 21)) _ fs a p) (λ kind.
        supposing (take_part (meanings.one (array_fits used) (λ at. Bad at 22)) _ kind.rest a kind.more) (λ size.
        supposing (take_last (words_means (count kind.value size.value)) _ size.rest a size.more) (λ ns.
        subst (λ (z : ArrayPart). IsArrayWhere t count used z × (fields_text fs ≡ array_bytes z)) ns.same ((kind.is, size.is, ns.is), kind.bytes _ (size.bytes _ ns.bytes)))));
  }

  -- a data array
  pub array_means : (t : Tables) (kinds : List KindRow) (used : ℕ) → Means (array_fields t kinds used) (ArrayFits t kinds used) array_bytes
  array_means t kinds used =
      means_as (λ a h. record { kind_word = h.0.0; condition_21 = h.0.1; size_word = h.1.0; condition_22 = h.1.1; count = h.2.0; words = h.2.1 })
      (λ a h. ((h.kind_word, h.condition_21), (h.size_word, h.condition_22), (h.count, h.words))) (array_where_means t (numbers_given kinds) used)

  -- ---- marks

  module _ (place : ℕ → Bool) (word : ℕ → ℕ → ℕ → Bool) where
    -- the mark of an offset, a tag and an index
    abbrev marked : ℕ → ℕ × ℕ → MarkPart
    marked offset p = record { offset = offset; tag = p.0; index = p.1 }

    -- what comes after the offset of a mark
    abbrev after_offset : ℕ → Grammar MarkPart
    after_offset offset = pair (word offset) (λ tag index at. Bad at 27) (λ tag index. done (marked offset (tag, index)))

    -- a mark under tests
    pub mark_where_means : Means (mark_where place word) (IsMarkWhere place word) mark_bytes
    unfolding mark_where then_with
    mark_where_means = record {
      whole = λ m h.
          put_part (meanings.one place (λ at. Bad at 26)) after_offset m.offset m _ h.0
          (put_last (meanings.two (word m.offset) (λ tag index at. Bad at 27)) (λ p. marked m.offset p) (m.tag, m.index) h.1);
      back = λ fs m p.
          supposing (take_part (meanings.one place (λ at. Bad at 26)) after_offset fs m p) (λ offset.
          supposing (take_last (meanings.two (word offset.value) (λ tag index at. Bad at 27)) (λ q. marked offset.value q) offset.rest m offset.more) (λ both.
          subst (λ (z : MarkPart). IsMarkWhere place word z × (fields_text fs ≡ mark_bytes z)) both.same ((offset.is, both.is), offset.bytes _ both.bytes)));
    }

  -- a mark
  pub mark_means : (t : Tables) (functions : List FunctionPart) (statics : ℕ) (arrays : List ArrayPart) (code : List Spelled) (least : ℕ)
      → Means (mark_fields t functions statics arrays code least) (IsMark t functions statics arrays code least) mark_bytes
  mark_means t functions statics arrays code least =
      means_as (λ m h. record { offset_word = h.0.0; condition_26 = h.0.1; tag_word = h.1.0; index_word = h.1.1; condition_27 = h.1.2 })
      (λ m h. ((h.offset_word, h.condition_26), (h.tag_word, h.index_word, h.condition_27)))
      (mark_where_means (mark_fits code least) (λ offset. word_fits t functions statics arrays (marked_number_at offset code)))

  -- ---- blocks

  -- a block
  pub block_means : (t : Tables) (functions : List FunctionPart) (code : List Spelled) (least : ℕ)
      → Means (block_fields t functions code least) (IsBlockPart t functions code least) block_bytes
  unfolding block_where
  block_means t functions code least = record {
    whole = λ b h.
        put_part (meanings.one (block_fits functions code least) (λ at. Bad at 24)) _ b.offset b _ (h.offset_word, h.condition_24)
        (put_part (types_means t 7) (after_types t b.offset) b.types b _ (h.seven, h.types)
        (put_part (meanings.one slots_fit (λ at. Bad at 25)) (after_count t b.offset b.types) (length b.slots) b _ (h.slots_word, h.condition_25)
        (put_last (types_means t (length b.slots)) _ b.slots (refl, h.slots))));
    back = λ fs b p.
        supposing (take_part (meanings.one (block_fits functions code least) (λ at. Bad at 24)) _ fs b p) (λ offset.
        supposing (take_part (types_means t 7) (after_types t offset.value) offset.rest b offset.more) (λ types.
        supposing (take_part (meanings.one slots_fit (λ at. Bad at 25)) (after_count t offset.value types.value) types.rest b types.more) (λ count.
        supposing (take_last (types_means t count.value) _ count.rest b count.more) (λ slots.
        let Count : ℕ → Type 0 = λ n. Checked slots_fit n × (fields_text types.rest ≡ number_bytes n ++ types_bytes slots.value) in
        supposing (subst Count (sym slots.is.0) (count.is, count.bytes _ slots.bytes)) (λ counted.
        subst (λ (z : BlockPart). IsBlockPart t functions code least z × (fields_text fs ≡ block_bytes z)) slots.same (
          record {
            offset_word = offset.is.0;
            condition_24 = offset.is.1;
            seven = types.is.0;
            types = types.is.1;
            slots_word = counted.0.0;
            condition_25 = counted.0.1;
            slots = slots.is.1;
          },
          offset.bytes _ (types.bytes _ counted.1),
        ))))));
  }

  -- ---- classes

  -- the parent of a number has that number, and a parent is the one of its number
  parent_back : (m : ℕ) → parent_number (parent_of m) ≡ m
  unfolding parent_number parent_of
  parent_back zero = refl
  parent_back (suc p) = refl

  parent_is : (p : Option ℕ) → parent_of (parent_number p) ≡ p
  unfolding parent_number parent_of
  parent_is None = refl
  parent_is (Some p) = refl

  module _ (t : Tables) (functions : List FunctionPart) (classes : List ClassRow) where
    -- whether a class may have this parent, this many own fields under it, and this many methods
    abbrev parent_ok : ℕ → Bool
    parent_ok m = parent_fits (class_view functions classes) m

    abbrev own_ok : ℕ → ℕ → Bool
    own_ok m n = fields_fit (inherited_fields (class_view functions classes) m) n

    abbrev slots_ok : ℕ → ℕ → Bool
    slots_ok m n = methods_fit (length (inherited_methods (class_view functions classes) m)) n

    -- the methods of a class under a parent
    abbrev AreMethods : ℕ → List ℕ → Type 0
    AreMethods m fs = EachAfter (λ (slots : List ℕ) f. drop 1 slots) (λ later slots f. IsMethod functions slots f) (inherited_methods (class_view functions classes) m) fs

    -- the function of a method
    method_means : (slots : List ℕ) → Means (checked (method_fits functions slots) 20) (IsMethod functions slots) number_bytes
    method_means slots = means_as (λ f h. record { word = h.0; condition_20 = h.1 }) (λ f h. (h.word, h.condition_20)) (meanings.one (method_fits functions slots) (λ at. Bad at 20))

    -- the methods of a class
    methods_means : (m n : ℕ) → Means (method_list functions n (inherited_methods (class_view functions classes) m)) (Counted n (AreMethods m)) numbers
    methods_means m n = many_means (λ (slots : List ℕ) f. drop 1 slots) (λ later slots. method_means slots) n (inherited_methods (class_view functions classes) m)

    -- the own fields of a class
    fields_means : (n : ℕ) → Means (each n (field_type_field t)) (Counted n (Each (IsFieldType t))) (λ xs. flat_map field_bytes xs)
    fields_means n = each_means (field_type_means meanings t) n

    -- a class with its bytes, under the numbers that stand in the file
    record ClassUnder (m own count : ℕ) (c : ClassRow) (bytes : List ℕ) : Type 0 where
      parent : Checked parent_ok m
      owned : Checked (own_ok m) own
      fields : Counted own (Each (IsFieldType t)) c.fields
      slots : Checked (slots_ok m) count
      methods : Counted count (AreMethods m) c.methods
      text : bytes ≡ number_bytes m ++ (number_bytes own ++ (flat_map field_bytes c.fields ++ (number_bytes count ++ numbers c.methods)))

    -- those numbers are the class's
    class_under : (m own count : ℕ) (c : ClassRow) (bytes : List ℕ) → ClassUnder m own count c bytes → parent_number c.parent ≡ m
        → IsClass t functions classes c × (bytes ≡ class_bytes c)
    class_under m own count c bytes u e =
        supposing (subst (λ (z : ℕ). ClassUnder z own count c bytes) (sym e) u) (λ one.
        supposing (subst (λ (z : ℕ). ClassUnder (parent_number c.parent) z count c bytes) (sym one.fields.0) one) (λ two.
        supposing (subst (λ (z : ℕ). ClassUnder (parent_number c.parent) (length c.fields) z c bytes) (sym two.methods.0) two) (λ k. (
          record {
            parent_word = k.parent.0;
            condition_16 = k.parent.1;
            fields_word = k.owned.0;
            condition_17 = k.owned.1;
            fields = k.fields.1;
            methods_word = k.slots.0;
            condition_19 = k.slots.1;
            methods = k.methods.1;
          },
          k.text,
        ))))

    -- a class
    pub class_means : Means (class_fields t functions classes) (IsClass t functions classes) class_bytes
    unfolding class_fields
    class_means = record {
      whole = λ c h.
          let m = parent_number c.parent in
          let make = λ (p : Option ℕ) (ms : List ℕ). (let r : ClassRow = record { parent = p; fields = c.fields; methods = ms } in r) in
          let y = make (parent_of m) c.methods in
          let methods = put_last (methods_means m (length c.methods)) (make (parent_of m)) c.methods (refl, h.methods) in
          let slots = put_part (meanings.one (slots_ok m) (λ at. Bad at 19)) _ (length c.methods) y _ (h.methods_word, h.condition_19) methods in
          let fields = put_part (fields_means (length c.fields)) _ c.fields y _ (refl, h.fields) slots in
          let own = put_part (meanings.one (own_ok m) (λ at. Bad at 17)) _ (length c.fields) y _ (h.fields_word, h.condition_17) fields in
          subst (λ (z : Option ℕ). FieldsOf (class_fields t functions classes) (make z c.methods) (class_bytes c)) (parent_is c.parent)
          (put_part (meanings.one parent_ok (λ at. Bad at 16)) _ m y _ (h.parent_word, h.condition_16) own);
      back = λ fs c p.
          supposing (take_part (meanings.one parent_ok (λ at. Bad at 16)) _ fs c p) (λ parent.
          supposing (take_part (meanings.one (own_ok parent.value) (λ at. Bad at 17)) _ parent.rest c parent.more) (λ own.
          supposing (take_part (fields_means own.value) _ own.rest c own.more) (λ fields.
          supposing (take_part (meanings.one (slots_ok parent.value) (λ at. Bad at 19)) _ fields.rest c fields.more) (λ slots.
          supposing (take_last (methods_means parent.value slots.value) _ slots.rest c slots.more) (λ methods.
          subst (λ (z : ClassRow). IsClass t functions classes z × (fields_text fs ≡ class_bytes z)) methods.same
          (class_under parent.value own.value slots.value _ (fields_text fs) (record {
            parent = parent.is;
            owned = own.is;
            fields = fields.is;
            slots = slots.is;
            methods = methods.is;
            text = parent.bytes _ (own.bytes _ (fields.bytes _ (slots.bytes _ methods.bytes)));
          }) (parent_back parent.value)))))));
    }
