-- Parts that are read one after another: what is read as far as they are there, or up to one that is refused.
use Rattle.std.proofs.Common.{◌≡◌, ℕ, ◌-◌, List, length, map, take, drop, Result, Ok, refl, sym, ap, subst, ◌∙◌}
use Rattle.std.proofs.lemmas.List.{length-map}
use Rattle.object_layout.specs.declared.rows.FieldTy.{FieldTy}
use Rattle.object_layout.specs.declared.rows.ClassRow.{ClassRow}
use Rattle.object_layout.specs.declared.rows.KindRow.{KindRow}
use Rattle.tal_types.specs.declared.signatures.Sig.{Sig}
use Rattle.file_fields.specs.declared.fault.ImageFault.{ImageFault}
use Rattle.file_fields.specs.Grammar.{Grammar, checked, each, many}
use Rattle.file_fields.specs.Reading.{◌▸◌, Fails, run}
use Rattle.file_fields.specs.Composed.{passed_on}
use Rattle.tal_image.specs.declared.parts.Header.{Header}
use Rattle.tal_image.specs.declared.parts.FunctionPart.{FunctionPart}
use Rattle.tal_image.specs.declared.parts.MarkPart.{MarkPart}
use Rattle.tal_image.specs.declared.start.Start.{Start}
use Rattle.tal_image.specs.Image.{ArrayPart, BlockPart}
use Rattle.tal_image.specs.Conditions.{Tables, fields_fit, methods_fit}
use Rattle.tal_image.specs.Fields.{tables_of, mark_where, after_mark, header_fields, sigs_part, functions_part, entries_part, classes_part, kinds_part, statics_part, arrays_part, field_type_field, method_list, parent_of}
use Rattle.tal_image.specs.ClassReading.{behind_parent, function_signature}
use Rattle.tal_image.specs.CodeReading.{code_at, offset_fits, mark_says}
use Rattle.tal_image.specs.ImageReading.{FrontParts, front_at, behind_at, addresses_of, places_of_arrays, blocks_by, marks_by}
use Rattle.tal_image.proofs.Classes.Readings.{behind_parent_run}

-- a part that is refused ends the reading
pub refused : {A B : Type 0} (e : ImageFault) (r : Result A ImageFault) (f : A → Result B ImageFault) → Fails e r → Fails e (r ▸ f)
refused {A} e r f h = passed_on e r (r ▸ f) (λ g q. ap (λ (z : Result A ImageFault). z ▸ f) q) h

-- ---- a class behind its parent's number

module _ (t : Tables) (functions : List FunctionPart) (number above : ℕ) (taken : List ℕ) (file : List ℕ) (at : ℕ)
    (own a : ℕ) (eo : run (checked (fields_fit above) 17) file at ≡ Ok (own, a))
    (fields : List FieldTy) (b : ℕ) (ef : run (each own (field_type_field t)) file a ≡ Ok (fields, b)) where
  -- the functions in the slots that are taken over have these signatures
  abbrev slots : List ℕ
  slots = map (function_signature functions) taken

  pub no_count : (e : ImageFault) → Fails e (run (checked (methods_fit (length taken)) 19) file b) → Fails e (run (behind_parent t functions number above slots) file at)
  no_count e h = rw (behind_parent_run t functions number above slots file at, eo, ef, length-map taken (function_signature functions)) (refused e (run (checked (methods_fit (length taken)) 19) file b) _ h)

  module _ (count d : ℕ) (ec : run (checked (methods_fit (length taken)) 19) file b ≡ Ok (count, d)) where
    pub no_methods : (e : ImageFault) → Fails e (run (method_list functions count slots) file d) → Fails e (run (behind_parent t functions number above slots) file at)
    no_methods e h = rw (behind_parent_run t functions number above slots file at, eo, ef, length-map taken (function_signature functions), ec) (refused e (run (method_list functions count slots) file d) _ h)

    pub class_read : (methods : List ℕ) (end : ℕ) → run (method_list functions count slots) file d ≡ Ok (methods, end)
        → run (behind_parent t functions number above slots) file at ≡ Ok (record { parent = parent_of number; fields = fields; methods = methods }, end)
    class_read methods end em = rw (behind_parent_run t functions number above slots file at, eo, ef, length-map taken (function_signature functions), ec, em) refl

-- ---- the tables

module _ (file : List ℕ) (at : ℕ) (h : Header) (a : ℕ) (eh : run header_fields file at ≡ Ok (h, a))
    (sigs : List Sig) (b : ℕ) (es : run (sigs_part h) file a ≡ Ok (sigs, b))
    (functions : List FunctionPart) (d : ℕ) (ef : run (functions_part h) file b ≡ Ok (functions, d)) where
  pub no_entries : (e : ImageFault) → Fails e (run (entries_part h sigs functions) file d) → Fails e (front_at file at)
  unfolding front_at
  no_entries e q = rw (eh, es, ef) (refused e (run (entries_part h sigs functions) file d) _ q)

  module _ (entries : List ℕ) (g : ℕ) (ee : run (entries_part h sigs functions) file d ≡ Ok (entries, g)) where
    pub no_classes : (e : ImageFault) → Fails e (run (classes_part h functions) file g) → Fails e (front_at file at)
    unfolding front_at
    no_classes e q = rw (eh, es, ef, ee) (refused e (run (classes_part h functions) file g) _ q)

    module _ (classes : List ClassRow) (k : ℕ) (ec : run (classes_part h functions) file g ≡ Ok (classes, k)) where
      pub no_kinds : (e : ImageFault) → Fails e (run (kinds_part h) file k) → Fails e (front_at file at)
      unfolding front_at
      no_kinds e q = rw (eh, es, ef, ee, ec) (refused e (run (kinds_part h) file k) _ q)

      module _ (kinds : List KindRow) (l : ℕ) (ek : run (kinds_part h) file k ≡ Ok (kinds, l)) where
        pub no_statics : (e : ImageFault) → Fails e (run (statics_part h) file l) → Fails e (front_at file at)
        unfolding front_at
        no_statics e q = rw (eh, es, ef, ee, ec, ek) (refused e (run (statics_part h) file l) _ q)

        module _ (statics : List FieldTy) (m : ℕ) (et : run (statics_part h) file l ≡ Ok (statics, m)) where
          pub no_arrays : (e : ImageFault) → Fails e (run (arrays_part h kinds) file m) → Fails e (front_at file at)
          unfolding front_at
          no_arrays e q = rw (eh, es, ef, ee, ec, ek, et) (refused e (run (arrays_part h kinds) file m) _ q)

          pub tables_read : (arrays : List ArrayPart) (end : ℕ) → run (arrays_part h kinds) file m ≡ Ok (arrays, end)
              → front_at file at ≡ Ok (record { header = h; sigs = sigs; functions = functions; entries = entries; classes = classes; kinds = kinds; statics = statics; arrays = arrays }, end)
          unfolding front_at
          tables_read arrays end ea = rw (eh, es, ef, ee, ec, ek, et, ea) refl

-- ---- the code, and what is said of it

module _ (f : FrontParts) (file : List ℕ) (at : ℕ) (starts : List Start) (a : ℕ) (es : code_at f.functions file at ≡ Ok (starts, a)) where
  pub no_blocks : (e : ImageFault) → Fails e (run (blocks_by f starts) file a) → Fails e (behind_at f file at)
  unfolding behind_at
  no_blocks e q = rw es (refused e (run (blocks_by f starts) file a) _ q)

  module _ (blocks : List BlockPart) (b : ℕ) (eb : run (blocks_by f starts) file a ≡ Ok (blocks, b))
      (t : Tables) (addresses places : List ℕ) (et : t ≡ tables_of f.header) (ea : addresses ≡ addresses_of f) (ep : places ≡ places_of_arrays f) where
    -- marks of what stands at these addresses
    abbrev told : Grammar (List MarkPart)
    told = many f.header.marks (λ later least. mark_where (offset_fits starts least) (mark_says t addresses places starts)) after_mark 0

    told_are : run told file b ≡ run (marks_by f starts) file b
    told_are = rw (et, ea, ep) refl

    pub no_marks : (e : ImageFault) → Fails e (run told file b) → Fails e (behind_at f file at)
    unfolding behind_at
    no_marks e q =
        rw (es, eb) (refused e (run (marks_by f starts) file b) _ (subst (λ (r : Result (List MarkPart × ℕ) ImageFault). Fails e r) told_are q))

    pub code_read : (marks : List MarkPart) (end : ℕ) (code : List ℕ) → run told file b ≡ Ok (marks, end)
        → code ≡ take (a - at) (drop at file) → behind_at f file at ≡ Ok (record { code = code; blocks = blocks; marks = marks }, end)
    unfolding behind_at
    code_read marks end code em ec = let e = sym told_are ∙ em in rw (es, eb, e, ec) refl
