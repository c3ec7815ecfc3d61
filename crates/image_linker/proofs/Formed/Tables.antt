-- The rows of the image by those of the units: each table.
use Rattle.std.proofs.Common.{◌≡◌, ℕ, zero, suc, ◌+◌, ◌<◌, false, List, [], ◌∷◌, length, map, Some, slice_get, refl, ap, ◌∙◌, arith}
use Rattle.std.proofs.lemmas.List.{length-map}
use Rattle.object_layout.specs.declared.rows.FieldTy.{FieldTy}
use Rattle.object_layout.specs.declared.rows.ClassRow.{ClassRow}
use Rattle.object_layout.specs.declared.rows.KindRow.{KindRow}
use Rattle.tal_types.specs.declared.signatures.Sig.{Sig}
use Rattle.tal_image.specs.declared.parts.ArrayPart.{ArrayPart}
use Rattle.tal_image.specs.declared.parts.FunctionPart.{FunctionPart}
use Rattle.tal_image.specs.Image.{number_bytes, sig_bytes, class_bytes, kind_bytes, field_bytes}
use Rattle.unit_files.specs.declared.parts.UnitSig.{UnitSig}
use Rattle.unit_files.specs.declared.parts.UnitFun.{UnitFun}
use Rattle.unit_files.specs.declared.parts.UnitClass.{UnitClass}
use Rattle.unit_files.specs.declared.parts.UnitKind.{UnitKind}
use Rattle.unit_files.specs.declared.parts.UnitStatic.{UnitStatic}
use Rattle.unit_files.specs.declared.parts.UnitArray.{UnitArray}
use Rattle.unit_files.specs.Unit.{UnitParts}
use Rattle.image_linker.specs.RowMentions.{RowMention}
use Rattle.image_linker.specs.LinkedRows.{TableNames, table_names, letters, sig_names, class_names, kind_names, static_names, array_names, function_names, linked_sig, linked_class, linked_kind, linked_static, linked_array, linked_function, linked_sig_row, linked_class_row, linked_array_row, linked_field, UnitBody, bodies_from, sig_mentions, class_mentions, kind_mentions, static_mentions, array_mentions, linked_tables}
use Rattle.image_linker.specs.Linked.{array_held, body_held, body_part, bodies_of, linked_image}
use Rattle.image_linker.proofs.Formed.Members.{In}
use Rattle.image_linker.proofs.Formed.Rows.{map_map, map_get, from_map_get, number_fits, row_at, row_from}
use Rattle.image_linker.proofs.Formed.Clean.{Clean}

-- ---- the functions of a unit

-- where function i begins in the unit's code
unfoldable pub body_start : List UnitFun → ℕ → ℕ
body_start [] i = 0
body_start (f ∷ fs) zero = 0
body_start (f ∷ fs) (suc i) = f.length + body_start fs i

-- a function of a unit with its code's place
abbrev pub body : TableNames → UnitParts → ℕ → UnitFun → UnitBody
body t u start f = record { unit = u; start = start; length = f.length; sig = linked_sig t u f.sig }

-- the same as a mention
abbrev pub body_mention : TableNames → UnitParts → ℕ → UnitFun → RowMention UnitBody
body_mention t u start f = record { name = letters u f.name; ext = f.ext; row = body t u start f }

module _ (t : TableNames) (u : UnitParts) where
  -- the names are the functions' names
  body_names : (start : ℕ) (fs : List UnitFun) → map (λ (r : RowMention UnitBody). r.name) (bodies_from t u start fs) ≡ map (λ (f : UnitFun). letters u f.name) fs
  body_names start [] = refl
  body_names start (f ∷ fs) = ap (λ ns. letters u f.name ∷ ns) (body_names (start + f.length) fs)

  -- there are as many as functions
  length-bodies : (start : ℕ) (fs : List UnitFun) → length (bodies_from t u start fs) ≡ length fs
  length-bodies start [] = refl
  length-bodies start (f ∷ fs) = ap suc (length-bodies (start + f.length) fs)

  -- the function at a place
  body_at : (start : ℕ) (fs : List UnitFun) (i : ℕ) (f : UnitFun) → slice_get fs i ≡ Some f → slice_get (bodies_from t u start fs) i ≡ Some (body_mention t u (start + body_start fs i) f)
  unfolding body_start
  body_at start [] i f e = absurd cc
  body_at start (g ∷ fs) zero f e = let is : g ≡ f = cc in ap (λ (h : UnitFun). Some (body_mention t u start h)) is ∙ ap (λ s. Some (body_mention t u s f)) (omega arith)
  body_at start (g ∷ fs) (suc i) f e = body_at (start + g.length) fs i f e ∙ ap (λ s. Some (body_mention t u s f)) (omega arith)

  -- each is one of the functions
  body_from : (start : ℕ) (fs : List UnitFun) (i : ℕ) (r : RowMention UnitBody) → slice_get (bodies_from t u start fs) i ≡ Some r → (f : UnitFun) × (slice_get fs i ≡ Some f) × (body_mention t u (start + body_start fs i) f ≡ r)
  unfolding body_start
  body_from start [] i r e = absurd cc
  body_from start (g ∷ fs) zero r e = let at : start + 0 ≡ start = omega arith in (g, refl, ap (λ s. body_mention t u s g) at ∙ cc)
  body_from start (g ∷ fs) (suc i) r e =
      let later = body_from (start + g.length) fs i r e in
      let at : start + (g.length + body_start fs i) ≡ start + g.length + body_start fs i = omega arith in
      (later.0, later.1, ap (λ s. body_mention t u s later.0) at ∙ later.2)

-- ---- the rows of a unit as mentions

-- a signature, a class, an array kind, a static and a data array
abbrev sig_mention : TableNames → UnitParts → UnitSig → RowMention Sig
sig_mention t u r = record { name = letters u r.name; ext = r.ext; row = linked_sig_row t u r.sig }

abbrev pub class_mention : TableNames → UnitParts → UnitClass → RowMention ClassRow
class_mention t u r = record { name = letters u r.name; ext = r.ext; row = linked_class_row t u r.row }

abbrev kind_mention : TableNames → UnitParts → UnitKind → RowMention KindRow
kind_mention t u r = record { name = letters u r.name; ext = r.ext; row = record { element = linked_field t u r.element } }

abbrev static_mention : TableNames → UnitParts → UnitStatic → RowMention FieldTy
static_mention t u r = record { name = letters u r.name; ext = r.ext; row = linked_field t u r.ty }

abbrev array_mention : TableNames → UnitParts → UnitArray → RowMention ArrayPart
array_mention t u r = record { name = letters u r.row.name; ext = r.row.ext; row = linked_array_row t u r }

-- the names of mentions are those of the rows
sigs_named : (t : TableNames) (u : UnitParts) → map (λ (r : RowMention Sig). r.name) (sig_mentions t u) ≡ sig_names u
sigs_named t u = map_map (λ (r : RowMention Sig). r.name) (sig_mention t u) u.sigs

pub classes_named : (t : TableNames) (u : UnitParts) → map (λ (r : RowMention ClassRow). r.name) (class_mentions t u) ≡ class_names u
classes_named t u = map_map (λ (r : RowMention ClassRow). r.name) (class_mention t u) u.classes

kinds_named : (t : TableNames) (u : UnitParts) → map (λ (r : RowMention KindRow). r.name) (kind_mentions t u) ≡ kind_names u
kinds_named t u = map_map (λ (r : RowMention KindRow). r.name) (kind_mention t u) u.kinds

statics_named : (t : TableNames) (u : UnitParts) → map (λ (r : RowMention FieldTy). r.name) (static_mentions t u) ≡ static_names u
statics_named t u = map_map (λ (r : RowMention FieldTy). r.name) (static_mention t u) u.statics

arrays_named : (t : TableNames) (u : UnitParts) → map (λ (r : RowMention ArrayPart). r.name) (array_mentions t u) ≡ array_names u
arrays_named t u = map_map (λ (r : RowMention ArrayPart). r.name) (array_mention t u) u.arrays

-- ---- all tables

module _ (units : List UnitParts) (c : Clean units) where
  -- the linked number of each row of a unit is below the image's count
  pub sig_fits : (u : UnitParts) (i : ℕ) → In u units → i < length u.sigs → linked_sig (table_names units) u i < length (linked_image units).sigs
  unfolding linked_image linked_tables
  sig_fits u i h lt = number_fits units (sig_mentions (table_names units)) sig_names (sigs_named (table_names units)) sig_bytes c.sigs u i h (rw length-map lt)

  pub class_fits : (u : UnitParts) (i : ℕ) → In u units → i < length u.classes → linked_class (table_names units) u i < length (linked_image units).classes
  unfolding linked_image linked_tables
  class_fits u i h lt = number_fits units (class_mentions (table_names units)) class_names (classes_named (table_names units)) class_bytes c.classes u i h (rw length-map lt)

  pub kind_fits : (u : UnitParts) (i : ℕ) → In u units → i < length u.kinds → linked_kind (table_names units) u i < length (linked_image units).kinds
  unfolding linked_image linked_tables
  kind_fits u i h lt = number_fits units (kind_mentions (table_names units)) kind_names (kinds_named (table_names units)) kind_bytes c.kinds u i h (rw length-map lt)

  pub array_fits : (u : UnitParts) (i : ℕ) → In u units → i < length u.arrays → linked_array (table_names units) u i < length (linked_image units).arrays
  unfolding linked_image linked_tables
  array_fits u i h lt = number_fits units (array_mentions (table_names units)) array_names (arrays_named (table_names units)) array_held c.arrays u i h (rw length-map lt)

  pub function_fits : (u : UnitParts) (i : ℕ) → In u units → i < length u.functions → linked_function (table_names units) u i < length (linked_image units).functions
  unfolding linked_image linked_tables
  function_fits u i h lt =
      rw length-map (number_fits units (λ v. bodies_from (table_names units) v 0 v.functions) function_names (λ v. body_names (table_names units) v 0 v.functions) body_held c.functions u i h (rw length-bodies lt))

  -- each row of the image is that of a unit's row
  pub sig_from : (k : ℕ) (x : Sig) → slice_get (linked_image units).sigs k ≡ Some x
      → (u : UnitParts) × (i : ℕ) × (r : UnitSig) × In u units × (slice_get u.sigs i ≡ Some r) × (r.ext ≡ false) × (linked_sig_row (table_names units) u r.sig ≡ x) × (linked_sig (table_names units) u i ≡ k)
  unfolding linked_image linked_tables
  sig_from k x e =
      let o = row_from units (sig_mentions (table_names units)) sig_names (sigs_named (table_names units)) sig_bytes c.sigs k x e in
      let r = from_map_get (sig_mention (table_names units) o.0) o.0.sigs o.1 o.2 o.4 in
      let same : sig_mention (table_names units) o.0 r.0 ≡ o.2 = r.2 in
      (o.0, o.1, r.0, o.3, r.1, ap (λ (m : RowMention Sig). m.ext) same ∙ o.5, ap (λ (m : RowMention Sig). m.row) same ∙ o.6, o.7)

  -- what stands at the number of a unit's class holds the same as it
  pub class_at : (u : UnitParts) (i : ℕ) (r : UnitClass) → In u units → slice_get u.classes i ≡ Some r
      → (x : ClassRow) × (slice_get (linked_image units).classes (linked_class (table_names units) u i) ≡ Some x) × (class_bytes (linked_class_row (table_names units) u r.row) ≡ class_bytes x)
  unfolding linked_image linked_tables
  class_at u i r h e =
      row_at units (class_mentions (table_names units)) class_names (classes_named (table_names units)) class_bytes c.classes u i (class_mention (table_names units) u r) h (map_get (class_mention (table_names units) u) u.classes i r e)

  -- each row of the image is that of a unit's row
  pub class_from : (k : ℕ) (x : ClassRow) → slice_get (linked_image units).classes k ≡ Some x
      → (u : UnitParts) × (i : ℕ) × (r : UnitClass) × In u units × (slice_get u.classes i ≡ Some r) × (r.ext ≡ false) × (linked_class_row (table_names units) u r.row ≡ x) × (linked_class (table_names units) u i ≡ k)
  unfolding linked_image linked_tables
  class_from k x e =
      let o = row_from units (class_mentions (table_names units)) class_names (classes_named (table_names units)) class_bytes c.classes k x e in
      let r = from_map_get (class_mention (table_names units) o.0) o.0.classes o.1 o.2 o.4 in
      let same : class_mention (table_names units) o.0 r.0 ≡ o.2 = r.2 in
      (o.0, o.1, r.0, o.3, r.1, ap (λ (m : RowMention ClassRow). m.ext) same ∙ o.5, ap (λ (m : RowMention ClassRow). m.row) same ∙ o.6, o.7)

  -- what stands at the number of a unit's kind holds the same as it
  pub kind_at : (u : UnitParts) (i : ℕ) (r : UnitKind) → In u units → slice_get u.kinds i ≡ Some r
      → (x : KindRow) × (slice_get (linked_image units).kinds (linked_kind (table_names units) u i) ≡ Some x) × (kind_bytes ((kind_mention (table_names units) u r).row) ≡ kind_bytes x)
  unfolding linked_image linked_tables
  kind_at u i r h e =
      row_at units (kind_mentions (table_names units)) kind_names (kinds_named (table_names units)) kind_bytes c.kinds u i (kind_mention (table_names units) u r) h (map_get (kind_mention (table_names units) u) u.kinds i r e)

  -- each row of the image is that of a unit's row
  pub kind_from : (k : ℕ) (x : KindRow) → slice_get (linked_image units).kinds k ≡ Some x
      → (u : UnitParts) × (i : ℕ) × (r : UnitKind) × In u units × (slice_get u.kinds i ≡ Some r) × (r.ext ≡ false) × ((kind_mention (table_names units) u r).row ≡ x) × (linked_kind (table_names units) u i ≡ k)
  unfolding linked_image linked_tables
  kind_from k x e =
      let o = row_from units (kind_mentions (table_names units)) kind_names (kinds_named (table_names units)) kind_bytes c.kinds k x e in
      let r = from_map_get (kind_mention (table_names units) o.0) o.0.kinds o.1 o.2 o.4 in
      let same : kind_mention (table_names units) o.0 r.0 ≡ o.2 = r.2 in
      (o.0, o.1, r.0, o.3, r.1, ap (λ (m : RowMention KindRow). m.ext) same ∙ o.5, ap (λ (m : RowMention KindRow). m.row) same ∙ o.6, o.7)

  -- each row of the image is that of a unit's row
  pub static_from : (k : ℕ) (x : FieldTy) → slice_get (linked_image units).statics k ≡ Some x
      → (u : UnitParts) × (i : ℕ) × (r : UnitStatic) × In u units × (slice_get u.statics i ≡ Some r) × (r.ext ≡ false) × (linked_field (table_names units) u r.ty ≡ x) × (linked_static (table_names units) u i ≡ k)
  unfolding linked_image linked_tables
  static_from k x e =
      let o = row_from units (static_mentions (table_names units)) static_names (statics_named (table_names units)) field_bytes c.statics k x e in
      let r = from_map_get (static_mention (table_names units) o.0) o.0.statics o.1 o.2 o.4 in
      let same : static_mention (table_names units) o.0 r.0 ≡ o.2 = r.2 in
      (o.0, o.1, r.0, o.3, r.1, ap (λ (m : RowMention FieldTy). m.ext) same ∙ o.5, ap (λ (m : RowMention FieldTy). m.row) same ∙ o.6, o.7)

  -- each row of the image is that of a unit's row
  pub array_from : (k : ℕ) (x : ArrayPart) → slice_get (linked_image units).arrays k ≡ Some x
      → (u : UnitParts) × (i : ℕ) × (r : UnitArray) × In u units × (slice_get u.arrays i ≡ Some r) × (r.row.ext ≡ false) × (linked_array_row (table_names units) u r ≡ x) × (linked_array (table_names units) u i ≡ k)
  unfolding linked_image linked_tables
  array_from k x e =
      let o = row_from units (array_mentions (table_names units)) array_names (arrays_named (table_names units)) array_held c.arrays k x e in
      let r = from_map_get (array_mention (table_names units) o.0) o.0.arrays o.1 o.2 o.4 in
      let same : array_mention (table_names units) o.0 r.0 ≡ o.2 = r.2 in
      (o.0, o.1, r.0, o.3, r.1, ap (λ (m : RowMention ArrayPart). m.ext) same ∙ o.5, ap (λ (m : RowMention ArrayPart). m.row) same ∙ o.6, o.7)

  -- what stands at the number of a unit's function has the same signature
  pub function_at : (u : UnitParts) (i : ℕ) (f : UnitFun) → In u units → slice_get u.functions i ≡ Some f
      → (x : FunctionPart) × (slice_get (linked_image units).functions (linked_function (table_names units) u i) ≡ Some x) × (number_bytes (linked_sig (table_names units) u f.sig) ≡ number_bytes x.sig)
  unfolding linked_image linked_tables
  function_at u i f h e =
      let x = row_at units (λ v. bodies_from (table_names units) v 0 v.functions) function_names (λ v. body_names (table_names units) v 0 v.functions) body_held c.functions
      u i (body_mention (table_names units) u (0 + body_start u.functions i) f) h (body_at (table_names units) u 0 u.functions i f e) in
      (body_part x.0, map_get body_part (bodies_of units) (linked_function (table_names units) u i) x.0 x.1, x.2)

  -- each function of the image is a unit's
  pub function_from : (k : ℕ) (b : UnitBody) → slice_get (bodies_of units) k ≡ Some b
      → (u : UnitParts) × (i : ℕ) × (f : UnitFun) × In u units × (slice_get u.functions i ≡ Some f) × (f.ext ≡ false) × (body (table_names units) u (body_start u.functions i) f ≡ b)
  unfolding linked_tables
  function_from k b e =
      let o = row_from units (λ v. bodies_from (table_names units) v 0 v.functions) function_names (λ v. body_names (table_names units) v 0 v.functions) body_held c.functions k b e in
      let f = body_from (table_names units) o.0 0 o.0.functions o.1 o.2 o.4 in
      let same : body_mention (table_names units) o.0 (0 + body_start o.0.functions o.1) f.0 ≡ o.2 = f.2 in
      let at : body_start o.0.functions o.1 ≡ 0 + body_start o.0.functions o.1 = omega arith in
      (o.0, o.1, f.0, o.3, f.1, ap (λ (m : RowMention UnitBody). m.ext) same ∙ o.5, ap (λ s. body (table_names units) o.0 s f.0) at ∙ ap (λ (m : RowMention UnitBody). m.row) same ∙ o.6)
