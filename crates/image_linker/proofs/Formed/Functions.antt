-- The signatures of functions in a unit and in the image.
use Rattle.std.specs.Prelude.{◌==◌}
use Rattle.std.specs.Option.{option_map_or}
use Rattle.std.proofs.Common.{◌≡◌, ℕ, zero, suc, ◌+◌, ◌<◌, ◌^◌, true, false, List, [], ◌∷◌, length, map, drop, get_or, Option, Some, None, slice_get, refl, sym, ap, ◌∙◌, subst, arith}
use Rattle.std.proofs.lemmas.Bool.{ltb-true, lt-ltb, eqb-true, eq-eqb, false≢true}
use Rattle.std.proofs.lemmas.List.{append-nil, length-map}
use Rattle.std.proofs.lemmas.Option.{slice_get_within}
use Rattle.object_layout.specs.declared.rows.FunRow.{FunRow}
use Rattle.object_layout.specs.Areas.{code_start}
use Rattle.object_layout.specs.Classes.{ShapesView, fun_row, signatures_of}
use Rattle.file_fields.specs.Parts.{EachAfter, Each}
use Rattle.tal_image.specs.declared.parts.FunctionPart.{FunctionPart}
use Rattle.tal_image.specs.Image.{number_bytes}
use Rattle.tal_image.specs.Conditions.{fun_rows, method_fits}
use Rattle.tal_image.specs.Formed.{IsMethod}
use Rattle.unit_files.specs.declared.parts.UnitFun.{UnitFun}
use Rattle.unit_files.specs.Unit.{UnitParts, function_part as part_of, function_parts}
use Rattle.unit_files.specs.Formed.{UnitFormed, IsUnitFun, after_unit_fun, unit_tables}
use Rattle.image_linker.specs.LinkedRows.{table_names, linked_sig, linked_function, UnitBody}
use Rattle.image_linker.specs.Linked.{body_part, bodies_of, linked_image}
use Rattle.image_linker.proofs.Formed.Members.{In}
use Rattle.image_linker.proofs.Formed.Rows.{there, map_get, from_map_get}
use Rattle.image_linker.proofs.Formed.Clean.{Clean}
use Rattle.image_linker.proofs.Formed.Tables.{sig_fits as sig_there, function_fits, function_at, function_from}
use Rattle.image_linker.proofs.Formed.Bytes.{same_number}
use Rattle.image_linker.proofs.Formed.Types.{upto, at_place}

-- the row of a function has its signature
sig_row_at : (a : ℕ) (fs : List FunctionPart) (k : ℕ) (row : FunctionPart) (d : FunRow) → slice_get fs k ≡ Some row → (get_or (fun_rows a fs) k d).sig ≡ row.sig
unfolding fun_rows
sig_row_at a [] k row d e = absurd cc
sig_row_at a (f ∷ fs) zero row d e = let is : f ≡ row = cc in ap (λ (r : FunctionPart). r.sig) is
sig_row_at a (f ∷ fs) (suc k) row d e = sig_row_at (a + f.length) fs k row d e

-- a method's function is there
method_there : (fs : List FunctionPart) (slots : List ℕ) (f : ℕ) → method_fits fs slots f ≡ true → f < length fs
unfolding method_fits
method_there fs [] f h = ltb-true f (length fs) h
method_there fs (sig ∷ slots) f h = of (slice_get fs f) refl h
  where
    of : (o : Option FunctionPart) → slice_get fs f ≡ o → option_map_or (λ (row : FunctionPart). row.sig == sig) o false ≡ true → f < length fs
    of None e k = absurd (false≢true k)
    of (Some row) e k = slice_get_within fs f row e

-- so are those of all methods of a class
pub methods_there : (fs : List FunctionPart) (slots ms : List ℕ) → EachAfter (λ (kept : List ℕ) f. drop 1 kept) (λ later kept f. IsMethod fs kept f) slots ms → Each (λ f. f < length fs) ms
methods_there fs slots [] e = tt
methods_there fs slots (m ∷ ms) e = (method_there fs slots m e.0.condition_20, methods_there fs (drop 1 slots) ms e.1)

module _ (units : List UnitParts) (formed : (u : UnitParts) → In u units → UnitFormed u) (c : Clean units) where
  -- the signature of a unit's function is there
  pub unit_sig : (u : UnitParts) (i : ℕ) (f : UnitFun) → In u units → slice_get u.functions i ≡ Some f → f.sig < length u.sigs
  unit_sig u i f h e =
      let is = at_place after_unit_fun (λ later left g. IsUnitFun (length u.names) (unit_tables u) later left g) (length u.code) u.functions (formed u h).functions i f e in
      ltb-true f.sig (length u.sigs) is.2.condition_14

  -- the image has few signatures
  few_sigs : length (linked_image units).sigs < 2 ^ 32
  few_sigs = let few = upto 1 4096 (length (linked_image units).sigs) c.few_sigs in omega arith

  -- so is that of the image's function
  pub image_sig : (k : ℕ) (x : FunctionPart) → slice_get (linked_image units).functions k ≡ Some x → x.sig < length (linked_image units).sigs
  unfolding linked_image
  image_sig k x e =
      let b = from_map_get body_part (bodies_of units) k x e in
      let f = function_from units c k b.0 b.1 in
      let below = sig_there units c f.0 f.2.sig f.3 (unit_sig f.0 f.1 f.2 f.3 f.4) in
      let same : linked_sig (table_names units) f.0 f.2.sig ≡ x.sig = ap (λ (y : UnitBody). y.sig) f.6 ∙ ap (λ (y : FunctionPart). y.sig) b.2 in
      omega (arith, below, same)

  -- the image's function has the signature of the unit's
  pub function_stays : (u : UnitParts) (i : ℕ) (f : UnitFun) → In u units → slice_get u.functions i ≡ Some f
      → (x : FunctionPart) × (slice_get (linked_image units).functions (linked_function (table_names units) u i) ≡ Some x) × (x.sig ≡ linked_sig (table_names units) u f.sig)
  function_stays u i f h e =
      let x = function_at units c u i f h e in
      let low = sig_there units c u f.sig h (unit_sig u i f h e) in
      let high = image_sig (linked_function (table_names units) u i) x.0 x.1 in
      let few = few_sigs in
      let same = same_number (linked_sig (table_names units) u f.sig) x.0.sig [] [] (omega (arith, low, few)) (omega (arith, high, few)) (append-nil (number_bytes (linked_sig (table_names units) u f.sig)) ∙ x.2 ∙ sym (append-nil (number_bytes x.0.sig))) in
      (x.0, x.1, sym same.0)

  -- the signatures of functions, in the image
  pub signatures_stay : (u : UnitParts) → In u units → (s v : ShapesView) → s.funs ≡ fun_rows code_start (function_parts u.functions) → v.funs ≡ fun_rows code_start (linked_image units).functions
      → (ms : List ℕ) → Each (λ f. f < length (function_parts u.functions)) ms
      → signatures_of v (map (linked_function (table_names units) u) ms) ≡ map (linked_sig (table_names units) u) (signatures_of s ms)
  unfolding signatures_of fun_row
  signatures_stay u h s v fs fv [] e = refl
  signatures_stay u h s v fs fv (m ∷ ms) e =
      let f = there u.functions m (omega (arith, e.0, length-map u.functions part_of)) in
      let x = function_stays u m f.0 h f.1 in
      let in_image = ap (λ (rows : List FunRow). (get_or rows (linked_function (table_names units) u m) (record { sig = 0; address = 0 })).sig) fv
      ∙ sig_row_at code_start (linked_image units).functions (linked_function (table_names units) u m) x.0 (record { sig = 0; address = 0 }) x.1 in
      let in_unit = ap (λ (rows : List FunRow). (get_or rows m (record { sig = 0; address = 0 })).sig) fs
      ∙ sig_row_at code_start (function_parts u.functions) m (part_of f.0) (record { sig = 0; address = 0 }) (map_get part_of u.functions m f.0 f.1) in
      ap (λ g. g ∷ signatures_of v (map (linked_function (table_names units) u) ms)) (in_image ∙ x.2 ∙ ap (linked_sig (table_names units) u) (sym in_unit))
      ∙ ap (λ gs. linked_sig (table_names units) u (get_or s.funs m (record { sig = 0; address = 0 })).sig ∷ gs) (signatures_stay u h s v fs fv ms e.1)

  -- condition 20 of a method, in the image
  method_stays : (u : UnitParts) → In u units → (slots : List ℕ) (f : ℕ) → method_fits (function_parts u.functions) slots f ≡ true
      → method_fits (linked_image units).functions (map (linked_sig (table_names units) u) slots) (linked_function (table_names units) u f) ≡ true
  unfolding method_fits
  method_stays u h [] f fits =
      lt-ltb (linked_function (table_names units) u f) (length (linked_image units).functions)
      (function_fits units c u f h (omega (arith, ltb-true f (length (function_parts u.functions)) fits, length-map u.functions part_of)))
  method_stays u h (sig ∷ slots) f fits =
      let lt = method_there (function_parts u.functions) (sig ∷ slots) f fits in
      let g = there u.functions f (omega (arith, lt, length-map u.functions part_of)) in
      let x = function_stays u f g.0 h g.1 in
      let has : (g.0.sig == sig) ≡ true = sym (ap (λ (o : Option FunctionPart). option_map_or (λ (row : FunctionPart). row.sig == sig) o false) (map_get part_of u.functions f g.0 g.1)) ∙ fits in
      ap (λ (o : Option FunctionPart). option_map_or (λ (row : FunctionPart). row.sig == linked_sig (table_names units) u sig) o false) x.1
      ∙ eq-eqb x.0.sig (linked_sig (table_names units) u sig) (x.2 ∙ ap (linked_sig (table_names units) u) (eqb-true g.0.sig sig has))

  -- a mapped list without its first element
  drop_map : {A B : Type 0} (f : A → B) (xs : List A) → drop 1 (map f xs) ≡ map f (drop 1 xs)
  drop_map f [] = refl
  drop_map f (x ∷ xs) = refl

  -- and of all methods of a class
  pub methods_stay : (u : UnitParts) → In u units → (slots ms : List ℕ) → EachAfter (λ (kept : List ℕ) f. drop 1 kept) (λ later kept f. IsMethod (function_parts u.functions) kept f) slots ms
      → EachAfter (λ (kept : List ℕ) f. drop 1 kept) (λ later kept f. IsMethod (linked_image units).functions kept f) (map (linked_sig (table_names units) u) slots) (map (linked_function (table_names units) u) ms)
  methods_stay u h slots [] e = tt
  methods_stay u h slots (m ∷ ms) e =
      let few = upto 1 16384 (length (linked_image units).functions) c.few_functions in
      let lt = method_there (function_parts u.functions) slots m e.0.condition_20 in
      let below = function_fits units c u m h (omega (arith, lt, length-map u.functions part_of)) in (
        record { word = omega (arith, below, few); condition_20 = method_stays u h slots m e.0.condition_20 },
        subst (λ kept. EachAfter (λ (k : List ℕ) f. drop 1 k) (λ later k f. IsMethod (linked_image units).functions k f) kept (map (linked_function (table_names units) u) ms))
            (sym (drop_map (linked_sig (table_names units) u) slots)) (methods_stay u h (drop 1 slots) ms e.1),
      )
