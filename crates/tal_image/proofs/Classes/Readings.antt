-- Reading a class behind its parent's number.
use Rattle.std.proofs.Common.{◌≡◌, ℕ, zero, suc, ◌+◌, List, [], ◌∷◌, length, map, Ok, Err, refl, ap, ◌∙◌}
use Rattle.std.specs.Prelude.{slice_index_or}
use Rattle.object_layout.specs.declared.rows.ClassRow.{ClassRow}
use Rattle.object_layout.specs.declared.rows.FunRow.{FunRow}
use Rattle.object_layout.specs.Classes.{fun_row, signatures, signatures_of, Methods}
use Rattle.tal_image.specs.declared.parts.FunctionPart.{FunctionPart}
use Rattle.object_layout.specs.Areas.{code_start}
use Rattle.tal_image.specs.Conditions.{Tables, fun_rows, class_view, parent_fits, inherited_fields, inherited_methods, fields_fit, methods_fit}
use Rattle.file_fields.specs.declared.fault.ImageFault.{ImageFault}
use Rattle.file_fields.specs.Grammar.{checked, each}
use Rattle.file_fields.specs.Reading.{◌▸◌, run}
use Rattle.file_fields.specs.Composed.{then_run, run-then_with}
use Rattle.tal_image.specs.Fields.{field_type_field, parent_of, method_list, class_fields}
use Rattle.tal_image.specs.ClassReading.{behind_parent, function_signature, above_methods}

-- the signature of a function, by the functions' rows
row_sig : (address : ℕ) (functions : List FunctionPart) (f : ℕ) → (slice_index_or (fun_rows address functions) f (let r : FunRow = record { sig = 0; address = 0 } in r)).sig ≡ function_signature functions f
unfolding fun_rows function_signature
row_sig address [] f = refl
row_sig address (x ∷ functions) zero = refl
row_sig address (x ∷ functions) (suc f) = row_sig (address + x.length) functions f

-- the same, by the classes' view
signature_is : (functions : List FunctionPart) (classes : List ClassRow) (f : ℕ) → (fun_row (class_view functions classes) f).sig ≡ function_signature functions f
unfolding fun_row
signature_is functions classes f = row_sig code_start functions f

-- the signatures of slots
slots_are : (functions : List FunctionPart) (classes : List ClassRow) (fs : List ℕ) → map (function_signature functions) fs ≡ map (λ f. (fun_row (class_view functions classes) f).sig) fs
slots_are functions classes [] = refl
slots_are functions classes (f ∷ fs) = rw (signature_is functions classes f, slots_are functions classes fs) refl

-- the inherited slots, by the functions that stand in them
pub inherited_are : (functions : List FunctionPart) (classes : List ClassRow) (number : ℕ) → map (function_signature functions) (above_methods (class_view functions classes) number) ≡ inherited_methods (class_view functions classes) number
unfolding above_methods inherited_methods signatures signatures_of
inherited_are functions classes zero = refl
inherited_are functions classes (suc p) = slots_are functions classes (Methods (class_view functions classes) p)

-- a class behind its parent's number
pub behind_parent_run : (t : Tables) (functions : List FunctionPart) (number above : ℕ) (slots file : List ℕ) (at : ℕ)
    → run (behind_parent t functions number above slots) file at
    ≡ (run (checked (fields_fit above) 17) file at ▸ λ own. run (each own.0 (field_type_field t)) file own.1 ▸ λ fields.
    run (checked (methods_fit (length slots)) 19) file fields.1 ▸ λ count. run (method_list functions count.0 slots) file count.1 ▸ λ methods.
    Ok (record { parent = parent_of number; fields = fields.0; methods = methods.0 }, methods.1))
unfolding behind_parent
behind_parent_run t functions number above slots file at =
    then_run (checked (fields_fit above) 17) _ file at _ (λ own. then_run (each own.0 (field_type_field t)) _ file own.1 _ (λ fields.
    then_run (checked (methods_fit (length slots)) 19) _ file fields.1 _ (λ count. run-then_with (method_list functions count.0 slots) _ file count.1)))

-- a class
pub class_run : (t : Tables) (functions : List FunctionPart) (classes : List ClassRow) (file : List ℕ) (at : ℕ)
    → run (class_fields t functions classes) file at
    ≡ (run (checked (parent_fits (class_view functions classes)) 16) file at ▸ λ number.
    run (behind_parent t functions number.0 (inherited_fields (class_view functions classes) number.0) (inherited_methods (class_view functions classes) number.0)) file number.1)
unfolding class_fields behind_parent
class_run t functions classes file at = run-then_with (checked (parent_fits (class_view functions classes)) 16) _ file at

-- a class whose parent's number was read
pub class_is : (t : Tables) (functions : List FunctionPart) (classes : List ClassRow) (file : List ℕ) (at number next fields : ℕ) (taken : List ℕ)
    → run (checked (parent_fits (class_view functions classes)) 16) file at ≡ Ok (number, next)
    → fields ≡ inherited_fields (class_view functions classes) number → taken ≡ above_methods (class_view functions classes) number
    → run (class_fields t functions classes) file at ≡ run (behind_parent t functions number fields (map (function_signature functions) taken)) file next
class_is t functions classes file at number next fields taken e f m =
    class_run t functions classes file at
    ∙ ap (λ r. r ▸ λ n. run (behind_parent t functions n.0 (inherited_fields (class_view functions classes) n.0) (inherited_methods (class_view functions classes) n.0)) file n.1) e
    ∙ rw (f, m, inherited_are functions classes number) refl

-- a class whose parent's number was refused
pub class_refused : (t : Tables) (functions : List FunctionPart) (classes : List ClassRow) (file : List ℕ) (at : ℕ) (f : ImageFault)
    → run (checked (parent_fits (class_view functions classes)) 16) file at ≡ Err f → run (class_fields t functions classes) file at ≡ Err f
class_refused t functions classes file at f e = class_run t functions classes file at
    ∙ ap (λ r. r ▸ λ n. run (behind_parent t functions n.0 (inherited_fields (class_view functions classes) n.0) (inherited_methods (class_view functions classes) n.0)) file n.1) e
