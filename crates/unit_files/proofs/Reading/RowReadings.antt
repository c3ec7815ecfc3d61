-- How the header, the names and the rows of the tables are read, one field after another.
use Rattle.std.proofs.Common.{◌≡◌, ℕ, true, cond, List, Ok, Err}
use Rattle.std.specs.Prelude.{nat_lt, ◌==◌}
use Rattle.object_layout.specs.declared.rows.ClassRow.{ClassRow}
use Rattle.object_layout.specs.declared.rows.KindRow.{KindRow}
use Rattle.file_fields.specs.declared.fault.ImageFault.TheVariants.{Bad}
use Rattle.file_fields.specs.Grammar.{done, checked, chunk, between}
use Rattle.file_fields.specs.Reading.{◌▸◌, chunk_at, run}
use Rattle.file_fields.specs.Composed.{run-then_with, then_run}
use Rattle.tal_image.specs.declared.parts.FunctionPart.{FunctionPart}
use Rattle.tal_image.specs.declared.parts.Tables.{Tables}
use Rattle.tal_image.specs.Conditions.{part_length_fits, part_numbers}
use Rattle.tal_image.specs.Fields.{header_where, sig_fields, function_where, class_fields, field_type_field, array_where}
use Rattle.unit_files.specs.Unit.{unit_magic}
use Rattle.unit_files.specs.Conditions.{is_name}
use Rattle.unit_files.specs.Fields.{unit_header_fields, name_fields, mention_fields, unit_sig_fields, unit_function_fields, entry_fields, unit_class_fields, unit_kind_fields, unit_static_fields, unit_array_fields}

-- the header
pub header_run : (file : List ℕ) (at : ℕ)
    → run unit_header_fields file at
    ≡ (run (header_where unit_magic true) file at ▸ λ h. run (checked (between 0 65536) 28) file h.1 ▸ λ names.
    run (checked (between 0 64) 15) file names.1 ▸ λ entries. run (checked (between 0 262144) 30) file entries.1 ▸ λ fixups.
    Ok (record { image = h.0; names = names.0; entries = entries.0; fixups = fixups.0 }, fixups.1))
unfolding unit_header_fields
header_run file at =
    then_run (header_where unit_magic true) _ file at _ (λ h. then_run (checked (between 0 65536) 28) _ file h.1 _ (λ names.
    then_run (checked (between 0 64) 15) _ file names.1 _ (λ entries. run-then_with (checked (between 0 262144) 30) _ file entries.1)))

-- a name
pub name_run : (file : List ℕ) (at : ℕ)
    → run name_fields file at
    ≡ (run (checked (between 1 63) 28) file at ▸ λ n. chunk_at n.0 file n.1 ▸ λ t. cond (is_name t.0) (Ok (t.0, t.1)) (Err (Bad n.1 28)))
unfolding name_fields
name_run file at = run-then_with (checked (between 1 63) 28) (λ n. chunk n is_name (λ t at. Bad at 28) (λ t. done t)) file at

-- what stands before a row
pub mention_run : (names : ℕ) (file : List ℕ) (at : ℕ)
    → run (mention_fields names) file at
    ≡ (run (checked (λ n. nat_lt n names) 29) file at ▸ λ name. run (checked (between 0 1) 29) file name.1 ▸ λ ext.
    Ok (record { name = name.0; ext = ext.0 == 1 }, ext.1))
unfolding mention_fields
mention_run names file at =
    then_run (checked (λ n. nat_lt n names) 29) _ file at _ (λ name. run-then_with (checked (between 0 1) 29) _ file name.1)

-- a signature
pub sig_run : (names : ℕ) (t : Tables) (file : List ℕ) (at : ℕ)
    → run (unit_sig_fields names t) file at
    ≡ (run (mention_fields names) file at ▸ λ m. run (sig_fields t) file m.1 ▸ λ sig. Ok (record { name = m.0.name; ext = m.0.ext; sig = sig.0 }, sig.1))
unfolding unit_sig_fields
sig_run names t file at = then_run (mention_fields names) _ file at _ (λ m. run-then_with (sig_fields t) _ file m.1)

-- a function
pub function_run : (names : ℕ) (t : Tables) (later left : ℕ) (file : List ℕ) (at : ℕ)
    → run (unit_function_fields names t later left) file at
    ≡ (run (mention_fields names) file at ▸ λ m. run (function_where t (part_length_fits m.0.ext later left)) file m.1 ▸ λ f.
    Ok (record { name = m.0.name; ext = m.0.ext; length = f.0.length; sig = f.0.sig }, f.1))
unfolding unit_function_fields
function_run names t later left file at =
    then_run (mention_fields names) _ file at _ (λ m. run-then_with (function_where t (part_length_fits m.0.ext later left)) _ file m.1)

-- an entry
pub entry_run : (functions : ℕ) (file : List ℕ) (at : ℕ)
    → run (entry_fields functions) file at
    ≡ (run (checked (between 0 63) 15) file at ▸ λ stack. run (checked (λ n. nat_lt n functions) 15) file stack.1 ▸ λ function.
    Ok (record { stack = stack.0; function = function.0 }, function.1))
unfolding entry_fields
entry_run functions file at =
    then_run (checked (between 0 63) 15) _ file at _ (λ stack. run-then_with (checked (λ n. nat_lt n functions) 15) _ file stack.1)

-- an array kind
pub kind_run : (names : ℕ) (t : Tables) (file : List ℕ) (at : ℕ)
    → run (unit_kind_fields names t) file at
    ≡ (run (mention_fields names) file at ▸ λ m. run (field_type_field t) file m.1 ▸ λ element. Ok (record { name = m.0.name; ext = m.0.ext; element = element.0 }, element.1))
unfolding unit_kind_fields
kind_run names t file at = then_run (mention_fields names) _ file at _ (λ m. run-then_with (field_type_field t) _ file m.1)

-- a static
pub static_run : (names : ℕ) (t : Tables) (file : List ℕ) (at : ℕ)
    → run (unit_static_fields names t) file at
    ≡ (run (mention_fields names) file at ▸ λ m. run (field_type_field t) file m.1 ▸ λ ty. Ok (record { name = m.0.name; ext = m.0.ext; ty = ty.0 }, ty.1))
unfolding unit_static_fields
static_run names t file at = then_run (mention_fields names) _ file at _ (λ m. run-then_with (field_type_field t) _ file m.1)

-- a data array
pub array_run : (names : ℕ) (t : Tables) (kinds : List KindRow) (used : ℕ) (file : List ℕ) (at : ℕ)
    → run (unit_array_fields names t kinds used) file at
    ≡ (run (mention_fields names) file at ▸ λ m. run (array_where t (part_numbers m.0.ext kinds) used) file m.1 ▸ λ a.
    Ok (record { row = record { name = m.0.name; ext = m.0.ext; kind = a.0.kind; length = a.0.size }; numbers = a.0.numbers }, a.1))
unfolding unit_array_fields
array_run names t kinds used file at =
    then_run (mention_fields names) _ file at _ (λ m. run-then_with (array_where t (part_numbers m.0.ext kinds) used) _ file m.1)

-- a class, after these
pub class_run : (names : ℕ) (t : Tables) (functions : List FunctionPart) (classes : List ClassRow) (file : List ℕ) (at : ℕ)
    → run (unit_class_fields names t functions classes) file at
    ≡ (run (mention_fields names) file at ▸ λ m. run (class_fields t functions classes) file m.1 ▸ λ row. Ok (record { name = m.0.name; ext = m.0.ext; row = row.0 }, row.1))
unfolding unit_class_fields
class_run names t functions classes file at =
    then_run (mention_fields names) _ file at _ (λ m. run-then_with (class_fields t functions classes) _ file m.1)
