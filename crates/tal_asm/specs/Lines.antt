-- What the lines of a module make, one after another: rows in the tables of its unit, and code. All lines of a class and of a
-- function are taken at its first one, and are passed over behind it.
use Rattle.std.specs.Prelude.{ℕ, ◌-◌, false, List, [], ◌∷◌, length, Result, Ok}
use Rattle.asm_faults.specs.declared.AsmFault.{AsmFault}
use Rattle.tal_syntax.specs.declared.form.Form.{Form}
use Rattle.tal_syntax.specs.declared.form.Form.TheVariants as form
use Rattle.tal_syntax.specs.declared.module.TextLine.{TextLine}
use Rattle.tal_names.specs.Declarations.{Names}
use Rattle.tal_rows.specs.Lines.{function_line}
use Rattle.asm_faults.specs.Answers.{at_line}
use Rattle.tal_tables.specs.Rows.{ModuleTablesView, no_tables, name_number, make, then_make, and_function, take_row}
use Rattle.tal_code.specs.Functions.{UnitCodeView, no_code, has_code, function_code}

-- what the lines so far have made: the tables, and the code of the functions
pub record MadeSoFar : Type 0 where
  pub tables : ModuleTablesView
  pub code : UnitCodeView

-- nothing yet
abbrev pub nothing : MadeSoFar
nothing = record { tables = no_tables; code = no_code }

-- the tables after a line
abbrev pub with_tables : MadeSoFar → ModuleTablesView → MadeSoFar
with_tables u tables = record u { tables = tables }

-- a function more, whose code stands behind that of the others
abbrev pub with_code : MadeSoFar → ℕ → ℕ → UnitCodeView → MadeSoFar
with_code u name sig code = record { tables = and_function u.tables name false (length code.code - length u.code.code) sig; code = code }

-- what the lines so far have made, with one more line, of a number and a form, before those behind it; or the first fault
unfoldable pub take_line : Names → List (List ℕ) → MadeSoFar → ℕ → Form → List TextLine → Result MadeSoFar AsmFault
take_line m names u line (form.Func false n s) behind =
    then_make (at_line line (function_line m n s (has_code behind) (length u.tables.functions))) (λ sig. make (with_code u (name_number names n) sig) (function_code m u.code behind))
take_line m names u line f behind = make (with_tables u) (take_row m names u.tables line f behind)

-- what all these lines make
unfoldable pub take_lines : Names → List (List ℕ) → MadeSoFar → List TextLine → Result MadeSoFar AsmFault
take_lines m names u [] = Ok u
take_lines m names u (l ∷ ls) = then_make (take_line m names u l.number l.form ls) (λ more. take_lines m names more ls)
