-- What the code does with a line.
use Rattle.std.specs.Prelude.{◌≡◌, ℕ, Bool, true, false, Option, Some, None, Result, Ok, Err}
use Rattle.asm_faults.specs.declared.AsmAnswer.{AsmAnswer}
use Rattle.asm_faults.specs.declared.AsmAnswer.TheVariants as answer
use Rattle.tal_classes.specs.Members.{ClassSoFar}

-- A line of a class was taken, another line left the class as it was, or the line has a fault.
abbrev pub IsTaken : Result Bool AsmAnswer → Option (Result ClassSoFar ℕ) → ℕ → ClassSoFar → ClassSoFar → Type 0
IsTaken (Ok true) read line old new = read ≡ Some (Ok new)
IsTaken (Ok false) read line old new = (read ≡ None) × (new ≡ old)
IsTaken (Err (answer.Fault f)) read line old new = (code : ℕ) × (read ≡ Some (Err code)) × (f ≡ record { line = line; code = code })
IsTaken (Err answer.NoMemory) read line old new = Unit {0}
