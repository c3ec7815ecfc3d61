-- What a step of assembling answers, beside what it is by definition: a value, the first fault, or want of memory, which no
-- definition speaks of.
use Rattle.std.specs.Prelude.{◌≡◌, ℕ, Result, Ok, Err}
use Rattle.asm_faults.specs.declared.AsmFault.{AsmFault}
use Rattle.asm_faults.specs.declared.AsmAnswer.{AsmAnswer}
use Rattle.asm_faults.specs.declared.AsmAnswer.TheVariants as answer

abbrev pub AnswersBy : {A : Type 0} → Result A AsmAnswer → Result A AsmFault → Type 0
AnswersBy (Ok x) is = is ≡ Ok x
AnswersBy (Err (answer.Fault f)) is = is ≡ Err f
AnswersBy (Err answer.NoMemory) is = Unit {0}

-- a code is a fault at the line
abbrev pub at_line : {A : Type 0} → ℕ → Result A ℕ → Result A AsmFault
at_line line (Ok x) = Ok x
at_line line (Err code) = Err (record { line = line; code = code })
