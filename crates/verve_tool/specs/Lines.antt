-- The line on the error stream that tells what went wrong.
use Rattle.std.specs.Prelude.{◌≤◌, ℕ, List, ◌++◌, Option, codes, decimal}
use Rattle.outside.specs.Faults.{Quiet}
use Rattle.outside.specs.Sinks.{Gained, GainedFront}
use Rattle.device_model.specs.declared.events.EventFault.{EventFault}
use Rattle.device_model.specs.declared.events.EventFault.TheVariants as event_fault
use Rattle.tal_syntax.specs.declared.fault.TextFault.{TextFault}
use Rattle.hex_text.specs.Words.{word_text}
use Rattle.tal_checker.specs.declared.answer.CheckAnswer.{CheckAnswer}
use Rattle.tal_checker.specs.declared.answer.CheckAnswer.TheVariants as answer
use Rattle.file_fields.specs.declared.fault.ImageFault.{ImageFault}
use Rattle.file_fields.specs.declared.fault.ImageFault.TheVariants as fault

-- the words are no command
abbrev pub usage_line : List ℕ
usage_line = codes "usage\n"

-- this file was not read
abbrev pub read_line : List ℕ → List ℕ
read_line name = codes "read " ++ name ++ codes "\n"

-- the text was not written whole
abbrev pub write_line : List ℕ
write_line = codes "write\n"

-- this file is too long
abbrev pub long_line : List ℕ → List ℕ
long_line name = codes "long " ++ name ++ codes "\n"

-- memory was wanting
abbrev pub no_memory_line : List ℕ
no_memory_line = codes "no memory\n"

-- a file's name, a place in it, and what is wrong there
abbrev pub file_line : List ℕ → ℕ → List ℕ → List ℕ
file_line name at what = codes "file " ++ name ++ codes " at " ++ decimal at ++ what

-- a file's name, the place of a field that breaks a condition, and the condition's number
abbrev pub bad_line : List ℕ → ℕ → ℕ → List ℕ
bad_line name at condition = codes "file " ++ name ++ codes " at " ++ decimal at ++ codes " bad " ++ decimal condition ++ codes "\n"

-- the line of an image's first fault
abbrev pub fault_line : List ℕ → ImageFault → List ℕ
fault_line name fault.Magic = file_line name 0 (codes " magic\n")
fault_line name fault.Version = file_line name 4 (codes " version\n")
fault_line name (fault.Short at) = file_line name at (codes " short\n")
fault_line name (fault.Rest at) = file_line name at (codes " rest\n")
fault_line name (fault.Bad at condition) = bad_line name at condition
fault_line name fault.NoMemory = no_memory_line

-- a line of the event file, and what is wrong with it
abbrev pub events_line : ℕ → List ℕ → List ℕ
events_line number what = codes "events line " ++ decimal number ++ what

-- the line of an event file's first fault
abbrev pub event_fault_line : EventFault → List ℕ
event_fault_line (event_fault.Syntax number) = events_line number (codes " syntax\n")
event_fault_line (event_fault.Range number) = events_line number (codes " range\n")
event_fault_line (event_fault.TooMany number) = events_line number (codes " many\n")
event_fault_line event_fault.NoMemory = no_memory_line

-- the place and the code of the first fault of a text
abbrev pub text_line : TextFault → List ℕ
text_line f = codes "text line " ++ decimal f.line ++ codes " column " ++ decimal f.column ++ codes " code " ++ decimal f.code ++ codes "\n"

-- the first address at which a rule fails, and the least rule failing there
abbrev pub refused_line : ℕ → ℕ → List ℕ
refused_line address rule = codes "refused at " ++ word_text address ++ codes " rule " ++ decimal rule ++ codes "\n"

-- the line of an image that is not accepted
abbrev pub answer_line : CheckAnswer → List ℕ
answer_line (answer.Refused address rule) = refused_line address rule
answer_line answer.NoMemory = no_memory_line

-- A stream gained a front of this text, and all of it where it did not fail. The counts are those of its failures, before and after.
pub record Says (faults faults_after : ℕ) (told told_after : Option (List ℕ)) (text : List ℕ) : Type 0 where
  pub never_falls : faults ≤ faults_after
  pub front : GainedFront told told_after text
  pub whole : Quiet faults faults_after → Gained told told_after text
