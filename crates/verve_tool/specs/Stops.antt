-- What stops a command in the code, with its status and its line, and what the code reads from the words.
use Rattle.std.specs.Prelude.{◌≡◌, ◌≤◌, ◌<◌, ◌⊎◌, ℕ, List, [], true, Option, Result, Ok, Err}
use Rattle.outside.specs.FileMaps.{FileMap, Lacks, Writes, LeavesFront}
use Rattle.outside.specs.Faults.{Faulted}
use Rattle.outside.specs.Sinks.{Gained, GainedFront}
use Rattle.device_model.specs.declared.events.EventFault.TheVariants as event_fault
use Rattle.file_fields.specs.declared.fault.ImageFault.TheVariants as fault
use Rattle.tal_checker.specs.declared.answer.CheckAnswer.TheVariants as answer
use Rattle.stack_states.specs.declared.journal_entry.Entry.{Entry}
use Rattle.run_report.specs.declared.run_end.RunEnd.{RunEnd}
use Rattle.run_report.specs.declared.run_end.RunEnd.TheVariants as run_end
use Rattle.kernel_machine.specs.Machine.{MachineView, run_answer}
use Rattle.verve_tool.specs.Runs.{RunWords, RanWithin}
use Rattle.verve_tool.specs.Commands.{Request, Check, Listing, Run, Assemble, command_form}
use Rattle.verve_tool.specs.Lines.{usage_line, read_line, write_line, long_line, no_memory_line, fault_line, event_fault_line, text_line, answer_line}
use Rattle.verve_tool.specs.Causes.{Cause, Missing, ComesTo, IsFirstCause, status_of as status_of_cause}
use Rattle.verve_tool.specs.Seen.{FilesSeen, SinkSeen, Call, Leaves}
use Rattle.verve_tool.specs.Outcome.{Ends}
use Rattle.verve_tool.specs.declared.words.RunCommand.{RunCommand}
use Rattle.verve_tool.specs.declared.words.Command.{Command}
use Rattle.verve_tool.specs.declared.words.Command.TheVariants as command
use Rattle.verve_tool.specs.declared.status.Status.{Status}
use Rattle.verve_tool.specs.declared.status.Status.TheVariants as status
use Rattle.verve_tool.specs.declared.stop.Stop.{Stop}
use Rattle.verve_tool.specs.declared.stop.Stop.TheVariants.{Usage, Read, Write, Long, Image, NotAccepted, Events, Text, NoMemory}

-- the run that a command asks for
abbrev pub run_of : RunCommand → RunWords
run_of run = record { image = run.image.now; events = run.events.now; turns = run.turns }

-- what a command asks for
abbrev pub request_of : Command → Request
request_of (command.Check image) = Check image.now
request_of (command.List image) = Listing image.now
request_of (command.Run text run) = Run text (run_of run)
request_of (command.Asm text unit) = Assemble text.now unit.now

-- the status of a command that stopped
abbrev pub status_of : Stop → Status
status_of Usage = status.Usage
status_of (Read name) = status.ReadFault
status_of Write = status.WriteFault
status_of (Long name) = status.TooLong
status_of (Image name fault.NoMemory) = status.NoMemory
status_of (Image name f) = status.Malformed
status_of (NotAccepted answer.NoMemory) = status.NoMemory
status_of (NotAccepted a) = status.Refused
status_of (Events event_fault.NoMemory) = status.NoMemory
status_of (Events f) = status.Events
status_of (Text f) = status.Text
status_of NoMemory = status.NoMemory

-- its line on the error stream
abbrev pub line_of : Stop → List ℕ
line_of Usage = usage_line
line_of (Read name) = read_line name.now
line_of Write = write_line
line_of (Long name) = long_line name.now
line_of (Image name f) = fault_line name.now f
line_of (NotAccepted a) = answer_line a
line_of (Events f) = event_fault_line f
line_of (Text f) = text_line f
line_of NoMemory = no_memory_line

-- memory was wanting
pub record IsWant (s : Stop) : Type 0 where
  pub status : status_of s ≡ status.NoMemory
  pub line : line_of s ≡ no_memory_line

-- a file was not read
abbrev pub IsUnread : Stop → Type 0
IsUnread (Read name) = Unit {0}
IsUnread _ = ⊥

-- the stop tells the first of these causes that holds
pub record TellsFirst (told : Option FileMap) (causes : List Cause) (s : Stop) : Type 0 where
  pub cause : Cause
  pub first : IsFirstCause told causes cause (line_of s)
  pub status : status_of s ≡ status_of_cause cause

-- why bytes that were read stop a command with these causes: want of memory, which tells nothing of them, or the first that holds
abbrev pub StopsBy : Option FileMap → List Cause → Stop → Type 0
StopsBy told causes (Read name) = ⊥
StopsBy told causes s = IsWant s ⊎ TellsFirst told causes s

-- why the files of a command with these causes stop it: a read of a file to which it comes failed, or what was read does
abbrev pub StopsAt : FilesSeen → FilesSeen → List Cause → Stop → Type 0
StopsAt before after causes (Read name) =
    ComesTo before.told causes (Missing name.now) × Faulted before.read_faults after.read_faults × (before.steady ≡ true → Lacks before.told name.now)
StopsAt before after causes s = StopsBy before.told causes s

-- a run was made by a command that ended so, unless memory was wanting
pub record Made (run : RunWords) (told : Option FileMap) (kept : Option MachineView) (entries : List Entry) (end : RunEnd) : Type 0 where
  pub ran : RanWithin run told kept entries
  pub answer : (end ≡ run_end.NoMemory) ⊎ (end ≡ run_answer ran.machine.ending)
  pub all : end ≡ run_end.Turns → ran.machine.turns ≡ run.turns

-- a text was put after which a command has this status, or it was not put whole
abbrev pub IsPut : SinkSeen → SinkSeen → List ℕ → Status → Result Status Stop → Type 0
IsPut before after text whole (Ok s) = Gained before.told after.told text × (s ≡ whole)
IsPut before after text whole (Err Write) = Faulted before.faults after.faults × GainedFront before.told after.told text
IsPut before after text whole (Err _) = ⊥

-- a file was written after which a command is done, or it was not written whole
abbrev pub IsWritten : FilesSeen → FilesSeen → List ℕ → List ℕ → Result Status Stop → Type 0
IsWritten before after name bytes (Ok s) = Writes before.told after.told name bytes × (s ≡ status.Done)
IsWritten before after name bytes (Err Write) = Faulted before.write_faults after.write_faults × LeavesFront before.told after.told name bytes
IsWritten before after name bytes (Err _) = ⊥

-- the status and the line of what a command answers
abbrev pub told_status : Result Status Stop → Status
told_status (Ok s) = s
told_status (Err stop) = status_of stop

abbrev pub told_line : Result Status Stop → List ℕ
told_line (Ok s) = []
told_line (Err stop) = line_of stop

-- a command ended so, and left no more than it may
pub record Acted (request : Request) (c : Call) (result : Result Status Stop) : Type 0 where
  pub ends : Ends c (command_form request) (told_status result) (told_line result)
  pub leaves : Leaves (command_form request).writes c (told_status result)
