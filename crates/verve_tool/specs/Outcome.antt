-- What a call came to, with its status and the line that it has on the error stream, and the number of each status.
use Rattle.std.specs.Prelude.{◌≡◌, ◌⊎◌, ℕ, List, [], true, None, String}
use Rattle.std.specs.declared.alloc.Global.{Global}
use Rattle.outside.specs.FileMaps.{Lacks}
use Rattle.outside.specs.Faults.{Faulted}
use Rattle.verve_tool.specs.Lines.{usage_line, read_line, write_line, no_memory_line}
use Rattle.verve_tool.specs.Causes.{Cause, Missing, ComesTo, IsFirstCause, status_of}
use Rattle.verve_tool.specs.Seen.{Call, Leaves}
use Rattle.verve_tool.specs.Forms.{Form, Unrun, Written, PartWritten}
use Rattle.verve_tool.specs.Commands.{Request, command_form, WordsOf, NoCommand}
use Rattle.verve_tool.specs.declared.status.Status.{Status}
use Rattle.verve_tool.specs.declared.status.Status.TheVariants.{Done, Usage, ReadFault, WriteFault, Events, Malformed, Refused, Text, TooLong, KernelFault, NoMemory}

-- nothing was put into the output, and no file written
pub record Silent (c : Call) : Type 0 where
  pub out : c.out_after.told ≡ c.out.told
  pub files : c.files_after.told ≡ c.files.told

-- nor did a machine run
pub record Idle (c : Call) : Type 0 where
  pub silent : Silent c
  pub unrun : Unrun c

-- the work was done, and its text written whole
pub record Finished (c : Call) (f : Form) (s : Status) (line : List ℕ) : Type 0 where
  pub text : List ℕ
  pub did : f.Did c s text
  pub written : Written f.writes c text
  pub line_is : line ≡ []

-- the work was done, and its text was not written whole
pub record Unwritten (c : Call) (f : Form) (s : Status) (line : List ℕ) : Type 0 where
  pub whole : Status
  pub text : List ℕ
  pub did : f.Did c whole text
  pub part : PartWritten f.writes c text
  pub status : s ≡ WriteFault
  pub line_is : line ≡ write_line

-- A read failed, of a file that the command comes to; over steady files it is missing.
pub record Unread (c : Call) (f : Form) (s : Status) (line : List ℕ) : Type 0 where
  pub name : List ℕ
  pub comes : ComesTo c.files.told f.causes (Missing name)
  pub fault : Faulted c.files.read_faults c.files_after.read_faults
  pub missing : c.files.steady ≡ true → Lacks c.files.told name
  pub idle : Idle c
  pub status : s ≡ ReadFault
  pub line_is : line ≡ read_line name

-- the first cause of the command that holds of its files has this status and this line
pub record Stopped (c : Call) (f : Form) (s : Status) (line : List ℕ) : Type 0 where
  pub cause : Cause
  pub first : IsFirstCause c.files.told f.causes cause line
  pub idle : Idle c
  pub status : s ≡ status_of cause

-- memory was wanting, and nothing was written
pub record Wanting (c : Call) (f : Form) (s : Status) (line : List ℕ) : Type 0 where
  pub silent : Silent c
  pub left : f.MayHaveRun c
  pub status : s ≡ NoMemory
  pub line_is : line ≡ no_memory_line

-- how a command ends
pub data Ends (c : Call) (f : Form) (s : Status) (line : List ℕ) : Type 0 where
  finished : Finished c f s line → Ends c f s line
  unwritten : Unwritten c f s line → Ends c f s line
  unread : Unread c f s line → Ends c f s line
  stopped : Stopped c f s line → Ends c f s line
  wanting : Wanting c f s line → Ends c f s line

-- the words are no command, and nothing was done
pub record NoneAsked (words : List (String Global)) (c : Call) (s : Status) (line : List ℕ) : Type 0 where
  pub no_command : NoCommand words
  pub idle : Idle c
  pub leaves : Leaves None c s
  pub status : s ≡ Usage
  pub line_is : line ≡ usage_line

-- the words are a command, and it ended so and left no more than it may
pub record Asked (words : List (String Global)) (c : Call) (s : Status) (line : List ℕ) : Type 0 where
  pub request : Request
  pub asked : WordsOf words request
  pub ends : Ends c (command_form request) s line
  pub leaves : Leaves (command_form request).writes c s

-- what a call came to
abbrev pub Outcome : List (String Global) → Call → Status → List ℕ → Type 0
Outcome words c s line = NoneAsked words c s line ⊎ Asked words c s line

-- the work that was asked for was done, and its text written whole
abbrev pub IsWorked : Call → Request → Status → Type 0
IsWorked c request s = (text : List ℕ) × (command_form request).Did c s text × Written (command_form request).writes c text

-- the number of each status, which the program exits with
abbrev pub exit_number : Status → ℕ
exit_number Done = 0
exit_number Usage = 1
exit_number ReadFault = 2
exit_number WriteFault = 3
exit_number Events = 4
exit_number Malformed = 5
exit_number Refused = 6
exit_number Text = 7
exit_number TooLong = 9
exit_number KernelFault = 10
exit_number NoMemory = 11
