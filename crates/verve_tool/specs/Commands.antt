-- All commands, what words ask for, and what nothing stops.
use Rattle.std.specs.Prelude.{◌≡◌, ℕ, List, map, String, string_bytes}
use Rattle.std.specs.declared.alloc.Global.{Global}
use Rattle.verve_tool.specs.Causes.{NoneHolds}
use Rattle.verve_tool.specs.Seen.{Call}
use Rattle.verve_tool.specs.Forms.{Form}
use Rattle.verve_tool.specs.Checks.{a_check}
use Rattle.verve_tool.specs.Listings.{a_listing}
use Rattle.verve_tool.specs.Runs.{RunWords, a_run}
use Rattle.verve_tool.specs.Assembling.{an_assembling}
use Rattle.verve_tool.specs.declared.words.RunText.{RunText}
use Rattle.verve_tool.specs.declared.status.Status.{Status}

-- what a command is asked for
pub data Request : Type 0 where
  Check : List ℕ → Request
  Listing : List ℕ → Request
  Run : RunText → RunWords → Request
  Assemble : List ℕ → List ℕ → Request

-- the form of each
abbrev pub command_form : Request → Form
command_form (Check image) = a_check image
command_form (Listing image) = a_listing image
command_form (Run text run) = a_run text run
command_form (Assemble text unit) = an_assembling text unit

-- the words ask for this
pub record WordsOf (words : List (String Global)) (request : Request) : Type 0 where
  pub spelled : map string_bytes words ≡ (command_form request).words
  pub allowed : (command_form request).Allowed

-- the words are no command
abbrev pub NoCommand : List (String Global) → Type 0
NoCommand words = (request : Request) → WordsOf words request → ⊥

-- a command that did its work over its files had no cause to stop
abbrev pub NothingStops : Type 0
NothingStops = (c : Call) (request : Request) (s : Status) (text : List ℕ) → (command_form request).Did c s text → NoneHolds c.files.told (command_form request).causes
