-- `run IMAGE EVENTS TURNS` and `journal IMAGE EVENTS TURNS`: the machine that is kept, the typed machine's run that it stands for, and
-- what is told of it.
use Rattle.std.specs.Prelude.{◌≡◌, ◌≢◌, ◌≤◌, ◌⊎◌, ℕ, List, [], ◌∷◌, ◌++◌, codes, decimal, Option, Some, None, IsSome}
use Rattle.outside.specs.FileMaps.{FileMap}
use Rattle.device_model.specs.EventFile.{EventsOf}
use Rattle.device_model.specs.declared.events.Event.{Event}
use Rattle.tal_image.specs.Image.{ImageParts}
use Rattle.typed_machine.specs.Turns.{Run as RunView}
use Rattle.run_report.specs.Shown.{ShownWords, shown_of}
use Rattle.run_report.specs.Report.{ReportText}
use Rattle.run_report.specs.JournalLines.{JournalText}
use Rattle.run_report.specs.declared.run_end.RunEnd.{RunEnd}
use Rattle.run_report.specs.declared.run_end.RunEnd.TheVariants as end
use Rattle.kernel_machine.specs.Machine.{MachineView, Follows, run_answer}
use Rattle.kernel_machine.specs.declared.running.TheConstants.{MOST_TURNS}
use Rattle.verve_tool.specs.Causes.{Cause, Missing, Long, Malformed, IllTyped, BadEvents, FileRead, TypedImage}
use Rattle.stack_states.specs.declared.journal_entry.Entry.{Entry}
use Rattle.verve_tool.specs.Seen.{Call}
use Rattle.verve_tool.specs.Forms.{Form, Unrun}
use Rattle.verve_tool.specs.declared.load.TheConstants.{IMAGE_MOST, EVENTS_MOST}
use Rattle.verve_tool.specs.declared.runs.TheConstants.{JOURNAL_TURNS}
use Rattle.verve_tool.specs.declared.words.RunText.{RunText}
use Rattle.verve_tool.specs.declared.words.RunText.TheVariants.{Report, Journal}
use Rattle.verve_tool.specs.declared.status.Status.{Status}
use Rattle.verve_tool.specs.declared.status.Status.TheVariants.{Done, KernelFault}

-- the names of the two files, and how many turns at most
pub record RunWords : Type 0 where
  pub image : List ℕ
  pub events : List ℕ
  pub turns : ℕ

-- No name is empty, and the turns are 1 to so many.
pub record AllowsRun (most : ℕ) (run : RunWords) : Type 0 where
  pub image_named : run.image ≢ []
  pub events_named : run.events ≢ []
  pub some_turns : 1 ≤ run.turns
  pub not_too_many : run.turns ≤ most

-- what can stop a run by its files, in this order
abbrev pub run_causes : RunWords → List Cause
run_causes run =
    Missing run.image ∷ Long run.image IMAGE_MOST ∷ Missing run.events ∷ Long run.events EVENTS_MOST
    ∷ Malformed run.image ∷ IllTyped run.image ∷ BadEvents run.events ∷ []

-- a list of events stands for the file
pub record HoldsEvents (told : Option FileMap) (name : List ℕ) (events : List Event) : Type 0 where
  pub bytes : List ℕ
  pub file : FileRead told name EVENTS_MOST bytes
  pub list : EventsOf bytes events

-- the files of a run: a well typed image, and a list of events
pub record Loaded (told : Option FileMap) (run : RunWords) (image : ImageParts) (events : List Event) : Type 0 where
  pub typed : TypedImage told run.image image
  pub recorded : HoldsEvents told run.events events

-- The machine that is kept has run the image of the files, which is well typed, over the events of the files and for at most the
-- turns that were asked for. The run is legal, the machine stands for its state, and its journal is the call's.
pub record RanWithin (run : RunWords) (told : Option FileMap) (kept : Option MachineView) (entries : List Entry) : Type 0 where
  pub machine : MachineView
  pub is : kept ≡ Some machine
  pub loaded : Loaded told run machine.image machine.events
  pub follows : Follows machine entries
  pub within : machine.turns ≤ run.turns

-- a machine took all of these turns, or its run ended
abbrev pub IsOver : ℕ → MachineView → Type 0
IsOver turns machine = (machine.turns ≡ turns) ⊎ IsSome machine.ending

-- the status of a run that came to this end, where its text is written
abbrev pub status_at : RunEnd → Status
status_at (end.KernelFault vector) = KernelFault
status_at e = Done

-- the word of the command that tells this text of a run, and how many turns it takes at most
abbrev pub command_word : RunText → List ℕ
command_word Report = codes "run"
command_word Journal = codes "journal"

abbrev pub turns_most : RunText → ℕ
turns_most Report = MOST_TURNS
turns_most Journal = JOURNAL_TURNS

-- the text of what is shown after so many turns that came to this end: the report, with the entries behind a line `journal`
abbrev pub run_text : RunText → ShownWords → RunEnd → ℕ → List Entry → List ℕ
run_text Report shown e turns entries = ReportText shown e turns
run_text Journal shown e turns entries = ReportText shown e turns ++ codes "journal\n" ++ JournalText entries

-- the text of the typed machine's run
abbrev pub text_of : RunText → RunView → List ℕ
text_of kind run = run_text kind (shown_of run.state) (run_answer run.state.ending) run.state.turns run.entries

-- a run was made, and this is told of the typed machine's run, for which the kept machine stands
abbrev pub Ran : RunText → RunWords → Call → Status → List ℕ → Type 0
Ran kind run c s text = (ran : RanWithin run c.files.told c.kept c.entries) × IsOver run.turns ran.machine
    × (s ≡ status_at (run_answer ran.follows.run.state.ending)) × (text ≡ text_of kind ran.follows.run)

abbrev pub a_run : RunText → RunWords → Form
a_run kind run = record {
  words = command_word kind ∷ run.image ∷ run.events ∷ decimal run.turns ∷ [];
  Allowed = AllowsRun (turns_most kind) run;
  causes = run_causes run;
  writes = None;
  Did = Ran kind run;
  MayHaveRun = λ c. Unrun c ⊎ RanWithin run c.files.told c.kept c.entries;
}
