-- The text of a summary: the end of a run, its turns, and how many entries of each kind its journal has.
use Rattle.std.specs.Prelude.{ℕ, List, ◌++◌, codes, decimal, Bool, true, false, ◌&&◌, ◌==◌, not, nat_lt}
use Rattle.std.specs.List.{count_by}
use Rattle.stack_states.specs.declared.journal_entry.Entry.{Entry}
use Rattle.stack_states.specs.declared.journal_entry.EntryKind.{EntryKind}
use Rattle.stack_states.specs.declared.journal_entry.EntryKind.TheVariants as kind
use Rattle.run_report.specs.declared.run_end.RunEnd.{RunEnd}
use Rattle.run_report.specs.declared.summary_lines.Counted.{Counted}
use Rattle.run_report.specs.declared.summary_lines.Counted.TheVariants.{Calls, Placed, Refused, Yields, Interrupts, Faults, Ended}
use Rattle.run_report.specs.Report.{head_text}

-- An entry of this kind and value counts as this. The calls 0 and 1 ask for an object or an array, which is refused where the reply is 0.
abbrev pub is_counted : Counted → EntryKind → ℕ → Bool
is_counted Calls (kind.Call number) value = true
is_counted Placed (kind.Call number) value = nat_lt number 2 && not (value == 0)
is_counted Refused (kind.Call number) value = nat_lt number 2 && value == 0
is_counted Yields kind.Yield value = true
is_counted Interrupts kind.Interrupt value = true
is_counted Faults kind.Fault value = true
is_counted Ended kind.Ended value = true
is_counted _ _ value = false

-- its name in the text
abbrev pub counted_name : Counted → List ℕ
counted_name Calls = codes "calls "
counted_name Placed = codes "placed "
counted_name Refused = codes "refused "
counted_name Yields = codes "yields "
counted_name Interrupts = codes "interrupts "
counted_name Faults = codes "faults "
counted_name Ended = codes "ended "

-- its line: how many of these entries count as it
abbrev pub count_line : List Entry → Counted → List ℕ
count_line entries what = counted_name what ++ decimal (count_by (λ e. is_counted what e.kind e.value) entries) ++ codes "\n"

-- the lines of all counts
unfoldable pub counts_text : List Entry → List ℕ
counts_text entries =
    count_line entries Calls ++ count_line entries Placed ++ count_line entries Refused ++ count_line entries Yields
    ++ count_line entries Interrupts ++ count_line entries Faults ++ count_line entries Ended

-- the lines of the end and of the turns, as a report has them, and then the counts
unfoldable pub SummaryText : RunEnd → ℕ → List Entry → List ℕ
SummaryText end turns entries = head_text end turns ++ counts_text entries
