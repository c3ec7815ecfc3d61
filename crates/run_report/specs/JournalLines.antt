-- The text of a journal: a line for each entry.
use Rattle.std.specs.Prelude.{ℕ, List, ◌++◌, codes, decimal}
use Rattle.std.specs.List.{flat_map}
use Rattle.stack_states.specs.declared.journal_entry.Entry.{Entry}
use Rattle.stack_states.specs.declared.journal_entry.EntryKind.{EntryKind}
use Rattle.stack_states.specs.declared.journal_entry.EntryKind.TheVariants.{Call, Yield, Interrupt, Fault, Ended}
use Rattle.run_report.specs.Report.{spaced}

-- what happened: a call with its reply, the stack that was yielded to, the line of an interrupt, the vector of a fault, or an end
abbrev pub happened_text : EntryKind → ℕ → List ℕ
happened_text (Call number) value = codes " call " ++ decimal number ++ spaced value
happened_text Yield value = codes " yield " ++ decimal value
happened_text Interrupt value = codes " interrupt " ++ decimal value
happened_text Fault value = codes " fault " ++ decimal value
happened_text Ended value = codes " ended"

-- the line of an entry: the turn, the stack that ran at its start, and what happened to it
abbrev pub journal_line : Entry → List ℕ
journal_line e = decimal e.turn ++ codes " " ++ decimal e.stack ++ happened_text e.kind e.value ++ codes "\n"

-- the lines of all entries, in their order
unfoldable pub JournalText : List Entry → List ℕ
JournalText entries = flat_map journal_line entries
