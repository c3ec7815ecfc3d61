use Rattle.std.proofs.Common.{◌≡◌, ◌==◌, drop}
use Rattle.std.specs.List.{list_any}
use Rattle.unit_files.specs.declared.parts.UnitEntry.{UnitEntry}
use Rattle.tal_tables.proofs.trials.has_entry.Given as goal

-- the entries that are left decide
abbrev pub invariant-loop-entry : goal.invariant-loop-entry
invariant-loop-entry l = list_any (λ (e : UnitEntry). e.stack == l.number) (drop l.entry-index l.entries) ≡ list_any (λ (e : UnitEntry). e.stack == l.number) l.entries
