use Rattle.std.proofs.Common.{length, ◌≡◌, ◌-◌, ℕ}
use Rattle.file_fields.specs.Grammar.{each}
use Rattle.file_fields.specs.Reading.{run}
use Rattle.file_fields.specs.Composed.{RowsLeft}
use Rattle.file_fields.proofs.reader.Reader.rows.Given as goal

abbrev pub invariant-loop-i : goal.invariant-loop-i
invariant-loop-i g l = record {
  read : RowsLeft l.rows.items (l.count - l.i) (λ later (kept : ℕ). g.T.Row.fields l.context) (λ (kept : ℕ) x. kept) 0 l.self.file.now l.self.at (run (each l.count (g.T.Row.fields l.context)) l.fn.self.file.now l.fn.self.at);
  count : length l.rows.items ≡ l.i;
  file : l.self.file ≡ l.fn.self.file;
}
