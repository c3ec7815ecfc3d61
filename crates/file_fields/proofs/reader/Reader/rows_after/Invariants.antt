use Rattle.std.proofs.Common.{length, ◌≡◌, ◌-◌}
use Rattle.file_fields.specs.Grammar.{many}
use Rattle.file_fields.specs.Reading.{run}
use Rattle.file_fields.specs.Composed.{RowsLeft}
use Rattle.file_fields.proofs.reader.Reader.rows_after.Given as goal

abbrev pub invariant-loop-i : goal.invariant-loop-i
invariant-loop-i g l = record {
  read : RowsLeft l.rows.items (l.count - l.i) (g.T.RowAfter.fields l.context) g.T.RowAfter.after l.kept l.self.file.now l.self.at (run (many l.count (g.T.RowAfter.fields l.context) g.T.RowAfter.after l.fn.first) l.fn.self.file.now l.fn.self.at);
  count : length l.rows.items ≡ l.i;
  file : l.self.file ≡ l.fn.self.file;
}
