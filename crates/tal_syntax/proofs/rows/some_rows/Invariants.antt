use Rattle.std.proofs.Common.{◌≡◌, ◌-◌}
use Rattle.tal_syntax.specs.Reading.{more_at, some_rows}
use Rattle.tal_syntax.proofs.RowSteps.{with_front}
use Rattle.tal_syntax.proofs.rows.some_rows.Given as goal

abbrev pub invariant-loop : goal.invariant-loop
invariant-loop g l = record {
  read : with_front l.rows.items (more_at l.close g.R.Row.reads_next (18446744073709551615 - l.counter) l.tokens.left) ≡ some_rows l.close g.R.Row.reads g.R.Row.reads_next l.fn.tokens.left;
  line : l.tokens.line ≡ l.fn.tokens.line;
}
