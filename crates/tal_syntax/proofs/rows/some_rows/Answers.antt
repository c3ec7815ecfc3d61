use Rattle.std.proofs.Common.{◌≡◌, ◌∙◌, ◌-◌, ◌+◌, suc, ℕ, ap, sym, subst, arith, Vec, Global}
use Rattle.std.proofs.lemmas.Result.{err_from_is_err_and}
use Rattle.tal_syntax.specs.Reading.{some_rows, most, more_at, mark_at}
use Rattle.tal_syntax.proofs.RowSteps.{with_front, err_via, begun, row_then, row_fails, row_more, row_last, no_row, row_end, no_end}
use Rattle.tal_syntax.proofs.rows.some_rows.Goals as goal

pub returns-in_err-read-clause-gives : goal.returns-in_err-read-clause-gives
unfolding some_rows
returns-in_err-read-clause-gives g c =
    let p = err_from_is_err_and c.from_residual.result c.from_residual.ensures.1 in
    rw (p.1, p.2) (err_via (λ (v : Vec g.row.R.Denot Global). v.items) c.in_err-read.field-0.0 (g.R.Row.reads c.args.tokens.now.left) (some_rows c.args.close g.R.Row.reads g.R.Row.reads_next c.args.tokens.now.left) c.read.new.tokens.left c.in_err-read.ensures.gives
    (λ h. row_fails g.R.Row.reads (more_at c.args.close g.R.Row.reads_next most) c.args.tokens.now.left c.read.new.tokens.left h))

pub loop-init : goal.loop-init
unfolding some_rows most
loop-init g c = record {
  read = rw (c.in_ok-push.ensures.items, c.new-rows.ensures.items) (begun c.in_ok-read.field-0 (more_at c.args.close g.R.Row.reads_next 18446744073709551615 c.read.new.tokens.left) ∙ sym (row_then g.R.Row.reads (more_at c.args.close g.R.Row.reads_next 18446744073709551615) c.args.tokens.now.left c.read.new.tokens.left c.in_ok-read.field-0 c.in_ok-read.ensures.gives));
  line = c.in_ok-read.ensures.line;
}

pub returns-then-takes-clause-gives : goal.returns-then-takes-clause-gives
returns-then-takes-clause-gives g c =
    row_last c.args.close g.R.Row.reads_next c.loop.rows.items (18446744073709551615 - c.loop.counter) c.loop.tokens.left c.takes.new.tokens.left _ c.if-takes.ensures.peels c.loop.invariant.read

pub returns-in_err-read_next-clause-gives : goal.returns-in_err-read_next-clause-gives
returns-in_err-read_next-clause-gives g c =
    let total = some_rows c.args.close g.R.Row.reads g.R.Row.reads_next c.args.tokens.now.left in
    let k : 18446744073709551615 - c.loop.counter ≡ suc (18446744073709551615 - (c.loop.counter + 1)) = omega arith in
    let so_far = subst (λ (n : ℕ). with_front c.loop.rows.items (more_at c.args.close g.R.Row.reads_next n c.loop.tokens.left) ≡ total) k c.loop.invariant.read in
    let p = err_from_is_err_and c.from_residual-in_err-read_next.result c.from_residual-in_err-read_next.ensures.1 in
    rw (p.1, p.2) (err_via (λ (v : Vec g.row.R.Denot Global). v.items) c.in_err-read_next.field-0.0 (g.R.Row.reads_next c.takes.new.tokens.left) total c.read_next.new.tokens.left c.in_err-read_next.ensures.gives
    (λ h. no_row c.args.close g.R.Row.reads_next c.loop.rows.items (18446744073709551615 - (c.loop.counter + 1)) c.loop.tokens.left c.read_next.new.tokens.left total c.if-takes.ensures.peels.1
    (ap g.R.Row.reads_next (sym c.if-takes.ensures.peels.0) ∙ h) so_far))

pub loop-preserved : goal.loop-preserved
loop-preserved g c =
    let total = some_rows c.args.close g.R.Row.reads g.R.Row.reads_next c.args.tokens.now.left in
    let k : 18446744073709551615 - c.loop.counter ≡ suc (18446744073709551615 - (c.loop.counter + 1)) = omega arith in
    let so_far = subst (λ (n : ℕ). with_front c.loop.rows.items (more_at c.args.close g.R.Row.reads_next n c.loop.tokens.left) ≡ total) k c.loop.invariant.read in
    record {
      read = rw c.in_ok-push-2.ensures.items (row_more c.args.close g.R.Row.reads_next c.loop.rows.items (18446744073709551615 - (c.loop.counter + 1)) c.loop.tokens.left c.read_next.new.tokens.left c.in_ok-read_next.field-0 total c.if-takes.ensures.peels.1
          (ap g.R.Row.reads_next (sym c.if-takes.ensures.peels.0) ∙ c.in_ok-read_next.ensures.gives) so_far);
      line = c.in_ok-read_next.ensures.line ∙ c.takes.ensures.line ∙ c.loop.invariant.line;
    }

pub returns-in_err-mark-clause-gives : goal.returns-in_err-mark-clause-gives
returns-in_err-mark-clause-gives g c =
    let total = some_rows c.args.close g.R.Row.reads g.R.Row.reads_next c.args.tokens.now.left in
    let k : 18446744073709551615 - c.loop.counter ≡ 0 = omega arith in
    let so_far = subst (λ (n : ℕ). with_front c.loop.rows.items (more_at c.args.close g.R.Row.reads_next n c.loop.tokens.left) ≡ total) k c.loop.invariant.read in
    let p = err_from_is_err_and c.from_residual-in_err-mark.result c.from_residual-in_err-mark.ensures.1 in
    rw (p.1, p.2) (err_via (λ (v : Vec g.row.R.Denot Global). v.items) c.in_err-mark.field-0.0 (mark_at c.args.close c.loop.tokens.left) total c.mark.new.tokens.left c.in_err-mark.ensures.gives
    (λ h. no_end c.args.close g.R.Row.reads_next c.loop.rows.items c.loop.tokens.left c.mark.new.tokens.left total h so_far))

pub returns-clause-gives : goal.returns-clause-gives
returns-clause-gives g c =
    let total = some_rows c.args.close g.R.Row.reads g.R.Row.reads_next c.args.tokens.now.left in
    let k : 18446744073709551615 - c.loop.counter ≡ 0 = omega arith in
    let so_far = subst (λ (n : ℕ). with_front c.loop.rows.items (more_at c.args.close g.R.Row.reads_next n c.loop.tokens.left) ≡ total) k c.loop.invariant.read in
    row_end c.args.close g.R.Row.reads_next c.loop.rows.items c.loop.tokens.left c.mark.new.tokens.left total c.in_ok-mark.ensures.gives so_far
