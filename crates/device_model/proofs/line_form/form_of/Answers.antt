use Rattle.std.proofs.Common.{sym, codes}
use Rattle.device_model.proofs.LineForms.{is_empty, not_empty, word_same, word_apart, key_same, key_apart, reads_tick, reads_key, no_digits, no_word, no_code, no_end}
use Rattle.device_model.proofs.line_form.form_of.Goals as goal

pub returns-in_err-turn : goal.returns-in_err-turn
returns-in_err-turn c = rw c.from_residual.ensures (no_digits c.args.line.now (sym c.if-is_skipped.ensures) c.in_err-turn.ensures)

pub returns-then-eq : goal.returns-then-eq
returns-then-eq c = reads_tick c.args.line.now c.in_ok-turn.turn c.in_ok-turn.rest.now c.in_ok-turn.ensures (word_same c.in_ok-turn.rest.now (codes " tick") c.if-eq.ensures)

pub returns-in_err-strip_prefix : goal.returns-in_err-strip_prefix
returns-in_err-strip_prefix c =
    let rest = c.in_ok-turn.rest.now in
    rw c.from_residual-in_err-strip_prefix.ensures
    (no_word c.args.line.now c.in_ok-turn.turn rest (sym c.if-is_skipped.ensures) c.in_ok-turn.ensures
    (word_apart rest (codes " tick") c.if-eq.ensures) (key_apart rest c.in_err-strip_prefix.ensures.cases))

pub returns-in_err-code : goal.returns-in_err-code
returns-in_err-code c =
    let rest = c.in_ok-turn.rest.now in
    let more = c.in_ok-strip_prefix.field-0.now in
    let key = c.in_ok-strip_prefix.ensures.cases in
    rw c.from_residual-in_err-code.ensures
    (no_code c.args.line.now c.in_ok-turn.turn rest more (sym c.if-is_skipped.ensures) c.in_ok-turn.ensures
    (word_apart rest (codes " tick") c.if-eq.ensures) (key_same rest more key.0 key.1) c.in_err-code.ensures)

pub returns-then-is_empty : goal.returns-then-is_empty
returns-then-is_empty c =
    let rest = c.in_ok-turn.rest.now in
    let more = c.in_ok-strip_prefix.field-0.now in
    let key = c.in_ok-strip_prefix.ensures.cases in
    reads_key c.args.line.now c.in_ok-turn.turn c.in_ok-code.code rest more c.in_ok-code.after.now c.in_ok-turn.ensures (key_same rest more key.0 key.1) c.in_ok-code.ensures
    (is_empty c.in_ok-code.after.now c.if-is_empty.ensures)

pub returns-else-is_empty : goal.returns-else-is_empty
returns-else-is_empty c =
    let rest = c.in_ok-turn.rest.now in
    let more = c.in_ok-strip_prefix.field-0.now in
    let key = c.in_ok-strip_prefix.ensures.cases in
    no_end c.args.line.now c.in_ok-turn.turn c.in_ok-code.code rest more c.in_ok-code.after.now (sym c.if-is_skipped.ensures) c.in_ok-turn.ensures
    (word_apart rest (codes " tick") c.if-eq.ensures) (key_same rest more key.0 key.1) c.in_ok-code.ensures
    (not_empty c.in_ok-code.after.now c.if-is_empty.ensures)
