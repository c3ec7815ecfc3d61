use Rattle.std.proofs.Common.{◌≡◌, ◌∙◌, ◌<◌, ℕ, ap, sym, take, drop, length, arith, refl}
use Rattle.std.specs.List.{take_while}
use Rattle.std.proofs.lemmas.List.{length-drop}
use Rattle.tal_syntax.specs.Lines.{not_lf}
use Rattle.tal_syntax.proofs.Fronts.{take_front}
use Rattle.tal_syntax.proofs.FirstLine.{one_line, more_lines, empty_is}
use Rattle.tal_syntax.proofs.text_lines.cut_line.Goals as goal

pub returns-then-rest-eq0-clause-cut : goal.returns-then-rest-eq0-clause-cut
returns-then-rest-eq0-clause-cut c =
    let bytes = c.args.bytes.now in
    let front : c.split_at.result.0.now ≡ take_while not_lf bytes = c.split_at.ensures.front ∙ ap (λ (n : ℕ). take n bytes) c.line_length.ensures.count ∙ take_front not_lf bytes in
    let rest : drop (length c.split_at.result.0.now) bytes ≡ c.split_at.result.1.now = ap (λ (n : ℕ). drop n bytes) (ap length front ∙ sym c.line_length.ensures.count) ∙ sym c.split_at.ensures.back in
    one_line bytes c.split_at.result.0.now front (rest ∙ empty_is c.split_at.result.1.now c.if-rest-eq0.true)

pub returns-clause-cut : goal.returns-clause-cut
returns-clause-cut c =
    let bytes = c.args.bytes.now in
    let front : c.split_at.result.0.now ≡ take_while not_lf bytes = c.split_at.ensures.front ∙ ap (λ (n : ℕ). take n bytes) c.line_length.ensures.count ∙ take_front not_lf bytes in
    let rest : drop (length c.split_at.result.0.now) bytes ≡ c.split_at.result.1.now = ap (λ (n : ℕ). drop n bytes) (ap length front ∙ sym c.line_length.ensures.count) ∙ sym c.split_at.ensures.back in
    let some : 0 < length c.split_at.result.1.now = omega (arith, c.if-rest-eq0.false) in (
      more_lines bytes c.split_at.result.0.now c.split_at.result.1.now front rest some ∙ rw (c.trim.ensures, c.split_at-2.ensures.back) refl,
      omega (arith, some, ap length c.split_at-2.ensures.back, length-drop 1 c.split_at.result.1.now, ap length c.split_at.ensures.back, length-drop c.line_length.result bytes),
    )
