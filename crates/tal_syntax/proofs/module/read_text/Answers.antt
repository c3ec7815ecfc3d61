use Rattle.std.proofs.Common.{◌≡◌, [], ℕ, List, Option, subst, refl, arith}
use Rattle.std.proofs.lemmas.Result.{err_from_is_err_and}
use denote.Ref.{Bor}
use Rattle.tal_syntax.specs.Lines.{CutIs, lines}
use Rattle.tal_syntax.specs.Text.{read_lines, behind_line, text_at}
use Rattle.tal_syntax.proofs.TextSteps.{fails, next_line, last_line, not_last}
use Rattle.tal_syntax.proofs.module.read_text.Goals as goal

pub returns-in_err-scope-in-None : goal.returns-in_err-scope-in-None
returns-in_err-scope-in-None c =
    let s = c.loop-lines in
    let line = c.cut_line.result.0.now in
    let cut = subst (λ (o : Option (Bor (List ℕ))). CutIs s.left.now line o) c.in-None.is c.cut_line.ensures.cut in
    let so_far = subst (λ (ls : List (List ℕ)). behind_line s.lines.items (read_lines s.number s.scope ls) ≡ text_at c.args.bytes.now) cut s.invariant.read in
    let p = err_from_is_err_and c.from_residual.result c.from_residual.ensures.1 in
    rw (p.1, p.2) (fails c.in_err-scope-in-None.field-0.0 s.number s.scope line [] _ s.lines.items _ _ (text_at c.args.bytes.now) refl c.in_err-scope-in-None.ensures so_far)

pub returns-in-None : goal.returns-in-None
returns-in-None c =
    let s = c.loop-lines in
    let line = c.cut_line.result.0.now in
    let cut = subst (λ (o : Option (Bor (List ℕ))). CutIs s.left.now line o) c.in-None.is c.cut_line.ensures.cut in
    let so_far = subst (λ (ls : List (List ℕ)). behind_line s.lines.items (read_lines s.number s.scope ls) ≡ text_at c.args.bytes.now) cut s.invariant.read in
    let h = c.in_ok-scope-in-None.ensures in
    rw (last_line s.number s.scope line h.0 s.lines.items (text_at c.args.bytes.now) h.1 so_far, ← h.2, ← h.3) c.at_end.ensures

pub returns-in_err-scope-in-Some : goal.returns-in_err-scope-in-Some
returns-in_err-scope-in-Some c =
    let s = c.loop-lines in
    let line = c.cut_line.result.0.now in
    let cut = subst (λ (o : Option (Bor (List ℕ))). CutIs s.left.now line o) c.in-Some.is c.cut_line.ensures.cut in
    let so_far = subst (λ (ls : List (List ℕ)). behind_line s.lines.items (read_lines s.number s.scope ls) ≡ text_at c.args.bytes.now) cut.0 s.invariant.read in
    let p = err_from_is_err_and c.from_residual-in_err-scope-in-Some.result c.from_residual-in_err-scope-in-Some.ensures.1 in
    rw (p.1, p.2) (fails c.in_err-scope-in-Some.field-0.0 s.number s.scope line (lines c.in-Some.rest.now) _ s.lines.items _ _ (text_at c.args.bytes.now) (not_last c.in-Some.rest.now) c.in_err-scope-in-Some.ensures so_far)

pub loop-lines-preserved : goal.loop-lines-preserved
loop-lines-preserved c =
    let s = c.loop-lines in
    let line = c.cut_line.result.0.now in
    let cut = subst (λ (o : Option (Bor (List ℕ))). CutIs s.left.now line o) c.in-Some.is c.cut_line.ensures.cut in
    let so_far = subst (λ (ls : List (List ℕ)). behind_line s.lines.items (read_lines s.number s.scope ls) ≡ text_at c.args.bytes.now) cut.0 s.invariant.read in
    let h = c.in_ok-scope-in-Some.ensures in
    record {
      read = rw (h.2, h.3) (next_line s.number s.scope line c.in-Some.rest.now h.0 s.lines.items (text_at c.args.bytes.now) h.1 so_far);
      count = omega (arith, cut.1);
    }
