use Rattle.std.proofs.Common.{◌≡◌, ◌+◌, ◌∙◌, ℕ, List, sym, subst, get_or, length, arith, refl, ◌<◌}
use Rattle.text_tokens.specs.Pieces.{piece_at, IsPiece}
use Rattle.text_tokens.proofs.Skips.{passes, begins, at_end}
use Rattle.text_tokens.proofs.lexing.next_token.Goals as goal

pub returns-in-Some : goal.returns-in-Some
returns-in-Some c =
    let line = c.args.line.now in
    let at = c.loop-at.at in
    let p = c.piece_here-piece.result in
    let back = c.split_at.ensures.back in
    let h = subst (λ (l : List ℕ). IsPiece p (piece_at c.loop-at.mode (get_or l 0 0) l)) back c.piece_here-piece.ensures.piece in
    let more = subst (λ (l : List ℕ). p.more < length l) back c.piece_here-piece.ensures.within in
    (sym c.loop-at.invariant ∙ begins p c.in-Some.token c.loop-at.mode line at c.loop-at-test.true h c.in-Some.is more, omega (arith, more), refl)

pub loop-at-preserved : goal.loop-at-preserved
loop-at-preserved c =
    let line = c.args.line.now in
    let p = c.piece_here-piece.result in
    let h = subst (λ (l : List ℕ). IsPiece p (piece_at c.loop-at.mode (get_or l 0 0) l)) c.split_at.ensures.back c.piece_here-piece.ensures.piece in
    passes p c.loop-at.mode line c.loop-at.at c.loop-at-test.true h c.in-None.is ∙ c.loop-at.invariant

pub returns : goal.returns
returns c =
    let same : c.loop-at.at ≡ length c.args.line.now = omega arith in
    sym c.loop-at.invariant ∙ at_end (c.loop-at.at + 1) c.loop-at.mode c.args.line.now c.loop-at.at (omega arith) ∙ rw same refl
