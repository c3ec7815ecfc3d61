use Rattle.std.proofs.Common.{◌∙◌, List, ap, sym}
use Rattle.text_tokens.specs.Token.{Lexeme, long_name}
use Rattle.tal_syntax.specs.Text.{passed}
use Rattle.tal_syntax.proofs.LinePlaces.{passed_is}
use Rattle.tal_syntax.proofs.line.long_before.Goals as goal

pub returns : goal.returns
returns c =
    let s = c.long_name.ensures.stands in
    let line = c.args.tokens.now.line in
    c.long_name.ensures.column s.before s.after s.between ∙ ap long_name (sym (passed_is line s.before s.after s.between.parts)) ∙ ap (λ (left : List Lexeme). long_name (passed line left)) s.between.left
