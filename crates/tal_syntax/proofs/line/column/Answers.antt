use Rattle.std.proofs.Common.{◌∙◌, ap, sym}
use Rattle.tal_syntax.specs.Text.{column_behind}
use Rattle.tal_syntax.proofs.LinePlaces.{place_is}
use Rattle.tal_syntax.proofs.line.column.Goals as goal

pub returns : goal.returns
returns c =
    let s = c.column.ensures.stands in
    c.column.ensures.column s.before s.after s.between ∙ sym (place_is c.args.tokens.now.line s.before s.after s.between.parts) ∙ ap (column_behind c.args.tokens.now.line) s.between.left
