use Rattle.std.proofs.Common.{◌≡◌, ◌∙◌, List, ap, sym, subst}
use Rattle.text_tokens.specs.Token.{PlacedLexeme, TokensView, long_name}
use Rattle.text_tokens.specs.Tokens.{StandsBetween, StandsSomewhere}
use Rattle.text_tokens.proofs.Places.{cut_is, cut_here}
use Rattle.text_tokens.proofs.tokens.Tokens.long_name.Goals as goal

pub returns-clause-column : goal.returns-clause-column
returns-clause-column c = λ before after s.
    let t = c.self.inside in
    let k = cut_is t.line.now t.here c.self.invariant.before before after c.self.invariant.parts (subst (λ (v : TokensView). StandsBetween v before after) (sym c.self.view_is) s) in
    c.self.invariant.first_long ∙ sym (ap long_name k.0)

pub returns-clause-stands : goal.returns-clause-stands
returns-clause-stands c = subst (λ (v : TokensView). StandsSomewhere v) c.self.view_is (cut_here c.self.inside.line.now c.self.inside.here c.self.invariant.before c.self.invariant.parts)
