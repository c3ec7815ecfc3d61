use Rattle.std.proofs.Common.{◌≡◌, ◌∙◌, List, Option, ap, sym, subst}
use Rattle.text_tokens.specs.declared.lexing.Found.{Found}
use Rattle.text_tokens.specs.Token.{PlacedLexeme, TokensView, column_of}
use Rattle.text_tokens.specs.Tokens.{StandsBetween, StandsSomewhere, tokens_left}
use Rattle.text_tokens.proofs.Places.{cut_is, cut_here}
use Rattle.text_tokens.proofs.tokens.Tokens.column.Goals as goal

pub returns-in-Some-clause-column : goal.returns-in-Some-clause-column
returns-in-Some-clause-column c = λ before after s.
    let t = c.self.inside in
    let k = cut_is t.line.now t.here c.self.invariant.before before after c.self.invariant.parts (subst (λ (v : TokensView). StandsBetween v before after) (sym c.self.view_is) s) in
    sym (ap column_of k.1 ∙ ap (λ (h : Option Found). column_of (tokens_left t.line.now h)) c.in-Some.is)

pub returns-in-None-clause-column : goal.returns-in-None-clause-column
returns-in-None-clause-column c = λ before after s.
    let t = c.self.inside in
    let k = cut_is t.line.now t.here c.self.invariant.before before after c.self.invariant.parts (subst (λ (v : TokensView). StandsBetween v before after) (sym c.self.view_is) s) in
    sym (ap column_of k.1 ∙ ap (λ (h : Option Found). column_of (tokens_left t.line.now h)) c.in-None.is)

pub returns-in-Some-clause-stands : goal.returns-in-Some-clause-stands
returns-in-Some-clause-stands c = subst (λ (v : TokensView). StandsSomewhere v) c.self.view_is (cut_here c.self.inside.line.now c.self.inside.here c.self.invariant.before c.self.invariant.parts)

pub returns-in-None-clause-stands : goal.returns-in-None-clause-stands
returns-in-None-clause-stands c = subst (λ (v : TokensView). StandsSomewhere v) c.self.view_is (cut_here c.self.inside.line.now c.self.inside.here c.self.invariant.before c.self.invariant.parts)
