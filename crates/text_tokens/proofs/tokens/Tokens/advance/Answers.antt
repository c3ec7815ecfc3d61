use Rattle.std.proofs.Common.{◌∙◌}
use Rattle.text_tokens.proofs.Places.{moved}
use Rattle.text_tokens.proofs.tokens.Tokens.advance.Goals as goal

pub invariant_of-self : goal.invariant_of-self
invariant_of-self c =
    let next = moved c.self.inside.line.now c.self.invariant.before c.self.inside.here c.self.inside.long c.self.invariant.parts c.self.invariant.first_long in
    record {
      before = next.before;
      parts = rw c.following-self-inside.ensures.tokens next.parts;
      first_long = c.long_with_token-self-inside.ensures ∙ next.first_long;
      within = c.following-self-inside.ensures.within;
      short = c.self.invariant.short;
    }
