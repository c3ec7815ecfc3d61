use Rattle.std.proofs.Common.{[], refl, sym}
use Rattle.text_tokens.specs.Token.{long_name}
use Rattle.text_tokens.proofs.tokens.Tokens.of.Goals as goal

pub invariant_of-result : goal.invariant_of-result
unfolding long_name
invariant_of-result c = record {
  before = [];
  parts = sym c.first_of-first.ensures.tokens;
  first_long = refl;
  within = c.first_of-first.ensures.within;
  short = c.requires;
}
