use Rattle.tal_code.proofs.Growing.{grows}
use Rattle.tal_code.proofs.laws.functions_grow.Goals as goal

pub returns : goal.returns
returns c m u d lines =
    grows m u d lines (record {
      short = c.spelling_length.ensures;
      spells = c.canonical_spells.ensures;
      first = c.canonical_is_first.ensures;
      fits = c.any_word_fits.ensures;
    })
