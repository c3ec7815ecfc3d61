use Rattle.tal_code.proofs.Leading.{leads_on}
use Rattle.tal_code.proofs.laws.functions_lead_on.Goals as goal

pub returns : goal.returns
returns c m own sig u d lines =
    leads_on m own sig u d lines (record {
      read = c.spellings_are_read.ensures;
      short = c.spelling_length.ensures;
      spells = c.canonical_spells.ensures;
      first = c.canonical_is_first.ensures;
      fits = c.any_word_fits.ensures;
      ends = c.end_word_stays.ensures;
    })
