use Rattle.std.proofs.Common.{sym, ap, ◌∙◌}
use Rattle.tal_code.proofs.Spellings.{filled_for}
use Rattle.tal_code.proofs.OpenWords.{opens}
use Rattle.tal_code.proofs.laws.open_bytes_are_spelled.Goals as goal

pub returns : goal.returns
returns c i inst code means range is =
    opens i code (λ s for. filled_for i.words inst s means (c.canonical_spells.ensures inst range) c.canonical_is_first.ensures for) c.any_word_fits.ensures c.end_word_stays.ensures is
