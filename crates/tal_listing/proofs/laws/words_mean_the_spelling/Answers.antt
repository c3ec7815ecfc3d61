use Rattle.std.proofs.Common.{◌≡◌, subst}
use Rattle.ia32_code.specs.Canonical.{Canonical}
use Rattle.ia32_code.specs.declared.instruction.Inst.{Inst}
use Rattle.std.proofs.Common.{Some}
use Rattle.tal_listing.proofs.laws.words_mean_the_spelling.Goals as goal

pub returns : goal.returns
returns c = λ l i w spells byte_l byte_i says_l says_i.
    let same = c.words_say_one_instruction.ensures l.inst i w byte_l byte_i says_l says_i in
    let short = c.canonical_is_shortest.ensures l.bytes l.inst spells in
    (short.0, subst (λ (k : Inst). Canonical k ≡ Some short.0) same short.1, short.2)
