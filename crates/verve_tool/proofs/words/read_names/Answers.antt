use Rattle.std.proofs.Common.{rules, arith, refl}
use Rattle.verve_tool.proofs.WordLemmas.{two_words}
use Rattle.verve_tool.proofs.words.read_names.Goals as goal

pub returns : goal.returns
returns c =
    let two = two_words c.args.words.now _ _ (omega arith) c.first-item.is c.second-item.is in
    (rw (two, c.as_str.ensures.value, c.as_str-2.ensures.value) refl, search rules, search rules)
