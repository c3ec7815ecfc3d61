use Rattle.std.proofs.Common.{rules, ◌≡◌, [], ◌∷◌, sym, ◌∙◌, arith, refl}
use Rattle.std.specs.Prelude.{string_bytes}
use Rattle.verve_tool.proofs.WordLemmas.{one_word, no_bytes}
use Rattle.verve_tool.proofs.words.read_name.Goals as goal

pub returns-then-is_empty : goal.returns-then-is_empty
returns-then-is_empty c name spelled named =
    let one = one_word c.args.words.now _ (omega arith) c.name-item.is in
    let same : (string_bytes c.name-item.result ∷ []) ≡ (name ∷ []) = rw one at spelled in
    let is : string_bytes c.name-item.result ≡ name = cc same in
    named (sym is ∙ no_bytes _ (search rules))

pub returns : goal.returns
returns c =
    let one = one_word c.args.words.now _ (omega arith) c.name-item.is in
    (rw (one, c.as_str.ensures.value) refl, search rules)
