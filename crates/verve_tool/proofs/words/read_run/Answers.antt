use Rattle.std.proofs.Common.{rules, ◌≡◌, sym, ◌∙◌, arith, decimal, refl}
use Rattle.std.specs.Prelude.{string_bytes}
use Rattle.verve_tool.proofs.WordLemmas.{three_words}
use Rattle.verve_tool.proofs.words.read_run.Goals as goal

pub returns : goal.returns
returns c =
    let three = three_words c.args.words.now _ _ _ (omega arith) c.image-item.is c.events-item.is c.turns-item.is in
    let last : string_bytes c.turns-item.result ≡ decimal c.in_ok-turns.turns = sym c.as_str.ensures.value ∙ c.in_ok-turns.ensures.0 in (
      rw (three, c.as_str-2.ensures.value, c.as_str-3.ensures.value, ← last) refl,
      record { image_named = search rules; events_named = search rules; some_turns = c.in_ok-turns.ensures.1; not_too_many = c.in_ok-turns.ensures.2 },
    )
