use Rattle.std.proofs.Common.{◌-◌, Some, refl, sym, ap, ◌∙◌, length, List, ℕ, arith}
use Rattle.ia32_code.specs.declared.spelling.Spelling.{Spelling}
use Rattle.ia32_code.specs.Spells.{meaning}
use Rattle.ia32_code.specs.Reading.{spelling_at}
use Rattle.ia32_code.specs.WholeWords.{word_offsets}
use Rattle.ia32_code.proofs.TakesFront.{ok_is}
use Rattle.ia32_code.proofs.ReadIsSpelled.{again}
use Rattle.ia32_code.proofs.Answered.{front_facts, read_front}
use Rattle.ia32_code.proofs.word_offsets.whole_words.Goals as goal

pub returns-in-Ok-clause-spelled : goal.returns-in-Ok-clause-spelled
returns-in-Ok-clause-spelled c = λ s more fits e.
    let k = ok_is (c.in-Ok.spelling, c.in-Ok.field-0-1.now) (s, more) (sym c.in-Ok.ensures ∙ ap spelling_at e ∙ again s more fits) in
    rw (c.offset_within.ensures, c.offset_at_end.ensures) (ap (λ (x : Spelling × List ℕ). Some (word_offsets x.0)) k)

pub returns-in-Ok-clause-none : goal.returns-in-Ok-clause-none
returns-in-Ok-clause-none c =
    let f = front_facts c.args.bytes.now c.in-Ok.spelling c.in-Ok.field-0-1.now (λ i. omega (arith, c.type_inv.bytes i)) c.in-Ok.ensures in
    (λ e. absurd cc, λ n. absurd (n (meaning c.in-Ok.spelling, length c.args.bytes.now - length c.in-Ok.field-0-1.now, f.spells)))

pub returns-in-Err-clause-spelled : goal.returns-in-Err-clause-spelled
returns-in-Err-clause-spelled c = λ s more fits e. let k = sym c.in-Err.ensures ∙ ap spelling_at e ∙ again s more fits in absurd cc

pub returns-in-Err-clause-none : goal.returns-in-Err-clause-none
returns-in-Err-clause-none c = (λ e h. let k = sym c.in-Err.ensures ∙ read_front c.args.bytes.now h in cc, λ n. refl)
