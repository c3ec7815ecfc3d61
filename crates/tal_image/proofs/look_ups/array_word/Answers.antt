use Rattle.std.proofs.Common.{◌≤◌, ◌-◌, ◌∙◌, sym, refl, arith}
use Rattle.tal_image.specs.Shown.{array_words}
use Rattle.tal_image.proofs.Finding.DataArrays.{padded-within, padded-past, array_words-element}
use Rattle.tal_image.proofs.look_ups.array_word.Goals as goal

pub returns-in-0 : goal.returns-in-0
unfolding array_words
returns-in-0 c = rw (c.in-0.is, c.descriptor_address.ensures) refl

pub returns-in-1 : goal.returns-in-1
unfolding array_words
returns-in-1 c = rw c.in-1.is refl

pub returns-in_default : goal.returns-in_default
returns-in_default c =
    let a = c.args.array.now in
    let from : 2 ≤ c.args.word = omega arith in
    sym (array_words-element a c.args.word from ∙ padded-within a.numbers a.size (c.args.word - 2) c.requires.numbers c.if-word-array.true ∙ cc)

pub returns-in_default-2 : goal.returns-in_default-2
returns-in_default-2 c =
    let a = c.args.array.now in
    let from : 2 ≤ c.args.word = omega arith in
    sym (array_words-element a c.args.word from ∙ padded-past a.numbers a.size (c.args.word - 2) c.requires.numbers c.if-word-array.false)
