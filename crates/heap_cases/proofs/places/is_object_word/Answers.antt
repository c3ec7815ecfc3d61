use Rattle.std.proofs.Common.{sym, ◌∙◌}
use Rattle.heap_cases.proofs.NumberObjects.{object_place}
use Rattle.heap_cases.proofs.places.is_object_word.Goals as goal

pub returns-clause-inside : goal.returns-clause-inside
returns-clause-inside c = λ _.
    (object_place c.block_laws.ensures _ _ _ c.size-size.ensures.formed
    (record { begins = c.in-Some.ensures.begins; used = sym c.used.ensures ∙ c.if-not-used.false }) c.if-i-at-lt2.false c.in-Some.ensures.before).0

pub returns-clause-object : goal.returns-clause-object
returns-clause-object c = λ _.
    (object_place c.block_laws.ensures _ _ _ c.size-size.ensures.formed
    (record { begins = c.in-Some.ensures.begins; used = sym c.used.ensures ∙ c.if-not-used.false }) c.if-i-at-lt2.false c.in-Some.ensures.before).1
