use Rattle.std.proofs.Common.{rules, ◌≡◌, Some, None, arith}
use Rattle.ia32_code.specs.Canonical.{canonical_row}
use Rattle.ia32_code.proofs.CanonicalSpells.{chosen_fits}
use Rattle.ia32_code.proofs.Encoded.{canonical_spells, no_length}
use Rattle.ia32_code.proofs.encoding.encode.Goals as goal

pub returns-in_default-clause-full : goal.returns-in_default-clause-full
returns-in_default-clause-full c =
    let e : canonical_row c.args.inst.now ≡ None = search rules in
    let z = no_length c.args.inst.now e in
    (λ r. absurd cc, λ lt. absurd (omega (arith, c.room-left.ensures)))

pub returns-in_default-clause-spelling : goal.returns-in_default-clause-spelling
returns-in_default-clause-spelling c = canonical_spells c.args.inst.now c.in_range.ensures

pub returns-then-length_of-left-clause-spelling : goal.returns-then-length_of-left-clause-spelling
returns-then-length_of-left-clause-spelling c = canonical_spells c.args.inst.now c.in_range.ensures

pub push_spelling-requires-clause-fits : goal.push_spelling-requires-clause-fits
push_spelling-requires-clause-fits c =
    let s = c.in-Some.spelling in
    let e : canonical_row c.args.inst.now ≡ Some s = search rules in
    (chosen_fits c.args.inst.now s c.in_range.ensures e).0

pub returns-clause-spelling : goal.returns-clause-spelling
returns-clause-spelling c = canonical_spells c.args.inst.now c.in_range.ensures
