use Rattle.std.proofs.Common.{◌<◌, inl, inr, get_or, Ok, Err, arith}
use Rattle.std.proofs.lemmas.Bool.{cases_lt}
use Rattle.std.proofs.lemmas.List.Sorted.{searched}
use Rattle.frame_tables.proofs.Lookup.{never_falls}
use Rattle.frame_tables.proofs.table.find_address.Goals as goal

pub returns-in-Ok : goal.returns-in-Ok
returns-in-Ok c = searched c.args.addresses.now c.args.pc (Ok c.in-Ok.at) c.in-Ok.ensures.position (never_falls c.args.addresses.now c.requires)

pub returns-in-Err : goal.returns-in-Err
returns-in-Err c i within =
    let xs = c.args.addresses.now in
    let (_, below, above) = searched xs c.args.pc (Err c.in-Err.field-0) c.in-Err.ensures.position (never_falls xs c.requires) in
    elim (cases_lt i c.in-Err.field-0) [
      | inl before ↦ let low : get_or xs i 0 < c.args.pc = below i before in λ e. omega (arith, e)
      | inr behind ↦ let high : c.args.pc < get_or xs i 0 = above i behind within in λ e. omega (arith, e)
    ]
