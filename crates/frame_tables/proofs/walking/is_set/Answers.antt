use Rattle.std.proofs.Common.{◌≡◌, arith}
use Rattle.std.specs.Int.{bit_at}
use Rattle.std.proofs.lemmas.Nat.Bits.{bit_at_above}
use Rattle.frame_tables.proofs.walking.is_set.Goals as goal

pub returns-else-slot-lt64 : goal.returns-else-slot-lt64
returns-else-slot-lt64 c =
    let none : bit_at c.args.refs c.args.slot ≡ 0 = bit_at_above c.args.refs 64 c.args.slot c.ranges.refs.fits c.if-slot-lt64.false in
    grind arith
