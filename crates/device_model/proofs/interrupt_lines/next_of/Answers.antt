use Rattle.std.proofs.Common.{arith, inl, inr}
use Rattle.std.specs.Prelude.{bit_and}
use Rattle.std.specs.Int.{w8, bit_not}
use Rattle.std.proofs.lemmas.Nat.{and_le_l}
use Rattle.device_model.proofs.Bits.{lowest, is_next, none_is_next}
use Rattle.device_model.proofs.interrupt_lines.next_of.Goals as goal
use Rattle.device_model.proofs.interrupt_lines.next_of.Goals.{else-lowest-lt8-via-then-lowest-lt8+else-lowest-service, else-lowest-lt8-via-else-lowest-lt8}

pub returns-then-lowest-service : goal.returns-then-lowest-service
returns-then-lowest-service c =
    let open_lines = bit_and c.args.requests (bit_not w8 c.args.mask) in
    is_next c.args.requests c.args.service c.args.mask _ _ (omega arith)
    (lowest open_lines (omega (arith, and_le_l c.args.requests (bit_not w8 c.args.mask)))) (lowest c.args.service (omega arith)) c.if-lowest-lt8.true c.if-lowest-service.true

pub returns-else-lowest-lt8 : goal.returns-else-lowest-lt8
returns-else-lowest-lt8 c =
    let open_lines = bit_and c.args.requests (bit_not w8 c.args.mask) in
    none_is_next c.args.requests c.args.service c.args.mask _ _ (omega arith)
    (lowest open_lines (omega (arith, and_le_l c.args.requests (bit_not w8 c.args.mask)))) (lowest c.args.service (omega arith))
    (elim c.else-lowest-lt8.branch [
      | else-lowest-lt8-via-then-lowest-lt8+else-lowest-service w ↦ inr w.if-lowest-service.false
      | else-lowest-lt8-via-else-lowest-lt8 w ↦ inl w.if-lowest-lt8.false
    ])
