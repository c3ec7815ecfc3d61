use Rattle.std.proofs.Common.{length, ap, sym, ◌∙◌, arith}
use Rattle.tal_checker.specs.Frames.{reference_bits}
use Rattle.tal_checker.proofs.FrameBits.{dead-row, live-row}
use Rattle.tal_checker.proofs.frames.frame_row.Goals as goal

pub returns-then-context : goal.returns-then-context
returns-then-context c = dead-row c.args.context.now c.if-context.true

pub returns : goal.returns
returns c =
    let context = c.args.context.now in
    let slots = c.slots.ensures in
    live-row context c.reference_bits.result context.depth c.reference_bits-2.result c.if-context.false (omega arith) c.reference_bits.ensures.value
    (sym slots.depth ∙ ap length slots.slots) (c.reference_bits-2.ensures.value ∙ ap reference_bits slots.slots)
