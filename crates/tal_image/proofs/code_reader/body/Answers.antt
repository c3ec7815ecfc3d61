use Rattle.std.proofs.Common.{◌<◌, ◌≤◌, arith}
use Rattle.tal_image.specs.CodeReading.{body_at}
use Rattle.tal_image.proofs.Reading.Bodies.{tail_is, body_on, body_short, body_unknown, body_past, body_done}
use Rattle.tal_image.proofs.code_reader.body.Goals as goal

pub returns-then-length-left-clause-gives : goal.returns-then-length-left-clause-gives
returns-then-length-left-clause-gives c =
    let r = c.loop-left.reader in
    let past : c.loop-left.left < c.in-One.len = omega (arith, c.if-length-left.true, c.from-length.ensures) in
    body_past c.args.starts.now.items c.loop-left.starts.items c.loop-left.left r.file.now r.at (body_at c.args.size c.args.reader.now.file.now c.args.reader.now.at) c.loop-left.invariant.read c.in-One.inst c.in-One.len c.loop-left-test.true (rw (tail_is r.at r.file.now) at c.in-One.ensures.one) past

pub loop-left-preserved : goal.loop-left-preserved
loop-left-preserved c =
    let r = c.loop-left.reader in
    let fits : c.in-One.len ≤ c.loop-left.left = omega (arith, c.if-length-left.false, c.from-length.ensures) in
    let a = c.in-One.ensures.answers in
    record {
      read = rw (c.in_ok-put_instruction-in-One.ensures, c.from-length.ensures) (body_on c.args.starts.now.items c.loop-left.starts.items c.loop-left.left r.file.now r.at (body_at c.args.size c.args.reader.now.file.now c.args.reader.now.at) c.loop-left.invariant.read c.in-One.inst c.in-One.len c.loop-left-test.true (rw (tail_is r.at r.file.now) at c.in-One.ensures.one) a.0 (rw (tail_is r.at r.file.now) at a.1) fits);
      onward = omega (arith, c.loop-left.invariant.onward);
      file = c.loop-left.invariant.file;
    }

pub returns-in-Short-clause-gives : goal.returns-in-Short-clause-gives
returns-in-Short-clause-gives c =
    let r = c.loop-left.reader in
    body_short c.args.starts.now.items c.loop-left.starts.items c.loop-left.left r.file.now r.at (body_at c.args.size c.args.reader.now.file.now c.args.reader.now.at) c.loop-left.invariant.read c.loop-left-test.true (rw (tail_is r.at r.file.now) at c.in-Short.ensures.one)

pub returns-in-Unknown-clause-gives : goal.returns-in-Unknown-clause-gives
returns-in-Unknown-clause-gives c =
    let r = c.loop-left.reader in
    body_unknown c.args.starts.now.items c.loop-left.starts.items c.loop-left.left r.file.now r.at (body_at c.args.size c.args.reader.now.file.now c.args.reader.now.at) c.loop-left.invariant.read c.loop-left-test.true (rw (tail_is r.at r.file.now) at c.in-Unknown.ensures.one)

pub returns-clause-gives : goal.returns-clause-gives
returns-clause-gives c =
    let r = c.loop-left.reader in
    body_done c.args.starts.now.items c.loop-left.starts.items c.loop-left.left r.file.now r.at (body_at c.args.size c.args.reader.now.file.now c.args.reader.now.at) c.loop-left.invariant.read (omega (arith, c.loop-left-test.false))
