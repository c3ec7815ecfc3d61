use Rattle.std.proofs.Common.{◌≡◌, ◌≤◌}
use Rattle.tal_image.specs.CodeReading.{body_at}
use Rattle.tal_image.proofs.Reading.Bodies.{BodyLeft}
use Rattle.tal_image.proofs.code_reader.body.Given as goal

abbrev pub invariant-loop-left : goal.invariant-loop-left
invariant-loop-left l = record {
  read : BodyLeft l.fn.starts.items l.starts.items l.left l.reader.file.now l.reader.at (body_at l.size l.fn.reader.file.now l.fn.reader.at);
  onward : l.fn.reader.at ≤ l.reader.at;
  file : l.reader.file ≡ l.fn.reader.file;
}

abbrev pub decreases-loop-left : goal.decreases-loop-left
decreases-loop-left l = l.left
