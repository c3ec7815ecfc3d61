use Rattle.std.proofs.Common.{◌≡◌, ◌+◌, ◌≤◌, length}
use Rattle.tal_syntax.specs.Text.{behind_line, read_lines, text_at}
use Rattle.tal_syntax.specs.Lines.{lines}
use Rattle.tal_syntax.proofs.module.read_text.Given as goal

abbrev pub invariant-loop-lines : goal.invariant-loop-lines
invariant-loop-lines l = record {
  read : behind_line l.lines.items (read_lines l.number l.scope (lines l.left)) ≡ text_at l.fn.bytes;
  count : l.number + length l.left ≤ length l.fn.bytes + 1;
}

abbrev pub decreases-loop-lines : goal.decreases-loop-lines
decreases-loop-lines l = length l.left
