use Rattle.std.proofs.Common.{◌≡◌, drop}
use Rattle.tal_asm.specs.UnitFor.{first_mention}
use Rattle.tal_asm.proofs.mentions.first_mention.Given as goal

-- the lines that are left decide
abbrev pub invariant-loop-line : goal.invariant-loop-line
invariant-loop-line l = first_mention l.name (drop l.line-index l.lines) ≡ first_mention l.name l.lines
