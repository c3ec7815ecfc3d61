use Rattle.std.proofs.Common.{◌≡◌, ◌≤◌, ◌-◌, drop, length}
use Rattle.root_words.specs.Listing.{saved_references}
use Rattle.root_words.proofs.saved_registers.SavedRegisters.next.Given as goal

abbrev pub invariant-loop-self : goal.invariant-loop-self
invariant-loop-self l = record {
  rest : saved_references l.self-inside.bits l.self-inside.register (drop l.self-inside.register l.self-inside.regs) ≡ l.fn.self;
  within : l.self-inside.register ≤ 8;
  eight : length l.self-inside.regs ≡ 8;
}

abbrev pub decreases-loop-self : goal.decreases-loop-self
decreases-loop-self l = 8 - l.self-inside.register
