use Rattle.std.proofs.Common.{◌<◌, ◌≤◌, length, arith, sym, ◌∙◌}
use Rattle.root_words.proofs.Steps.{saved_skip, saved_take, saved_end}
use Rattle.root_words.proofs.saved_registers.SavedRegisters.next.Goals as goal

pub loop-self-preserved : goal.loop-self-preserved
loop-self-preserved c =
    let l : c.loop-self.self-inside.register < length c.loop-self.self-inside.regs = omega (arith, c.loop-self.invariant.eight, c.loop-self-test.true) in
    record {
      rest = sym (saved_skip _ _ _ _ l c.is_root.ensures c.if-is_root.false) ∙ c.loop-self.invariant.rest;
      within = omega (arith, c.loop-self-test.true);
      eight = c.loop-self.invariant.eight;
    }

pub returns-then-is_root : goal.returns-then-is_root
returns-then-is_root c =
    let l : c.loop-self.self-inside.register < length c.loop-self.self-inside.regs = omega (arith, c.loop-self.invariant.eight, c.loop-self-test.true) in
    sym c.loop-self.invariant.rest ∙ saved_take _ _ _ _ l c.is_root.ensures c.if-is_root.true

pub returns : goal.returns
returns c =
    let l : length c.loop-self.self-inside.regs ≤ c.loop-self.self-inside.register = omega (arith, c.loop-self.invariant.eight, c.loop-self-test.false) in
    (sym c.loop-self.invariant.rest ∙ saved_end _ _ _ l, saved_end _ _ _ l)
