use Rattle.std.proofs.Common.{◌∙◌, arith}
use Rattle.free_index.proofs.TakenBlocks.{taken-split, taken-whole, split-plain, written_aside, split_aside}
use Rattle.free_index.proofs.index.use_front.Goals as goal
use Rattle.free_index.proofs.index.use_front.Goals.{then-need-block_size, else-need-block_size}

pub set_used-requires : goal.set_used-requires
set_used-requires c = elim c.if-need-block_size.branch [
  | then-need-block_size w ↦ rw w.heap-is (w.split.ensures.begins.kept _ c.requires.fits.free.begins)
  | else-need-block_size w ↦ rw w.heap-is c.requires.fits.free.begins
]

pub returns-clause-taken : goal.returns-clause-taken
returns-clause-taken c = elim c.if-need-block_size.branch [
  | then-need-block_size w ↦
      taken-split c.block_laws.ensures _ _ _ _ _ _ c.set_used.ensures.words c.set_used.ensures.same c.set_used.ensures.used c.requires.fits c.requires.rows c.requires.some
      (omega (arith, w.if-need-block_size.true, c.block_size.ensures.size)) c.block_size.ensures.formed
      (w.heap-is ∙ w.split.ensures.words) (rw w.heap-is w.split.ensures.begins)
  | else-need-block_size w ↦
      let e = c.requires.fits.enough in
      taken-whole c.block_laws.ensures _ _ _ _ _ (rw w.heap-is at c.set_used.ensures.words) (rw w.heap-is at c.set_used.ensures.same) c.set_used.ensures.used c.requires.fits
      (omega (arith, e, w.if-need-block_size.false, c.block_size.ensures.size))
]

pub returns-clause-mark : goal.returns-clause-mark
returns-clause-mark c = elim c.if-need-block_size.branch [
  | then-need-block_size w ↦ λ h.
      c.set_used.ensures.marked
      ∙ split-plain c.block_laws.ensures _ _ c.args.need c.args.i c.block_size.ensures.formed c.requires.fits.free.begins c.requires.rows c.requires.some
      (omega (arith, w.if-need-block_size.true, c.block_size.ensures.size)) (w.heap-is ∙ w.split.ensures.words)
  | else-need-block_size w ↦ λ h. c.set_used.ensures.marked ∙ rw w.heap-is h
]

pub returns-clause-others : goal.returns-clause-others
returns-clause-others c = λ k n m. elim c.if-need-block_size.branch [
  | then-need-block_size w ↦
      written_aside _ _ _ _ k c.set_used.ensures.words n ∙ split_aside _ _ c.args.need c.args.i k (w.heap-is ∙ w.split.ensures.words) n m
  | else-need-block_size w ↦ written_aside _ _ _ _ k (rw w.heap-is at c.set_used.ensures.words) n
]
