use Rattle.std.proofs.Common.{arith, ap, ◌∙◌}
use Rattle.heap_words.specs.Headers.{marked_of}
use Rattle.free_index.proofs.Listing.{next-names, back-names}
use Rattle.free_index.proofs.LinkChanges.{only-refl, only-headers}
use Rattle.free_index.proofs.Standing.{put-names, put-other, put-stands, put-only}
use Rattle.free_index.proofs.Taking.{cut-fits, cut-only, taken-between, used-listed, rest-unlisted, whole-listed, unheaded_length}
use Rattle.free_index.proofs.index.FreeIndex.occupy.Goals as goal

pub cut-requires-clause-next : goal.cut-requires-clause-next
cut-requires-clause-next c = next-names _ _ _ c.requires.lists.lists c.requires.fits.free

pub cut-requires-clause-back : goal.cut-requires-clause-back
cut-requires-clause-back c = back-names _ _ _ c.requires.lists.lists c.requires.fits.free

pub block_size-size-requires : goal.block_size-size-requires
block_size-size-requires c = c.cut.ensures.removed.blocks.forth _ c.requires.fits.free.begins

pub use_front-requires-clause-fits : goal.use_front-requires-clause-fits
use_front-requires-clause-fits c = cut-fits c.block_laws.ensures _ _ _ _ _ c.requires.lists.lists c.requires.fits c.cut.ensures.removed

pub put-requires-clause-free : goal.put-requires-clause-free
put-requires-clause-free c = (c.use_front.ensures.taken.rest (omega (arith, c.if-need-size.true, c.block_size-size.ensures.size))).0

pub put-requires-clause-head : goal.put-requires-clause-head
put-requires-clause-head c =
    put-names _ _ _
    (rest-unlisted c.block_laws.ensures _ c.cut.new.heap _ _ _ c.args.need c.args.i c.requires.lists c.requires.fits.free c.requires.rows c.requires.some
    c.cut.ensures.removed c.cut.ensures.heads c.use_front.ensures.taken c.use_front.ensures.others
    (omega (arith, c.if-need-size.true, c.block_size-size.ensures.size)))

pub put-requires-clause-other : goal.put-requires-clause-other
put-requires-clause-other c =
    put-other _ _ _
    (rest-unlisted c.block_laws.ensures _ c.cut.new.heap _ _ _ c.args.need c.args.i c.requires.lists c.requires.fits.free c.requires.rows c.requires.some
    c.cut.ensures.removed c.cut.ensures.heads c.use_front.ensures.taken c.use_front.ensures.others
    (omega (arith, c.if-need-size.true, c.block_size-size.ensures.size)))

pub returns-then-need-size-clause-taken : goal.returns-then-need-size-clause-taken
returns-then-need-size-clause-taken c =
    taken-between c.block_laws.ensures _ _ _ _ _ _ c.cut.ensures.formed c.use_front.ensures.formed
    (cut-only _ _ _ _ c.requires.lists.lists c.requires.fits.free c.cut.ensures.removed) c.use_front.ensures.taken
    (put-only _ _ _ _
    (rest-unlisted c.block_laws.ensures _ c.cut.new.heap _ _ _ c.args.need c.args.i c.requires.lists c.requires.fits.free c.requires.rows c.requires.some
    c.cut.ensures.removed c.cut.ensures.heads c.use_front.ensures.taken c.use_front.ensures.others
    (omega (arith, c.if-need-size.true, c.block_size-size.ensures.size)))
    (c.use_front.ensures.taken.rest (omega (arith, c.if-need-size.true, c.block_size-size.ensures.size))).0 c.put.ensures.inserted)

pub returns-then-need-size-clause-lists : goal.returns-then-need-size-clause-lists
returns-then-need-size-clause-lists c =
    put-stands c.block_laws.ensures _ _ _ _ _
    (rest-unlisted c.block_laws.ensures _ c.cut.new.heap _ _ _ c.args.need c.args.i c.requires.lists c.requires.fits.free c.requires.rows c.requires.some
    c.cut.ensures.removed c.cut.ensures.heads c.use_front.ensures.taken c.use_front.ensures.others
    (omega (arith, c.if-need-size.true, c.block_size-size.ensures.size)))
    (c.use_front.ensures.taken.rest (omega (arith, c.if-need-size.true, c.block_size-size.ensures.size))).0
    (unheaded_length _ _ _ _ _ c.cut.ensures.heads c.requires.lists.count) c.put.ensures.inserted c.put.ensures.heads

pub returns-else-need-size-clause-taken : goal.returns-else-need-size-clause-taken
returns-else-need-size-clause-taken c =
    taken-between c.block_laws.ensures _ _ _ _ _ _ c.cut.ensures.formed c.use_front.ensures.formed
    (cut-only _ _ _ _ c.requires.lists.lists c.requires.fits.free c.cut.ensures.removed) c.use_front.ensures.taken (only-refl _)

pub returns-else-need-size-clause-lists : goal.returns-else-need-size-clause-lists
returns-else-need-size-clause-lists c =
    record {
      count = unheaded_length _ _ _ _ _ c.cut.ensures.heads c.requires.lists.count;
      lists = whole-listed c.cut.new.heap _ _ c.args.need c.args.i (omega (arith, c.if-need-size.false, c.block_size-size.ensures.size))
          (used-listed c.block_laws.ensures _ _ _ _ _ _ _ c.requires.lists c.requires.fits.free c.requires.rows c.requires.some c.cut.ensures.removed c.cut.ensures.heads
          c.use_front.ensures.taken c.use_front.ensures.others);
    }

pub returns-then-need-size-clause-mark : goal.returns-then-need-size-clause-mark
returns-then-need-size-clause-mark c = λ h.
    ap marked_of (only-headers c.block_laws.ensures _ _ _
    (put-only _ _ _ _
    (rest-unlisted c.block_laws.ensures _ c.cut.new.heap _ _ _ c.args.need c.args.i c.requires.lists c.requires.fits.free c.requires.rows c.requires.some
    c.cut.ensures.removed c.cut.ensures.heads c.use_front.ensures.taken c.use_front.ensures.others
    (omega (arith, c.if-need-size.true, c.block_size-size.ensures.size)))
    (c.use_front.ensures.taken.rest (omega (arith, c.if-need-size.true, c.block_size-size.ensures.size))).0 c.put.ensures.inserted)
    c.use_front.ensures.taken.used.begins)
    ∙ c.use_front.ensures.mark (ap marked_of (only-headers c.block_laws.ensures _ _ _ (cut-only _ _ _ _ c.requires.lists.lists c.requires.fits.free c.cut.ensures.removed) c.requires.fits.free.begins) ∙ h)

pub returns-else-need-size-clause-mark : goal.returns-else-need-size-clause-mark
returns-else-need-size-clause-mark c = λ h.
    c.use_front.ensures.mark (ap marked_of (only-headers c.block_laws.ensures _ _ _ (cut-only _ _ _ _ c.requires.lists.lists c.requires.fits.free c.cut.ensures.removed) c.requires.fits.free.begins) ∙ h)
