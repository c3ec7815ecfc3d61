use Rattle.std.proofs.Common.{ap, ◌∙◌}
use Rattle.heap_words.specs.Headers.{marked_of}
use Rattle.heap_words.specs.Blocks.{IsFree}
use Rattle.free_index.specs.Free.{Given}
use Rattle.free_index.proofs.LinkWrites.{sym-blocks}
use Rattle.free_index.proofs.LinkChanges.{only-headers}
use Rattle.free_index.proofs.TakenBlocks.{given, given-list}
use Rattle.free_index.proofs.Standing.{give-listed, put-names, put-other, put-stands, put-only, given-through}
use Rattle.free_index.proofs.index.FreeIndex.give.Goals as goal

-- the block is free before it is put into its list
freed : (c : goal.After-put) → IsFree c.set_used.new.self c.args.i
freed c = record { begins = c.set_used.ensures.same.forth _ c.requires.used.begins; free = c.set_used.ensures.used }

-- and the block that was used became free
is_given : (c : goal.After-put) → Given c.args.heap.now c.put.new.heap c.args.i
is_given c =
    given-through c.block_laws.ensures _ _ _ _ c.set_used.ensures.formed (given c.block_laws.ensures _ _ _ _ c.set_used.ensures.words c.set_used.ensures.same c.set_used.ensures.used c.requires.used.begins)
    (put-only _ _ _ _ (give-listed c.block_laws.ensures _ _ _ _ _ c.requires.lists.lists c.set_used.ensures.words c.set_used.ensures.same c.requires.used) (freed c) c.put.ensures.inserted)

pub put-requires-clause-head : goal.put-requires-clause-head
put-requires-clause-head c = put-names _ _ _ (give-listed c.block_laws.ensures _ _ _ _ _ c.requires.lists.lists c.set_used.ensures.words c.set_used.ensures.same c.requires.used)

pub put-requires-clause-other : goal.put-requires-clause-other
put-requires-clause-other c = put-other _ _ _ (give-listed c.block_laws.ensures _ _ _ _ _ c.requires.lists.lists c.set_used.ensures.words c.set_used.ensures.same c.requires.used)

pub returns-clause-given : goal.returns-clause-given
returns-clause-given c = is_given c

pub returns-clause-blocks : goal.returns-clause-blocks
returns-clause-blocks c =
    given-list c.block_laws.ensures _ _ _ (c.block_laws.ensures.headers.formed _ _ (sym-blocks _ _ c.set_used.ensures.same) c.set_used.ensures.formed) c.put.ensures.formed_after c.requires.used (is_given c)

pub returns-clause-lists : goal.returns-clause-lists
returns-clause-lists c =
    put-stands c.block_laws.ensures _ _ _ _ _ (give-listed c.block_laws.ensures _ _ _ _ _ c.requires.lists.lists c.set_used.ensures.words c.set_used.ensures.same c.requires.used)
    (freed c) c.requires.lists.count c.put.ensures.inserted c.put.ensures.heads

pub returns-clause-mark : goal.returns-clause-mark
returns-clause-mark c =
    ap marked_of (only-headers c.block_laws.ensures _ _ _
    (put-only _ _ _ _ (give-listed c.block_laws.ensures _ _ _ _ _ c.requires.lists.lists c.set_used.ensures.words c.set_used.ensures.same c.requires.used) (freed c) c.put.ensures.inserted)
    (freed c).begins) ∙ c.set_used.ensures.marked
