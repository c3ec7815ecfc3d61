use Rattle.std.proofs.Common.{arith}
use Rattle.free_index.proofs.LinkWrites.{word_inside, removed-names, removed}
use Rattle.free_index.proofs.links.remove.Goals as goal

pub word-back-requires : goal.word-back-requires
word-back-requires c = word_inside c.block_laws.ensures _ _ 2 c.requires.formed c.requires.free.begins (omega arith)

pub link_from-requires-clause-named : goal.link_from-requires-clause-named
link_from-requires-clause-named c = rw c.word-back.ensures c.requires.back

pub back_from-requires-clause-named : goal.back_from-requires-clause-named
back_from-requires-clause-named c =
    removed-names c.block_laws.ensures _ _ _ _ (rw c.link-next.ensures.link c.requires.next) (rw c.word-back.ensures c.requires.back) c.link_from.ensures.same c.link_from.ensures.others

pub returns-clause-removed : goal.returns-clause-removed
returns-clause-removed c =
    removed c.block_laws.ensures _ _ _ _ _ _ c.link-next.ensures.link c.word-back.ensures (rw c.link-next.ensures.link c.requires.next)
    (rw c.word-back.ensures c.requires.back) c.link_from.ensures.same c.link_from.ensures.written
    c.link_from.ensures.others c.back_from.ensures.same c.back_from.ensures.written c.back_from.ensures.others
