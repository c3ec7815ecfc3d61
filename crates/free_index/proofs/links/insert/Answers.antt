use Rattle.free_index.proofs.LinkWrites.{fronted, fronted-names, inserted}
use Rattle.free_index.proofs.links.insert.Goals as goal

pub back_from-requires-clause-named : goal.back_from-requires-clause-named
back_from-requires-clause-named c =
    fronted-names c.block_laws.ensures _ _ _ _
    (fronted c.block_laws.ensures _ _ _ _ _ c.requires.formed c.requires.free.begins c.set_link.ensures.words c.set_link.ensures.same c.set_back.ensures.words c.set_back.ensures.same)
    c.requires.free.begins c.requires.head

pub returns-clause-inserted : goal.returns-clause-inserted
returns-clause-inserted c =
    inserted c.block_laws.ensures _ _ _ _ _
    (fronted c.block_laws.ensures _ _ _ _ _ c.requires.formed c.requires.free.begins c.set_link.ensures.words c.set_link.ensures.same c.set_back.ensures.words c.set_back.ensures.same)
    c.requires.free.begins c.requires.head c.requires.other c.back_from.ensures.same c.back_from.ensures.written c.back_from.ensures.others
