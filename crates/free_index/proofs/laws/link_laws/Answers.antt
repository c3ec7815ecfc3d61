use Rattle.free_index.proofs.LinkChanges.{only-headers, only-words, used-only, free-only_back}
use Rattle.free_index.proofs.laws.link_laws.Goals as goal

pub returns : goal.returns
returns c =
    let laws = c.block_laws.ensures in
    record { header = only-headers laws; words = only-words laws; used = used-only laws; free = free-only_back laws }
