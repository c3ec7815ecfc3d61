use Rattle.std.proofs.Common.{rules, ◌≡◌, length}
use Rattle.heap_words.proofs.NewHeap.{new-heap}
use Rattle.heap_words.proofs.heap.Heap.new.Goals as goal

pub invariant_of-result : goal.invariant_of-result
invariant_of-result c =
    let n : length c.in_ok-all.all.items ≡ c.args.words = search rules in
    (new-heap _ _ n c.requires.rows c.requires.least c.requires.most).formed

pub returns-clause-formed : goal.returns-clause-formed
returns-clause-formed c =
    let n : length c.in_ok-all.all.items ≡ c.args.words = search rules in
    (new-heap _ _ n c.requires.rows c.requires.least c.requires.most).formed

pub returns-clause-blocks : goal.returns-clause-blocks
returns-clause-blocks c =
    let n : length c.in_ok-all.all.items ≡ c.args.words = search rules in
    (new-heap _ _ n c.requires.rows c.requires.least c.requires.most).listed

pub returns-clause-free : goal.returns-clause-free
returns-clause-free c =
    let n : length c.in_ok-all.all.items ≡ c.args.words = search rules in
    (new-heap _ _ n c.requires.rows c.requires.least c.requires.most).free
