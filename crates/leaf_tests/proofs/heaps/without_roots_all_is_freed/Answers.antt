use Rattle.leaf_tests.proofs.NoRoots.{all_good_none}
use Rattle.leaf_tests.proofs.heaps.without_roots_all_is_freed.Goals as goal

pub collect-freed-requires-clause-good : goal.collect-freed-requires-clause-good
collect-freed-requires-clause-good g c = all_good_none _ _
