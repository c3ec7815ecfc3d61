use Rattle.std.proofs.Common.{rules, arith}
use Rattle.free_index.proofs.Standing.{head-none, head-some}
use Rattle.free_index.proofs.index.FreeIndex.head.Goals as goal

pub returns-then-link-eq0-clause-first : goal.returns-then-link-eq0-clause-first
returns-then-link-eq0-clause-first c = head-none _ _ c.requires (rw (← c.self.view_is) (search rules))

pub returns-else-link-eq0-clause-first : goal.returns-else-link-eq0-clause-first
returns-else-link-eq0-clause-first c = head-some _ _ _ c.requires (rw (← c.self.view_is) (omega arith))
