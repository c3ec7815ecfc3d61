use Rattle.std.proofs.Common.{◌≡◌, take}
use Rattle.tal_asm.proofs.assembling.name_list.Given as goal

-- the list so far has the names so far
abbrev pub invariant-loop-number : goal.invariant-loop-number
invariant-loop-number l = l.list.items ≡ take l.number l.names
