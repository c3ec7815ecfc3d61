use Rattle.std.proofs.Common.{◌≡◌, take}
use Rattle.tal_classes.proofs.class.method_list.Given as goal

-- the slots so far hold the functions so far
abbrev pub invariant-loop-function : goal.invariant-loop-function
invariant-loop-function l = l.methods ≡ take l.function-index l.functions
