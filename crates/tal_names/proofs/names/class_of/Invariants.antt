use Rattle.std.proofs.Common.{◌≡◌, drop}
use Rattle.tal_names.specs.Declarations.{ancestry, with_members, class_of}
use Rattle.tal_names.proofs.names.class_of.Given as goal

-- the class so far with the lines that are left makes the whole
abbrev pub invariant-loop-line : goal.invariant-loop-line
invariant-loop-line l = with_members (ancestry l.classes l.parent) l.class (drop l.line-index l.behind) ≡ class_of l.classes l.parent l.behind
