use Rattle.std.proofs.Common.{◌≡◌, take}
use Rattle.std.specs.List.{flat_map}
use Rattle.tal_names.specs.Declarations.{names_shown}
use Rattle.tal_names.specs.Mentions.{with_mentions}
use Rattle.tal_names.proofs.mentions.mention_each.Given as goal

-- the names so far are those that the items so far mention
abbrev pub invariant-loop-item : goal.invariant-loop-item
invariant-loop-item g l = l.found ≡ with_mentions (names_shown l.names) l.fn.found (flat_map g.T.Mentions.mentioned (take l.item-index l.items))
