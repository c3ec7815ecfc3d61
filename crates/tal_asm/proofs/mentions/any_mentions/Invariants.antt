use Rattle.std.proofs.Common.{◌≡◌, drop}
use Rattle.std.specs.List.{flat_map}
use Rattle.tal_names.specs.NameSets.{is_named}
use Rattle.tal_asm.proofs.mentions.any_mentions.Given as goal

-- the items that are left decide
abbrev pub invariant-loop-item : goal.invariant-loop-item
invariant-loop-item g l = is_named (flat_map g.T.Mentions.mentioned (drop l.item-index l.items)) l.name ≡ is_named (flat_map g.T.Mentions.mentioned l.items) l.name
