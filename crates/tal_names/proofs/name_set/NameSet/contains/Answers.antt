use Rattle.std.proofs.Common.{ap, ◌∙◌}
use Rattle.tal_names.specs.NameSets.{is_named}
use Rattle.tal_names.proofs.NameSetLaws.{named_held}
use Rattle.tal_names.proofs.name_set.NameSet.contains.Goals as goal

pub returns : goal.returns
returns c = c.contains.ensures ∙ named_held c.args.name.now c.self.inside.names.keys ∙ ap (λ ns. is_named ns c.args.name.now) c.self.view_is
