use Rattle.std.proofs.Common.{ap, ◌∙◌}
use Rattle.tal_names.specs.NameSets.{number_of_name}
use Rattle.tal_names.proofs.NameSetLaws.{number_held}
use Rattle.tal_names.proofs.name_set.NameSet.number.Goals as goal

pub returns-in-Some-clause-number : goal.returns-in-Some-clause-number
returns-in-Some-clause-number c = c.in-Some.ensures.index ∙ number_held c.args.name.now c.self.inside.names.keys ∙ ap (λ ns. number_of_name ns c.args.name.now) c.self.view_is

pub returns-in-None-clause-number : goal.returns-in-None-clause-number
returns-in-None-clause-number c = c.in-None.ensures.index ∙ number_held c.args.name.now c.self.inside.names.keys ∙ ap (λ ns. number_of_name ns c.args.name.now) c.self.view_is
