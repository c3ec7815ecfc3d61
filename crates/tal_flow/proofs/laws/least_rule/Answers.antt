use Rattle.tal_flow.proofs.LeastRules.{rule_least, least_rule_given, rule_none, none-rule}
use Rattle.tal_flow.proofs.laws.least_rule.Goals as goal

pub returns-clause-least : goal.returns-clause-least
returns-clause-least c = λ v d pc inst len n. (rule_least v d pc inst len n, least_rule_given v d pc inst len n)

pub returns-clause-none : goal.returns-clause-none
returns-clause-none c = λ v d pc inst len. (rule_none v d pc inst len, none-rule v d pc inst len)
