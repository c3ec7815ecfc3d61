use Rattle.free_index.proofs.SizeClasses.{class_small, class_large}
use Rattle.free_index.proofs.laws.class_rule.Goals as goal

pub returns-clause-small : goal.returns-clause-small
returns-clause-small c = class_small

pub returns-clause-large : goal.returns-clause-large
returns-clause-large c = class_large
