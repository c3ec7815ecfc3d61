use Rattle.tal_names.proofs.names.+member_within.Given as goal

abbrev pub decreases-member_within : goal.decreases-member_within
decreases-member_within l = l.levels
