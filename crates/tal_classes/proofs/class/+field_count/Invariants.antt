use Rattle.tal_classes.proofs.class.+field_count.Given as goal

abbrev pub decreases-field_count : goal.decreases-field_count
decreases-field_count l = l.levels
