use Rattle.tal_names.proofs.names.+lineage_length.Given as goal

abbrev pub decreases-lineage_length : goal.decreases-lineage_length
decreases-lineage_length l = l.levels
