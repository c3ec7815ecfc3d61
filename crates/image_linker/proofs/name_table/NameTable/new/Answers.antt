use Rattle.std.proofs.Common.{map, ap}
use Rattle.image_linker.specs.RowMentions.{first_mentions, names_in}
use Rattle.image_linker.specs.NameRows.{name_row}
use Rattle.image_linker.proofs.name_table.NameTable.new.Goals as goal

pub returns : goal.returns
unfolding first_mentions names_in
returns c = ap (map name_row) c.new.ensures.empty
