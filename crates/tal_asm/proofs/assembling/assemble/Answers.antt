use Rattle.unit_files.specs.Unit.{unit_of}
use Rattle.tal_asm.proofs.assembling.assemble.Goals as goal

pub of-requires : goal.of-requires
of-requires c = c.lines_make_units.ensures c.lines.result.now (unit_of c.in-Ok.rows) (c.names_are_names.ensures c.lines.result.now c.lines.ensures.text) c.in-Ok.ensures
