use Rattle.std.proofs.Common.{◌+◌, ◌≤◌, sym, subst}
use Rattle.tal_code.specs.Functions.{most_blocks}
use Rattle.tal_names.specs.Declarations.{names_shown}
use Rattle.tal_code.proofs.Rooms.{block_fits}
use Rattle.tal_code.proofs.unit_code.UnitCode.with_label_line.Goals as goal

pub with_block-requires : goal.with_block-requires
with_block-requires c = subst (λ n. n + 1 ≤ most_blocks) c.block_count.ensures
    (block_fits (names_shown c.args.names.now) c.args.regs.now c.args.slots.now c.args.is_placed c.block_count.result c.in-Ok.types (sym c.in-Ok.ensures))
