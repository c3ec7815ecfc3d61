use Rattle.unit_files.proofs.Reading.Words.{table_on, table_done}
use Rattle.unit_files.proofs.code_places.code_table.Goals as goal

pub loop-text-preserved : goal.loop-text-preserved
loop-text-preserved c =
    rw (c.split_at.ensures.back, c.in_ok-put_instruction.ensures) (table_on c.args.code.now c.loop-text.table.items c.loop-text.rest.now c.in-Some.text.now c.in-Some.words c.loop-text.invariant c.in-Some.ensures.some.0 c.in-Some.ensures.some.1 c.in-Some.ensures.spelled)

pub returns : goal.returns
returns c = table_done c.args.code.now c.loop-text.table.items c.loop-text.rest.now c.loop-text.invariant c.in_default.ensures.spelled
