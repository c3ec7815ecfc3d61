use Rattle.unit_files.specs.CodeWords.{byte_by}
use Rattle.unit_files.proofs.Reading.Words.{put_more}
use Rattle.unit_files.proofs.code_places.put_instruction.Goals as goal

pub loop-place-preserved : goal.loop-place-preserved
loop-place-preserved c = rw (c.in_ok-push.ensures.items, c.loop-place.invariant, c.byte_by.ensures) (put_more (byte_by c.args.words c.args.text.now) c.args.table.now.items c.loop-place.place)
