use Rattle.std.proofs.Common.{append-nil}
use Rattle.verve_tool.proofs.complaint.say_events.Goals as goal

pub returns : goal.returns
returns g c = rw (← c.format-line.ensures.text, ← c.as_bytes.ensures.value) (rw (append-nil c.args.what.now) at c.say.ensures)
