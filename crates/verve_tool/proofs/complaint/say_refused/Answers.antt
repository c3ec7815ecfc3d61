use Rattle.std.proofs.Common.{append_assoc}
use Rattle.verve_tool.proofs.complaint.say_refused.Goals as goal

pub returns : goal.returns
returns g c = simp append_assoc (rw (← c.word_digits.ensures, ← c.format-rule.ensures.text, ← c.as_bytes.ensures.value) c.say.ensures)
