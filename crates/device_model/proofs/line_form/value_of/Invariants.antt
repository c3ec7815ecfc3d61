use Rattle.std.proofs.Common.{◌≡◌, take}
use Rattle.device_model.specs.EventFile.{value}
use Rattle.device_model.specs.EventReading.{capped}
use Rattle.device_model.proofs.line_form.value_of.Given as goal

abbrev pub invariant-loop-digit : goal.invariant-loop-digit
invariant-loop-digit l = l.value ≡ capped (value (take l.digit-index l.digits))
