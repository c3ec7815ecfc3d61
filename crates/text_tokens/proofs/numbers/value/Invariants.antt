use Rattle.std.proofs.Common.{◌≡◌, ◌^◌, min, drop}
use Rattle.text_tokens.specs.Numbers.{digits_value}
use Rattle.text_tokens.proofs.numbers.value.Given as goal

abbrev pub invariant-loop-digit : goal.invariant-loop-digit
invariant-loop-digit l = min (digits_value l.base l.value (drop l.digit-index l.digits)) (2 ^ 32) ≡ min (digits_value l.base 0 l.digits) (2 ^ 32)
