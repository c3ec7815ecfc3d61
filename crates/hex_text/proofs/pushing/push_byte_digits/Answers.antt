use Rattle.hex_text.proofs.Pushed.{pushed_byte}
use Rattle.hex_text.proofs.pushing.push_byte_digits.Goals as goal

pub returns : goal.returns
returns c = pushed_byte _ _ _ _ _ c.hex_digit.result c.hex_digit-2.result c.args.byte c.in_ok-push.ensures.bytes c.in_ok-push-2.ensures.bytes
    (c.in_ok-push.ensures.ascii c.hex_digit.ensures.ascii) (c.in_ok-push-2.ensures.ascii c.hex_digit-2.ensures.ascii)
    c.hex_digit.ensures.digit c.hex_digit-2.ensures.digit
