use Rattle.hex_text.proofs.Pushed.{pushed_word}
use Rattle.hex_text.proofs.pushing.push_word_digits.Goals as goal

pub returns : goal.returns
returns c = pushed_word _ _ _ _ _ c.to_be_bytes.result c.args.word c.to_be_bytes.ensures
    c.in_ok-push_byte_digits.ensures c.in_ok-push_byte_digits-2.ensures c.in_ok-push_byte_digits-3.ensures c.in_ok-push_byte_digits-4.ensures
