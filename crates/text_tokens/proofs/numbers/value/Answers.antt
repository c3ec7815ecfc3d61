use Rattle.std.proofs.Common.{◌≡◌, ◌+◌, ◌*◌, ◌^◌, ◌∙◌, min, ap, sym, get_or}
use Rattle.text_tokens.specs.Bytes.{digit_of}
use Rattle.text_tokens.proofs.Digits.{kept, digit_more, all_done}
use Rattle.text_tokens.proofs.numbers.value.Goals as goal
use Rattle.text_tokens.proofs.numbers.value.Goals.{then-value-lt4294967296, else-value-lt4294967296}

pub loop-digit-preserved : goal.loop-digit-preserved
loop-digit-preserved c =
    let ds = c.args.digits.now in
    let i = c.loop-digit.digit-index in
    let v = c.loop-digit.value in
    elim c.if-value-lt4294967296.branch [
      | then-value-lt4294967296 w ↦
          let e : c.if-value-lt4294967296.value ≡ v * c.args.base + digit_of (get_or ds i 0) = w.value-is ∙ ap (λ d. v * c.args.base + d) w.digit_value.ensures.value in
          rw (e, digit_more c.args.base v i ds c.loop-digit-test.true) c.loop-digit.invariant
      | else-value-lt4294967296 w ↦ rw w.value-is (kept c.args.base v i ds c.requires w.if-value-lt4294967296.false ∙ c.loop-digit.invariant)
    ]

pub returns : goal.returns
returns c = ap (λ n. min n (2 ^ 32)) (sym (all_done c.args.base c.loop-digit.value c.loop-digit.digit-index c.args.digits.now c.loop-digit-test.false)) ∙ c.loop-digit.invariant
