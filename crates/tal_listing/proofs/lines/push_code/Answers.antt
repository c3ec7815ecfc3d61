use Rattle.std.proofs.Common.{◌≡◌, ℕ, ◌+◌, None, refl, sym, ap, ◌∙◌, arith}
use Rattle.ia32_code.specs.declared.instruction.Inst.{Inst}
use Rattle.ia32_code.specs.declared.decoding.Decoded.{Decoded}
use Rattle.ia32_code.specs.declared.decoding.Decoded.TheVariants.{One, Short, Unknown}
use Rattle.ia32_code.specs.Decoding.{instruction_of}
use Rattle.tal_listing.proofs.Digits.{digits_are_text, cut_of_digits, front_of_digits, rest_of_digits}
use Rattle.tal_listing.proofs.CodeLines.{line_is_written, all_is_written}
use Rattle.tal_listing.proofs.lines.push_code.Goals as goal

pub split_at-requires-in-One : goal.split_at-requires-in-One
split_at-requires-in-One c = cut_of_digits c.loop-inst.left.now c.loop-inst.rest.now c.in-One.len c.loop-inst.invariant.digits (c.in-One.ensures.answers.1)

pub push_line-requires-clause-digits : goal.push_line-requires-clause-digits
push_line-requires-clause-digits c = front_of_digits _ _ c.loop-inst.rest.now _ c.in-One.len c.loop-inst.invariant.digits c.split_at-in-One.ensures.front c.split_at.ensures.front

pub loop-inst-preserved : goal.loop-inst-preserved
loop-inst-preserved c =
    let a = c.in-One.ensures.answers in
    let digits = rest_of_digits _ _ c.loop-inst.rest.now _ c.in-One.len c.loop-inst.invariant.digits c.split_at-in-One.ensures.back c.split_at.ensures.back in
    record {
      text = digits_are_text _ _ digits;
      written = line_is_written _ _ _ c.loop-inst.at _ c.loop-inst.rest.now _ _ c.in-One.inst c.in-One.len (sym c.in-One.ensures.one) a.0 a.1
          c.split_at.ensures.front c.split_at.ensures.back (ap (λ (n : ℕ). c.loop-inst.at + n) c.from-at.ensures) c.in_ok-push_line.ensures c.loop-inst.invariant.written;
      digits = digits;
      room = omega (arith, c.from-at.ensures, c.split_at.ensures.back_len, c.loop-inst.invariant.room);
    }

-- an answer that is no instruction
not_one : (d : Decoded) → ((i : Inst) (n : ℕ) → d ≡ One i n → ⊥) → instruction_of d ≡ None
not_one (One i n) h = absurd (h i n refl)
not_one Short h = refl
not_one Unknown h = refl

pub returns : goal.returns
returns c = all_is_written _ _ c.loop-inst.at c.loop-inst.rest.now (ap instruction_of (sym c.decode.ensures.one) ∙ not_one c.decode.result c.in_default.not-One) c.loop-inst.invariant.written
