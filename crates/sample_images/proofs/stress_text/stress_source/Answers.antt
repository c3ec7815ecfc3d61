use Rattle.std.proofs.Common.{◌≡◌, ◌∙◌, ap, append_assoc, ◌++◌, length, arith}
use Rattle.std.proofs.lemmas.List.{length-append}
use Rattle.sample_images.specs.declared.stress_text.TheConstants.{STRESS_HEAD, STRESS_TAIL}
use Rattle.sample_images.proofs.stress_text.stress_source.Goals as goal

pub returns-clause-text : goal.returns-clause-text
returns-clause-text c =
    let headed = c.in_ok-push_str.ensures.bytes ∙ ap (λ xs. xs ++ STRESS_HEAD.now) c.new-out.ensures.bytes in
    let seeded = c.in_ok-push_str-2.ensures.bytes ∙ ap (λ xs. xs ++ c.format.result.now) headed ∙ ap (λ xs. STRESS_HEAD.now ++ xs) c.format.ensures.text in
    c.in_ok-push_str-3.ensures.bytes ∙ ap (λ xs. xs ++ STRESS_TAIL.now) seeded ∙ append_assoc STRESS_HEAD.now _ STRESS_TAIL.now

pub returns-clause-short : goal.returns-clause-short
returns-clause-short c =
    let digits = c.format.ensures.short in
    let seeded = ap length c.in_ok-push_str-2.ensures.bytes ∙ length-append _ c.format.result.now in
    let headed = ap length c.in_ok-push_str.ensures.bytes ∙ length-append _ STRESS_HEAD.now in
    let all = ap length c.in_ok-push_str-3.ensures.bytes ∙ length-append _ STRESS_TAIL.now in
    let none = ap length c.new-out.ensures.bytes in
    omega arith
