use Rattle.std.proofs.Common.{◌≡◌, ◌<◌, ◌≤◌, ◌++◌, length, arith, replicate, get_or, ℕ, List, [], ◌∷◌, inl, inr, sym, ap, ◌∙◌, append_assoc, append-nil}
use Rattle.std.proofs.lemmas.List.{take_more, take_all}
use Rattle.std.proofs.lemmas.Option.{slice_get_within, get_or_from_slice_get, slice_get_cases}
use Rattle.std.proofs.lemmas.Bool.Decides.{nat_tests}
use Rattle.tal_image.specs.Shown.{shown, data_words}
use Rattle.word_machine.proofs.FirstData.{data_fits}
use Rattle.word_machine.proofs.memory.static_words.Goals as goal

pub loop-word-init : goal.loop-word-init
unfolding shown
loop-word-init c = record {
  within = omega arith;
  so_far = c.in_ok-words.ensures ∙ rw c.statics.ensures (sym (append-nil (replicate (length c.args.image.now.statics) 0)));
}

pub overflow_add-i : goal.overflow_add-i
unfolding data_words
overflow_add-i c =
    let within : c.loop-word.i < length (data_words c.args.image.now) = slice_get_within _ _ _ (sym c.in-Some.ensures) in
    let fits = data_fits _ _ _ c.args.image.now.arrays c.formed.ensures.arrays (grind (arith, nat_tests, c.formed.ensures.condition_7)) in
    omega (arith, within, fits)

pub loop-word-smaller : goal.loop-word-smaller
loop-word-smaller c =
    let within : c.loop-word.i < length (data_words c.args.image.now) = slice_get_within _ _ _ (sym c.in-Some.ensures) in
    omega arith

pub loop-word-preserved : goal.loop-word-preserved
loop-word-preserved c =
    let words = data_words c.args.image.now in
    let within : c.loop-word.i < length words = slice_get_within _ _ _ (sym c.in-Some.ensures) in
    let is : get_or words c.loop-word.i 0 ≡ c.in-Some.word = get_or_from_slice_get words c.loop-word.i c.in-Some.word 0 (sym c.in-Some.ensures) in
    record {
      within = omega arith;
      so_far = rw (take_more words c.loop-word.i 0 within, is)
          (c.in_ok-push.ensures.items ∙ ap (λ (ws : List ℕ). ws ++ c.in-Some.word ∷ []) c.loop-word.invariant.so_far ∙ append_assoc (replicate (length c.args.image.now.statics) 0) _ _);
    }

pub returns : goal.returns
returns c =
    let words = data_words c.args.image.now in
    let ended : length words ≤ c.loop-word.i = elim (slice_get_cases words c.loop-word.i).1 [
      | inl p ↦ absurd (cc (p.2, c.in_default.ensures))
      | inr p ↦ p.0
    ] in
    c.loop-word.invariant.so_far ∙ ap (λ (ws : List ℕ). replicate (length c.args.image.now.statics) 0 ++ ws) (take_all c.loop-word.i words ended)
