-- Lines of an event file, one after another.
use Rattle.std.proofs.Common.{◌≡◌, ◌≤◌, ◌<◌, ℕ, List, [], ◌∷◌, length, take, drop, not, eqb, refl, ap, arith, inl, inr}
use Rattle.std.specs.List.{position_or_len}
use Rattle.std.proofs.lemmas.Bool.{cases_Bool}
use Rattle.std.proofs.lemmas.List.Sums.{prefix_len-le-length}
use Rattle.device_model.specs.EventFile.{lines_of, with_first}
use Rattle.device_model.proofs.Lists.{take_one_more, drop_one_more}

-- The first LF stands within the text, or its length is taken.
pub within : (bytes : List ℕ) → position_or_len (λ byte. eqb byte 10) bytes ≤ length bytes
within bytes = prefix_len-le-length (λ byte. not (eqb byte 10)) bytes

-- The lines of a text: what stands before the first LF, and the lines behind it.
pub first_line_is : (bytes : List ℕ) → 0 < length bytes
    → lines_of bytes ≡ take (position_or_len (λ byte. eqb byte 10) bytes) bytes ∷ lines_of (drop 1 (drop (position_or_len (λ byte. eqb byte 10) bytes) bytes))
unfolding lines_of
first_line_is [] some = absurd (omega (arith, some))
first_line_is (b ∷ []) some =
    elim (cases_Bool (eqb b 10)) [
      | inl lf ↦ rw lf refl
      | inr other ↦ rw other refl
    ]
first_line_is (b ∷ c ∷ bytes) some =
    elim (cases_Bool (eqb b 10)) [
      | inl lf ↦ rw lf refl
      | inr other ↦ rw
          (other, take_one_more (position_or_len (λ byte. eqb byte 10) (c ∷ bytes)) b (c ∷ bytes), drop_one_more (position_or_len (λ byte. eqb byte 10) (c ∷ bytes)) b (c ∷ bytes))
          (ap (with_first b) (first_line_is (c ∷ bytes) (omega arith)))
    ]
