-- Digits behind a text, byte by byte.
use Rattle.std.proofs.Common.{◌≡◌, ℕ, ◌/◌, ◌%◌, List, [], ◌∷◌, ◌++◌, slice_index, refl}
use Rattle.std.specs.Int.{w32, to_be_bytes}
use Rattle.std.proofs.lemmas.List.{append_assoc}
use Rattle.hex.specs.Hex.{encode_with, encode_upper, upper_digits}
use Rattle.hex_text.specs.Words.{word_text}

-- Two digits behind a text are those of a byte.
pub pushed_byte : (old mid new high low : List ℕ) (x y b : ℕ) → mid ≡ old ++ high → new ≡ mid ++ low → high ≡ x ∷ [] → low ≡ y ∷ []
    → x ≡ slice_index upper_digits (b / 16) → y ≡ slice_index upper_digits (b % 16) → new ≡ old ++ encode_upper (b ∷ [])
unfolding encode_with
pushed_byte old mid new high low x y b to_mid to_new is_high is_low is_x is_y =
    rw (to_new, to_mid, is_high, is_low, is_x, is_y) (append_assoc old (slice_index upper_digits (b / 16) ∷ []) (slice_index upper_digits (b % 16) ∷ []))

-- The digits of four bytes behind a text are those of a word.
pub pushed_word : (old first second third new bytes : List ℕ) (w : ℕ) → bytes ≡ to_be_bytes w32 w
    → first ≡ old ++ encode_upper (slice_index bytes 0 ∷ []) → second ≡ first ++ encode_upper (slice_index bytes 1 ∷ [])
    → third ≡ second ++ encode_upper (slice_index bytes 2 ∷ []) → new ≡ third ++ encode_upper (slice_index bytes 3 ∷ [])
    → new ≡ old ++ word_text w
unfolding encode_with
pushed_word old first second third new bytes w e to_first to_second to_third to_new =
    rw (to_new, to_third, to_second, to_first, e) (simp append_assoc refl)
