-- Hexadecimal digits, byte by byte.
use Rattle.std.proofs.Common.{◌≡◌, ℕ, zero, suc, ◌*◌, ◌/◌, ◌%◌, ◌≤◌, List, [], ◌∷◌, ◌++◌, length, take, drop, slice_index, nat_lt, true, refl, sym, ap, subst, arith}
use Rattle.std.specs.Int.{w32, to_be_bytes}
use Rattle.std.specs.Str.{IsAscii, IsUtf8, IsCharBoundary}
use Rattle.std.specs.List.{list_all}
use Rattle.std.proofs.lemmas.Bool.{and_parts, ltb-true}
use Rattle.std.proofs.lemmas.List.{append_assoc}
use Rattle.std.proofs.lemmas.Str.Ascii.{IsAscii-nil, IsAscii-cons}
use Rattle.std.proofs.lemmas.Str.{IsUtf8-from_ascii, IsCharBoundary-from_ascii}
use Rattle.hex.specs.Hex.{encode_with, encode_upper, upper_digits}
use Rattle.hex.proofs.HexLemmas.{length-encode_with, IsAscii-encode_with}

-- The digits of bytes are those of the first and then those of the others.
pub encode_with-append : (t xs ys : List ℕ) → encode_with t (xs ++ ys) ≡ encode_with t xs ++ encode_with t ys
unfolding encode_with
encode_with-append t [] ys = refl
encode_with-append t (b ∷ xs) ys = ap (λ (z : List ℕ). slice_index t (b / 16) ∷ slice_index t (b % 16) ∷ z) (encode_with-append t xs ys)

-- So many bytes in front have twice as many digits.
take-encode_with : (t xs : List ℕ) (n : ℕ) → take (2 * n) (encode_with t xs) ≡ encode_with t (take n xs)
unfolding encode_with
take-encode_with t xs zero = refl
take-encode_with t [] (suc n) = let e : 2 * suc n ≡ suc (suc (2 * n)) = omega arith in rw e refl
take-encode_with t (b ∷ xs) (suc n) = let e : 2 * suc n ≡ suc (suc (2 * n)) = omega arith in
    rw e (ap (λ (z : List ℕ). slice_index t (b / 16) ∷ slice_index t (b % 16) ∷ z) (take-encode_with t xs n))

-- And so have those that are passed over.
drop-encode_with : (t xs : List ℕ) (n : ℕ) → drop (2 * n) (encode_with t xs) ≡ encode_with t (drop n xs)
unfolding encode_with
drop-encode_with t xs zero = refl
drop-encode_with t [] (suc n) = let e : 2 * suc n ≡ suc (suc (2 * n)) = omega arith in rw e refl
drop-encode_with t (b ∷ xs) (suc n) = let e : 2 * suc n ≡ suc (suc (2 * n)) = omega arith in rw e (drop-encode_with t xs n)

-- Bytes that pass the test are ASCII.
ascii_by_test : (bytes : List ℕ) → list_all (λ b. nat_lt b 128) bytes ≡ true → IsAscii bytes
ascii_by_test [] h = IsAscii-nil
ascii_by_test (b ∷ bytes) h =
    let parts = and_parts (nat_lt b 128) (list_all (λ b. nat_lt b 128) bytes) h in
    IsAscii-cons b bytes (ltb-true b 128 parts.0) (ascii_by_test bytes parts.1)

-- Digits are ASCII.
digits_are_ascii : (text bytes : List ℕ) → text ≡ encode_upper bytes → IsAscii text
digits_are_ascii text bytes e = subst IsAscii (sym e) (IsAscii-encode_with upper_digits bytes (ascii_by_test upper_digits refl))

-- So they are a text.
pub digits_are_text : (text bytes : List ℕ) → text ≡ encode_upper bytes → IsUtf8 text
digits_are_text text bytes e = IsUtf8-from_ascii text (digits_are_ascii text bytes e)

-- And they may be cut behind each byte.
pub cut_of_digits : (text bytes : List ℕ) (n : ℕ) → text ≡ encode_upper bytes → n ≤ length bytes → IsCharBoundary text (2 * n)
cut_of_digits text bytes n e fits =
    IsCharBoundary-from_ascii text (2 * n) (digits_are_ascii text bytes e) (omega (arith, ap length e, length-encode_with upper_digits bytes))

-- The digits of the bytes in front.
pub front_of_digits : (text front bytes first : List ℕ) (n : ℕ) → text ≡ encode_upper bytes → front ≡ take (2 * n) text → first ≡ take n bytes → front ≡ encode_upper first
front_of_digits text front bytes first n e is_front is_first = rw (is_front, is_first, e) (take-encode_with upper_digits bytes n)

-- The digits of the bytes behind them.
pub rest_of_digits : (text rest bytes later : List ℕ) (n : ℕ) → text ≡ encode_upper bytes → rest ≡ drop (2 * n) text → later ≡ drop n bytes → rest ≡ encode_upper later
rest_of_digits text rest bytes later n e is_rest is_later = rw (is_rest, is_later, e) (drop-encode_with upper_digits bytes n)
