-- Bytes with 0 in a word.
use Rattle.std.proofs.Common.{◌≡◌, ℕ, ◌+◌, ◌-◌, ◌≤◌, List, ◌++◌, length, take, drop, Option, Some, None, refl, sym, ap, ◌∙◌, arith}
use Rattle.std.specs.Prelude.{IfSome}
use Rattle.std.proofs.Math.Seq.{take-add}
use Rattle.std.proofs.lemmas.List.{length-append, length-take-le, length-drop, drop-drop, append_assoc, take-append-drop, take_at, drop_at}
use Rattle.tal_code.specs.declared.holes.HolePlace.{HolePlace}
use Rattle.tal_code.specs.declared.holes.HoledCode.{HoledCode}
use Rattle.tal_code.specs.Holes.{zero_word, zeroed, zeroed_hole, open_bytes, PlacesWithin}

-- A word that is written behind a start is written into what is behind it.
pub cleared : (start k n : ℕ) (xs word : List ℕ) → word ≡ zero_word → n ≡ 4
    → take (start + k) xs ++ (word ++ drop n (drop (start + k) xs)) ≡ take start xs ++ zeroed k (drop start xs)
unfolding zeroed
cleared start k n xs word is four =
    rw (is, four, take-add start k xs, sym (drop-drop k start xs)) (append_assoc (take start xs) (take k (drop start xs)) (zero_word ++ drop 4 (drop k (drop start xs))))

-- The three parts of bytes, one of them a word, are all of them.
parts : (k n a b : ℕ) → k + 4 ≤ n → a ≡ k → b ≡ n - k - 4 → a + (4 + b) ≡ n
parts k n a b le first last = rw (first, last) (omega (arith, le))

-- A word that is cleared has as many bytes as before.
pub length-zeroed : (k : ℕ) (xs : List ℕ) → k + 4 ≤ length xs → length (zeroed k xs) ≡ length xs
unfolding zeroed
length-zeroed k xs le =
    (length-append (take k xs) (zero_word ++ drop 4 (drop k xs)) ∙ ap (λ n. length (take k xs) + n) (length-append zero_word (drop 4 (drop k xs))))
    ∙ parts k (length xs) (length (take k xs)) (length (drop 4 (drop k xs))) le (length-take-le k xs (omega (arith, le))) (length-drop 4 (drop k xs) ∙ ap (λ n. n - 4) (length-drop k xs))

-- The same of a hole.
pub length-zeroed_hole : (p : Option HolePlace) (xs : List ℕ) → IfSome p (λ (x : HolePlace). x.at + 4 ≤ length xs) → length (zeroed_hole p xs) ≡ length xs
unfolding zeroed_hole
length-zeroed_hole None xs le = refl
length-zeroed_hole (Some p) xs le = length-zeroed p.at xs le

-- An instruction's bytes with 0 in its holes are as many.
pub length-open_bytes : (c : HoledCode) → PlacesWithin c → length (open_bytes c) ≡ length c.bytes
unfolding open_bytes
length-open_bytes c within =
    let near = length-zeroed_hole c.near c.bytes within.near in
    length-zeroed_hole c.far (zeroed_hole c.near c.bytes) (rw near within.far) ∙ near

-- A list that was put in front of the end of nothing is that list.
pub whole : (n : ℕ) (xs ys : List ℕ) → length xs ≡ n → take n (xs ++ drop (length xs) ys) ≡ xs
whole n xs ys is = take_at xs (drop (length xs) ys) n is

-- A hole is cleared behind the bytes before it.
pub cleared_behind : (old bytes : List ℕ) (start : ℕ) (p : Option HolePlace) → start ≡ length old
    → take start (old ++ bytes) ++ zeroed_hole p (drop start (old ++ bytes)) ≡ old ++ zeroed_hole p bytes
cleared_behind old bytes start p is = rw (take_at old bytes start (sym is), drop_at old bytes start (sym is)) refl

-- Both holes are cleared behind the bytes before them.
pub opened : (old x a b : List ℕ) (start : ℕ) (c : HoledCode) → x ≡ old ++ c.bytes → start ≡ length old
    → a ≡ take start x ++ zeroed_hole c.near (drop start x) → b ≡ take start a ++ zeroed_hole c.far (drop start a) → b ≡ old ++ open_bytes c
unfolding open_bytes
opened old x a b start c is at first second =
    let near = first ∙ ap (λ y. take start y ++ zeroed_hole c.near (drop start y)) is ∙ cleared_behind old c.bytes start c.near at in
    second ∙ ap (λ y. take start y ++ zeroed_hole c.far (drop start y)) near ∙ cleared_behind old (zeroed_hole c.near c.bytes) start c.far at
