-- Words that hold values, as lists.
use Rattle.std.proofs.Common.{◌≡◌, ◌≤◌, ◌+◌, ℕ, zero, suc, Bool, true, false, if◌then◌else◌, List, [], ◌∷◌, ◌++◌, map, length, take, drop, slice_get, Some, refl, ◌∙◌, arith}
use Rattle.typed_machine.specs.Values.{Value, Word}
use Rattle.root_words.specs.Standing.{WordsHold}

-- the first words are those of the values
abbrev pub Front : List ℕ → List ℕ → List Value → Type 0
Front words places values = (k : ℕ) (v : Value) → slice_get values k ≡ Some v → slice_get words k ≡ Some (Word places v)

-- behind the first so many words of a list the others keep their order
drop-read : {X : Type 0} (n : ℕ) (xs : List X) (k : ℕ) → slice_get (drop n xs) k ≡ slice_get xs (n + k)
drop-read zero xs k = let e : 0 + k ≡ k = omega arith in rw e refl
drop-read (suc n) [] k = refl
drop-read (suc n) (x ∷ xs) k = let e : suc n + k ≡ suc (n + k) = omega arith in rw e (drop-read n xs k)

-- words that hold values from a number on begin with theirs there
pub front : (words places : List ℕ) (first : ℕ) (values : List Value) → WordsHold words places first values → Front (drop first words) places values
front words places first values h k v e = drop-read first words k ∙ h k v e

-- the first word is the first value's
pub front-head : (w : ℕ) (words places : List ℕ) (v : Value) (values : List Value) → Front (w ∷ words) places (v ∷ values) → w ≡ Word places v
front-head w words places v values h = let e : Some w ≡ Some (Word places v) = h 0 v refl in cc

-- and the others are those of the others
pub front-tail : (w : ℕ) (words places : List ℕ) (v : Value) (values : List Value) → Front (w ∷ words) places (v ∷ values) → Front words places values
front-tail w words places v values h k u e = h (suc k) u e

-- where there are values there are words
pub front-none : (places : List ℕ) (v : Value) (values : List Value) → Front [] places (v ∷ values) → ⊥
front-none places v values h = let e = h 0 v refl in absurd cc

-- there are as many words at least
pub front-long : (words places : List ℕ) (values : List Value) → Front words places values → length values ≤ length words
front-long words places [] h = omega arith
front-long [] places (v ∷ values) h = absurd (front-none places v values h)
front-long (w ∷ words) places (v ∷ values) h = let more = front-long words places values (front-tail w words places v values h) in omega (arith, more)

-- and the first ones are the words of the values
pub front-words : (words places : List ℕ) (values : List Value) → Front words places values → take (length values) words ≡ map (Word places) values
front-words words places [] h = refl
front-words [] places (v ∷ values) h = absurd (front-none places v values h)
front-words (w ∷ words) places (v ∷ values) h =
    rw (front-head w words places v values h, front-words words places values (front-tail w words places v values h)) refl

-- a value that is listed by a test, and its word
pub words-if : (places : List ℕ) (b : Bool) (v : Value) (values : List Value)
    → (if b then Word places v ∷ map (Word places) values else map (Word places) values) ≡ map (Word places) (if b then v ∷ values else values)
words-if places true v values = refl
words-if places false v values = refl

-- the same before further words
pub words-if-before : (places : List ℕ) (b : Bool) (v : Value) (values : List Value) (more : List ℕ)
    → (if b then Word places v ∷ (map (Word places) values ++ more) else map (Word places) values ++ more) ≡ map (Word places) (if b then v ∷ values else values) ++ more
words-if-before places true v values more = refl
words-if-before places false v values more = refl
