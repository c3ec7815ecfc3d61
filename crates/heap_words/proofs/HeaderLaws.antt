use Rattle.std.proofs.Common.{◌≡◌, ℕ, ◌%◌, ◌<◌, ◌==◌, Bool, true, false, List, get_or-set_same, length, get_or, arith, ap, ◌∙◌}
use Rattle.std.proofs.Math.ListN.{set}
use Rattle.std.proofs.lemmas.Bool.Decides.{nat_tests}
use Rattle.heap_words.specs.Headers.{header_word, size_of, used_of, marked_of, size_at, used_at, marked_at}

-- a bit of 1 is set, and one of 0 is not
is_one : (n : ℕ) → n ≡ 1 → (n == 1) ≡ true
is_one n h = grind (arith, nat_tests)

is_none : (n : ℕ) → n ≡ 0 → (n == 1) ≡ false
is_none n h = grind (arith, nat_tests)

-- what a header word says
pub size-header : (size : ℕ) (used marked : Bool) → size % 4 ≡ 0 → size_of (header_word size used marked) ≡ size
unfolding size_of header_word
size-header size true true h = omega arith
size-header size true false h = omega arith
size-header size false true h = omega arith
size-header size false false h = omega arith

-- a header tells whether its block is used
pub used-header : (size : ℕ) (used marked : Bool) → size % 4 ≡ 0 → used_of (header_word size used marked) ≡ used
unfolding used_of header_word
used-header size true true h = is_one _ (omega arith)
used-header size true false h = is_one _ (omega arith)
used-header size false true h = is_none _ (omega arith)
used-header size false false h = is_none _ (omega arith)

-- a header tells whether its block is marked
pub marked-header : (size : ℕ) (used marked : Bool) → size % 4 ≡ 0 → marked_of (header_word size used marked) ≡ marked
unfolding marked_of header_word
marked-header size true true h = is_one _ (omega arith)
marked-header size true false h = is_none _ (omega arith)
marked-header size false true h = is_one _ (omega arith)
marked-header size false false h = is_none _ (omega arith)

-- a size is a multiple of 4
pub size-mod : (word : ℕ) → size_of word % 4 ≡ 0
unfolding size_of
size-mod word = omega arith

-- a plain size is the header of a free block without a mark
pub whole-size : (n : ℕ) → n % 4 ≡ 0 → size_of n ≡ n
unfolding size_of
whole-size n h = omega arith

-- such a block is free
pub whole-free : (n : ℕ) → n % 4 ≡ 0 → used_of n ≡ false
unfolding used_of
whole-free n h = is_none _ (omega arith)

-- and has no mark
pub whole-plain : (n : ℕ) → n % 4 ≡ 0 → marked_of n ≡ false
unfolding marked_of
whole-plain n h = is_none _ (omega arith)

-- a header with the size that was there
pub size-kept : (word : ℕ) (used marked : Bool) → size_of (header_word (size_of word) used marked) ≡ size_of word
size-kept word used marked = size-header (size_of word) used marked (size-mod word)

-- a header that is written tells the use that was written
pub used-written : (u : List ℕ) (i : ℕ) (used marked : Bool) → i < length u → used_at (set u i (header_word (size_at u i) used marked)) i ≡ used
used-written u i used marked l = ap used_of (get_or-set_same u i _ 0 l) ∙ used-header (size_at u i) used marked (size-mod (get_or u i 0))

-- and the mark that was written
pub marked-written : (u : List ℕ) (i : ℕ) (used marked : Bool) → i < length u → marked_at (set u i (header_word (size_at u i) used marked)) i ≡ marked
marked-written u i used marked l = ap marked_of (get_or-set_same u i _ 0 l) ∙ marked-header (size_at u i) used marked (size-mod (get_or u i 0))
