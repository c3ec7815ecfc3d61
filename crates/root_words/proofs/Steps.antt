-- One step of each list of words that are still to come.
use Rattle.std.specs.Prelude.{◌↔◌, IsTrue}
use Rattle.std.proofs.Common.{◌≡◌, ◌≢◌, ℕ, zero, suc, ◌+◌, ◌<◌, ◌≤◌, ◌&&◌, not, Bool, true, false, cond, nat_eq, Some, slice_get, List, [], ◌∷◌, ◌++◌, length, drop, get_or, arith, refl, sym, ◌∙◌, ap, subst}
use Rattle.std.proofs.Math.Seq.{drop-cons}
use Rattle.std.proofs.Math.ListN.{drop_of_length-le}
use Rattle.std.proofs.lemmas.Bool.Decides.{nat_tests}
use Rattle.std.specs.Int.{bit_at}
use Rattle.stack_states.specs.declared.stack_state.StackState.{StackState}
use Rattle.frame_tables.specs.FrameRows.{RowAt}
use Rattle.root_words.specs.DataArea.{marked_words}
use Rattle.root_words.specs.Listing.{saved_references, state_words, states_words, IsWalkable, AreWalkable}
use Rattle.root_words.specs.Rest.{rest_words, WalkableFrom}

-- no words, no marked ones
pub marked-short : (marks : List Bool) (words : List ℕ) → length words ≡ 0 → marked_words marks words ≡ []
marked-short [] words e = refl
marked-short (mark ∷ marks) [] e = refl
marked-short (mark ∷ marks) (w ∷ words) e = absurd (omega arith)

-- ---- saved registers

-- the test of a register
abbrev Test : ℕ → ℕ → Bool
Test bits r = nat_eq (bit_at bits r) 1 && not (nat_eq r 4)

test-yes : (bits r : ℕ) → (bit_at bits r ≡ 1) × (r ≢ 4) → Test bits r ≡ true
test-yes bits r (a, b) = let c : nat_eq (bit_at bits r) 1 ≡ true = grind (arith, nat_tests) in let d : nat_eq r 4 ≡ false = grind (arith, nat_tests) in rw (c, d) refl

test-no : (bits r : ℕ) → ((bit_at bits r ≡ 1) × (r ≢ 4) → ⊥) → Test bits r ≡ false
test-no bits r h = go (nat_eq (bit_at bits r) 1) (nat_eq r 4) refl refl
  where
    go : (a b : Bool) → nat_eq (bit_at bits r) 1 ≡ a → nat_eq r 4 ≡ b → a && not b ≡ false
    go true true e f = refl
    go false b e f = refl
    go true false e f = absurd (h (grind (arith, nat_tests), λ g. let z : nat_eq r 4 ≡ true = grind (arith, nat_tests) in cc))

cut : (bits r : ℕ) (regs : List ℕ) → r < length regs
    → saved_references bits r (drop r regs) ≡ cond (Test bits r) (get_or regs r 0 ∷ saved_references bits (r + 1) (drop (r + 1) regs)) (saved_references bits (r + 1) (drop (r + 1) regs))
cut bits r regs l =
    let e : suc r ≡ r + 1 = omega arith in
    let d : drop r regs ≡ get_or regs r 0 ∷ drop (r + 1) regs = drop-cons regs r 0 l ∙ ap (λ k. get_or regs r 0 ∷ drop k regs) e in
    ap (saved_references bits r) d

-- a register that is no root is passed over
pub saved_skip : (bits r : ℕ) (regs : List ℕ) (root : Bool) → r < length regs → (IsTrue root ↔ ((bit_at bits r ≡ 1) × (r ≢ 4))) → root ≡ false
    → saved_references bits r (drop r regs) ≡ saved_references bits (r + 1) (drop (r + 1) regs)
saved_skip bits r regs root l (a, b) e = cut bits r regs l ∙ rw (test-no bits r (λ h. let z : root ≡ true = b h in cc)) refl

-- one that is a root comes first
pub saved_take : (bits r : ℕ) (regs : List ℕ) (root : Bool) → r < length regs → (IsTrue root ↔ ((bit_at bits r ≡ 1) × (r ≢ 4))) → root ≡ true
    → saved_references bits r (drop r regs) ≡ get_or regs r 0 ∷ saved_references bits (r + 1) (drop (r + 1) regs)
saved_take bits r regs root l (a, b) e = cut bits r regs l ∙ rw (test-yes bits r (a e)) refl

-- behind the last register there is none
pub saved_end : (bits r : ℕ) (regs : List ℕ) → length regs ≤ r → saved_references bits r (drop r regs) ≡ []
saved_end bits r regs h = rw (drop_of_length-le regs h) refl

-- ---- stacks

cons-at : {X : Type 0} (xs : List X) (n : ℕ) (x : X) → slice_get xs n ≡ Some x → drop n xs ≡ x ∷ drop (suc n) xs
cons-at [] n x e = cc
cons-at (y ∷ xs) zero x e = let q : y ≡ x = cc in rw q refl
cons-at (y ∷ xs) (suc n) x e = cons-at xs n x e

-- a list from an element on is that element and the list behind it
pub next-at : {X : Type 0} (xs : List X) (n : ℕ) (x : X) → slice_get xs n ≡ Some x → drop n xs ≡ x ∷ drop (n + 1) xs
next-at xs n x e = let s : suc n ≡ n + 1 = omega arith in cons-at xs n x e ∙ ap (λ k. x ∷ drop k xs) s

-- the words of the stacks from one on are its own and then the others'
pub words-cut : (table : List RowAt) (words : List ℕ) (n : ℕ) (xs : List StackState) (x : StackState) → Some x ≡ slice_get xs n
    → rest_words table words n xs ≡ state_words table words n x ++ rest_words table words (n + 1) xs
words-cut table words n xs x e = ap (states_words table words n) (next-at xs n x (sym e))

pub walkable_cut : (table : List RowAt) (words : List ℕ) (n : ℕ) (xs : List StackState) (x : StackState) → Some x ≡ slice_get xs n → WalkableFrom table words n xs
    → IsWalkable table words n x × WalkableFrom table words (n + 1) xs
walkable_cut table words n xs x e h = subst (AreWalkable table words n) (next-at xs n x (sym e)) h

-- a word is taken from the stack that has come
pub took : (old words stack rest first behind marked : List ℕ) (w : ℕ) → words ≡ old → words ≡ stack ++ rest → first ≡ stack → first ≡ w ∷ behind → marked ≡ []
    → old ≡ w ∷ ((marked ++ behind) ++ rest)
took old words stack rest first behind marked w p q a b l = sym p ∙ (q ∙ (ap (λ x. x ++ rest) (sym a ∙ b) ∙ rw l refl))

-- a stack without words is passed over
pub passed : (old words stack rest : List ℕ) → words ≡ old → words ≡ stack ++ rest → stack ≡ [] → rest ≡ old
passed old words stack rest p q a = ap (λ x. x ++ rest) (sym a) ∙ (sym q ∙ p)
