-- The words of a list of values, where one word of the memory changes, and where the list grows or shrinks at its front.
use Rattle.std.proofs.Common.{◌≡◌, ◌≢◌, ◌⊎◌, inl, inr, ℕ, zero, suc, ◌+◌, ◌*◌, ◌<◌, ◌≤◌, ◌==◌, false, true, Some, arith, refl, sym, ◌∙◌, ap, List, ◌∷◌, length, drop, slice_get, slice_set}
use Rattle.std.proofs.lemmas.Bool.Decides.{nat_tests}
use Rattle.std.proofs.lemmas.Option.{slice_get_within}
use Rattle.typed_machine.specs.Values.{Value, Word}
use Rattle.word_machine.specs.Memory.{MemoryView, word_of}
use Rattle.word_machine.specs.Standing.{HoldsValues}
use Rattle.word_machine.specs.Laws.{WordChanges}
use Rattle.word_machine.proofs.Lists.{set-read, drop-read}

-- an address is that of none of so many words from a base up
abbrev pub Outside : ℕ → ℕ → ℕ → Type 0
Outside a base count = (a < base) ⊎ (base + 4 * count ≤ a)

-- one word of a memory changed
pub record Change (before after : MemoryView) (a w : ℕ) : Type 0 where
  pub written : WordChanges before after a w

module _ {before after : MemoryView} {a w : ℕ} (c : Change before after a w) where
  -- the word at another address stays
  pub word-kept : (b : ℕ) → b ≢ a → word_of after b ≡ word_of before b
  word-kept b other = let e : (b == a) ≡ false = grind (arith, nat_tests) in c.written b ∙ rw e refl

  -- the word at the address is the one that was written
  pub word-put : (b : ℕ) → b ≡ a → word_of after b ≡ Some w
  word-put b is = let e : (b == a) ≡ true = grind (arith, nat_tests) in c.written b ∙ rw e refl

  module _ (places : List ℕ) (base : ℕ) (values : List Value) (h : HoldsValues before places base values) where
    -- words that the address is none of stay
    pub holds-kept : Outside a base (length values) → HoldsValues after places base values
    holds-kept (inl low) k v e = let few = slice_get_within values k v e in word-kept (base + 4 * k) (λ z. omega arith) ∙ h k v e
    holds-kept (inr high) k v e = let few = slice_get_within values k v e in word-kept (base + 4 * k) (λ z. omega arith) ∙ h k v e

    -- the word of one of the values becomes that of another
    pub holds-put : (k : ℕ) (v : Value) → a ≡ base + 4 * k → w ≡ Word places v → HoldsValues after places base (slice_set values k v)
    holds-put k v at is j u e = go (set-read values k j v u e)
      where
        go : ((j ≡ k) × (u ≡ v)) ⊎ ((j ≢ k) × (slice_get values j ≡ Some u)) → word_of after (base + 4 * j) ≡ Some (Word places u)
        go (inl (f, g)) = rw g (word-put (base + 4 * j) (omega arith) ∙ ap Some is)
        go (inr (f, g)) = word-kept (base + 4 * j) (λ z. f (omega arith)) ∙ h j u g

    -- the word below the first becomes that of a value in front
    pub holds-pushed : (v : Value) → base ≡ a + 4 → w ≡ Word places v → HoldsValues after places a (v ∷ values)
    holds-pushed v at is zero u e = let f : v ≡ u = cc in rw (← f) (word-put (a + 4 * 0) (omega arith) ∙ ap Some is)
    holds-pushed v at is (suc k) u e =
        let same : a + 4 * suc k ≡ base + 4 * k = omega arith in rw same (word-kept (base + 4 * k) (λ z. omega arith) ∙ h k u e)

-- the values behind the first so many stand that much further up
pub holds-dropped : (m : MemoryView) (places : List ℕ) (base n : ℕ) (values : List Value) → HoldsValues m places base values
    → HoldsValues m places (base + 4 * n) (drop n values)
holds-dropped m places base n values h k v e =
    let same : base + 4 * n + 4 * k ≡ base + 4 * (n + k) = omega arith in rw same (h (n + k) v (sym (drop-read n values k) ∙ e))
