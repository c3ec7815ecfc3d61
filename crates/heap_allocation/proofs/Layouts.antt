-- Laying a fresh object out.
use Rattle.std.proofs.Common.{◌≡◌, ◌≢◌, ℕ, ◌+◌, ◌-◌, ◌<◌, ◌≤◌, ◌%◌, ◌⊎◌, inl, inr, List, length, get_or, get_or-set_other, get_or-set_same, arith, refl, sym, ◌∙◌, ap, subst}
use Rattle.std.proofs.Math.ListN.{set}
use Rattle.std.proofs.lemmas.Bool.{cases_order}
use Rattle.heap_words.specs.Headers.{size_of, used_of, size_at}
use Rattle.heap_words.specs.Blocks.{IsUsed, FormedHeap, IsObjectWord, SameBlocks}
use Rattle.heap_words.specs.Laws.{BlockLaws}
use Rattle.object_layout.specs.declared.rows.Shape.{Shape}
use Rattle.object_layout.specs.declared.rows.Shape.TheVariants.{Class, Kind}
use Rattle.object_layout.specs.Classes.{ShapesView, Need, rounded_up}
use Rattle.mark_sweep.specs.Reached.{Reached}
use Rattle.mark_sweep.specs.Objects.{address}
use Rattle.heap_allocation.specs.Allocations.{fresh_word, KeepsReached, Allocated}
use Rattle.heap_allocation.specs.Steps.{IsFound, Laid}

-- a need is a positive multiple of 4
pub need_rows : (s : ShapesView) (shape : Shape) (n : ℕ) → Need s shape n % 4 ≡ 0
unfolding Need rounded_up
need_rows s (Class c) n = omega arith
need_rows s (Kind q) n = omega arith

pub need_some : (s : ShapesView) (shape : Shape) (n : ℕ) → 0 < Need s shape n
unfolding Need rounded_up
need_some s (Class c) n = omega arith
need_some s (Kind q) n = omega arith

-- nothing is written at first
pub laid-first : (u : List ℕ) (shape : Shape) (n i : ℕ) → Laid u u shape n i 0
laid-first u shape n i = record {
  blocks = record { size = refl; forth = λ _ b. b; back = λ _ b. b; sizes = λ _ _. refl };
  done = λ k l. absurd (omega arith);
  others = λ k h. refl;
}

-- the block stays used
pub laid-used : (u v : List ℕ) (shape : Shape) (n i k : ℕ) → Laid u v shape n i k → IsUsed u i → IsUsed v i
laid-used u v shape n i k p h = record { begins = p.blocks.forth i h.begins; used = ap used_of (p.others i (inl (omega arith))) ∙ h.used }

-- the next word is there, and an object's
pub laid-inside : (u v : List ℕ) (shape : Shape) (n i k : ℕ) → Laid u v shape n i k → IsUsed u i → FormedHeap v → k < size_at u i - 2 → i + 2 + k < length v
laid-inside u v shape n i k p h f l = let w = (f.whole i (p.blocks.forth i h.begins)).within in let c = p.blocks.sizes i h.begins in omega arith

pub laid-object : BlockLaws → (u v : List ℕ) (shape : Shape) (n i k : ℕ) → Laid u v shape n i k → IsUsed u i → k < size_at u i - 2 → IsObjectWord v (i + 2 + k)
laid-object laws u v shape n i k p h l =
    let c = p.blocks.sizes i h.begins in
    let e : i + (2 + k) ≡ i + 2 + k = omega arith in
    subst (IsObjectWord v) e (laws.places.object v i (2 + k) (laid-used u v shape n i k p h) (omega arith) (omega arith))

-- it is written
pub laid-step : (u v w : List ℕ) (shape : Shape) (n i k x : ℕ) → Laid u v shape n i k → IsUsed u i → FormedHeap v → k < size_at u i - 2
    → w ≡ set v (i + 2 + k) x → SameBlocks v w → x ≡ fresh_word shape n k → Laid u w shape n i (k + 1)
laid-step u v w shape n i k x p h f l q b y = record {
  blocks = record {
    size = b.size ∙ p.blocks.size;
    forth = λ j d. b.forth j (p.blocks.forth j d);
    back = λ j d. p.blocks.back j (b.back j d);
    sizes = λ j d. b.sizes j (p.blocks.forth j d) ∙ p.blocks.sizes j d;
  };
  done = λ j d. done j (split j d);
  others = others;
}
  where
    other : (j : ℕ) → j ≢ i + 2 + k → get_or w j 0 ≡ get_or v j 0
    other j d = rw q (get_or-set_other v (i + 2 + k) j x 0 d)

    others : (j : ℕ) → (j < i + 2) ⊎ (i + 2 + (k + 1) ≤ j) → get_or w j 0 ≡ get_or u j 0
    others j (inl d) = other j (λ z. omega arith) ∙ p.others j (inl d)
    others j (inr d) = other j (λ z. omega arith) ∙ p.others j (inr (omega arith))

    split : (j : ℕ) → j < k + 1 → (j < k) ⊎ (j ≡ k)
    split j d = grind arith

    done : (j : ℕ) → (j < k) ⊎ (j ≡ k) → get_or w (i + 2 + j) 0 ≡ fresh_word shape n j
    done j (inl d) = other (i + 2 + j) (λ z. omega arith) ∙ p.done j d
    done j (inr d) = rw (d, q, get_or-set_same v (i + 2 + k) x 0 (laid-inside u v shape n i k p h f l)) y

-- words of other used blocks are not those of the one that is written
laid-off : BlockLaws → (v : List ℕ) (i j k n : ℕ) → IsUsed v i → IsUsed v j → j ≢ i → n + 2 ≤ size_at v i → j ≤ k → k < j + size_at v j → (k < i + 2) ⊎ (i + 2 + n ≤ k)
laid-off laws v i j k n h b d r l g = choose (cases_order i j)
  where
    choose : (i ≡ j) ⊎ ((i < j) ⊎ (j < i)) → (k < i + 2) ⊎ (i + 2 + n ≤ k)
    choose (inl e) = absurd (d (sym e))
    choose (inr (inl m)) = let a = laws.places.apart v i j h.begins b.begins m in inr (omega arith)
    choose (inr (inr m)) = let a = laws.places.apart v j i b.begins h.begins m in inl (omega arith)

module _ (laws : BlockLaws) (s : ShapesView) (u list v w : List ℕ) (shape : Shape) (n i : ℕ) (f : FormedHeap v) (k : KeepsReached s u list v) (t : IsFound s u list v (Need s shape n) i) (p : Laid v w shape n i (size_at v i - 2)) where
  -- a reached block is not the one that was found
  reached-other : (j : ℕ) → Reached s u list j → j ≢ i
  reached-other j r e =
      let h = (f.whole j (k.used j r).begins).positive in
      let z = k.sizes j r in
      let a = need_some s shape n in
      t.clear.clear j (omega arith) (omega arith) (record { block = j; reached = r; behind = omega arith; before = omega arith })

  -- so its words stay
  reached-off : (j a : ℕ) → Reached s u list j → j ≤ a → a < j + size_at u j → get_or w a 0 ≡ get_or v a 0
  reached-off j a r l m =
      let z = laws.places.room v i f t.used.begins in
      let four = z.four in
      p.others a (laid-off laws v i j a (size_at v i - 2) t.used (k.used j r) (reached-other j r) (omega arith) l (rw (k.sizes j r) m))

  -- its header too
  reached-front : (j : ℕ) → Reached s u list j → get_or w j 0 ≡ get_or v j 0
  reached-front j r =
      let h = (f.whole j (k.used j r).begins).positive in
      let z = k.sizes j r in
      reached-off j j r (omega arith) (omega arith)

  -- reached blocks stay
  pub laid-keeps : KeepsReached s u list w
  laid-keeps = record {
    size = p.blocks.size ∙ k.size;
    used = λ j r. let h = k.used j r in record { begins = p.blocks.forth j h.begins; used = ap used_of (reached-front j r) ∙ h.used };
    sizes = λ j r. ap size_of (reached-front j r) ∙ k.sizes j r;
    words = λ j a r l m. reached-off j a r (omega arith) m ∙ k.words j a r l m;
  }

  -- and a fresh object stands in it
  pub laid-allocated : (at : ℕ) → at ≡ address i → Allocated s u list w shape n at
  laid-allocated at e = record {
    block = i;
    named = e;
    clear = t.clear;
    row = t.row;
    fresh = record {
      used = laid-used v w shape n i _ p t.used;
      exact = p.blocks.sizes i t.used.begins ∙ t.exact;
      fresh = λ a l. let z = t.exact in p.done a (omega arith);
    };
  }
