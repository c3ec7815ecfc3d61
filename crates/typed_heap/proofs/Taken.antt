-- Words of the heap that lie in blocks of reached objects, and legal answers.
use Rattle.std.proofs.Common.{◌≡◌, ℕ, zero, suc, ◌+◌, ◌-◌, ◌*◌, ◌/◌, ◌%◌, ◌<◌, ◌≤◌, ◌⊎◌, ◌↔◌, ◌&&◌, ◌==◌, inl, inr, Bool, true, false, cond, not, nat_le, nat_lt, Some, List, [], ◌∷◌, length, drop, slice_get, arith, refl, sym, ◌∙◌, ap, subst}
use Rattle.std.specs.List.{list_any}
use Rattle.std.proofs.lemmas.Bool.{false≢true}
use Rattle.std.proofs.lemmas.Bool.Decides.{nat_tests}
use Rattle.std.proofs.lemmas.Option.{slice_get_past}
use Rattle.heap_words.specs.Headers.{size_at}
use Rattle.object_layout.specs.Areas.{heap_start}
use Rattle.object_layout.specs.Classes.{ShapesView, Need, rounded_up}
use Rattle.object_layout.specs.declared.rows.Shape.{Shape}
use Rattle.object_layout.specs.declared.rows.Shape.TheVariants.{Class, Kind}
use Rattle.mark_sweep.specs.Objects.{address}
use Rattle.mark_sweep.specs.Collections.{LiesInReached}
use Rattle.heap_allocation.specs.Allocations.{IsClear, NoGap}
use Rattle.tal_image.specs.Image.{ImageParts}
use Rattle.tal_image.specs.Shown.{shown}
use Rattle.typed_machine.specs.Values.{Value, ObjectShape}
use Rattle.typed_machine.specs.Stores.{Object, Store, need}
use Rattle.typed_machine.specs.States.{State}
use Rattle.typed_machine.specs.Placing.{Placed, Refused, WordRun, block_of, lies_in_block, is_taken, runs_from, Gaps, lies_in, Legal}
use Rattle.typed_heap.specs.Standing.{ObjectStands, reached_by, RootsStand, ReachedObject}
use Rattle.typed_heap.specs.Laws.{Agrees}
use Rattle.typed_heap.proofs.ShapeWords.{address-block}
use Rattle.typed_heap.proofs.Runs.{RunFound, run-found, words-lie}

-- ---- blocks

-- the block of an object at the address of a block
pub block-address : (b : ℕ) → block_of (address b) ≡ b
unfolding address
block-address b = omega arith

-- an address is behind the first block's header, and a row of 4 words begins 8 bytes before it where the block does
address-start : (b : ℕ) → nat_le (heap_start + 8) (address b) ≡ true
unfolding address
address-start b = grind (arith, nat_tests)

address-row : (b : ℕ) → b % 4 ≡ 0 → ((address b - heap_start) % 16 == 8) ≡ true
unfolding address
address-row b row = let e : (heap_start + 4 * (b + 2) - heap_start) % 16 ≡ 8 = omega arith in rw e refl

-- what follows the first n things of a list
pub drop-get : {X : Type 0} (n m : ℕ) (xs : List X) → slice_get (drop n xs) m ≡ slice_get xs (n + m)
drop-get zero m xs = ap (slice_get xs) (omega arith)
drop-get (suc n) m [] = slice_get_past [] m (omega arith) ∙ sym (slice_get_past [] (suc n + m) (omega arith))
drop-get (suc n) m (x ∷ xs) = drop-get n m xs ∙ (let e : suc (n + m) ≡ suc n + m = omega arith in ap (slice_get (x ∷ xs)) e)

-- word k lies in the block of an object of a list, whose numbers begin with i
pub record InBlock (s : ShapesView) (reached : ℕ → Bool) (i : ℕ) (store : Store) (k : ℕ) : Type 0 where
  pub number : ℕ
  pub object : Object
  pub is : slice_get store number ≡ Some object
  pub reaches : reached (i + number) ≡ true
  pub behind : block_of object.place ≤ k
  pub before : k < block_of object.place + need s object.shape

at-least : (a b : ℕ) → nat_le a b ≡ true → a ≤ b
at-least a b h = grind (arith, nat_tests)

less : (a b : ℕ) → nat_lt a b ≡ true → a < b
less a b h = grind (arith, nat_tests)

both : (a b : Bool) → (a && b) ≡ true → (a ≡ true) × (b ≡ true)
both true b h = (refl, h)
both false b h = absurd (false≢true h)

later-block : (s : ShapesView) (reached : ℕ → Bool) (i : ℕ) (o : Object) (store : Store) (k : ℕ) → InBlock s reached (i + 1) store k → InBlock s reached i (o ∷ store) k
later-block s reached i o store k q = record { number = suc q.number; object = q.object; is = q.is; reaches = ap reached (let e : i + suc q.number ≡ i + 1 + q.number = omega arith in e) ∙ q.reaches; behind = q.behind; before = q.before }

pub lies-found : (s : ShapesView) (reached : ℕ → Bool) (i : ℕ) (store : Store) (k : ℕ) → lies_in_block s reached i store k ≡ true → InBlock s reached i store k
lies-found s reached i [] k h = absurd (false≢true h)
lies-found s reached i (o ∷ store) k h = go (reached i && (nat_le (block_of o.place) k && nat_lt k (block_of o.place + need s o.shape))) refl h (λ g. later-block s reached i o store k (lies-found s reached (i + 1) store k g))
  where
    here : reached i && (nat_le (block_of o.place) k && nat_lt k (block_of o.place + need s o.shape)) ≡ true → InBlock s reached i (o ∷ store) k
    here e =
        let p = both (reached i) (nat_le (block_of o.place) k && nat_lt k (block_of o.place + need s o.shape)) e in
        let q = both (nat_le (block_of o.place) k) (nat_lt k (block_of o.place + need s o.shape)) p.1 in
        record { number = 0; object = o; is = refl; reaches = ap reached (let e : i + 0 ≡ i = omega arith in e) ∙ p.0; behind = at-least (block_of o.place) k q.0; before = less k (block_of o.place + need s o.shape) q.1 }

    go : (b : Bool) → reached i && (nat_le (block_of o.place) k && nat_lt k (block_of o.place + need s o.shape)) ≡ b → cond b true (lies_in_block s reached (i + 1) store k) ≡ true
        → (lies_in_block s reached (i + 1) store k ≡ true → InBlock s reached i (o ∷ store) k) → InBlock s reached i (o ∷ store) k
    go true e g more = here e
    go false e g more = more g

pub found-lies : (s : ShapesView) (reached : ℕ → Bool) (i : ℕ) (store : Store) (k m : ℕ) (o : Object) → slice_get store m ≡ Some o → reached (i + m) ≡ true → block_of o.place ≤ k → k < block_of o.place + need s o.shape
    → lies_in_block s reached i store k ≡ true
found-lies s reached i [] k m o e r a b = cc
found-lies s reached i (p ∷ store) k zero o e r a b =
    let same : p ≡ o = cc in
    let x : nat_le (block_of o.place) k ≡ true = grind (arith, nat_tests) in
    let y : nat_lt k (block_of o.place + need s o.shape) ≡ true = grind (arith, nat_tests) in
    let z : reached i ≡ true = ap reached (let e : i ≡ i + 0 = omega arith in e) ∙ r in
    rw (same, x, y, z) refl
found-lies s reached i (p ∷ store) k (suc m) o e r a b =
    go (reached i && (nat_le (block_of p.place) k && nat_lt k (block_of p.place + need s p.shape))) (found-lies s reached (i + 1) store k m o e (ap reached (let e : i + 1 + m ≡ i + suc m = omega arith in e) ∙ r) a b)
  where
    go : (c : Bool) → lies_in_block s reached (i + 1) store k ≡ true → cond c true (lies_in_block s reached (i + 1) store k) ≡ true
    go true h = refl
    go false h = h

-- ---- words

module _ (image : ImageParts) (s : State) (roots : List Value) (words list : List ℕ) (r : RootsStand image s roots words list) (agrees : Agrees image s roots words list) where
  -- a reached object stands in its block, which has its need
  stands-at : (block : ℕ) (o : ReachedObject image s roots block) → size_at words block ≡ need (shown image).shapes o.object.shape
  stands-at block o =
      let q = r.stands o.number o.object o.reached o.behind o.is in
      let same : q.block ≡ block = address-block q.block block (sym q.placed ∙ o.placed) in
      ap (size_at words) (sym same) ∙ q.exact

  -- a word is taken where it lies in a reached block
  taken-lies : (k : ℕ) → is_taken image (reached_by image s.store roots) s k ≡ true → LiesInReached (shown image).shapes words list k
  taken-lies k h =
      let q = lies-found (shown image).shapes (reached_by image s.store roots) (length image.arrays) (drop (length image.arrays) s.store) k h in
      let is : slice_get s.store (length image.arrays + q.number) ≡ Some q.object = sym (drop-get (length image.arrays) q.number s.store) ∙ q.is in
      let z = r.stands (length image.arrays + q.number) q.object q.reaches (omega arith) is in
      let at : block_of q.object.place ≡ z.block = ap block_of z.placed ∙ block-address z.block in
      let low = q.behind in
      let high = q.before in
      let size = z.exact in
      record {
        block = z.block;
        reached = (agrees.reached z.block).1 (record { number = length image.arrays + q.number; object = q.object; is = is; behind = omega arith; reached = q.reaches; placed = z.placed });
        behind = omega arith;
        before = omega arith;
      }

  lies-taken : (k : ℕ) → LiesInReached (shown image).shapes words list k → is_taken image (reached_by image s.store roots) s k ≡ true
  lies-taken k w =
      let o = (agrees.reached w.block).0 w.reached in
      let m = o.number - length image.arrays in
      let behind = o.behind in
      let back : length image.arrays + m ≡ o.number = omega arith in
      let at : block_of o.object.place ≡ w.block = ap block_of o.placed ∙ block-address w.block in
      let size = stands-at w.block o in
      let low = w.behind in
      let high = w.before in
      found-lies (shown image).shapes (reached_by image s.store roots) (length image.arrays) (drop (length image.arrays) s.store) k m o.object
      (drop-get (length image.arrays) m s.store ∙ (ap (slice_get s.store) back ∙ o.is)) (ap (reached_by image s.store roots) back ∙ o.reached) (omega arith) (omega arith)

  not-taken : (k : ℕ) → (LiesInReached (shown image).shapes words list k → ⊥) → is_taken image (reached_by image s.store roots) s k ≡ false
  not-taken k h = go (is_taken image (reached_by image s.store roots) s k) refl
    where
      go : (b : Bool) → is_taken image (reached_by image s.store roots) s k ≡ b → b ≡ false
      go true e = absurd (h (taken-lies k e))
      go false e = refl

  -- ---- legal answers

  -- where no words are clear, a refusal is legal
  pub refusal_legal : (need : ℕ) → NoGap (shown image).shapes words list need → Legal (Gaps image roots s) need Refused ≡ true
  unfolding Legal Gaps
  refusal_legal need g = go (list_any (λ (run : WordRun). nat_le need run.count) (runs_from (is_taken image (reached_by image s.store roots) s) 0 0 image.heap_words)) refl
    where
      none : (j : ℕ) → 0 - 0 ≤ j → j < 0 → is_taken image (reached_by image s.store roots) s j ≡ false
      none j a b = absurd (omega arith)

      clear : RunFound (is_taken image (reached_by image s.store roots) s) (0 - 0) (0 + image.heap_words) (λ (run : WordRun). nat_le need run.count) → ⊥
      clear q =
          let fits = at-least need q.run.count q.passes in
          let to = q.to in
          let size = r.size in
          g q.run.first (record { within = omega arith; clear = λ k a b t. let x = lies-taken k t in let y = q.clear k a (omega arith) in cc })

      go : (b : Bool) → list_any (λ (run : WordRun). nat_le need run.count) (runs_from (is_taken image (reached_by image s.store roots) s) 0 0 image.heap_words) ≡ b → not b ≡ true
      go true e = absurd (clear (run-found (is_taken image (reached_by image s.store roots) s) 0 0 image.heap_words (λ (run : WordRun). nat_le need run.count) (omega arith) none e))
      go false e = refl

  -- and a place where words are clear is legal
  pub place-legal : (need block : ℕ) → 0 < need → block % 4 ≡ 0 → IsClear (shown image).shapes words list block need → Legal (Gaps image roots s) need (Placed (address block)) ≡ true
  unfolding Legal Gaps
  place-legal need block some row c = rw (address-start block, address-row block row, lies) refl
    where
      lies : list_any (lies_in (block_of (address block)) need) (runs_from (is_taken image (reached_by image s.store roots) s) 0 0 image.heap_words) ≡ true
      lies = ap (λ b. list_any (lies_in b need) (runs_from (is_taken image (reached_by image s.store roots) s) 0 0 image.heap_words)) (block-address block)
          ∙ words-lie (is_taken image (reached_by image s.store roots) s) 0 0 image.heap_words block need (omega arith) some (omega arith) (let w = c.within in let z = r.size in omega arith) (λ j a b. not-taken j (c.clear j a b))
