-- Blocks of the heap lie apart, before a turn and after it.
use Rattle.std.proofs.Common.{◌≡◌, ◌≢◌, ◌⊎◌, inl, inr, ◌∙◌, sym, ap, subst, ◌≤◌, ◌<◌, ◌+◌, ◌-◌, ◌*◌, ◌&&◌, ℕ, zero, suc, nat_lt, nat_le, Bool, true, false, if◌then◌else◌, Option, Some, None, arith, refl, List, [], ◌∷◌, ◌++◌, length, drop, slice_get, ⊎_elim}
use Rattle.std.specs.Option.{option_map, option_and_then}
use Rattle.std.proofs.lemmas.Bool.Decides.{nat_tests}
use Rattle.std.proofs.lemmas.Option.{slice_get_within}
use Rattle.object_layout.specs.Areas.{heap_start, statics_start}
use Rattle.object_layout.specs.Classes.{ShapesView, Need, rounded_up}
use Rattle.tal_image.specs.declared.parts.ArrayPart.{ArrayPart}
use Rattle.tal_image.specs.declared.parts.DataRow.{DataRow}
use Rattle.tal_image.specs.Conditions.{array_places, array_room}
use Rattle.tal_image.specs.Formed.{Formed, tables}
use Rattle.tal_image.specs.Image.{ImageParts}
use Rattle.tal_image.specs.Shown.{shown, data_row_in}
use Rattle.typed_machine.specs.Values.{ObjectShape, InstanceOf, ArrayOf}
use Rattle.typed_machine.specs.Stores.{Object, Store, need}
use Rattle.typed_machine.specs.States.{State}
use Rattle.typed_machine.specs.Typing.{Typed, LiesInHeap, BlocksApart, LiveInHeap, BlocksLie}
use Rattle.typed_machine.specs.Placing.{Placed, block_of, lies_in_block, is_taken, Gaps, Legal, fresh_object}
use Rattle.typed_machine.specs.Reaching.{Reach, Roots, rooted, live_in}
use Rattle.typed_safety.proofs.Staying.{BlocksStay}
use Rattle.typed_safety.proofs.Living.{array-row}
use Rattle.typed_safety.proofs.Gaps.{PlacedFree, legal_place}
use Rattle.typed_safety.proofs.Growing.{stood_or_last}
use Rattle.typed_safety.proofs.AfterReplies.{rooted-cases}
use Rattle.typed_safety.proofs.FirstStates.{places-low}

-- ---- fewer objects, at their places

-- an object of a store whose objects keep shapes and places
same-object : (store after : Store) → BlocksStay store after → (i : ℕ) (p : Object) → slice_get after i ≡ Some p
    → (o : Object) × (slice_get store i ≡ Some o) × (o.shape ≡ p.shape) × (o.place ≡ p.place)
same-object [] [] same i p e = absurd (cc)
same-object [] (q ∷ after) same i p e = absurd (let shapes = same.0 in cc)
same-object (o ∷ store) [] same i p e = absurd (cc)
same-object (o ∷ store) (q ∷ after) same zero p e =
    let shapes = same.0 in let places = same.1 in let is : q ≡ p = cc in
    let shape : q.shape ≡ o.shape = cc in let place : q.place ≡ o.place = cc in
    (o, refl, sym shape ∙ ap (λ (x : Object). x.shape) is, sym place ∙ ap (λ (x : Object). x.place) is)
same-object (o ∷ store) (q ∷ after) same (suc i) p e =
    let shapes = same.0 in let places = same.1 in
    same-object store after (cc, cc) i p e

-- an object keeps them
pub object_stays : (store after : Store) → BlocksStay store after → (i : ℕ) (o : Object) → slice_get store i ≡ Some o
    → (p : Object) × (slice_get after i ≡ Some p) × (p.shape ≡ o.shape) × (p.place ≡ o.place)
object_stays store after same i o e = same-object after store (sym same.0, sym same.1) i o e

-- where they lie
lies-same : (image : ImageParts) (o p : Object) → o.shape ≡ p.shape → o.place ≡ p.place → LiesInHeap image o → LiesInHeap image p
lies-same image o p shape place h =
    record { first = h.first; place = sym place ∙ h.place; aligned = h.aligned; ends = subst (λ x. h.first + need (shown image).shapes x ≤ image.heap_words) shape h.ends }

apart-same : (image : ImageParts) (o p q r : Object) → o.shape ≡ q.shape → o.place ≡ q.place → p.shape ≡ r.shape → p.place ≡ r.place → BlocksApart image o p → BlocksApart image q r
apart-same image o p q r e f g h a = rw (← e, ← f, ← g, ← h) a

-- fewer live
pub blocks-fewer : (image : ImageParts) (live fewer : ℕ → Bool) (store after : Store) → BlocksStay store after → ((i : ℕ) → fewer i ≡ true → live i ≡ true)
    → BlocksLie image live store → BlocksLie image fewer after
blocks-fewer image live fewer store after same less h = record {
  lie = λ i p k.
      let o = same-object store after same i p k.here in
      lies-same image o.0 p o.2 o.3 (h.lie i o.0 (record { behind = k.behind; lives = less i k.lives; here = o.1 }));
  apart = λ i j p q other k m.
      let o = same-object store after same i p k.here in
      let r = same-object store after same j q m.here in
      apart-same image o.0 r.0 p q o.2 o.3 r.2 r.3
      (h.apart i j o.0 r.0 other (record { behind = k.behind; lives = less i k.lives; here = o.1 }) (record { behind = m.behind; lives = less j m.lives; here = r.1 }));
}

-- ---- an object more, at a legal place

-- a block has words
need-some : (v : ShapesView) (shape : ObjectShape) → 0 < need v shape
unfolding Need rounded_up
need-some v (InstanceOf c) = omega arith
need-some v (ArrayOf k n) = omega arith

-- a word of the block of a reached object is taken
block-taken : (v : ShapesView) (reached : ℕ → Bool) (n : ℕ) (store : Store) (i k : ℕ) (o : Object) → slice_get store i ≡ Some o → reached (n + i) ≡ true
    → block_of o.place ≤ k → k < block_of o.place + need v o.shape → lies_in_block v reached n store k ≡ true
block-taken v reached n [] i k o e r low high = absurd (cc)
block-taken v reached n (p ∷ store) zero k o e r low high =
    let same : p ≡ o = cc in
    let here : reached n ≡ true = (let plain : n + 0 ≡ n = omega arith in rw plain at r) in
    let from : nat_le (block_of o.place) k ≡ true = grind (arith, nat_tests) in
    let to : nat_lt k (block_of o.place + need v o.shape) ≡ true = grind (arith, nat_tests) in
    rw (same, here, from, to) refl
block-taken v reached n (p ∷ store) (suc i) k o e r low high =
    more (reached n && (nat_le (block_of p.place) k && nat_lt k (block_of p.place + need v p.shape)))
    (block-taken v reached (n + 1) store i k o e (let same : n + 1 + i ≡ n + suc i = omega arith in rw same r) low high)
  where
    more : (b : Bool) → lies_in_block v reached (n + 1) store k ≡ true → (if b then true else lies_in_block v reached (n + 1) store k) ≡ true
    more true h = refl
    more false h = h

-- what stands behind a front
behind-read : {A : Type 0} (n : ℕ) (xs : List A) (i : ℕ) (x : A) → slice_get xs i ≡ Some x → n ≤ i → slice_get (drop n xs) (i - n) ≡ Some x
behind-read zero xs i x e h = let same : i - 0 ≡ i = omega arith in rw same e
behind-read (suc n) [] i x e h = absurd (cc)
behind-read (suc n) (y ∷ xs) zero x e h = absurd (omega arith)
behind-read (suc n) (y ∷ xs) (suc i) x e h = let same : suc i - suc n ≡ i - n = omega arith in rw same (behind-read n xs i x e (omega (arith, h)))

-- two runs of words lie apart, or have a word in common
apart-or-common : (p n q m : ℕ) → 0 < n → 0 < m → (p + n ≤ q) ⊎ (q + m ≤ p) ⊎ (k : ℕ) × (p ≤ k) × (k < p + n) × (q ≤ k) × (k < q + m)
apart-or-common p n q m some more = go (nat_le (p + n) q) refl (nat_le (q + m) p) refl (nat_le p q) refl
  where
    go : (a : Bool) → nat_le (p + n) q ≡ a → (b : Bool) → nat_le (q + m) p ≡ b → (c : Bool) → nat_le p q ≡ c
        → (p + n ≤ q) ⊎ (q + m ≤ p) ⊎ (k : ℕ) × (p ≤ k) × (k < p + n) × (q ≤ k) × (k < q + m)
    go true e b f c g = inl (grind (arith, nat_tests))
    go false e true f c g = inr (inl (grind (arith, nat_tests)))
    go false e false f true g = inr (inr (q, grind (arith, nat_tests), grind (arith, nat_tests), omega arith, omega (arith, more)))
    go false e false f false g = inr (inr (p, omega arith, omega (arith, some), grind (arith, nat_tests), grind (arith, nat_tests)))

-- the first word of a block, from its object's place
first-of : (place first : ℕ) → place ≡ heap_start + 4 * first + 8 → block_of place ≡ first
first-of place first e = omega (arith, e)

module _ (image : ImageParts) (s : State) (next : ℕ) (shape : ObjectShape) (a : ℕ)
    (legal : Legal (Gaps image (Roots image next s) s) (need (shown image).shapes shape) (Placed a) ≡ true)
    (live : ℕ → Bool) (lie : BlocksLie image live s.store) (rooted-lives : (i : ℕ) → rooted image next s i ≡ true → live i ≡ true) where
  -- the fresh object
  abbrev fresh : Object
  fresh = fresh_object (shown image).shapes shape a

  -- where it lies
  free : PlacedFree image (Roots image next s) s (need (shown image).shapes shape) a
  free = legal_place image (Roots image next s) s (need (shown image).shapes shape) a legal

  fresh-lies : LiesInHeap image fresh
  fresh-lies = record { first = free.first; place = free.place; aligned = free.aligned; ends = free.lies.ends }

  -- a block of the heap that is reached from the roots lies apart from it
  old_apart : (i : ℕ) (o : Object) → length image.arrays ≤ i → rooted image next s i ≡ true → slice_get s.store i ≡ Some o → BlocksApart image o fresh
  old_apart i o behind is here = way (apart-or-common (block_of o.place) (need (shown image).shapes o.shape) (block_of a) (need (shown image).shapes shape)
      (need-some (shown image).shapes o.shape) (need-some (shown image).shapes shape))
    where
      reached : Reach (shown image).shapes s.store (Roots image next s) i ≡ true
      reached = ⊎_elim
          (λ (front : i < length image.arrays). absurd (omega (arith, front, behind)))
          (λ (r : Reach (shown image).shapes s.store (Roots image next s) i ≡ true). r)
          (rooted-cases image next s i is)

      taken : (k : ℕ) → block_of o.place ≤ k → k < block_of o.place + need (shown image).shapes o.shape
          → is_taken image (Reach (shown image).shapes s.store (Roots image next s)) s k ≡ true
      taken k from to = block-taken (shown image).shapes (Reach (shown image).shapes s.store (Roots image next s)) (length image.arrays) (drop (length image.arrays) s.store)
          (i - length image.arrays) k o (behind-read (length image.arrays) s.store i o here behind)
          (let same : length image.arrays + (i - length image.arrays) ≡ i = omega (arith, behind) in rw same reached) from to

      way : (block_of o.place + need (shown image).shapes o.shape ≤ block_of a) ⊎ (block_of a + need (shown image).shapes shape ≤ block_of o.place)
          ⊎ (k : ℕ) × (block_of o.place ≤ k) × (k < block_of o.place + need (shown image).shapes o.shape) × (block_of a ≤ k) × (k < block_of a + need (shown image).shapes shape)
          → BlocksApart image o fresh
      way (inl h) = inl h
      way (inr (inl h)) = inr h
      way (inr (inr (k, from, to, low, high))) =
          let same = first-of a free.first free.place in
          let no = free.lies.free k (rw same at low) (rw same at high) in
          absurd (let yes = taken k from to in cc)

  -- an object of the heap afterwards was there and is rooted, or is the fresh one
  grown-cases : (among : ℕ → Bool) → ((i : ℕ) → among i ≡ true → (rooted image next s i ≡ true) ⊎ (i ≡ length s.store))
      → (i : ℕ) (o : Object) → LiveInHeap image among (s.store ++ fresh ∷ []) i o
      → ((rooted image next s i ≡ true) × (slice_get s.store i ≡ Some o)) ⊎ ((i ≡ length s.store) × (o ≡ fresh))
  grown-cases among cases i o h = ⊎_elim
      (λ (old : slice_get s.store i ≡ Some o). ⊎_elim
      (λ (is : rooted image next s i ≡ true). inl (is, old))
      (λ (is : i ≡ length s.store). absurd (let low = slice_get_within s.store i o old in omega (arith, is, low)))
      (cases i h.lives))
      (λ (new : (i ≡ length s.store) × (o ≡ fresh)). inr new)
      (stood_or_last s.store fresh i o h.here)

  apart-swapped : (o p : Object) → BlocksApart image o p → BlocksApart image p o
  apart-swapped o p (inl h) = inr h
  apart-swapped o p (inr h) = inl h

  -- the blocks lie then
  pub blocks-grown : (among : ℕ → Bool) → ((i : ℕ) → among i ≡ true → (rooted image next s i ≡ true) ⊎ (i ≡ length s.store)) → BlocksLie image among (s.store ++ fresh ∷ [])
  blocks-grown among cases = record {
    lie = λ i o h. ⊎_elim
        (λ (old : (rooted image next s i ≡ true) × (slice_get s.store i ≡ Some o)). lie.lie i o (record { behind = h.behind; lives = rooted-lives i old.0; here = old.1 }))
        (λ (new : (i ≡ length s.store) × (o ≡ fresh)). subst (LiesInHeap image) (sym new.1) fresh-lies)
        (grown-cases among cases i o h);
    apart = λ i j o p other h k. both i j o p other h.behind k.behind (grown-cases among cases i o h) (grown-cases among cases j p k);
  }
    where
      both : (i j : ℕ) (o p : Object) → i ≢ j → length image.arrays ≤ i → length image.arrays ≤ j
          → ((rooted image next s i ≡ true) × (slice_get s.store i ≡ Some o)) ⊎ ((i ≡ length s.store) × (o ≡ fresh))
          → ((rooted image next s j ≡ true) × (slice_get s.store j ≡ Some p)) ⊎ ((j ≡ length s.store) × (p ≡ fresh)) → BlocksApart image o p
      both i j o p other u v (inl x) (inl y) =
          lie.apart i j o p other (record { behind = u; lives = rooted-lives i x.0; here = x.1 }) (record { behind = v; lives = rooted-lives j y.0; here = y.1 })
      both i j o p other u v (inl x) (inr y) = subst (λ q. BlocksApart image o q) (sym y.1) (old_apart i o u x.0 x.1)
      both i j o p other u v (inr x) (inl y) = subst (λ q. BlocksApart image q p) (sym x.1) (apart-swapped p fresh (old_apart j p v y.0 y.1))
      both i j o p other u v (inr x) (inr y) = absurd (other (x.0 ∙ sym y.0))

-- ---- places differ

-- data arrays stand one behind another
places-after : (address : ℕ) (arrays : List ArrayPart) (i p : ℕ) → slice_get (array_places address arrays) i ≡ Some p → address ≤ p
unfolding array_places
places-after address [] i p e = absurd (cc)
places-after address (a ∷ arrays) zero p e = let same : address ≡ p = cc in omega (arith, same)
places-after address (a ∷ arrays) (suc i) p e = let more = places-after (address + 4 * array_room a) arrays i p e in omega (arith, more)

places-rise : (address : ℕ) (arrays : List ArrayPart) (i j p q : ℕ) → i < j → slice_get (array_places address arrays) i ≡ Some p → slice_get (array_places address arrays) j ≡ Some q → p < q
unfolding array_places
places-rise address [] i j p q h e f = absurd (cc)
places-rise address (a ∷ arrays) i zero p q h e f = absurd (omega arith)
places-rise address (a ∷ arrays) zero (suc j) p q h e f =
    let same : address ≡ p = cc in let more = places-after (address + 4 * array_room a) arrays j q f in omega (arith, same, more)
places-rise address (a ∷ arrays) (suc i) (suc j) p q h e f = places-rise (address + 4 * array_room a) arrays i j p q (omega (arith, h)) e f

module _ (image : ImageParts) (formed : Formed image) (s : State) (t : Typed image s) where
  abbrev starts : List ℕ
  starts = array_places (statics_start + 4 * length image.statics) image.arrays

  -- the place of a data array's row
  row-place : (d : ℕ) (row : DataRow) → data_row_in image d ≡ Some row → slice_get starts d ≡ Some row.place
  unfolding data_row_in
  row-place d row e = go (slice_get image.arrays d) (slice_get starts d) e
    where
      go : (o : Option ArrayPart) (p : Option ℕ) → option_and_then (λ (a : ArrayPart). option_map (λ place. record { place = place; kind = a.kind; length = a.size }) p) o ≡ Some row
          → p ≡ Some row.place
      go None p f = absurd (cc)
      go (Some a) None f = absurd (cc)
      go (Some a) (Some place) f =
          let is : record { place = place; kind = a.kind; length = a.size } ≡ row = cc in ap (λ (x : DataRow). Some x.place) is

  -- a data array stands where its row says
  array-place : (i : ℕ) (o : Object) → i < length image.arrays → slice_get s.store i ≡ Some o → slice_get starts i ≡ Some o.place
  array-place i o front here =
      let row = array-row image i front in
      let x = t.among.store.arrays i row.0 row.1 in
      let there = x.here in
      let same : x.object ≡ o = cc in
      row-place i row.0 row.1 ∙ ap Some (sym x.place ∙ ap (λ (y : Object). y.place) same)

  -- it is below the heap
  array-low : (i : ℕ) (o : Object) → i < length image.arrays → slice_get s.store i ≡ Some o → o.place < heap_start
  array-low i o front here = (places-low (tables image) image.kinds (length image.statics) image.arrays i o.place formed.arrays (array-place i o front here)).1

  -- an object of the heap is in it
  heap_high : (i : ℕ) (o : Object) → length image.arrays ≤ i → live_in image s i ≡ true → slice_get s.store i ≡ Some o → heap_start < o.place
  heap_high i o behind lives here = let h = t.heap.lie i o (record { behind = behind; lives = lives; here = here }) in let place = h.place in omega (arith, place)

  pub places-differ : (i j : ℕ) (o p : Object) → i ≢ j → live_in image s i ≡ true → live_in image s j ≡ true → slice_get s.store i ≡ Some o → slice_get s.store j ≡ Some p
      → o.place ≢ p.place
  places-differ i j o p other u v e f same = go (nat_lt i (length image.arrays)) refl (nat_lt j (length image.arrays)) refl
    where
      go : (a : Bool) → nat_lt i (length image.arrays) ≡ a → (b : Bool) → nat_lt j (length image.arrays) ≡ b → ⊥
      go true g true h =
          let x = array-place i o (grind (arith, nat_tests)) e in
          let y = array-place j p (grind (arith, nat_tests)) f in
          order (nat_lt i j) refl x y
        where
          order : (c : Bool) → nat_lt i j ≡ c → slice_get starts i ≡ Some o.place → slice_get starts j ≡ Some p.place → ⊥
          order true k x y = let rise = places-rise (statics_start + 4 * length image.statics) image.arrays i j o.place p.place (grind (arith, nat_tests)) x y in omega (arith, rise, same)
          order false k x y =
              let less : j < i = grind (arith, nat_tests, other) in
              let rise = places-rise (statics_start + 4 * length image.statics) image.arrays j i p.place o.place less y x in omega (arith, rise, same)
      go true g false h =
          let low = array-low i o (grind (arith, nat_tests)) e in
          let high = heap_high j p (grind (arith, nat_tests)) v f in
          omega (arith, low, high, same)
      go false g true h =
          let low = array-low j p (grind (arith, nat_tests)) f in
          let high = heap_high i o (grind (arith, nat_tests)) u e in
          omega (arith, low, high, same)
      go false g false h =
          let away = t.heap.apart i j o p other (record { behind = grind (arith, nat_tests); lives = u; here = e }) (record { behind = grind (arith, nat_tests); lives = v; here = f }) in
          let first = need-some (shown image).shapes o.shape in
          let second = need-some (shown image).shapes p.shape in
          ⊎_elim
          (λ (x : block_of o.place + need (shown image).shapes o.shape ≤ block_of p.place). omega (arith, x, first, ap block_of same))
          (λ (x : block_of p.place + need (shown image).shapes p.shape ≤ block_of o.place). omega (arith, x, second, ap block_of same))
          away
