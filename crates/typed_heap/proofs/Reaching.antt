-- What the words reach are the blocks of what the values reach.
use Rattle.std.proofs.Common.{◌≡◌, ℕ, ◌+◌, ◌<◌, ◌≤◌, ◌⊎◌, inl, inr, Bool, true, false, IsTrue, nat_lt, Some, List, ◌++◌, length, map, slice_get, slice_index, suc, arith, refl, sym, ◌∙◌, ap, subst}
use Rattle.std.proofs.lemmas.Bool.{false≢true}
use Rattle.std.proofs.lemmas.Bool.Decides.{nat_tests}
use Rattle.heap_words.specs.Headers.{size_at}
use Rattle.heap_words.specs.Blocks.{IsUsed}
use Rattle.object_layout.specs.Areas.{heap_start, table_address, descriptor_address}
use Rattle.object_layout.specs.declared.rows.Shape.{Shape}
use Rattle.object_layout.specs.declared.rows.Shape.TheVariants.{Class, Kind}
use Rattle.object_layout.specs.Classes.{ShapesView, IsShape, Need}
use Rattle.free_index.specs.Lists.{In}
use Rattle.mark_sweep.specs.Objects.{address, shape_word, shape_named, holds_reference, IsObject, IsReference}
use Rattle.mark_sweep.specs.Reached.{IsGood, Reached, AllGood}
use Rattle.mark_sweep.specs.Reached.Reached.{listed as listed_word, named as named_word}
use Rattle.tal_image.specs.Image.{ImageParts}
use Rattle.tal_image.specs.Shown.{shown}
use Rattle.typed_machine.specs.Values.{Value, Number, Null, Ref, Code, Ret, Tab, Desc, Word, ObjectShape, InstanceOf, ArrayOf}
use Rattle.typed_machine.specs.Stores.{Object, Store, shape_in, elements_in, need, places_in}
use Rattle.typed_machine.specs.States.{State}
use Rattle.typed_machine.specs.Words.{head_values, object_values}
use Rattle.typed_machine.specs.Reaching.{names, references_of}
use Rattle.reached_objects.specs.ReachedFrom.{ReachedFrom}
use Rattle.reached_objects.specs.ReachedFrom.ReachedFrom.{named, followed}
use Rattle.typed_heap.specs.Standing.{ObjectStands, refers_within, RootsStand, ReachedObject}
use Rattle.typed_heap.specs.Laws.{Agrees, WordsAgree}
use Rattle.typed_heap.proofs.Lists.{below-or-not, At, at-index, map-index, get-names, names-get, get-in, in_get}
use Rattle.typed_heap.proofs.ShapeWords.{address-block, address-high, value_word, value-there, type_within, Refers, refers_holds, RefersAt, holds-refers, references-held, held-references}
use Rattle.typed_heap.proofs.Facts.{Told, Facts, facts}

-- ---- one object

-- the first word of an object is that of its shape
head-word : (s : ShapesView) (places words : List ℕ) (o : Object) (q : ObjectStands s places words o) → slice_index words (q.block + 2) ≡ shape_word (shape_in o.shape)
unfolding object_values head_values shape_word Word
head-word s places words o q = ap (slice_index words) (let e : q.block + 2 ≡ q.block + 2 + 0 = omega arith in e) ∙ go o.shape (λ v h. q.values 0 v h)
  where
    go : (x : ObjectShape) → ((v : Value) → slice_get (head_values x ++ o.values) 0 ≡ Some v → slice_index words (q.block + 2 + 0) ≡ Word places v) → slice_index words (q.block + 2 + 0) ≡ shape_word (shape_in x)
    go (InstanceOf c) f = f (Tab c) refl
    go (ArrayOf k n) f = f (Desc k) refl

-- the second word of an array is its length
long-word : (s : ShapesView) (places words : List ℕ) (k n : ℕ) (o : Object) (q : ObjectStands s places words o) → o.shape ≡ ArrayOf k n → slice_index words (q.block + 3) ≡ n
unfolding object_values head_values Word
long-word s places words k n o q e = ap (slice_index words) (let e : q.block + 3 ≡ q.block + 2 + 1 = omega arith in e) ∙ q.values 1 (Number n) (second e)
  where
    second : o.shape ≡ ArrayOf k n → slice_get (object_values o) 1 ≡ Some (Number n)
    second e = rw e refl

-- what an object's words tell beside its shape counts for an array alone
need-long : (s : ShapesView) (x : ObjectShape) (m : ℕ) → ((k n : ℕ) → x ≡ ArrayOf k n → m ≡ n) → Need s (shape_in x) (elements_in x) ≡ Need s (shape_in x) m
unfolding Need
need-long s (InstanceOf c) m h = refl
need-long s (ArrayOf k n) m h = rw (h k n refl) refl

holds-long : (s : ShapesView) (x : ObjectShape) (m k : ℕ) → ((q n : ℕ) → x ≡ ArrayOf q n → m ≡ n) → holds_reference s (shape_in x) (elements_in x) k ≡ holds_reference s (shape_in x) m k
unfolding holds_reference
holds-long s (InstanceOf c) m k h = refl
holds-long s (ArrayOf q n) m k h = rw (h q n refl) refl

module _ (told : Told) (s : ShapesView) (places words : List ℕ) (o : Object) (q : ObjectStands s places words o) (few : length s.classes ≤ 1024) (there : IsShape s (shape_in o.shape)) where
  -- the words tell the shape
  shape-told : shape_named (slice_index words (q.block + 2)) ≡ shape_in o.shape
  shape-told = ap shape_named (head-word s places words o q) ∙ told.come_back s (shape_in o.shape) few there

  -- it is an object for a collection
  pub is-object : IsObject s words q.block
  is-object =
      let e = shape-told in
      record {
        used = q.used;
        there = rw e there;
        named = rw e (head-word s places words o q);
        exact = rw e (q.exact ∙ need-long s o.shape (slice_index words (q.block + 3)) (λ k n h. long-word s places words k n o q h));
      }

  -- a word holds a reference where it does by the shape
  holds-told : (k : ℕ) → holds_reference s (shape_named (slice_index words (q.block + 2))) (slice_index words (q.block + 3)) k ≡ holds_reference s (shape_in o.shape) (elements_in o.shape) k
  holds-told k = rw shape-told (sym (holds-long s o.shape (slice_index words (q.block + 3)) k (λ c n h. long-word s places words c n o q h)))

  -- a value of a type of references is a reference of the block
  pub value-reference : (m : ℕ) → Refers s o.shape m → IsReference s words q.block (value_word o.shape m)
  value-reference m r = told.lie_within s words q.block (value_word o.shape m) is-object (holds-told (value_word o.shape m) ∙ refers_holds s o.shape m r)

  -- and its word that of the value
  pub value-word : (m : ℕ) (v : Value) → slice_get o.values m ≡ Some v → slice_index words (q.block + 2 + value_word o.shape m) ≡ Word places v
  value-word m v e = q.values (value_word o.shape m) v (value-there o m ∙ e)

-- ---- what is reached

-- a reached object behind the data arrays has the block at a place
pub record Located (s : ShapesView) (arrays : ℕ) (store : Store) (roots : List Value) (block : ℕ) : Type 0 where
  pub number : ℕ
  pub object : Object
  pub is : slice_get store number ≡ Some object
  pub behind : arrays ≤ number
  pub reached : ReachedFrom s store roots number
  pub placed : object.place ≡ address block

below : (i n : ℕ) → nat_lt i n ≡ true → i < n
below i n h = grind (arith, nat_tests)

module _ (told : Told) (s : ShapesView) (arrays : ℕ) (store : Store) (roots : List Value) (words list : List ℕ) (f : Facts s arrays store roots words list) where
  -- the place of an object is the word of a reference to it
  place-word : (i : ℕ) (o : Object) → slice_get store i ≡ Some o → Word (places_in store) (Ref i) ≡ o.place
  unfolding Word
  place-word i o e = map-index (λ (o : Object). o.place) store i o e

  -- ---- from values to words

  -- a root of the heap is listed and used
  root_reached : (i : ℕ) (o : Object) (block : ℕ) → names roots i ≡ true → ReachedFrom s store roots i → arrays ≤ i → slice_get store i ≡ Some o → o.place ≡ address block → Reached s words list block
  root_reached i o block h r l e p =
      let q = f.stands i o r l e in
      let same : q.block ≡ block = address-block q.block block (sym q.placed ∙ p) in
      let k = names-get roots i h in
      listed_word block (subst (λ w. In w list) (place-word i o e ∙ p) (subst (In (Word (places_in store) (Ref i))) (sym f.lists) (get-in (places_in store) roots k.number (Ref i) k.is))) (subst (IsUsed words) same q.used)

  -- so is what a reached object refers to
  field-reached : (i j : ℕ) (p o : Object) (block : ℕ) → ReachedFrom s store roots i → slice_get store i ≡ Some p → names (references_of s p) j ≡ true → ReachedFrom s store roots j → arrays ≤ j → slice_get store j ≡ Some o
      → o.place ≡ address block → (arrays ≤ i → (b : ℕ) → p.place ≡ address b → Reached s words list b) → Reached s words list block
  field-reached i j p o block r e h rj l ej at more = go (below-or-not i arrays)
    where
      go : (i < arrays) ⊎ (arrays ≤ i) → Reached s words list block
      go (inl m) = root_reached j o block (f.arrays_named i j p m e h) rj l ej at
      go (inr m) =
          let q = f.stands i p r m e in
          let z = f.stands j o rj l ej in
          let same : z.block ≡ block = address-block z.block block (sym z.placed ∙ at) in
          let v = references-held s p.shape 0 p.values j h in
          let refers : Refers s p.shape v.number = subst (Refers s p.shape) (let n : 0 + v.number ≡ v.number = omega arith in n) v.refers in
          named_word q.block (value_word p.shape v.number) block (more m q.block q.placed) (value-reference told s (places_in store) words p q f.told.few (f.told.there i p e) v.number refers)
          (value-word told s (places_in store) words p q f.told.few (f.told.there i p e) v.number (Ref j) v.is ∙ (place-word j o ej ∙ at)) (subst (IsUsed words) same z.used)

  pub reached-words : (i : ℕ) (o : Object) (block : ℕ) → ReachedFrom s store roots i → arrays ≤ i → slice_get store i ≡ Some o → o.place ≡ address block → Reached s words list block
  reached-words i o block (named _ l h) m e p = root_reached i o block h (named i l h) m e p
  reached-words j o block (followed i _ p r a l h) m e at = field-reached i j p o block r a h (followed i j p r a l h) m e at (λ n b x. reached-words i p b r n a x)

  -- ---- from words to values

  -- a value that refers, where what it refers to is reached: its word is good, and where it is that of a block, an object has it
  pub value-good : (v : Value) → refers_within (length store) v ≡ true → ((j : ℕ) → v ≡ Ref j → ReachedFrom s store roots j) → IsGood s words (Word (places_in store) v)
  unfolding Word
  value-good Null r h = inl (omega arith)
  value-good (Ref j) r h = go (below-or-not j arrays) (at-index store j (below j (length store) r))
    where
      go : (j < arrays) ⊎ (arrays ≤ j) → At store j → IsGood s words (slice_index (places_in store) j)
      go (inl l) a = inl (rw (map-index (λ (o : Object). o.place) store j a.item a.is) (f.told.low j a.item l a.is))
      go (inr l) a =
          let q = f.stands j a.item (h j refl) l a.is in
          inr (q.block, map-index (λ (o : Object). o.place) store j a.item a.is ∙ q.placed, is-object told s (places_in store) words a.item q f.told.few (f.told.there j a.item a.is))
  value-good (Number n) r h = absurd (false≢true r)
  value-good (Code n) r h = absurd (false≢true r)
  value-good (Ret n) r h = absurd (false≢true r)
  value-good (Tab n) r h = absurd (false≢true r)
  value-good (Desc n) r h = absurd (false≢true r)

  value-located : (v : Value) (block : ℕ) → refers_within (length store) v ≡ true → ((j : ℕ) → v ≡ Ref j → ReachedFrom s store roots j) → Word (places_in store) v ≡ address block → Located s arrays store roots block
  unfolding Word
  value-located Null block r h e = let y = address-high block in absurd (omega arith)
  value-located (Ref j) block r h e = go (below-or-not j arrays) (at-index store j (below j (length store) r))
    where
      at : (a : At store j) → a.item.place ≡ address block
      at a = sym (map-index (λ (o : Object). o.place) store j a.item a.is) ∙ e

      go : (j < arrays) ⊎ (arrays ≤ j) → At store j → Located s arrays store roots block
      go (inl l) a = let z = f.told.low j a.item l a.is in let y = address-high block in let p = at a in absurd (omega arith)
      go (inr l) a = record { number = j; object = a.item; is = a.is; behind = l; reached = h j refl; placed = at a }
  value-located (Number n) block r h e = absurd (false≢true r)
  value-located (Code n) block r h e = absurd (false≢true r)
  value-located (Ret n) block r h e = absurd (false≢true r)
  value-located (Tab n) block r h e = absurd (false≢true r)
  value-located (Desc n) block r h e = absurd (false≢true r)

  -- a root that refers reaches
  root_value : (k j : ℕ) → slice_get roots k ≡ Some (Ref j) → ReachedFrom s store roots j
  root_value k j e = named j (below j (length store) (f.rooted k (Ref j) e)) (get-names roots k j e)

  -- the value at a word of a reached object that holds a reference
  record Held (block k : ℕ) : Type 0 where
    item : Value
    refers : refers_within (length store) item ≡ true
    reached : (j : ℕ) → item ≡ Ref j → ReachedFrom s store roots j
    is_word : slice_index words (block + 2 + k) ≡ Word (places_in store) item

  value-held : (block k : ℕ) → Located s arrays store roots block → IsReference s words block k → Held block k
  value-held block k o r = subst (λ b. Held b k) same record {
    item = a.item;
    refers = f.told.refer o.number z.number o.object a.item o.is z.refers a.is;
    reached = λ j g. followed o.number j o.object o.reached o.is (inside j g) (held-references s o.object.shape 0 z.number o.object.values j (a.is ∙ ap Some g) (subst (Refers s o.object.shape) (let n : z.number ≡ 0 + z.number = omega arith in n) z.refers));
    is_word = ap (λ x. slice_index words (q.block + 2 + x)) z.at ∙ value-word told s (places_in store) words o.object q f.told.few there z.number a.item a.is;
  }
    where
      q : ObjectStands s (places_in store) words o.object
      q = f.stands o.number o.object o.reached o.behind o.is

      same : q.block ≡ block
      same = address-block q.block block (sym q.placed ∙ o.placed)

      there : IsShape s (shape_in o.object.shape)
      there = f.told.there o.number o.object o.is

      ref : IsReference s words q.block k
      ref = subst (λ b. IsReference s words b k) (sym same) r

      z : RefersAt s o.object.shape k
      z = holds-refers s o.object.shape k ref.behind (sym (holds-told told s (places_in store) words o.object q f.told.few there k) ∙ ref.holds_reference)

      a : At o.object.values z.number
      a = at-index o.object.values z.number (let l = type_within s o.object.shape z.number z.refers.type z.refers.typed in let n = f.told.counts o.number o.object o.is in omega arith)

      inside : (j : ℕ) → a.item ≡ Ref j → j < length store
      inside j g = f.told.inside o.number z.number j o.object o.is (a.is ∙ ap Some g)

  pub words-reached : (block : ℕ) → Reached s words list block → Located s arrays store roots block
  words-reached block (listed_word _ m u) =
      let q = in_get (places_in store) roots (address block) (subst (In (address block)) f.lists m) in
      value-located q.value block (f.rooted q.number q.value q.is) (λ j g. root_value q.number j (q.is ∙ ap Some g)) (sym q.is_word)
  words-reached block (named_word b k _ h r e u) =
      let v = value-held b k (words-reached b h) r in
      value-located v.item block v.refers v.reached (sym v.is_word ∙ e)

  -- ---- all is good

  pub all-good : AllGood s words list
  all-good = record {
    roots = λ w m. let q = in_get (places_in store) roots w (subst (In w) f.lists m) in
        subst (IsGood s words) (sym q.is_word) (value-good q.value (f.rooted q.number q.value q.is) (λ j g. root_value q.number j (q.is ∙ ap Some g)));
    fields = λ b k h r. let v = value-held b k (words-reached b h) r in subst (IsGood s words) (sym v.is_word) (value-good v.item v.refers v.reached);
  }

-- words and values reach the same
pub words-agree : Told → WordsAgree
words-agree told image s roots words list r = record {
  good = all-good told (shown image).shapes (length image.arrays) s.store roots words list f;
  reached = λ block. (
    λ h. let q = words-reached told (shown image).shapes (length image.arrays) s.store roots words list f block h in
        record { number = q.number; object = q.object; is = q.is; behind = q.behind; reached = (told.least (shown image).shapes s.store roots q.number).1 q.reached; placed = q.placed },
    λ (o : ReachedObject image s roots block). reached-words told (shown image).shapes (length image.arrays) s.store roots words list f o.number o.object block ((told.least (shown image).shapes s.store roots o.number).0 o.reached) o.behind o.is o.placed,
  );
}
  where
    f : Facts (shown image).shapes (length image.arrays) s.store roots words list
    f = facts told image s roots words list r
