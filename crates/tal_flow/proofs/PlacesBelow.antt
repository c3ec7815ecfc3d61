use Rattle.std.proofs.Common.{◌≡◌, ℕ, ◌==◌, ◌&&◌, Bool, true, false, if◌then◌else◌, Option, Some, None, arith, refl, List, [], ◌∷◌, zero, suc, get_or, slice_get, is_some}
use Rattle.std.proofs.lemmas.Bool.Decides.{nat_tests}
use Rattle.std.proofs.lemmas.Bool.{and_parts}
use Rattle.std.specs.List.{list_all}
use Rattle.std.specs.Option.{option_map, option_and_then, option_map_or}
use Rattle.ia32_code.specs.declared.instruction.Reg.{Reg}
use Rattle.ia32_code.specs.declared.instruction.Reg.TheVariants.{Esp}
use Rattle.ia32_code.specs.declared.instruction.Mem.{Mem}
use Rattle.ia32_code.specs.declared.instruction.Operand.{Operand}
use Rattle.ia32_code.specs.declared.instruction.Operand.TheVariants.{R, M, I}
use Rattle.object_layout.specs.declared.rows.FieldTy.{FieldTy}
use Rattle.object_layout.specs.Areas.{word_index}
use Rattle.object_layout.specs.Classes.{ShapesView, field_at, slot_at, Element}
use Rattle.object_layout.specs.Laws.{ClassLaws}
use Rattle.tal_types.specs.declared.types.Ty.{Ty}
use Rattle.tal_types.specs.declared.types.Ty.TheVariants.{Num, Obj, Arr, Tab, Junk}
use Rattle.tal_types.specs.Types.{within, sub}
use Rattle.tal_types.specs.Contexts.{LiveContext, LiveBelow, all_sub, same}
use Rattle.tal_types.specs.Shown.{ShownImage}
use Rattle.tal_flow.specs.declared.places.Place.{Place}
use Rattle.tal_flow.specs.declared.places.Place.TheVariants.{Whole, Slot, Length, Head, Method, Display}
use Rattle.tal_flow.specs.Places.{field_place, static_place, slot_place, object_place, array_place, element_place, display_place, table_place, based, stack_place, located, place_in, place_type, is_readable, is_writable, takes, operand_place, immediate_type, operand_type, resolve, found, readable, writable, is_num, storable}
use Rattle.tal_types.specs.Laws.{TypeLaws}

-- Places and operands in two contexts, one below the other.

-- what the lower context makes of a place of the higher one
abbrev pub PlaceBelow : ShapesView → Place → Place → Type 0
PlaceBelow s (Whole t) (Whole u) = t ≡ u
PlaceBelow s (Slot i) (Slot j) = i ≡ j
PlaceBelow s Length Length = Unit {0}
PlaceBelow s (Head r c) (Head q d) = (r ≡ q) × (within s c d ≡ true)
PlaceBelow s (Method g) (Method h) = g ≡ h
PlaceBelow s (Display r k) (Display q l) = (r ≡ q) × (k ≡ l)
PlaceBelow s _ _ = ⊥

-- where the higher context has no place, the lower one may have any
abbrev pub FoundBelow : ShapesView → Option Place → Option Place → Type 0
FoundBelow s p None = Unit {0}
FoundBelow s (Some p) (Some q) = PlaceBelow s p q
FoundBelow s None (Some q) = ⊥

module _ (types : TypeLaws) where
  -- each place is below itself
  pub place-same : (s : ShapesView) (p : Option Place) → FoundBelow s p p
  place-same s None = tt
  place-same s (Some (Whole t)) = refl
  place-same s (Some (Slot i)) = refl
  place-same s (Some Length) = tt
  place-same s (Some (Head r c)) = (refl, types.within_reflexive s c)
  place-same s (Some (Method g)) = refl
  place-same s (Some (Display r k)) = (refl, refl)

  -- a class has its ancestors' fields
  pub field-within : (s : ShapesView) → ClassLaws s → (c d n : ℕ) (t : FieldTy) → within s c d ≡ true → field_at s d n ≡ Some t → field_at s c n ≡ Some t
  unfolding within
  field-within s l c d n t h e = grind (arith, nat_tests, l.field_kept c d n t)

  -- a class has its ancestors' methods
  pub slot-within : (s : ShapesView) → ClassLaws s → (c d n g : ℕ) → within s c d ≡ true → slot_at s d n ≡ Some g → slot_at s c n ≡ Some g
  unfolding within
  slot-within s l c d n g h e = grind (arith, nat_tests, l.slot_kept c d n g)

  -- a field that the higher class has, the lower one has
  field_place-below : (s : ShapesView) (x y : Option FieldTy) → ((t : FieldTy) → y ≡ Some t → x ≡ Some t) → FoundBelow s (field_place x) (field_place y)
  field_place-below s x None h = tt
  field_place-below s x (Some t) h = rw (h t refl) refl

  -- and so is it with a method
  method-below : (s : ShapesView) (x y : Option ℕ) → ((g : ℕ) → y ≡ Some g → x ≡ Some g) → FoundBelow s (option_map Method x) (option_map Method y)
  method-below s x None h = tt
  method-below s x (Some g) h = rw (h g refl) refl

  -- a relation of two choices by one test
  pub if-both : {A : Type 0} (P : A → A → Type 0) (t : Bool) (x y z w : A) → P x z → P y w → P (if t then x else y) (if t then z else w)
  if-both P true x y z w p q = p
  if-both P false x y z w p q = q

  -- heads and fields
  pub object_place-below : (s : ShapesView) → ClassLaws s → (r : Reg) (c d n : ℕ) → within s c d ≡ true → FoundBelow s (object_place s r c n) (object_place s r d n)
  object_place-below s l r c d n h =
      if-both (FoundBelow s) _ (Some (Head r c)) (field_place (field_at s c n)) (Some (Head r d)) (field_place (field_at s d n))
      (refl, h)
      (field_place-below s _ _ (λ t e. field-within s l c d n t h e))

  -- methods and displays
  pub table_place-below : (s : ShapesView) → ClassLaws s → (r : Reg) (c d n : ℕ) → within s c d ≡ true → FoundBelow s (table_place s r c n) (table_place s r d n)
  table_place-below s l r c d n h =
      if-both (FoundBelow s) _ (option_map Method (slot_at s c n)) (display_place r n) (option_map Method (slot_at s d n)) (display_place r n)
      (method-below s _ _ (λ g e. slot-within s l c d n g h e))
      (place-same s (display_place r n))

  -- elements, whose pair the lower context has, too
  pub element_place-below : (s : ShapesView) (a b : LiveContext) (r : Reg) (j k : ℕ) (i : Reg) (scale n : ℕ) → LiveBelow s a b → j ≡ k
      → FoundBelow s (element_place s a r j i scale n) (element_place s b r k i scale n)
  element_place-below s a b r j k i scale n h e = rw e (go (b.pairs i r) (h.pairs i r))
    where
      go : (t : Bool) → (t ≡ true → a.pairs i r ≡ true) → FoundBelow s (element_place s a r k i scale n) (if t && ((scale == 2) && (n == 8)) then field_place (Element s k) else None)
      go false f = tt
      go true f = rw (f refl) (place-same s (if (scale == 2) && (n == 8) then field_place (Element s k) else None))

  -- places at a base other than ESP
  pub based-below : (s : ShapesView) → ClassLaws s → (a b : LiveContext) (r : Reg) (t u : Ty) (x : Option Reg) (k n : ℕ) → LiveBelow s a b → sub s t u ≡ true
      → FoundBelow s (based s a r t x k n) (based s b r u x k n)
  unfolding sub
  based-below s l a b r (Obj c) (Obj d) None k n h e = object_place-below s l r c d n e
  based-below s l a b r (Tab c) (Tab d) None k n h e = table_place-below s l r c d n e
  based-below s l a b r (Arr c) (Arr d) None k n h e = place-same s (array_place n)
  based-below s l a b r (Arr c) (Arr d) (Some i) k n h e = element_place-below s a b r c d i k n h (grind (arith, nat_tests))
  based-below s l a b r t u x k n h e = grind arith

  -- slots that are below each other
  pub slot_there : (s : ShapesView) (ts us : List Ty) (i : ℕ) → all_sub s ts us ≡ true → is_some (slice_get ts i) ≡ is_some (slice_get us i)
  unfolding all_sub
  slot_there s [] [] i h = refl
  slot_there s (t ∷ ts) [] i h = absurd (grind arith)
  slot_there s [] (u ∷ us) i h = absurd (grind arith)
  slot_there s (t ∷ ts) (u ∷ us) zero h = refl
  slot_there s (t ∷ ts) (u ∷ us) (suc i) h = slot_there s ts us i (and_parts (sub s t u) _ h).1

  -- each slot has a lower type
  pub slot_type_below : (s : ShapesView) (ts us : List Ty) (i : ℕ) → all_sub s ts us ≡ true → sub s (get_or ts i Junk) (get_or us i Junk) ≡ true
  unfolding all_sub sub
  slot_type_below s [] [] i h = refl
  slot_type_below s (t ∷ ts) [] i h = absurd (grind arith)
  slot_type_below s [] (u ∷ us) i h = absurd (grind arith)
  slot_type_below s (t ∷ ts) (u ∷ us) zero h = (and_parts (sub s t u) _ h).0
  slot_type_below s (t ∷ ts) (u ∷ us) (suc i) h = slot_type_below s ts us i (and_parts (sub s t u) _ h).1

  -- the same slot, if it is there, in both contexts
  same-slot : (s : ShapesView) (t : Bool) (i : ℕ) → FoundBelow s (if t then Some (Slot i) else None) (if t then Some (Slot i) else None)
  same-slot s true i = refl
  same-slot s false i = tt

  -- slots, of which both contexts have as many
  pub slot_place-below : (s : ShapesView) (a b : LiveContext) (n : ℕ) → all_sub s a.slots b.slots ≡ true → FoundBelow s (slot_place a n) (slot_place b n)
  slot_place-below s a b n h = go (word_index 0 n)
    where
      go : (o : Option ℕ)
          → FoundBelow s (option_and_then (λ i. if is_some (slice_get a.slots i) then Some (Slot i) else None) o) (option_and_then (λ i. if is_some (slice_get b.slots i) then Some (Slot i) else None) o)
      go None = tt
      go (Some i) = rw (slot_there s a.slots b.slots i h) (same-slot s (is_some (slice_get b.slots i)) i)

  -- the places at ESP in two contexts
  stack_place-below : (s : ShapesView) (a b : LiveContext) (x : Option Reg) (n : ℕ) → all_sub s a.slots b.slots ≡ true → FoundBelow s (stack_place a x n) (stack_place b x n)
  stack_place-below s a b None n h = slot_place-below s a b n h
  stack_place-below s a b (Some i) n h = tt

  -- the places at a base and an index in two contexts
  located-below : (s : ShapesView) → ClassLaws s → (statics : List FieldTy) (a b : LiveContext) (r x : Option Reg) (k n : ℕ) → LiveBelow s a b
      → FoundBelow s (located s statics a r x k n) (located s statics b r x k n)
  located-below s l statics a b None None k n h = place-same s (static_place statics n)
  located-below s l statics a b None (Some i) k n h = tt
  located-below s l statics a b (Some r) x k n h = if-both (FoundBelow s) (same r Esp) _ _ _ _ (stack_place-below s a b x n h.slots) (based-below s l a b r _ _ x k n h (h.regs r))

  -- a memory operand is the same place in the lower context
  pub place-below : (s : ShapesView) → ClassLaws s → (statics : List FieldTy) (a b : LiveContext) (m : Mem) → LiveBelow s a b
      → FoundBelow s (place_in s statics a m) (place_in s statics b m)
  place-below s l statics a b m h = located-below s l statics a b m.base m.index m.scale m.disp h

  -- the same of each operand
  pub operand_place-below : (v : ShownImage) → ClassLaws v.shapes → (a b : LiveContext) (x : Operand) → LiveBelow v.shapes a b
      → FoundBelow v.shapes (operand_place v a x) (operand_place v b x)
  unfolding operand_place
  operand_place-below v l a b (R r) h = tt
  operand_place-below v l a b (M m) h = place-below v.shapes l v.statics a b m h
  operand_place-below v l a b (I n) h = tt

  -- types, and what rules ask of operands

  -- a lower table of a class is below
  tab-below : (s : ShapesView) (c d : ℕ) → within s c d ≡ true → sub s (Tab c) (Tab d) ≡ true
  unfolding sub
  tab-below s c d e = e

  -- what is read at a place has a lower type
  pub place_type-below : (s : ShapesView) (a b : LiveContext) (p q : Place) → LiveBelow s a b → PlaceBelow s p q → sub s (place_type a p) (place_type b q) ≡ true
  place_type-below s a b (Whole t) (Whole u) h e = rw e (types.types_reflexive s u)
  place_type-below s a b (Slot i) (Slot j) h e = rw e (slot_type_below s a.slots b.slots j h.slots)
  place_type-below s a b Length Length h e = types.types_reflexive s Num
  place_type-below s a b (Head r c) (Head q d) h e = tab-below s c d e.1
  place_type-below s a b (Method g) (Method k) h e = rw e (types.types_reflexive s _)
  place_type-below s a b (Display r k) (Display q m) h e = types.types_reflexive s Junk
  place_type-below s a b p q h e = absurd (grind arith)

  -- all types are below Junk
  pub sub-junk : (s : ShapesView) (t : Ty) → sub s t Junk ≡ true
  unfolding sub
  sub-junk s t = refl

  -- what is read at a lower place has a lower type
  found_type_below : (s : ShapesView) (a b : LiveContext) (p q : Option Place) → LiveBelow s a b → FoundBelow s p q
      → sub s (option_map_or (place_type a) p Junk) (option_map_or (place_type b) q Junk) ≡ true
  found_type_below s a b p None h e = sub-junk s _
  found_type_below s a b (Some p) (Some q) h e = place_type-below s a b p q h e
  found_type_below s a b None (Some q) h e = absurd e

  -- an operand has a lower type
  pub operand_type-below : (v : ShownImage) → ClassLaws v.shapes → (a b : LiveContext) (pc : ℕ) (x : Operand) → LiveBelow v.shapes a b
      → sub v.shapes (operand_type v a pc x) (operand_type v b pc x) ≡ true
  unfolding operand_type
  operand_type-below v l a b pc (R r) h = h.regs r
  operand_type-below v l a b pc (M m) h = found_type_below v.shapes a b _ _ h (place-below v.shapes l v.statics a b m h)
  operand_type-below v l a b pc (I n) h = types.types_reflexive v.shapes (immediate_type v pc n)

  -- a place that the higher context has, the lower one has
  is_found_below : (s : ShapesView) (p q : Option Place) → FoundBelow s p q → is_some q ≡ true → is_some p ≡ true
  is_found_below s p None h e = absurd (grind arith)
  is_found_below s (Some p) (Some q) h e = refl
  is_found_below s None (Some q) h e = absurd h

  -- a memory operand that is a place in the higher context is one in the lower
  pub found-below : (v : ShownImage) → ClassLaws v.shapes → (a b : LiveContext) (pc : ℕ) (x : Operand) → LiveBelow v.shapes a b → found (resolve v b pc x) ≡ true → found (resolve v a pc x) ≡ true
  unfolding found operand_place
  found-below v l a b pc (R r) h e = e
  found-below v l a b pc (M m) h e = is_found_below v.shapes _ _ (place-below v.shapes l v.statics a b m h) e
  found-below v l a b pc (I n) h e = e

  -- a place that may be read may be read below
  is_readable-below : (s : ShapesView) (p q : Place) → PlaceBelow s p q → is_readable q ≡ true → is_readable p ≡ true
  is_readable-below s p q h e = grind arith

  -- a place that may be written in the higher context may be in the lower one
  pub is_writable-below : (s : ShapesView) (p q : Place) → PlaceBelow s p q → is_writable q ≡ true → is_writable p ≡ true
  is_writable-below s p q h e = grind arith

  -- a place takes a lower value where it takes a higher one
  takes-below : (s : ShapesView) → ClassLaws s → (t u : Ty) (p q : Place) → PlaceBelow s p q → sub s t u ≡ true → takes s u q ≡ true → takes s t p ≡ true
  takes-below s l t u p q h g e = grind (arith, types.types_transitive s l t u)

  -- an operand that may be read in the higher context may be read in the lower
  read-below : (s : ShapesView) (p q : Option Place) → FoundBelow s p q → is_some q ≡ true → option_map_or is_readable q true ≡ true → option_map_or is_readable p true ≡ true
  read-below s p None h d e = absurd (grind arith)
  read-below s (Some p) (Some q) h d e = is_readable-below s p q h e
  read-below s None (Some q) h d e = absurd h

  -- so is it with an operand that is read
  pub readable-below : (v : ShownImage) → ClassLaws v.shapes → (a b : LiveContext) (pc : ℕ) (x : Operand) → LiveBelow v.shapes a b → found (resolve v b pc x) ≡ true
      → readable (resolve v b pc x) ≡ true → readable (resolve v a pc x) ≡ true
  unfolding readable found operand_place
  readable-below v l a b pc (R r) h d e = e
  readable-below v l a b pc (M m) h d e = read-below v.shapes _ _ (place-below v.shapes l v.statics a b m h) d e
  readable-below v l a b pc (I n) h d e = e

  -- an operand that may be written in the higher context may be written in the lower
  written-below : (s : ShapesView) (p q : Option Place) → FoundBelow s p q → option_map_or is_writable q false ≡ true → option_map_or is_writable p false ≡ true
  written-below s p None h e = absurd (grind arith)
  written-below s (Some p) (Some q) h e = is_writable-below s p q h e
  written-below s None (Some q) h e = absurd h

  -- and with one that is written
  pub writable-below : (v : ShownImage) → ClassLaws v.shapes → (a b : LiveContext) (pc : ℕ) (x : Operand) → LiveBelow v.shapes a b → writable (resolve v b pc x) ≡ true
      → writable (resolve v a pc x) ≡ true
  unfolding writable operand_place
  writable-below v l a b pc (R r) h e = e
  writable-below v l a b pc (M m) h e = written-below v.shapes _ _ (place-below v.shapes l v.statics a b m h) e
  writable-below v l a b pc (I n) h e = e

  -- no type but Num is below Num
  pub is_num-below : (s : ShapesView) (t u : Ty) → sub s t u ≡ true → is_num u ≡ true → is_num t ≡ true
  unfolding is_num sub
  is_num-below s t u h e = grind arith

  -- a place that the higher context may write takes the lower value below
  taken-below : (s : ShapesView) → ClassLaws s → (t u : Ty) (p q : Option Place) → FoundBelow s p q → sub s t u ≡ true → option_map_or is_writable q false ≡ true
      → option_map_or (takes s u) q true ≡ true → option_map_or (takes s t) p true ≡ true
  taken-below s l t u p None h g w e = absurd (grind arith)
  taken-below s l t u (Some p) (Some q) h g w e = takes-below s l t u p q h g e
  taken-below s l t u None (Some q) h g w e = absurd h

  -- what is lower is stored in the same place
  pub storable-below : (v : ShownImage) → ClassLaws v.shapes → (a b : LiveContext) (pc : ℕ) (x : Operand) (t u : Ty) → LiveBelow v.shapes a b → sub v.shapes t u ≡ true
      → writable (resolve v b pc x) ≡ true → storable v.shapes u (resolve v b pc x) ≡ true → storable v.shapes t (resolve v a pc x) ≡ true
  unfolding storable writable operand_place
  storable-below v l a b pc (R r) t u h g w e = refl
  storable-below v l a b pc (M m) t u h g w e = taken-below v.shapes l t u _ _ (place-below v.shapes l v.statics a b m h) g w e
  storable-below v l a b pc (I n) t u h g w e = refl

  -- lists of operands

  -- a test of each operand that holds in the higher context holds in the lower
  all-below : (p q : Operand → Bool) (xs : List Operand) → ((x : Operand) → q x ≡ true → p x ≡ true) → list_all q xs ≡ true → list_all p xs ≡ true
  all-below p q [] h e = e
  all-below p q (x ∷ xs) h e = let f = and_parts (q x) _ e in rw (h x f.0) (all-below p q xs h f.1)

  -- all sources are places
  pub all_found_below : (v : ShownImage) → ClassLaws v.shapes → (a b : LiveContext) (pc : ℕ) (xs : List Operand) → LiveBelow v.shapes a b
      → list_all (λ x. found (resolve v b pc x)) xs ≡ true → list_all (λ x. found (resolve v a pc x)) xs ≡ true
  all_found_below v l a b pc xs h e = all-below (λ x. found (resolve v a pc x)) (λ x. found (resolve v b pc x)) xs (λ x. found-below v l a b pc x h) e

  -- all are numbers
  pub all_num_below : (v : ShownImage) → ClassLaws v.shapes → (a b : LiveContext) (pc : ℕ) (xs : List Operand) → LiveBelow v.shapes a b
      → list_all (λ x. is_num (operand_type v b pc x)) xs ≡ true → list_all (λ x. is_num (operand_type v a pc x)) xs ≡ true
  all_num_below v l a b pc xs h e =
      all-below (λ x. is_num (operand_type v a pc x)) (λ x. is_num (operand_type v b pc x)) xs (λ x. is_num-below v.shapes _ _ (operand_type-below v l a b pc x h)) e

  -- all may be read
  pub all_readable_below : (v : ShownImage) → ClassLaws v.shapes → (a b : LiveContext) (pc : ℕ) (xs : List Operand) → LiveBelow v.shapes a b
      → list_all (λ x. found (resolve v b pc x)) xs ≡ true → list_all (λ x. readable (resolve v b pc x)) xs ≡ true → list_all (λ x. readable (resolve v a pc x)) xs ≡ true
  all_readable_below v l a b pc [] h d e = e
  all_readable_below v l a b pc (x ∷ xs) h d e =
      let f = and_parts (found (resolve v b pc x)) _ d in let g = and_parts (readable (resolve v b pc x)) _ e in
      rw (readable-below v l a b pc x h f.0 g.0) (all_readable_below v l a b pc xs h f.1 g.1)
