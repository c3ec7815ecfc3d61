use Rattle.std.proofs.Common.{◌≡◌, ap, sym, ◌∙◌, if◌then◌else◌, ℕ, Bool, true, false, Option, Some, None, arith, refl, List, [], ◌∷◌, zero, suc, set, slice_get, drop, unwrap_or}
use Rattle.std.proofs.lemmas.Bool.Decides.{nat_tests}
use Rattle.std.proofs.lemmas.Bool.{and_parts}
use Rattle.ia32_code.specs.declared.instruction.Reg.{Reg}
use Rattle.ia32_code.specs.declared.instruction.Reg.TheVariants.{Edx}
use Rattle.ia32_code.specs.declared.instruction.Operand.{Operand}
use Rattle.ia32_code.specs.declared.instruction.Operand.TheVariants.{R, M, I}
use Rattle.object_layout.specs.Classes.{ShapesView}
use Rattle.object_layout.specs.Laws.{ClassLaws}
use Rattle.tal_types.specs.declared.types.Ty.{Ty}
use Rattle.tal_types.specs.declared.types.Ty.TheVariants.{Num, Ref, Obj, Junk}
use Rattle.tal_types.specs.declared.types.FlagKind.{FlagKind}
use Rattle.tal_types.specs.declared.types.FlagKind.TheVariants.{Lost, Eq, Num as FlagNum, NullTest, Bound, IsA}
use Rattle.tal_types.specs.Types.{sub, within}
use Rattle.tal_types.specs.Contexts.{LiveContext, ContextView, Dead, Live, same, LiveBelow, ContextBelow, kind_below, all_sub}
use Rattle.tal_types.specs.Shown.{ShownImage}
use Rattle.tal_flow.specs.declared.forms.Form.{Form}
use Rattle.tal_flow.specs.declared.forms.Form.TheVariants.{Refused, Compute, Move, Address, Compare, TestBits, PushOf, PopTo, DropSlots, CallTo, CallBy, Return, Jump, Branch, Nothing}
use Rattle.tal_flow.specs.declared.places.Place.{Place}
use Rattle.tal_flow.specs.declared.places.Place.TheVariants.{Whole, Slot}
use Rattle.tal_flow.specs.declared.calls.Called.{Called}
use Rattle.tal_flow.specs.declared.edges.Told.{Told}
use Rattle.tal_flow.specs.declared.edges.Told.TheVariants.{Equal, Unequal, Below}
use Rattle.std.specs.Option.{option_map_or}
use Rattle.tal_flow.specs.Places.{operand_type, resolve, writable, operand_place, is_writable}
use Rattle.tal_flow.specs.Calls.{call_to, call_by, is_callable, is_fit, result_of}
use Rattle.tal_flow.specs.Afterwards.{kind_without, without, write, with_kind, with_slots, store_place, store, add_head, note_head, write_high, give_kind, after_call, slots_in, pop_to, after_form}
use Rattle.tal_flow.specs.Edges.{not_null, refine_reg, add_pair, meet_class, meet, refine}
use Rattle.tal_flow.specs.Rules.{operand_rule}
use Rattle.tal_flow.specs.Strongest.{OneHead}
use Rattle.tal_flow.proofs.PlacesBelow.{PlaceBelow, FoundBelow, place-below, operand_place-below, operand_type-below}
use Rattle.tal_flow.proofs.RowsBelow.{KindBelow, compare_kind-below, test_kind-below}
use Rattle.tal_flow.proofs.CallsBelow.{CalledBelow, call_to-below, call_by-below}
use Rattle.tal_types.specs.Laws.{TypeLaws}

-- What instructions leave in two contexts, one below the other.

-- a kind that names registers has no other kind below it
abbrev pub names_register : FlagKind → Bool
names_register (NullTest r) = true
names_register (Bound i a) = true
names_register (IsA r d) = true
names_register k = false

module _ (types : TypeLaws) where
  -- a register is written: the kinds stay one below the other
  kind_without-below : (r : Reg) (k m : FlagKind) → kind_below k m ≡ true → kind_below (kind_without r k) (kind_without r m) ≡ true
  unfolding kind_below kind_without
  kind_without-below r k m e = grind (arith, types.same_reflexive, types.same_or_not)

  -- a register is written: the pairs stay, where both have them
  without-below : (r : Reg) (p q : Reg → Reg → Bool) → ((i a : Reg) → q i a ≡ true → p i a ≡ true) → (i a : Reg) → without r q i a ≡ true → without r p i a ≡ true
  without-below r p q h i a e = grind (arith, h i a)

  -- one register is written in both
  pub write-below : (s : ShapesView) (a b : LiveContext) (r : Reg) (t u : Ty) → LiveBelow s a b → sub s t u ≡ true → LiveBelow s (write r t a) (write r u b)
  unfolding write
  write-below s a b r t u h e = record {
    regs = λ q. grind (arith, h.regs q);
    slots = h.slots;
    kind = kind_without-below r a.kind b.kind h.kind;
    pairs = without-below r a.pairs b.pairs h.pairs;
    heads = without-below r a.heads b.heads h.heads;
  }

  -- one slot takes a lower type and a higher one
  all_sub-set : (s : ShapesView) (ts us : List Ty) (i : ℕ) (t u : Ty) → all_sub s ts us ≡ true → sub s t u ≡ true → all_sub s (set ts i t) (set us i u) ≡ true
  unfolding all_sub
  all_sub-set s [] [] i t u h e = h
  all_sub-set s (x ∷ ts) [] i t u h e = absurd (grind arith)
  all_sub-set s [] (y ∷ us) i t u h e = absurd (grind arith)
  all_sub-set s (x ∷ ts) (y ∷ us) zero t u h e = grind arith
  all_sub-set s (x ∷ ts) (y ∷ us) (suc i) t u h e = let f = and_parts (sub s x y) _ h in rw f.0 (all_sub-set s ts us i t u f.1 e)

  -- the same slots are dropped on both sides
  all_sub-drop : (s : ShapesView) (ts us : List Ty) (n : ℕ) → all_sub s ts us ≡ true → all_sub s (drop n ts) (drop n us) ≡ true
  unfolding all_sub
  all_sub-drop s [] [] zero h = h
  all_sub-drop s [] [] (suc n) h = h
  all_sub-drop s (x ∷ ts) [] n h = absurd (grind arith)
  all_sub-drop s [] (y ∷ us) n h = absurd (grind arith)
  all_sub-drop s (x ∷ ts) (y ∷ us) zero h = h
  all_sub-drop s (x ∷ ts) (y ∷ us) (suc n) h = let f = and_parts (sub s x y) _ h in all_sub-drop s ts us n f.1

  -- a lower and a higher type are pushed
  all_sub-push : (s : ShapesView) (t u : Ty) (ts us : List Ty) → sub s t u ≡ true → all_sub s ts us ≡ true → all_sub s (t ∷ ts) (u ∷ us) ≡ true
  unfolding all_sub
  all_sub-push s t u ts us e h = rw e h

  -- slot 0 is below slot 0
  top-below : (s : ShapesView) (ts us : List Ty) → all_sub s ts us ≡ true → sub s (unwrap_or (slice_get ts 0) Junk) (unwrap_or (slice_get us 0) Junk) ≡ true
  unfolding all_sub
  top-below s [] [] h = types.types_reflexive s Junk
  top-below s (x ∷ ts) [] h = absurd (grind arith)
  top-below s [] (y ∷ us) h = absurd (grind arith)
  top-below s (x ∷ ts) (y ∷ us) h = (and_parts (sub s x y) _ h).0

  -- both take a kind, and the lower one a lower kind
  with_kind-below : (s : ShapesView) (a b : LiveContext) (j k : FlagKind) → LiveBelow s a b → kind_below j k ≡ true → LiveBelow s (with_kind j a) (with_kind k b)
  with_kind-below s a b j k h e = record { regs = h.regs; slots = h.slots; kind = e; pairs = h.pairs; heads = h.heads }

  -- both take slots, and the lower one lower slots
  with_slots-below : (s : ShapesView) (a b : LiveContext) (ts us : List Ty) → LiveBelow s a b → all_sub s ts us ≡ true → LiveBelow s (with_slots ts a) (with_slots us b)
  with_slots-below s a b ts us h e = record { regs = h.regs; slots = e; kind = h.kind; pairs = h.pairs; heads = h.heads }

  -- a value is stored at a place that both have
  store_slot_below : (s : ShapesView) (a b : LiveContext) (p q : Place) (t u : Ty) → LiveBelow s a b → PlaceBelow s p q → is_writable q ≡ true → sub s t u ≡ true
      → LiveBelow s (store_place (Some p) t a) (store_place (Some q) u b)
  store_slot_below s a b (Whole x) (Whole y) t u h e w f = h
  store_slot_below s a b (Slot i) (Slot j) t u h e w f = rw e (with_slots-below s a b _ _ h (all_sub-set s a.slots b.slots j t u h.slots f))
  store_slot_below s a b p q t u h e w f = absurd (grind arith)

  -- a value is stored at a place that the higher one may write
  store_memory_below : (s : ShapesView) (a b : LiveContext) (p q : Option Place) (t u : Ty) → LiveBelow s a b → FoundBelow s p q → option_map_or is_writable q false ≡ true
      → sub s t u ≡ true → LiveBelow s (store_place p t a) (store_place q u b)
  store_memory_below s a b p None t u h e w f = absurd (grind arith)
  store_memory_below s a b (Some p) (Some q) t u h e w f = store_slot_below s a b p q t u h e w f
  store_memory_below s a b None (Some q) t u h e w f = absurd e

  -- a lower value is stored in both
  pub store-below : (v : ShownImage) → ClassLaws v.shapes → (a b : LiveContext) (pc : ℕ) (d : Operand) (t u : Ty) → LiveBelow v.shapes a b → writable (resolve v b pc d) ≡ true
      → sub v.shapes t u ≡ true → LiveBelow v.shapes (store (resolve v a pc d) t a) (store (resolve v b pc d) u b)
  unfolding store writable operand_place
  store-below v l a b pc (R r) t u h w e = write-below v.shapes a b r t u h e
  store-below v l a b pc (M m) t u h w e = store_memory_below v.shapes a b _ _ t u h (place-below types v.shapes l v.statics a b m h) w e
  store-below v l a b pc (I n) t u h w e = h

  -- the upper half of a wide result is written in both
  write_high-below : (s : ShapesView) (a b : LiveContext) (r : Bool) → LiveBelow s a b → LiveBelow s (write_high r a) (write_high r b)
  unfolding write_high
  write_high-below s a b false h = h
  write_high-below s a b true h = write-below s a b Edx Num Num h (types.types_reflexive s Num)

  -- both take the same kind, or keep their own
  give_kind-below : (s : ShapesView) (a b : LiveContext) (k : Option FlagKind) → LiveBelow s a b → LiveBelow s (give_kind k a) (give_kind k b)
  unfolding give_kind
  give_kind-below s a b None h = with_kind-below s a b _ _ h h.kind
  give_kind-below s a b (Some k) h = with_kind-below s a b k k h (types.kinds_reflexive k)

  -- a kind that may not be there is below one that may not be there
  kind_given_below : (j k : Option FlagKind) → KindBelow j k → kind_below (unwrap_or j Lost) (unwrap_or k Lost) ≡ true
  unfolding kind_below
  kind_given_below j None h = refl
  kind_given_below (Some j) (Some k) h = h
  kind_given_below None (Some k) h = absurd h

  -- both learn of a head
  add_head-below : (s : ShapesView) (a b : LiveContext) (t r : Reg) → LiveBelow s a b → LiveBelow s (add_head t r a) (add_head t r b)
  unfolding add_head
  add_head-below s a b t r h = record { regs = h.regs; slots = h.slots; kind = h.kind; pairs = h.pairs; heads = λ i q g. grind (arith, h.heads i q) }

  -- the lower one alone learns of a head
  add_head-less : (s : ShapesView) (a b : LiveContext) (t r : Reg) → LiveBelow s a b → LiveBelow s (add_head t r a) b
  unfolding add_head
  add_head-less s a b t r h = record { regs = h.regs; slots = h.slots; kind = h.kind; pairs = h.pairs; heads = λ i q g. grind (arith, h.heads i q) }

  -- a MOV notes the head that it has read in both
  note_head-below : (s : ShapesView) (a b : LiveContext) (d : Operand) (p q : Option Place) → LiveBelow s a b → FoundBelow s p q → LiveBelow s (note_head d p a) (note_head d q b)
  unfolding note_head
  note_head-below s a b d p q h e = grind (arith, add_head-below s a b, add_head-less s a b)

  -- a call comes back in both
  after_call-below : (s : ShapesView) (a b : LiveContext) (t u : Ty) → LiveBelow s a b → sub s t u ≡ true → LiveBelow s (after_call t a) (after_call u b)
  unfolding after_call
  after_call-below s a b t u h e = record { regs = λ r. grind (arith, types.types_reflexive s Junk); slots = h.slots; kind = types.kinds_reflexive Lost; pairs = λ i q g. g; heads = λ i q g. g }

  -- the results of calls that have no fault
  result-below : (s : ShapesView) (p q : Called) → CalledBelow s p q → is_callable q ≡ true → is_fit q ≡ true → sub s (result_of p) (result_of q) ≡ true
  unfolding is_callable is_fit result_of
  result-below s p q h e f = grind arith

  -- a slot is popped in both
  pop_to-below : (s : ShapesView) (a b : LiveContext) (r : Reg) → LiveBelow s a b → LiveBelow s (pop_to r a) (pop_to r b)
  unfolding pop_to
  pop_to-below s a b r h = with_slots-below s _ _ _ _ (write-below s a b r _ _ h (top-below s a.slots b.slots h.slots)) (all_sub-drop s a.slots b.slots 1 h.slots)

  -- the lower context leaves a lower one
  pub after_form-below : (v : ShownImage) → ClassLaws v.shapes → (a b : LiveContext) (pc : ℕ) (f : Form) → LiveBelow v.shapes a b → OneHead a → operand_rule v b pc f ≡ None
      → LiveBelow v.shapes (after_form v a pc f) (after_form v b pc f)
  unfolding after_form operand_rule
  after_form-below v l a b pc Refused h one e = h
  after_form-below v l a b pc (Compute xs d r k) h one e =
      let w : writable (resolve v b pc d) ≡ true = grind arith in
      give_kind-below v.shapes _ _ k (write_high-below v.shapes _ _ r (store-below v l a b pc d Num Num h w (types.types_reflexive v.shapes Num)))
  after_form-below v l a b pc (Move d x) h one e =
      let w : writable (resolve v b pc d) ≡ true = grind arith in
      note_head-below v.shapes _ _ d _ _ (store-below v l a b pc d _ _ h w (operand_type-below types v l a b pc x h)) (operand_place-below types v l a b x h)
  after_form-below v l a b pc (Address r m) h one e = write-below v.shapes a b r Num Num h (types.types_reflexive v.shapes Num)
  after_form-below v l a b pc (Compare d x) h one e = with_kind-below v.shapes a b _ _ h (kind_given_below _ _ (compare_kind-below types v l a b pc d x h one))
  after_form-below v l a b pc (TestBits d x) h one e = with_kind-below v.shapes a b _ _ h (kind_given_below _ _ (test_kind-below types v l a b pc d x h))
  after_form-below v l a b pc (PushOf x) h one e = with_slots-below v.shapes a b _ _ h (all_sub-push v.shapes _ _ a.slots b.slots (operand_type-below types v l a b pc x h) h.slots)
  after_form-below v l a b pc (PopTo r) h one e = pop_to-below v.shapes a b r h
  after_form-below v l a b pc (DropSlots n) h one e = with_kind-below v.shapes _ _ _ _ (with_slots-below v.shapes a b _ _ h (all_sub-drop v.shapes a.slots b.slots (unwrap_or (slots_in n) 0) h.slots)) (types.kinds_reflexive Lost)
  after_form-below v l a b pc (CallTo t) h one e =
      let f : is_callable (call_to v b t) ≡ true = grind arith in
      let g : is_fit (call_to v b t) ≡ true = grind arith in
      after_call-below v.shapes a b _ _ h (result-below v.shapes _ _ (call_to-below types v l a b t h) f g)
  after_form-below v l a b pc (CallBy x) h one e =
      let f : is_callable (call_by v b (operand_type v b pc x)) ≡ true = grind arith in
      let g : is_fit (call_by v b (operand_type v b pc x)) ≡ true = grind arith in
      after_call-below v.shapes a b _ _ h (result-below v.shapes _ _ (call_by-below types v l a b _ _ h (operand_type-below types v l a b pc x h)) f g)
  after_form-below v l a b pc Return h one e = h
  after_form-below v l a b pc (Jump t) h one e = h
  after_form-below v l a b pc (Branch k t) h one e = h
  after_form-below v l a b pc Nothing h one e = h

  -- refinement

  -- what is not null is below what may be
  not_null-less : (s : ShapesView) (t u : Ty) → sub s t u ≡ true → sub s (not_null t) u ≡ true
  unfolding sub not_null
  not_null-less s t u e = grind arith

  -- of two types, one below the other, both are told not to be null
  not_null-below : (s : ShapesView) (t u : Ty) → sub s t u ≡ true → sub s (not_null t) (not_null u) ≡ true
  unfolding sub not_null
  not_null-below s t u e = grind arith

  -- more is known of a register in both
  refine_reg-below : (s : ShapesView) (a b : LiveContext) (r : Reg) (t u : Ty) → LiveBelow s a b → sub s t u ≡ true → LiveBelow s (refine_reg r t a) (refine_reg r u b)
  unfolding refine_reg
  refine_reg-below s a b r t u h e = record { regs = λ q. grind (arith, h.regs q); slots = h.slots; kind = h.kind; pairs = h.pairs; heads = h.heads }

  -- more is known of a register in the lower one alone
  refine_reg-less : (s : ShapesView) (a b : LiveContext) (r : Reg) (t : Ty) → LiveBelow s a b → sub s t (b.regs r) ≡ true → LiveBelow s (refine_reg r t a) b
  unfolding refine_reg
  refine_reg-less s a b r t h e = record { regs = λ q. grind (arith, h.regs q, types.same_or_not q r); slots = h.slots; kind = h.kind; pairs = h.pairs; heads = h.heads }

  -- both learn of a pair
  add_pair-below : (s : ShapesView) (a b : LiveContext) (i r : Reg) → LiveBelow s a b → LiveBelow s (add_pair i r a) (add_pair i r b)
  unfolding add_pair
  add_pair-below s a b i r h = record { regs = h.regs; slots = h.slots; kind = h.kind; pairs = λ j q g. grind (arith, h.pairs j q); heads = h.heads }

  -- the lower one alone learns of a pair
  add_pair-less : (s : ShapesView) (a b : LiveContext) (i r : Reg) → LiveBelow s a b → LiveBelow s (add_pair i r a) b
  unfolding add_pair
  add_pair-less s a b i r h = record { regs = h.regs; slots = h.slots; kind = h.kind; pairs = λ j q g. grind (arith, h.pairs j q); heads = h.heads }

  -- an object of a lower class is below whatever its class's objects are below
  below_object : (s : ShapesView) → ClassLaws s → (c d : ℕ) (u : Ty) → within s c d ≡ true → sub s (Obj d) u ≡ true → sub s (Obj c) u ≡ true
  unfolding sub
  below_object s l c d u h e = grind (arith, types.within_transitive s l c d)

  -- of two classes above one, one is below the other
  within-tree : (s : ShapesView) → ClassLaws s → (c d e : ℕ) → within s c d ≡ true → within s c e ≡ true → within s d e ≡ false → within s e d ≡ true
  unfolding within
  within-tree s l c d e g h f = grind (arith, nat_tests, l.tree c d e)

  -- objects of a lower class are below those of a higher one
  object_sub : (s : ShapesView) (c d : ℕ) → within s c d ≡ true → sub s (Obj c) (Obj d) ≡ true
  unfolding sub
  object_sub s c d h = h

  -- each of two contexts is below, and so is the one that a test picks
  either-below : (s : ShapesView) (t : Bool) (c d b : ContextView) → (t ≡ true → ContextBelow s c b) → ContextBelow s d b → ContextBelow s (if t then c else d) b
  either-below s true c d b g h = g refl
  either-below s false c d b g h = h

  -- a class test leaves the lower context below
  meet_class-less : (s : ShapesView) → ClassLaws s → (a b : LiveContext) (r : Reg) (k d : ℕ) → LiveBelow s a b → sub s (Obj k) (b.regs r) ≡ true
      → ContextBelow s (meet_class s a r k d) (Live b)
  meet_class-less s l a b r k d h e =
      either-below s (within s k d) _ _ (Live b)
      (λ t. refine_reg-less s a b r (Obj k) h e)
      (either-below s (within s d k) (Live (refine_reg r (Obj d) a)) Dead (Live b) (λ t. refine_reg-less s a b r (Obj d) h (below_object s l d k (b.regs r) t e)) tt)

  -- a class test of both, of objects of two classes
  meet_class-below : (s : ShapesView) → ClassLaws s → (a b : LiveContext) (r : Reg) (j k d : ℕ) → LiveBelow s a b → within s j k ≡ true
      → ContextBelow s (meet_class s a r j d) (meet_class s b r k d)
  meet_class-below s l a b r j k d h e = cases (within s j d) (within s d j) (within s k d) (within s d k) refl refl refl refl
    where
      cases : (p q x y : Bool) → within s j d ≡ p → within s d j ≡ q → within s k d ≡ x → within s d k ≡ y
          → ContextBelow s (if p then Live (refine_reg r (Obj j) a) else if q then Live (refine_reg r (Obj d) a) else Dead) (if x then Live (refine_reg r (Obj k) b) else if y then Live (refine_reg r (Obj d) b) else Dead)
      cases true q true y e1 e2 e3 e4 = refine_reg-below s a b r (Obj j) (Obj k) h (object_sub s j k e)
      cases false q true y e1 e2 e3 e4 = let g = types.within_transitive s l j k d e e3 in absurd (grind arith)
      cases true q false true e1 e2 e3 e4 = refine_reg-below s a b r (Obj j) (Obj d) h (object_sub s j d e1)
      cases false true false true e1 e2 e3 e4 = refine_reg-below s a b r (Obj d) (Obj d) h (object_sub s d d (types.within_reflexive s d))
      cases false false false true e1 e2 e3 e4 = tt
      cases true q false false e1 e2 e3 e4 = let g = within-tree s l j k d e e1 e3 in absurd (grind arith)
      cases false true false false e1 e2 e3 e4 = let g = types.within_transitive s l d j k e2 e in absurd (grind arith)
      cases false false false false e1 e2 e3 e4 = tt

  -- an object is below what its reference is below
  object_less : (s : ShapesView) (c : ℕ) (u : Ty) → sub s (Ref c) u ≡ true → sub s (Obj c) u ≡ true
  unfolding sub
  object_less s c u e = grind arith

  -- a test of a register's class leaves the lower context below
  meet-less : (s : ShapesView) → ClassLaws s → (a b : LiveContext) (r : Reg) (t : Ty) (d : ℕ) → LiveBelow s a b → sub s t (b.regs r) ≡ true → ContextBelow s (meet s a r t d) (Live b)
  unfolding meet
  meet-less s l a b r (Obj k) d h e = meet_class-less s l a b r k d h e
  meet-less s l a b r (Ref k) d h e = meet_class-less s l a b r k d h (object_less s k (b.regs r) e)
  meet-less s l a b r t d h e = h

  -- a test of a register's class in both
  meet-below : (s : ShapesView) → ClassLaws s → (a b : LiveContext) (r : Reg) (t u : Ty) (d : ℕ) → LiveBelow s a b → sub s t u ≡ true → sub s t (b.regs r) ≡ true
      → ContextBelow s (meet s a r t d) (meet s b r u d)
  unfolding meet sub
  meet-below s l a b r (Obj j) (Obj k) d h e g = meet_class-below s l a b r j k d h e
  meet-below s l a b r (Obj j) (Ref k) d h e g = meet_class-below s l a b r j k d h e
  meet-below s l a b r (Ref j) (Ref k) d h e g = meet_class-below s l a b r j k d h e
  meet-below s l a b r t (Obj k) d h e g = absurd (grind arith)
  meet-below s l a b r t (Ref k) d h e g = absurd (grind arith)
  meet-below s l a b r t u d h e g = meet-less s l a b r t d h g

  -- refinement leaves a context below the one that it refines
  refine-less : (s : ShapesView) → ClassLaws s → (a b : LiveContext) (k : FlagKind) (e : Told) → LiveBelow s a b → ContextBelow s (refine s a k e) (Live b)
  unfolding refine
  refine-less s l a b (NullTest r) Unequal h = refine_reg-less s a b r _ h (not_null-less s _ _ (h.regs r))
  refine-less s l a b (Bound i q) Below h = add_pair-less s a b i q h
  refine-less s l a b (IsA r d) Equal h = meet-less s l a b r _ d h (h.regs r)
  refine-less s l a b k e h = h

  -- both are refined by the same kind
  refine-same : (s : ShapesView) → ClassLaws s → (a b : LiveContext) (k : FlagKind) (e : Told) → LiveBelow s a b → ContextBelow s (refine s a k e) (refine s b k e)
  unfolding refine
  refine-same s l a b (NullTest r) Unequal h = refine_reg-below s a b r _ _ h (not_null-below s _ _ (h.regs r))
  refine-same s l a b (Bound i q) Below h = add_pair-below s a b i q h
  refine-same s l a b (IsA r d) Equal h = meet-below s l a b r _ _ d h (h.regs r) (h.regs r)
  refine-same s l a b k e h = h

  -- what is below a kind that names registers is that kind
  kind-alike : (j k : FlagKind) → kind_below j k ≡ true → names_register k ≡ true → k ≡ j
  unfolding kind_below
  kind-alike (NullTest r) (NullTest q) h e = ap NullTest (sym (types.same_told r q h))
  kind-alike (Bound i a) (Bound j b) h e = let f = and_parts (same i j) _ h in ap (λ x. Bound x b) (sym (types.same_told i j f.0)) ∙ ap (Bound i) (sym (types.same_told a b f.1))
  kind-alike (IsA r c) (IsA q d) h e = let f = and_parts (same r q) _ h in let g : d ≡ c = grind (arith, nat_tests) in ap (λ x. IsA x d) (sym (types.same_told r q f.0)) ∙ ap (IsA r) g
  kind-alike j k h e = absurd (grind arith)

  -- a kind that names no register tells nothing
  refine-none : (s : ShapesView) (b : LiveContext) (k : FlagKind) (e : Told) → names_register k ≡ false → refine s b k e ≡ Live b
  unfolding refine
  refine-none s b Lost e f = refl
  refine-none s b Eq e f = refl
  refine-none s b FlagNum e f = refl
  refine-none s b (NullTest r) e f = absurd (grind arith)
  refine-none s b (Bound i a) e f = absurd (grind arith)
  refine-none s b (IsA r d) e f = absurd (grind arith)

  -- each way of a branch leaves the lower context a lower one
  pub refine-below : (s : ShapesView) → ClassLaws s → (a b : LiveContext) (j k : FlagKind) (e : Told) → LiveBelow s a b → kind_below j k ≡ true
      → ContextBelow s (refine s a j e) (refine s b k e)
  refine-below s l a b j k e h g = go (names_register k) refl
    where
      go : (t : Bool) → names_register k ≡ t → ContextBelow s (refine s a j e) (refine s b k e)
      go true f = rw (kind-alike j k g f) (refine-same s l a b j e h)
      go false f = rw (refine-none s b k e f) (refine-less s l a b j e h)
