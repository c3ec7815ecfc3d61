use Rattle.std.proofs.Common.{◌≡◌, ℕ, true, false, ◌&&◌, Bool, Option, Some, None, arith, refl, List, [], ◌∷◌, length, is_some}
use Rattle.std.proofs.lemmas.Bool.{and_parts}
use Rattle.std.specs.Option.{option_and_then, option_map_or}
use Rattle.ia32_code.specs.declared.instruction.Reg.{Reg}
use Rattle.ia32_code.specs.declared.instruction.Reg.TheVariants.{Eax}
use Rattle.ia32_code.specs.declared.instruction.Mem.{Mem}
use Rattle.ia32_code.specs.declared.instruction.Cond.{Cond}
use Rattle.ia32_code.specs.declared.instruction.Operand.{Operand}
use Rattle.object_layout.specs.Classes.{ShapesView}
use Rattle.object_layout.specs.Laws.{ClassLaws}
use Rattle.tal_types.specs.declared.types.Ty.{Ty}
use Rattle.tal_types.specs.declared.types.FlagKind.{FlagKind}
use Rattle.tal_types.specs.declared.signatures.Sig.{Sig}
use Rattle.tal_types.specs.declared.views.Span.{Span}
use Rattle.tal_types.specs.Types.{sub}
use Rattle.tal_types.specs.Contexts.{LiveContext, LiveBelow, kind_below, all_sub}
use Rattle.tal_types.specs.Shown.{ShownImage}
use Rattle.tal_flow.specs.declared.forms.Form.{Form}
use Rattle.tal_flow.specs.declared.forms.Form.TheVariants.{Refused, Compute, Move, Address, Compare, TestBits, PushOf, PopTo, DropSlots, CallTo, CallBy, Return, Jump, Branch, Nothing}
use Rattle.tal_flow.specs.declared.calls.Called.{Called}
use Rattle.tal_flow.specs.declared.trials.RuleName.TheVariants as rule
use Rattle.tal_flow.specs.Trials.{ask, first_failing}
use Rattle.tal_flow.specs.Places.{operand_type, resolve, writable, storable, is_num}
use Rattle.tal_flow.specs.Calls.{call_to, call_by, is_callable, is_fit}
use Rattle.tal_flow.specs.Edges.{allows}
use Rattle.tal_flow.specs.Functions.{fits_result}
use Rattle.tal_flow.specs.Rules.{operand_rule, address_is_num, may_drop}
use Rattle.tal_flow.specs.Strongest.{OneHead}
use Rattle.tal_flow.proofs.PlacesBelow.{operand_type-below, found-below, readable-below, writable-below, storable-below, all_found_below, all_readable_below, all_num_below, is_num-below}
use Rattle.tal_flow.proofs.RowsBelow.{KindBelow, compare_kind-below, test_kind-below}
use Rattle.tal_flow.proofs.CallsBelow.{CalledBelow, call_to-below, call_by-below}
use Rattle.tal_types.specs.Laws.{TypeLaws}

-- The rules 1 to 15 in two contexts, one below the other: the lower one fails no further rule.

-- lists of slots that are below each other are equally long
pub slots-length : (s : ShapesView) (ts us : List Ty) → all_sub s ts us ≡ true → length ts ≡ length us
unfolding all_sub
slots-length s [] [] e = refl
slots-length s (t ∷ ts) [] e = absurd (grind arith)
slots-length s [] (u ∷ us) e = absurd (grind arith)
slots-length s (t ∷ ts) (u ∷ us) e = let f = and_parts (sub s t u) _ e in let g = slots-length s ts us f.1 in grind arith

-- a lower kind allows what a higher one allows
allows-below : (j k : FlagKind) (c : Cond) → kind_below j k ≡ true → allows k c ≡ true → allows j c ≡ true
unfolding allows kind_below
allows-below j k c h e = grind arith

-- where the higher context has a row, the lower one has
kind_there : (j k : Option FlagKind) → KindBelow j k → is_some k ≡ true → is_some j ≡ true
kind_there j k h e = grind arith

module _ (types : TypeLaws) where
  -- a lower value may be stored where a higher one may
  stored-below : (v : ShownImage) → ClassLaws v.shapes → (a b : LiveContext) (pc : ℕ) (d x : Operand) → LiveBelow v.shapes a b → writable (resolve v b pc d) ≡ true
      → storable v.shapes (operand_type v b pc x) (resolve v b pc d) ≡ true → storable v.shapes (operand_type v a pc x) (resolve v a pc d) ≡ true
  stored-below v l a b pc d x h w e = storable-below types v l a b pc d _ _ h (operand_type-below types v l a b pc x h) w e

  -- a register of an address that holds a number above holds one below
  reg_num_below : (s : ShapesView) (a b : LiveContext) (o : Option Reg) → LiveBelow s a b → option_map_or (λ q. is_num (b.regs q)) o true ≡ true
      → option_map_or (λ q. is_num (a.regs q)) o true ≡ true
  reg_num_below s a b None h e = e
  reg_num_below s a b (Some q) h e = is_num-below types s _ _ (h.regs q) e

  -- and so do both registers of an address
  address-below : (s : ShapesView) (a b : LiveContext) (m : Mem) → LiveBelow s a b → address_is_num b m ≡ true → address_is_num a m ≡ true
  address-below s a b m h e =
      let f = and_parts (option_map_or (λ q. is_num (b.regs q)) m.base true) _ e in
      rw (reg_num_below s a b m.base h f.0, reg_num_below s a b m.index h f.1) refl

  -- as many slots may be dropped
  may_drop-below : (s : ShapesView) (a b : LiveContext) (n : ℕ) → LiveBelow s a b → may_drop b n ≡ true → may_drop a n ≡ true
  unfolding may_drop
  may_drop-below s a b n h e = rw (slots-length s a.slots b.slots h.slots) e

  -- a lower type fits a signature's result
  fits_sig_below : (s : ShapesView) → ClassLaws s → (t u : Ty) (o : Option Sig) → sub s t u ≡ true → option_map_or (λ (sig : Sig). sub s u sig.result) o false ≡ true
      → option_map_or (λ (sig : Sig). sub s t sig.result) o false ≡ true
  fits_sig_below s l t u None h e = e
  fits_sig_below s l t u (Some sig) h e = types.types_transitive s l t u sig.result h e

  -- and the result of the function that has an address
  fits_result-below : (v : ShownImage) → ClassLaws v.shapes → (pc : ℕ) (t u : Ty) → sub v.shapes t u ≡ true → fits_result v pc u ≡ true → fits_result v pc t ≡ true
  unfolding fits_result
  fits_result-below v l pc t u h e = fits_sig_below v.shapes l t u (option_and_then (λ (span : Span). v.sig span.sig) (v.function_of pc)) h e

  -- a call that has no fault in the higher context has none in the lower one
  called-below : (s : ShapesView) (p q : Called) → CalledBelow s p q → is_callable q ≡ true → is_fit q ≡ true → (is_callable p && is_fit p) ≡ true
  unfolding is_callable is_fit
  called-below s p q h e f = grind arith

  -- a CALL of an address that has no fault above has none below
  call_to-holds : (v : ShownImage) → ClassLaws v.shapes → (a b : LiveContext) (address : ℕ) → LiveBelow v.shapes a b → is_callable (call_to v b address) ≡ true
      → is_fit (call_to v b address) ≡ true → (is_callable (call_to v a address) && is_fit (call_to v a address)) ≡ true
  call_to-holds v l a b address h e f = called-below v.shapes _ _ (call_to-below types v l a b address h) e f

  -- nor has a CALL of an operand
  call_by-holds : (v : ShownImage) → ClassLaws v.shapes → (a b : LiveContext) (pc : ℕ) (x : Operand) → LiveBelow v.shapes a b
      → is_callable (call_by v b (operand_type v b pc x)) ≡ true → is_fit (call_by v b (operand_type v b pc x)) ≡ true
      → (is_callable (call_by v a (operand_type v a pc x)) && is_fit (call_by v a (operand_type v a pc x))) ≡ true
  call_by-holds v l a b pc x h e f = called-below v.shapes _ _ (call_by-below types v l a b _ _ h (operand_type-below types v l a b pc x h)) e f

  -- a comparison that has a row above and fails no rule there fails none below
  compared-below : (p q q' x x' : Bool) (j k : Option FlagKind) → KindBelow j k → (q ≡ true → q' ≡ true) → (q ≡ true → x ≡ true → x' ≡ true)
      → first_failing (ask rule.EspRole p ∷ ask rule.Place q ∷ ask rule.Access x ∷ ask rule.Comparison (is_some k) ∷ []) ≡ None
      → first_failing (ask rule.EspRole p ∷ ask rule.Place q' ∷ ask rule.Access x' ∷ ask rule.Comparison (is_some j) ∷ []) ≡ None
  compared-below p q q' x x' j k h f g e = grind (arith, kind_there j k h)

  -- none of the rules 1 to 15 fails in the lower context alone
  pub operand_rule-below : (v : ShownImage) → ClassLaws v.shapes → (a b : LiveContext) (pc : ℕ) (f : Form) → LiveBelow v.shapes a b → OneHead a
      → operand_rule v b pc f ≡ None → operand_rule v a pc f ≡ None
  unfolding operand_rule
  operand_rule-below v l a b pc Refused h one e = absurd (grind arith)
  operand_rule-below v l a b pc (Compute xs d rs k) h one e =
      grind (arith, all_found_below types v l a b pc xs h, all_readable_below types v l a b pc xs h, found-below types v l a b pc d h, writable-below types v l a b pc d h, all_num_below types v l a b pc xs h)
  operand_rule-below v l a b pc (Move d x) h one e =
      grind (arith, found-below types v l a b pc d h, found-below types v l a b pc x h, readable-below types v l a b pc x h, writable-below types v l a b pc d h, stored-below v l a b pc d x h)
  operand_rule-below v l a b pc (Address r m) h one e = grind (arith, address-below v.shapes a b m h)
  operand_rule-below v l a b pc (Compare d x) h one e =
      compared-below _ _ _ true true _ _ (compare_kind-below types v l a b pc d x h one)
      (λ g. grind (arith, found-below types v l a b pc d h, found-below types v l a b pc x h)) (λ g y. refl) e
  operand_rule-below v l a b pc (TestBits d x) h one e =
      compared-below _ _ _ _ _ _ _ (test_kind-below types v l a b pc d x h)
      (λ g. grind (arith, found-below types v l a b pc d h, found-below types v l a b pc x h))
      (λ g y. grind (arith, readable-below types v l a b pc d h, readable-below types v l a b pc x h)) e
  operand_rule-below v l a b pc (PushOf x) h one e = rw (slots-length v.shapes a.slots b.slots h.slots) (grind (arith, found-below types v l a b pc x h, readable-below types v l a b pc x h))
  operand_rule-below v l a b pc (PopTo r) h one e = rw (slots-length v.shapes a.slots b.slots h.slots) e
  operand_rule-below v l a b pc (DropSlots n) h one e = grind (arith, may_drop-below v.shapes a b n h)
  operand_rule-below v l a b pc (CallTo t) h one e = grind (arith, call_to-holds v l a b t h)
  operand_rule-below v l a b pc (CallBy x) h one e = grind (arith, found-below types v l a b pc x h, readable-below types v l a b pc x h, call_by-holds v l a b pc x h)
  operand_rule-below v l a b pc Return h one e =
      rw (slots-length v.shapes a.slots b.slots h.slots) (grind (arith, fits_result-below v l pc (a.regs Eax) (b.regs Eax) (h.regs Eax)))
  operand_rule-below v l a b pc (Jump t) h one e = e
  operand_rule-below v l a b pc (Branch k t) h one e = grind (arith, allows-below a.kind b.kind k h.kind)
  operand_rule-below v l a b pc Nothing h one e = refl
