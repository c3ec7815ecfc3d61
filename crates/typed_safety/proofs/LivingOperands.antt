-- The objects that the operands of a well typed instruction point to live.
use Rattle.std.proofs.Common.{◌≡◌, ℕ, Bool, true, false, Option, Some, None, is_some, List, [], ◌∷◌, arith}
use Rattle.std.specs.Prelude.{◌%◌, ◌==◌, ◌&&◌}
use Rattle.std.proofs.lemmas.Bool.{and_parts}
use Rattle.ia32_code.specs.declared.instruction.Reg.TheVariants.{Eax, Ecx, Edx, Ebx, Esp, Ebp, Esi, Edi}
use Rattle.ia32_code.specs.declared.instruction.Alu.{Alu}
use Rattle.ia32_code.specs.declared.instruction.Alu.TheVariants as alu
use Rattle.ia32_code.specs.declared.instruction.Count.TheVariants.{By, Cl}
use Rattle.ia32_code.specs.declared.instruction.Mem.{Mem}
use Rattle.ia32_code.specs.declared.instruction.Operand.{Operand}
use Rattle.ia32_code.specs.declared.instruction.Operand.TheVariants.{R, M, I}
use Rattle.ia32_code.specs.declared.instruction.Inst.{Inst}
use Rattle.ia32_code.specs.declared.instruction.Inst.TheVariants as inst
use Rattle.tal_types.specs.declared.types.FlagKind.{FlagKind}
use Rattle.tal_flow.specs.declared.forms.Form.{Form}
use Rattle.tal_flow.specs.declared.forms.Form.TheVariants.{Compute, Move, Compare, TestBits, PushOf, CallBy}
use Rattle.tal_flow.specs.declared.places.Place.{Place}
use Rattle.tal_flow.specs.declared.places.Place.TheVariants.{Whole, Slot, Length, Head, Method, Display}
use Rattle.tal_flow.specs.Forms.{form_of}
use Rattle.tal_flow.specs.Places.{found, operand_place, reads_of}
use Rattle.tal_flow.specs.Rules.{operand_rule, next_address}
use Rattle.tal_flow.specs.Strongest.{PlacedInst}
use Rattle.tal_image.specs.Image.{ImageParts}
use Rattle.tal_image.specs.Shown.{shown}
use Rattle.tal_checker.specs.Running.{RunsOn, instruction_in}
use Rattle.typed_machine.specs.States.{State}
use Rattle.typed_machine.specs.Operands.{Spot, AtStatic, AtSlot, AtValue, AtLength, AtHead, AtMethod, AtDisplay, spot_of}
use Rattle.typed_machine.specs.Typing.{TypedAmong, scope_of}
use Rattle.typed_safety.specs.Laws.{ImageLaws, SpotLives, PointsToLiving, OperandsLive}
use Rattle.typed_safety.proofs.Scopes.{resolved, place_of, spot_in}
use Rattle.typed_safety.proofs.Fitted.{typed-fits}
use Rattle.typed_safety.proofs.Spots.{SpotFits, SpotFound, spot-found}
use Rattle.typed_safety.proofs.Standing.{stands-at}

module _ (image : ImageParts) (live : ℕ → Bool) (runs : RunsOn image) (laws : ImageLaws image) (s : State) (t : TypedAmong image live s) where
  -- a spot where a place is seen
  seen-lives : (a : Mem) (p : Place) (spot : Spot) → SpotFits (scope_of image live s) t.thread.context s a.base p spot → SpotLives live spot
  seen-lives a p (AtStatic j) h = tt
  seen-lives a p (AtSlot i) h = tt
  seen-lives a p (AtMethod c m) h = tt
  seen-lives a p (AtDisplay c d) h = tt
  seen-lives a (Whole u) (AtValue i j) h = h.1
  seen-lives a Length (AtLength i) h = h.lives
  seen-lives a (Head r k) (AtHead i) h = h.2
  seen-lives a p spot h = absurd h

  -- an operand that is found
  found-lives : (x : Operand) → found (resolved (scope_of image live s) t.thread.context s x) ≡ true → PointsToLiving image live s x
  unfolding found operand_place
  found-lives (R r) h = tt
  found-lives (I n) h = tt
  found-lives (M a) h =
      go (place_of (scope_of image live s) t.thread.context a) h (spot-found (scope_of image live s) t.thread.sig.result t.thread.context s laws.classes (typed-fits image live s t) a)
    where
      go : (p : Option Place) → is_some p ≡ true → SpotFound (scope_of image live s) t.thread.context s a.base p (spot_in (scope_of image live s) s a)
          → (spot : Spot) → spot_of (shown image).shapes s a ≡ Some spot → SpotLives live spot
      go None e f spot is = absurd (cc)
      go (Some p) e f spot is = seen-lives a p spot (rw is at f)

  -- no rule for its operands fails at a form
  abbrev NoneFails : Form → Type 0
  NoneFails form = operand_rule (shown image) t.thread.context s.thread.place form ≡ None

  -- two operands that are found
  both-live : (d x : Operand) → found (resolved (scope_of image live s) t.thread.context s d) ≡ true → found (resolved (scope_of image live s) t.thread.context s x) ≡ true
      → PointsToLiving image live s d × PointsToLiving image live s x
  both-live d x e f = (found-lives d e, found-lives x f)

  -- the operands of a computation
  computed-one : (x d : Operand) (wide : Bool) (k : Option FlagKind) → NoneFails (Compute (x ∷ []) d wide k) → PointsToLiving image live s x
  unfolding operand_rule
  computed-one x d wide k e = found-lives x (grind arith)

  computed-two : (x y d : Operand) (wide : Bool) (k : Option FlagKind) → NoneFails (Compute (x ∷ y ∷ []) d wide k)
      → PointsToLiving image live s x × PointsToLiving image live s y
  unfolding operand_rule
  computed-two x y d wide k e = both-live x y (grind arith) (grind arith)

  -- the destination of one
  computed-into : (x y d : Operand) (wide : Bool) (k : Option FlagKind) → NoneFails (Compute (x ∷ y ∷ []) d wide k)
      → PointsToLiving image live s d × PointsToLiving image live s x
  unfolding operand_rule
  computed-into x y d wide k e = both-live d x (grind arith) (grind arith)

  computed-third : (x y z d : Operand) (wide : Bool) (k : Option FlagKind) → NoneFails (Compute (x ∷ y ∷ z ∷ []) d wide k) → PointsToLiving image live s z
  unfolding operand_rule
  computed-third x y z d wide k e = found-lives z (grind arith)

  -- those of the other forms
  moved-live : (d x : Operand) → NoneFails (Move d x) → PointsToLiving image live s d × PointsToLiving image live s x
  unfolding operand_rule
  moved-live d x e = both-live d x (grind arith) (grind arith)

  compared-live : (d x : Operand) → NoneFails (Compare d x) → PointsToLiving image live s d × PointsToLiving image live s x
  unfolding operand_rule
  compared-live d x e = both-live d x (grind arith) (grind arith)

  tested-live : (d x : Operand) → NoneFails (TestBits d x) → PointsToLiving image live s d × PointsToLiving image live s x
  unfolding operand_rule
  tested-live d x e = both-live d x (grind arith) (grind arith)

  pushed-lives : (x : Operand) → NoneFails (PushOf x) → PointsToLiving image live s x
  unfolding operand_rule
  pushed-lives x e = found-lives x (grind arith)

  called-lives : (x : Operand) → NoneFails (CallBy x) → PointsToLiving image live s x
  unfolding operand_rule
  called-lives x e = found-lives x (grind arith)

  -- ADD, but that of a number to ESP, which has no operand in memory
  add-live : (next : ℕ) (d x : Operand) → NoneFails (form_of next (inst.Alu alu.Add d x)) → PointsToLiving image live s d × PointsToLiving image live s x
  unfolding form_of
  add-live next (R Esp) (I n) e = (tt, tt)
  add-live next (R Esp) (R q) e = (tt, tt)
  add-live next (R Esp) (M a) e = computed-two (R Esp) (M a) (R Esp) _ _ e
  add-live next (R Eax) x e = computed-two (R Eax) x (R Eax) _ _ e
  add-live next (R Ecx) x e = computed-two (R Ecx) x (R Ecx) _ _ e
  add-live next (R Edx) x e = computed-two (R Edx) x (R Edx) _ _ e
  add-live next (R Ebx) x e = computed-two (R Ebx) x (R Ebx) _ _ e
  add-live next (R Ebp) x e = computed-two (R Ebp) x (R Ebp) _ _ e
  add-live next (R Esi) x e = computed-two (R Esi) x (R Esi) _ _ e
  add-live next (R Edi) x e = computed-two (R Edi) x (R Edi) _ _ e
  add-live next (I n) x e = computed-two (I n) x (I n) _ _ e
  add-live next (M a) x e = computed-two (M a) x (M a) _ _ e

  -- each instruction, by its form
  form_lives : (next : ℕ) (i : Inst) → NoneFails (form_of next i) → OperandsLive image live s i
  unfolding form_of
  form_lives next (inst.Alu alu.Cmp d x) e = compared-live d x e
  form_lives next (inst.Alu alu.Add d x) e = add-live next d x e
  form_lives next (inst.Alu alu.Or d x) e = computed-two d x d _ _ e
  form_lives next (inst.Alu alu.And d x) e = computed-two d x d _ _ e
  form_lives next (inst.Alu alu.Sub d x) e = computed-two d x d _ _ e
  form_lives next (inst.Alu alu.Xor d x) e = computed-two d x d _ _ e
  form_lives next (inst.Mov d x) e = moved-live d x e
  form_lives next (inst.Lea d x) e = tt
  form_lives next (inst.Test d x) e = tested-live d x e
  form_lives next (inst.Inc d) e = computed-one d d _ _ e
  form_lives next (inst.Dec d) e = computed-one d d _ _ e
  form_lives next (inst.Not d) e = computed-one d d _ _ e
  form_lives next (inst.Neg d) e = computed-one d d _ _ e
  form_lives next (inst.Mul x) e = (computed-two (R Eax) x (R Eax) _ _ e).1
  form_lives next (inst.Imul1 x) e = (computed-two (R Eax) x (R Eax) _ _ e).1
  form_lives next (inst.Div x) e = computed-third (R Eax) (R Edx) x (R Eax) _ _ e
  form_lives next (inst.Idiv x) e = computed-third (R Eax) (R Edx) x (R Eax) _ _ e
  form_lives next (inst.Imul2 d x) e = computed-two d x d _ _ e
  form_lives next (inst.Imul3 d x n) e = computed-into x (I n) d _ _ e
  form_lives next (inst.Shift op d (By n)) e = computed-one d d _ _ e
  form_lives next (inst.Shift op d Cl) e = (computed-two d (R Ecx) d _ _ e).0
  form_lives next inst.Cdq e = tt
  form_lives next inst.Nop e = tt
  form_lives next (inst.Push x) e = pushed-lives x e
  form_lives next (inst.Pop r) e = tt
  form_lives next (inst.CallRel z) e = tt
  form_lives next (inst.CallAt x) e = called-lives x e
  form_lives next inst.Ret e = tt
  form_lives next (inst.Jmp z) e = tt
  form_lives next (inst.Jcc c z) e = tt
  form_lives next (inst.Priv op arg) e = tt

  -- the instruction at the place
  pub operands_live : (x : PlacedInst) → instruction_in image s.thread.place ≡ Some x → OperandsLive image live s x.inst
  operands_live x here = form_lives (next_address s.thread.place x.len) x.inst (stands-at image runs laws live s t x here).rules
