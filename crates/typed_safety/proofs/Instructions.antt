-- Instructions of all forms keep typing.
use Rattle.std.proofs.Common.{ap, ◌≡◌, ◌==◌, ℕ, Bool, true, false, nat_le, if◌then◌else◌, Some, arith, refl, List, [], ◌∷◌}
use Rattle.std.proofs.lemmas.Bool.Decides.{nat_tests}
use Rattle.object_layout.specs.Areas.{code_start}
use Rattle.tal_types.specs.Shown.{ShownImage}
use Rattle.ia32_code.specs.Decoding.{instruction_of}
use Rattle.ia32_code.specs.declared.instruction.Operand.{Operand}
use Rattle.ia32_code.specs.declared.instruction.Operand.TheVariants.{I}
use Rattle.ia32_code.specs.declared.instruction.Inst.{Inst}
use Rattle.tal_types.specs.declared.views.Mark.{Mark}
use Rattle.tal_types.specs.Contexts.{LiveContext, ContextView, Dead, Live}
use Rattle.tal_flow.specs.declared.forms.Form.{Form}
use Rattle.tal_flow.specs.declared.forms.Form.TheVariants.{Refused, Compute, Move, Address, Compare, TestBits, PushOf, PopTo, DropSlots, CallTo, CallBy, Return, Jump, Branch, Nothing}
use Rattle.tal_flow.specs.Forms.{form_of}
use Rattle.tal_flow.specs.Afterwards.{after_form}
use Rattle.tal_flow.specs.Edges.{falling}
use Rattle.tal_flow.specs.Rules.{operand_rule, next_address}
use Rattle.tal_flow.specs.Strongest.{PlacedInst, At, at_in, start, placed_at, falls_from}
use Rattle.tal_image.specs.Image.{ImageParts}
use Rattle.tal_image.specs.Conditions.{immediate, compared, marked_number}
use Rattle.tal_image.specs.Shown.{shown}
use Rattle.tal_checker.specs.Instructions.{instructions}
use Rattle.tal_checker.specs.WellTyped.{strongest_at}
use Rattle.tal_checker.specs.Running.{RunsOn, IsSpelledAt, instruction_in}
use Rattle.typed_machine.specs.Values.{Word}
use Rattle.typed_machine.specs.States.{State, places_of}
use Rattle.typed_machine.specs.Operands.{marked_value}
use Rattle.typed_machine.specs.Code.{inst_at}
use Rattle.typed_machine.specs.Effects.{form_effect, Effect}
use Rattle.typed_machine.specs.Typing.{TypedAmong, scope_of}
use Rattle.typed_safety.specs.Laws.{ImageLaws, EffectTyped, KeepsTyping}
use Rattle.typed_safety.proofs.Fitted.{StateFits, typed-fits}
use Rattle.typed_safety.proofs.Operations.{Leads, compute-leads, address-leads}
use Rattle.typed_safety.proofs.Moves.{move-leads}
use Rattle.typed_safety.proofs.StackForms.{push-leads, pop-leads, drop-leads, nothing-leads}
use Rattle.typed_safety.proofs.Comparisons.{compare-leads}
use Rattle.typed_safety.proofs.Tests.{test-leads}
use Rattle.typed_safety.proofs.Standing.{StandsAt, FormTyped, stands-at, leads-typed}
use Rattle.typed_safety.proofs.Branches.{jump_typed, branch-typed}
use Rattle.typed_safety.proofs.CallForms.{return_typed, call-typed, call_by-typed}

module _ (image : ImageParts) (live : ℕ → Bool) (runs : RunsOn image) (laws : ImageLaws image) (s : State) (t : TypedAmong image live s) (i : Inst) (len next : ℕ) where
  fits : StateFits (scope_of image live s) t.thread.sig.result t.thread.context s
  fits = typed-fits image live s t

  -- an instruction that falls through
  passing : (form : Form) → falling (shown image) t.thread.context s.thread.place form ≡ Live (after_form (shown image) t.thread.context s.thread.place form)
      → Leads (scope_of image live s) t.thread.sig.result (after_form (shown image) t.thread.context s.thread.place form) next (form_effect image s i len next form) → FormTyped image live s t i len next form
  passing form falls leads at = leads-typed image live laws s t next _ _ (at.falls _ falls) leads

  -- the words of marks, for an operand of a comparison
  compared-marks : (d x : Operand) → (at : StandsAt image s t.thread.context s.thread.place next i (Compare d x))
      → (n : ℕ) (mark : Mark) → x ≡ I n → (shown image).mark_at s.thread.place ≡ Some mark → Word (places_of s) (marked_value n mark) ≡ n
  unfolding marked_number compared immediate
  compared-marks d x at n mark e f = at.marks n mark (rw (at.tells, e) refl) f

  -- an instruction of any form
  form_typed : (form : Form) → FormTyped image live s t i len next form
  unfolding operand_rule falling
  form_typed Refused at = absurd (let r = at.rules in grind arith)
  form_typed (CallBy x) at = call_by-typed image live runs laws s t next i len x at
  form_typed (CallTo to) at = call-typed image live runs laws s t next i len to at
  form_typed Return at = return_typed image live laws s t next i len at
  form_typed (Jump to) at = jump_typed image live laws s t i len next to at
  form_typed (Branch a to) at = branch-typed image live laws s t i len next a to at
  form_typed (Compute sources d wide k) at = passing _ refl (compute-leads (scope_of image live s) t.thread.sig.result t.thread.context s fits laws i len next sources d wide k at.tells at.rules) at
  form_typed (Move d x) at = passing _ refl (move-leads (scope_of image live s) t.thread.sig.result t.thread.context s fits laws i len next d x at.rules) at
  form_typed (Address r m) at = passing _ refl (address-leads (scope_of image live s) t.thread.sig.result t.thread.context s fits laws i len next r m at.rules) at
  form_typed (Compare d x) at =
      passing _ refl (compare-leads (scope_of image live s) t.thread.sig.result t.thread.context s fits laws runs i len next d x at.tells (compared-marks d x at) at.rules) at
  form_typed (TestBits d x) at = passing _ refl (test-leads (scope_of image live s) t.thread.sig.result t.thread.context s fits laws runs i len next d x at.tells at.rules) at
  form_typed (PushOf x) at = passing _ refl (push-leads (scope_of image live s) t.thread.sig.result t.thread.context s fits laws i len next x at.rules) at
  form_typed (PopTo r) at = passing _ refl (pop-leads (scope_of image live s) t.thread.sig.result t.thread.context s fits i len next r at.rules) at
  form_typed (DropSlots bytes) at = passing _ refl (drop-leads (scope_of image live s) t.thread.sig.result t.thread.context s fits i len next bytes at.rules) at
  form_typed Nothing at = passing _ refl (nothing-leads (scope_of image live s) t.thread.sig.result t.thread.context s fits i len next) at

-- the instruction at the place of a typed state
pub instruction-typed : (image : ImageParts) → RunsOn image → ImageLaws image → (live : ℕ → Bool) (s : State) → TypedAmong image live s → (x : PlacedInst)
    → instruction_in image s.thread.place ≡ Some x → EffectTyped image live s (next_address s.thread.place x.len) (Effect image s x.inst x.len)
unfolding Effect
instruction-typed image runs laws live s t x here =
    form_typed image live runs laws s t x.inst x.len (next_address s.thread.place x.len) (form_of (next_address s.thread.place x.len) x.inst)
    (stands-at image runs laws live s t x here)

-- where something is known, an instruction stands
placed-known : (v : ShownImage) (xs : List PlacedInst) (c : ContextView) (pc : ℕ) (d : LiveContext) → at_in v xs c pc ≡ Live d → (x : PlacedInst) × (placed_at xs pc ≡ Some x)
unfolding at_in placed_at
placed-known v [] c pc d h = absurd (cc)
placed-known v (x ∷ xs) c pc d h = go (x.pc == pc) (placed-known v xs (falls_from v (start v x.pc c) x) pc d) h
  where
    go : (b : Bool) → (at_in v xs (falls_from v (start v x.pc c) x) pc ≡ Live d → (y : PlacedInst) × (placed_at xs pc ≡ Some y))
        → (if b then start v x.pc c else at_in v xs (falls_from v (start v x.pc c) x) pc) ≡ Live d → (y : PlacedInst) × ((if b then Some x else placed_at xs pc) ≡ Some y)
    go true later h = (x, refl)
    go false later h = later h

-- the same for the strongest context of an image
instruction-known : (image : ImageParts) (pc : ℕ) (d : LiveContext) → strongest_at image pc ≡ Live d → (x : PlacedInst) × (instruction_in image pc ≡ Some x)
unfolding strongest_at At
instruction-known image pc d h = placed-known (shown image) (instructions image.code) Dead pc d h

-- what stands at an address is what the code spells there
spelled-there : (image : ImageParts) (place : ℕ) (x : PlacedInst) → IsSpelledAt image place x → inst_at image place ≡ Some (x.inst, x.len)
unfolding inst_at
spelled-there image place x at = let low : nat_le code_start place ≡ true = grind (arith, nat_tests, at.after_start) in rw low (ap (λ a. instruction_of a) at.front)

-- the place of a typed state has an instruction, which keeps typing
pub state-keeps : (image : ImageParts) → RunsOn image → ImageLaws image → (live : ℕ → Bool) (s : State) → TypedAmong image live s → KeepsTyping image live s
state-keeps image runs laws live s t =
    let x = instruction-known image s.thread.place t.thread.context t.thread.here in
    record {
      placed = x.0;
      here = x.1;
      spelled = spelled-there image s.thread.place x.0 (runs.spelled s.thread.place x.0 x.1);
      typed = instruction-typed image runs laws live s t x.0 x.1;
    }
