-- What stands at the running place of an accepted image, and typed states where runs go from there.
use Rattle.std.proofs.Common.{◌≡◌, ℕ, Bool, Option, Some, None, refl, List}
use Rattle.std.specs.Option.{option_map, option_or}
use Rattle.ia32_code.specs.declared.instruction.Inst.{Inst}
use Rattle.object_layout.specs.Classes.{ShapesView}
use Rattle.tal_types.specs.declared.views.Mark.{Mark}
use Rattle.tal_types.specs.declared.signatures.Sig.{Sig}
use Rattle.tal_types.specs.Contexts.{LiveContext, ContextView, Dead, Live, LiveBelow, ContextBelow}
use Rattle.tal_types.specs.Shown.{ShownImage}
use Rattle.tal_flow.specs.declared.forms.Form.{Form}
use Rattle.tal_flow.specs.declared.trials.RuleName.{RuleName}
use Rattle.tal_flow.specs.Trials.{rule_number}
use Rattle.tal_flow.specs.Forms.{form_of}
use Rattle.tal_flow.specs.Edges.{falling, branching, target_of, falls_to, branches_to}
use Rattle.tal_flow.specs.Rules.{operand_rule, edge_rule, rule_of_form, rule_of, next_address, Falls, Branches, Target}
use Rattle.tal_flow.specs.Strongest.{PlacedInst}
use Rattle.tal_image.specs.Image.{ImageParts}
use Rattle.tal_image.specs.Conditions.{marked_number}
use Rattle.tal_image.specs.Shown.{shown}
use Rattle.tal_checker.specs.WellTyped.{strongest_at}
use Rattle.tal_checker.specs.Running.{RunsOn, Arrives, instruction_in, signature_at}
use Rattle.typed_machine.specs.Values.{ObjectShape, Word}
use Rattle.typed_machine.specs.States.{State, places_of}
use Rattle.typed_machine.specs.Operands.{marked_value}
use Rattle.typed_machine.specs.Effects.{EffectView, Moves, Faults, Calls, Ends, form_effect}
use Rattle.typed_machine.specs.Typing.{TypedAmong, scope_of}
use Rattle.typed_safety.specs.Laws.{ImageLaws, EffectTyped}
use Rattle.typed_safety.proofs.Fitted.{StateFits, typed-fits, fits-typed, context_above}
use Rattle.typed_safety.proofs.Reading.{has-arrays}
use Rattle.typed_safety.proofs.InstructionForms.{FormTells, front-multiplies, form_tells}
use Rattle.typed_safety.proofs.Operations.{Leads}

-- an instruction of the form stands at an address, the next one follows at another, and this is known before it
pub record StandsAt (image : ImageParts) (s : State) (c : LiveContext) (pc next : ℕ) (i : Inst) (form : Form) : Type 0 where
  pub rules : operand_rule (shown image) c pc form ≡ None
  pub tells : FormTells i form
  pub marks : (n : ℕ) (mark : Mark) → marked_number i ≡ Some n → (shown image).mark_at pc ≡ Some mark → Word (places_of s) (marked_value n mark) ≡ n
  pub falls : (d : LiveContext) → falling (shown image) c pc form ≡ Live d → Arrives image pc next (Live d)
  pub branches : (d : LiveContext) (to : ℕ) → branching (shown image) c form ≡ Live d → target_of form ≡ Some to → Arrives image pc to (Live d)

-- what an instruction of the form comes to, where it stands at the place of a typed state
abbrev pub FormTyped : (image : ImageParts) (live : ℕ → Bool) (s : State) → TypedAmong image live s → Inst → ℕ → ℕ → Form → Type 0
FormTyped image live s t i len next form = StandsAt image s t.thread.context s.thread.place next i form → EffectTyped image live s next (form_effect image s i len next form)

-- where there is no number there is no rule
no_number : (o : Option RuleName) → option_map rule_number o ≡ None → o ≡ None
no_number None e = refl
no_number (Some r) e = absurd cc

-- where no rule fails, none for the operands does
operand-none : (v : ShownImage) (c : LiveContext) (pc next : ℕ) (form : Form) → rule_of_form v (Live c) pc next form ≡ None → operand_rule v c pc form ≡ None
unfolding rule_of_form
operand-none v c pc next form h = go (operand_rule v c pc form) (edge_rule v c pc next form) h
  where
    go : (o e : Option RuleName) → option_or o e ≡ None → o ≡ None
    go None e h = refl
    go (Some n) e h = h

-- the instruction at the place of a typed state
pub stands-at : (image : ImageParts) → RunsOn image → ImageLaws image → (live : ℕ → Bool) (s : State) (t : TypedAmong image live s) (x : PlacedInst)
    → instruction_in image s.thread.place ≡ Some x
    → StandsAt image s t.thread.context s.thread.place (next_address s.thread.place x.len) x.inst (form_of (next_address s.thread.place x.len) x.inst)
unfolding rule_of Falls Branches Target falls_to branches_to
stands-at image runs laws live s t x here =
    let pc = s.thread.place in
    let c = t.thread.context in
    let known = t.thread.here in
    let spelled = runs.spelled pc x here in
    let at = spelled.address in
    let fits = typed-fits image live s t in
    record {
      rules = operand-none (shown image) c pc _ _ (no_number _ (rw (known, at) at (runs.none_fails pc x here)));
      tells = form_tells (next_address pc x.len) x.inst (front-multiplies _ x.inst x.len spelled.front);
      marks = λ n mark is marked. laws.words pc n x mark live s.store here marked is (has-arrays (scope_of image live s) t.thread.sig.result c s fits);
      falls = λ d e. rw at at (runs.falls pc x c d here known (rw at e));
      branches = λ d to e f. runs.branches pc x c d to here known (rw at e) (rw at f);
    }

-- a context above a live one is live
pub above-live : (s : ShapesView) (c : LiveContext) (k : ContextView) → ContextBelow s (Live c) k → (d : LiveContext) × (k ≡ Live d) × LiveBelow s c d
above-live s c Dead h = absurd h
above-live s c (Live d) h = (d, refl, h)

-- the function stays where a run arrives
pub arrives_signature : (image : ImageParts) (pc to : ℕ) (d : ContextView) (sig : Sig) → Arrives image pc to d → signature_at image pc ≡ Some sig → signature_at image to ≡ Some sig
unfolding signature_at
arrives_signature image pc to d sig a h = rw a.stays h

-- a state that arrives with what it fits is typed
pub arrives_typed : (image : ImageParts) (live : ℕ → Bool) (os : List ObjectShape) → ImageLaws image → (pc : ℕ) (d : LiveContext) (sig : Sig) (s : State)
    → Arrives image pc s.thread.place (Live d) → signature_at image pc ≡ Some sig → StateFits (record { image = image; live = live; shapes = os }) sig.result d s → TypedAmong image live s
arrives_typed image live os laws pc d sig s a function h =
    let above = above-live (shown image).shapes d (strongest_at image s.thread.place) a.known in
    fits-typed image live s os above.0 sig above.1 (arrives_signature image pc s.thread.place (Live d) sig a function)
    (context_above laws.types (record { image = image; live = live; shapes = os }) sig.result laws.classes d above.0 s above.2 h)

-- what moves on to a state that fits what is known next keeps typing
pub leads-typed : (image : ImageParts) (live : ℕ → Bool) → ImageLaws image → (s : State) (t : TypedAmong image live s) (next : ℕ) (d : LiveContext) (o : Option EffectView)
    → Arrives image s.thread.place next (Live d) → Leads (scope_of image live s) t.thread.sig.result d next o → EffectTyped image live s next o
leads-typed image live laws s t next d None a h = absurd h
leads-typed image live laws s t next d (Some (Moves m)) a h = arrives_typed image live _ laws s.thread.place d t.thread.sig m (rw h.0 a) t.thread.function h.1
leads-typed image live laws s t next d (Some (Faults vector)) a h = tt
leads-typed image live laws s t next d (Some (Calls k)) a h = absurd h
leads-typed image live laws s t next d (Some Ends) a h = absurd h
