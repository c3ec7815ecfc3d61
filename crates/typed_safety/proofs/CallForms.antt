-- Calls and returns from typed states.
use Rattle.std.proofs.Common.{◌≡◌, ap, subst, ◌≤◌, ◌==◌, ℕ, zero, suc, Bool, true, false, nat_le, if◌then◌else◌, Option, Some, None, arith, refl, List, [], ◌∷◌, length, slice_get}
use Rattle.std.specs.Option.{option_and_then, option_map_or}
use Rattle.std.proofs.lemmas.Bool.Decides.{nat_tests}
use Rattle.ia32_code.specs.declared.instruction.Reg.{Reg}
use Rattle.ia32_code.specs.declared.instruction.Reg.TheVariants.{Eax, Ecx, Esp}
use Rattle.ia32_code.specs.declared.instruction.Cond.{Cond}
use Rattle.ia32_code.specs.declared.instruction.Operand.{Operand}
use Rattle.ia32_code.specs.declared.instruction.Inst.{Inst}
use Rattle.object_layout.specs.Classes.{ShapesView}
use Rattle.tal_types.specs.declared.types.Ty.{Ty}
use Rattle.tal_types.specs.declared.types.Ty.TheVariants as ty
use Rattle.tal_types.specs.declared.types.FlagKind.{FlagKind}
use Rattle.tal_types.specs.declared.types.FlagKind.TheVariants as kind
use Rattle.tal_types.specs.declared.signatures.Sig.{Sig}
use Rattle.tal_types.specs.Types.{sub}
use Rattle.tal_types.specs.Contexts.{LiveContext, Live, LiveBelow, ContextBelow, same, register_type, kind_below, plain, entry}
use Rattle.tal_types.specs.Laws.{TypeLaws}
use Rattle.tal_flow.specs.declared.calls.Arguments.{Arguments}
use Rattle.tal_flow.specs.declared.calls.Called.{Called}
use Rattle.tal_flow.specs.declared.calls.Called.TheVariants.{Misfit, Gives}
use Rattle.tal_flow.specs.declared.forms.Form.TheVariants.{CallTo, CallBy, Return}
use Rattle.tal_flow.specs.Places.{operand_type}
use Rattle.tal_flow.specs.Calls.{nucleus_arguments, entry_number, entry_gives, arguments_fit, called_with, call_of_signature, entry_or, call_to, code_signature, call_by, is_callable, is_fit, result_of}
use Rattle.tal_flow.specs.Afterwards.{after_form, after_call}
use Rattle.tal_flow.specs.Edges.{allows, falling}
use Rattle.tal_flow.specs.Functions.{fits_result}
use Rattle.tal_flow.specs.Rules.{operand_rule}
use Rattle.tal_image.specs.Image.{ImageParts}
use Rattle.tal_image.specs.Shown.{shown}
use Rattle.tal_checker.specs.WellTyped.{strongest_at}
use Rattle.tal_checker.specs.Running.{RunsOn, Arrives, BeginsFunction, signature_at}
use Rattle.typed_machine.specs.Values.{Value, Number, Null, Ref, Code, Ret, Tab, Desc, fits_among, begins}
use Rattle.typed_machine.specs.States.{State, with_values, at_place, most_values}
use Rattle.typed_machine.specs.Operands.{operand_value}
use Rattle.typed_machine.specs.Effects as effect
use Rattle.typed_machine.specs.Effects.{Faults, goes_on, is_full, pushes, has_arguments, calls_entry, calls_function, calls_to, returns_from, form_effect}
use Rattle.typed_machine.specs.Frames.{Scope, fits_in, FramesFit, Awaits, Back}
use Rattle.typed_machine.specs.Typing.{TypedAmong, scope_of}
use Rattle.typed_safety.specs.Laws.{ImageLaws, EffectTyped}
use Rattle.typed_safety.proofs.Values.{fits-sub, fits-junk, fits-all, num-number}
use Rattle.typed_safety.proofs.Frames.{ValueFits, frames-sub}
use Rattle.typed_safety.proofs.Fitted.{StateFits, typed-fits, fits-typed, lost-told}
use Rattle.typed_safety.proofs.Reading.{operand-read}
use Rattle.typed_safety.proofs.StackForms.{room-more}
use Rattle.typed_safety.proofs.Standing.{FormTyped, above-live, arrives_signature}

-- ---- returns

-- rule 13: what EAX holds fits the result
result-fits : (image : ImageParts) (pc : ℕ) (u : Ty) (sig : Sig) → signature_at image pc ≡ Some sig → fits_result (shown image) pc u ≡ true
    → sub (shown image).shapes u sig.result ≡ true
unfolding signature_at fits_result
result-fits image pc u sig e h = rw e at h

-- a kind above the one that tells nothing allows no condition
pub lost-allows : (k : FlagKind) (a : Cond) → kind_below kind.Lost k ≡ true → allows k a ≡ true → ⊥
unfolding kind_below allows
lost-allows k a e h = grind arith

-- no slot is left where a function returns
no-slots : (ts : List Ty) → (length ts == 0) ≡ true → ts ≡ []
no-slots [] e = refl
no-slots (x ∷ ts) e = absurd (grind (arith, nat_tests))

module _ (image : ImageParts) (live : ℕ → Bool) (laws : ImageLaws image) (s : State) (t : TypedAmong image live s) (next : ℕ) where
  -- what a function leaves in the registers fits what is promised where it returns to
  returned-fits : (result : Ty) → sub (shown image).shapes (t.thread.context.regs Eax) result ≡ true
      → (r : Reg) → fits_in (scope_of image live s) (s.thread.regs r) (register_type (result ∷ ty.Junk ∷ ty.Junk ∷ ty.Junk ∷ ty.Junk ∷ ty.Junk ∷ ty.Junk ∷ []) r) ≡ true
  unfolding register_type
  returned-fits result e Eax = fits-sub (shown image) live _ laws.classes (s.thread.regs Eax) (t.thread.context.regs Eax) result (t.thread.regs Eax) e
  returned-fits result e Esp = fits-junk (shown image) live _ (s.thread.regs Esp) (t.thread.context.regs Esp) (t.thread.regs Esp)
  returned-fits result e r = fits-junk (shown image) live _ (s.thread.regs r) (t.thread.context.regs r) (t.thread.regs r)

  -- a state that goes on below a function that has returned
  back-typed : (place : ℕ) (vs : List Value) (result : Ty) (c : LiveContext) (sig : Sig) → sub (shown image).shapes (t.thread.context.regs Eax) result ≡ true
      → strongest_at image place ≡ Live c → signature_at image place ≡ Some sig → ContextBelow (shown image).shapes (Back result c.slots) (Live c)
      → FramesFit (scope_of image live s) sig.result c.slots vs → length vs ≤ most_values → TypedAmong image live (at_place place (with_values vs s))
  unfolding Back plain
  back-typed place vs result c sig e here function below frames room =
      fits-typed image live (at_place place (with_values vs s)) _ c sig here function (record {
        thread = record {
          regs = λ r. fits-sub (shown image) live _ laws.classes (s.thread.regs r) _ (c.regs r) (returned-fits result e r) (below.regs r);
          pairs = λ i a known. absurd (let x = below.pairs i a known in cc);
          heads = λ i a known. absurd (let x = below.heads i a known in cc);
          conditions = λ a allowed. absurd (lost-allows c.kind a below.kind allowed);
          told = lost-told (scope_of image live s) (at_place place (with_values vs s)).thread c.kind below.kind;
          frames = frames;
          room = room;
        };
        table = fits.table;
        statics = fits.statics;
        store = fits.store;
      })
    where
      fits : StateFits (scope_of image live s) t.thread.sig.result t.thread.context s
      fits = typed-fits image live s t

  -- a return to the place on top, or to the end word
  returns-typed : sub (shown image).shapes (t.thread.context.regs Eax) t.thread.sig.result ≡ true → (vs : List Value)
      → FramesFit (scope_of image live s) t.thread.sig.result [] vs → length vs ≤ most_values → EffectTyped image live s next (returns_from vs s)
  returns-typed e [] h room = absurd h
  returns-typed e (Ret zero ∷ []) h room =
      num-number (shown image) live _ (s.thread.regs Eax)
      (subst (λ u. fits_in (scope_of image live s) (s.thread.regs Eax) u ≡ true) h.1 (fits-sub (shown image) live _ laws.classes (s.thread.regs Eax) _ t.thread.sig.result (t.thread.regs Eax) e))
  returns-typed e (Ret zero ∷ v ∷ vs) h room = absurd (let x = h.0 in cc)
  returns-typed e (Ret (suc a) ∷ vs) h room = back-typed (suc a) vs t.thread.sig.result h.0 h.1 e h.2 h.3 h.4 h.5 (omega arith)
  returns-typed e (Number w ∷ vs) h room = absurd h
  returns-typed e (Null ∷ vs) h room = absurd h
  returns-typed e (Ref i ∷ vs) h room = absurd h
  returns-typed e (Code a ∷ vs) h room = absurd h
  returns-typed e (Tab c ∷ vs) h room = absurd h
  returns-typed e (Desc k ∷ vs) h room = absurd h

  -- RET
  pub return_typed : (i : Inst) (len : ℕ) → FormTyped image live s t i len next Return
  unfolding form_effect operand_rule
  return_typed i len at =
      let frames = rw (no-slots t.thread.context.slots (let r = at.rules in grind arith)) at t.thread.frames in
      returns-typed (result-fits image s.thread.place (t.thread.context.regs Eax) t.thread.sig t.thread.function (let r = at.rules in grind arith)) s.values frames t.thread.room

-- ---- what the rules of a call tell

-- a call that the rules let pass gives a result
gives-result : (x : Called) → is_callable x ≡ true → is_fit x ≡ true → x ≡ Gives (result_of x)
unfolding is_callable is_fit result_of
gives-result x a b = grind arith

-- a signature that is found has a number
found-signature : (sigs : ℕ → Option Sig) (o : Option ℕ) (sig : Sig) → option_and_then sigs o ≡ Some sig → (number : ℕ) × (o ≡ Some number) × (sigs number ≡ Some sig)
found-signature sigs None sig h = absurd (cc)
found-signature sigs (Some n) sig h = (n, refl, h)

-- the signature of a call that gives a result
called-sig : (s : ShapesView) (c : LiveContext) (o : Option Sig) (u : Ty) → called_with s c o ≡ Gives u → (sig : Sig) × (o ≡ Some sig) × (arguments_fit s c sig ≡ true) × (sig.result ≡ u)
called-sig s c None u e = absurd (cc)
called-sig s c (Some sig) u e = go (arguments_fit s c sig) refl e
  where
    go : (b : Bool) → arguments_fit s c sig ≡ b → (if b then Gives sig.result else Misfit) ≡ Gives u → (g : Sig) × (Some sig ≡ Some g) × (arguments_fit s c g ≡ true) × (g.result ≡ u)
    go true f g = (sig, refl, f, cc)
    go false f g = absurd (cc)

-- a function of an image that is called with what its parameters take
record Callee (image : ImageParts) (c : LiveContext) (function : Option ℕ) (u : Ty) : Type 0 where
  number : ℕ
  sig : Sig
  is_function : function ≡ Some number
  signature : (shown image).sig number ≡ Some sig
  arguments : arguments_fit (shown image).shapes c sig ≡ true
  result : sig.result ≡ u

-- the function that is called
callee-of : (image : ImageParts) (c : LiveContext) (function : Option ℕ) (u : Ty) → call_of_signature (shown image) c function ≡ Gives u → Callee image c function u
unfolding call_of_signature
callee-of image c function u e =
    let known = called-sig (shown image).shapes c (option_and_then (shown image).sig function) u e in
    let found = found-signature (shown image).sig function known.0 known.1 in
    record { number = found.0; sig = known.0; is_function = found.1; signature = found.2; arguments = known.2; result = known.3 }

-- the same function by its address
at-address : (image : ImageParts) (c : LiveContext) (number address : Option ℕ) (u : Ty) → (callee : Callee image c number u) → address ≡ Some callee.number → Callee image c address u
at-address image c number address u callee e =
    record { number = callee.number; sig = callee.sig; is_function = e; signature = callee.signature; arguments = callee.arguments; result = callee.result }

-- a function that begins at an address
begun : (o : Option ℕ) (g : ℕ) → option_map_or (λ h. h == g) o false ≡ true → o ≡ Some g
begun None g e = absurd (grind arith)
begun (Some h) g e = let same : h ≡ g = grind (arith, nat_tests) in ap (λ n. Some n) same

-- a value of a type of code is a function's address
code-found : (l : Scope) (o : Option Value) (t : Ty) (g : ℕ) → ValueFits l o t → code_signature t ≡ Some g → (a : ℕ) × (o ≡ Some (Code a)) × ((shown l.image).function_at a ≡ Some g)
unfolding fits_among
code-found l None t g h e = absurd h
code-found l (Some (Code a)) (ty.Code k) g h e = let same : k ≡ g = cc in (a, refl, begun ((shown l.image).function_at a) g (rw same at h))
code-found l (Some w) t g h e = absurd (grind arith)

-- the types of the registers after a call
back-regs : (s : ShapesView) (t : Ty) (c d : LiveContext) → ((r : Reg) → sub s ((after_call t c).regs r) (d.regs r) ≡ true)
    → (r : Reg) → sub s (register_type (t ∷ ty.Junk ∷ ty.Junk ∷ ty.Junk ∷ ty.Junk ∷ ty.Junk ∷ ty.Junk ∷ []) r) (d.regs r) ≡ true
unfolding after_call same register_type
back-regs s t c d h Eax = h Eax
back-regs s t c d h r = h r

-- what is known where a call returns to is what the callee promises
back-below : TypeLaws → (s : ShapesView) (t : Ty) (c d : LiveContext) → LiveBelow s (after_call t c) d → ContextBelow s (Back t d.slots) (Live d)
unfolding Back plain after_call
back-below types s t c d h = record {
  regs = back-regs s t c d h.regs;
  slots = types.lists_reflexive s d.slots;
  kind = h.kind;
  pairs = h.pairs;
  heads = h.heads;
}

-- what an entry takes, it finds in values of the types
arguments-hold : (l : Scope) (arguments : Arguments) (v w : Value) (t u reply : Ty) → fits_in l v t ≡ true → fits_in l w u ≡ true → entry_gives arguments t u ≡ Gives reply → has_arguments arguments v w ≡ true
unfolding fits_among has_arguments
arguments-hold l arguments v w t u reply f g e = grind arith

module _ (image : ImageParts) (live : ℕ → Bool) (runs : RunsOn image) (laws : ImageLaws image) (s : State) (t : TypedAmong image live s) (next : ℕ) where
  -- where a call comes back, a reply of the type is awaited
  awaits-reply : (u : Ty) → Arrives image s.thread.place next (Live (after_call u t.thread.context)) → Awaits (scope_of image live s) u next s.values
  unfolding after_call
  awaits-reply u a =
      let above = above-live (shown image).shapes (after_call u t.thread.context) (strongest_at image next) a.known in
      record {
        context = above.0;
        sig = t.thread.sig;
        here = above.1;
        function = arrives_signature image s.thread.place next (Live (after_call u t.thread.context)) t.thread.sig a t.thread.function;
        below = back-below laws.types (shown image).shapes u t.thread.context above.0 above.2;
        frames = frames-sub (scope_of image live s) t.thread.sig.result laws.classes t.thread.context.slots above.0.slots s.values above.2.slots t.thread.frames;
        room = t.thread.room;
      }

  -- the frames of a function that was called
  frames-called : (u : Ty) → Arrives image s.thread.place next (Live (after_call u t.thread.context)) → FramesFit (scope_of image live s) u [] (Ret next ∷ s.values)
  frames-called u a = go next (let x = (runs.spelled next a.placed a.here).after_start in omega arith) (awaits-reply u a)
    where
      go : (n : ℕ) → 1 ≤ n → Awaits (scope_of image live s) u n s.values → FramesFit (scope_of image live s) u [] (Ret n ∷ s.values)
      go zero some w = absurd (omega arith)
      go (suc n) some w = (w.context, w.sig, w.here, w.function, w.below, w.frames)

  -- the values in the registers fit the parameters
  parameters_fit : (sig : Sig) → arguments_fit (shown image).shapes t.thread.context sig ≡ true → (r : Reg) → fits_in (scope_of image live s) (s.thread.regs r) (register_type sig.params r) ≡ true
  unfolding arguments_fit
  parameters_fit sig e r =
      fits-sub (shown image) live _ laws.classes (s.thread.regs r) (t.thread.context.regs r) (register_type sig.params r) (t.thread.regs r)
      (laws.types.every_told (λ q. sub (shown image).shapes (t.thread.context.regs q) (register_type sig.params q)) r e)

  -- and the machine's own test holds
  parameters_tested : (sig : Sig) → ((r : Reg) → fits_in (scope_of image live s) (s.thread.regs r) (register_type sig.params r) ≡ true) → effect.values_fit (shown image) s sig ≡ true
  unfolding effect.values_fit
  parameters_tested sig h = laws.types.every_tells _ (λ r. fits-all (shown image) live _ (s.thread.regs r) (register_type sig.params r) (h r))

  -- a function that is entered is typed at its first instruction
  enters-typed : (to : ℕ) (sig : Sig) → BeginsFunction image to sig → ((r : Reg) → fits_in (scope_of image live s) (s.thread.regs r) (register_type sig.params r) ≡ true)
      → FramesFit (scope_of image live s) sig.result [] (Ret next ∷ s.values) → EffectTyped image live s next (Some (pushes to (Ret next) (effect.entered next s)))
  unfolding pushes is_full entry plain allows
  enters-typed to sig begins regs frames = go (nat_le most_values (length s.values)) refl
    where
      fits : StateFits (scope_of image live s) t.thread.sig.result t.thread.context s
      fits = typed-fits image live s t

      go : (b : Bool) → nat_le most_values (length s.values) ≡ b
          → EffectTyped image live s next (Some (if b then Faults 12 else goes_on to (with_values (Ret next ∷ s.values) (effect.entered next s))))
      go true e = tt
      go false e = fits-typed image live (at_place to (with_values (Ret next ∷ s.values) (effect.entered next s))) _ _ sig begins.known begins.signature (record {
        thread = record {
          regs = regs;
          pairs = λ i a known. absurd (cc);
          heads = λ i a known. absurd (cc);
          conditions = λ a allowed. absurd (cc);
          told = tt;
          frames = frames;
          room = room-more (Ret next) s.values e;
        };
        table = fits.table;
        statics = fits.statics;
        store = fits.store;
      })

  -- a call of a function
  function-typed : (to : ℕ) (u : Ty) → Callee image t.thread.context ((shown image).function_at to) u → Arrives image s.thread.place next (Live (after_call u t.thread.context))
      → EffectTyped image live s next (calls_function (shown image) s next to)
  function-typed to u callee a =
      let regs = parameters_fit callee.sig callee.arguments in
      rw (callee.is_function, callee.signature, parameters_tested callee.sig regs)
      (enters-typed to callee.sig (runs.calls to callee.number callee.sig callee.is_function callee.signature) regs (rw callee.result (frames-called u a)))

  -- a call of an entry of the Nucleus
  entry-typed : (k : ℕ) (arguments : Arguments) (u : Ty) → slice_get nucleus_arguments k ≡ Some arguments
      → entry_gives arguments (t.thread.context.regs Eax) (t.thread.context.regs Ecx) ≡ Gives u → Arrives image s.thread.place next (Live (after_call u t.thread.context))
      → EffectTyped image live s next (calls_entry s k arguments)
  entry-typed k arguments u is gives a =
      rw (arguments-hold (scope_of image live s) arguments (s.thread.regs Eax) (s.thread.regs Ecx) _ _ u (t.thread.regs Eax) (t.thread.regs Ecx) gives) (record {
        arguments = arguments;
        eax = t.thread.context.regs Eax;
        ecx = t.thread.context.regs Ecx;
        reply = u;
        entry = is;
        gives = gives;
        eax_fits = t.thread.regs Eax;
        ecx_fits = t.thread.regs Ecx;
        awaited = awaits-reply u a;
      })

  -- CALL of an address
  pub call-typed : (i : Inst) (len to : ℕ) → FormTyped image live s t i len next (CallTo to)
  unfolding form_effect calls_to operand_rule falling after_form call_to
  call-typed i len to at =
      go (entry_number to) (gives-result _ (let r = at.rules in grind arith) (let r = at.rules in grind arith)) (at.falls _ refl)
    where
      u : Ty
      u = result_of (call_to (shown image) t.thread.context to)

      function : call_of_signature (shown image) t.thread.context ((shown image).function_at to) ≡ Gives u → Arrives image s.thread.place next (Live (after_call u t.thread.context))
          → EffectTyped image live s next (calls_function (shown image) s next to)
      function e a = function-typed to u (callee-of image t.thread.context ((shown image).function_at to) u e) a

      named : (k : ℕ) (o : Option Arguments) → slice_get nucleus_arguments k ≡ o
          → entry_or (call_of_signature (shown image) t.thread.context ((shown image).function_at to)) t.thread.context o ≡ Gives u
          → Arrives image s.thread.place next (Live (after_call u t.thread.context))
          → EffectTyped image live s next (option_map_or (calls_entry s k) o (calls_function (shown image) s next to))
      named k None f e a = function e a
      named k (Some arguments) f e a = entry-typed k arguments u f e a

      go : (o : Option ℕ) → entry_or (call_of_signature (shown image) t.thread.context ((shown image).function_at to)) t.thread.context (option_and_then (slice_get nucleus_arguments) o) ≡ Gives u
          → Arrives image s.thread.place next (Live (after_call u t.thread.context))
          → EffectTyped image live s next (effect.numbered_entry_or s (calls_function (shown image) s next to) o)
      go None e a = function e a
      go (Some k) e a = named k (slice_get nucleus_arguments k) refl e a

  -- CALL of a value
  pub call_by-typed : (i : Inst) (len : ℕ) (x : Operand) → FormTyped image live s t i len next (CallBy x)
  unfolding form_effect operand_rule falling after_form call_by
  call_by-typed i len x at = rw found.1 (function-typed found.0 u (at-address image t.thread.context _ _ u callee found.2) (at.falls _ refl))
    where
      type : Ty
      type = operand_type (shown image) t.thread.context s.thread.place x

      u : Ty
      u = result_of (call_by (shown image) t.thread.context type)

      callee : Callee image t.thread.context (code_signature type) u
      callee = callee-of image t.thread.context (code_signature type) u (gives-result _ (let r = at.rules in grind arith) (let r = at.rules in grind arith))

      value : ValueFits (scope_of image live s) (operand_value (shown image) s x) type
      value = operand-read (scope_of image live s) t.thread.sig.result t.thread.context s (typed-fits image live s t) laws x
          (let r = at.rules in grind arith) (let r = at.rules in grind arith) (let r = at.rules in grind arith)

      found : (a : ℕ) × (operand_value (shown image) s x ≡ Some (Code a)) × ((shown image).function_at a ≡ Some callee.number)
      found = code-found (scope_of image live s) (operand_value (shown image) s x) type callee.number value callee.is_function
