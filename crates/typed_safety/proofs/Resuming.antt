-- Stacks that go on are typed: one that has not started, one that awaits a reply, one that was interrupted.
use Rattle.std.proofs.Common.{◌≡◌, ◌<◌, ◌==◌, ℕ, zero, suc, true, arith, refl, List, [], ◌∷◌, slice_index, slice_index_or}
use Rattle.std.specs.List.{list_all}
use Rattle.std.proofs.lemmas.Bool.{and_parts}
use Rattle.std.proofs.lemmas.Bool.Decides.{nat_tests}
use Rattle.std.proofs.lemmas.Option.{slice_get-get_or}
use Rattle.ia32_code.specs.declared.instruction.Reg.{Reg}
use Rattle.ia32_code.specs.declared.instruction.Reg.TheVariants.{Eax, Ecx, Edx, Ebx, Esp, Ebp, Esi, Edi}
use Rattle.object_layout.specs.Laws.{ClassLaws}
use Rattle.tal_types.specs.declared.types.Ty.{Ty}
use Rattle.tal_types.specs.declared.types.Ty.TheVariants as ty
use Rattle.tal_types.specs.declared.types.FlagKind.TheVariants as kind
use Rattle.tal_types.specs.declared.signatures.Sig.{Sig}
use Rattle.tal_types.specs.Contexts.{same, register_type, plain, entry}
use Rattle.tal_flow.specs.Edges.{allows}
use Rattle.tal_image.specs.Image.{type_tag}
use Rattle.tal_image.specs.Conditions.{starts_stack}
use Rattle.tal_image.specs.Shown.{shown}
use Rattle.tal_checker.specs.Running.{RunsOn, BeginsFunction}
use Rattle.typed_machine.specs.Values.{Value, Number, Ret, fits_among}
use Rattle.typed_machine.specs.States.{fresh_thread, entry_place}
use Rattle.typed_machine.specs.Frames.{Scope, fits_in, Awaits, Back}
use Rattle.typed_machine.specs.Typing.{ThreadFits}
use Rattle.typed_safety.proofs.Scopes.{rows}
use Rattle.typed_safety.proofs.Values.{fits-sub}
use Rattle.typed_safety.proofs.Fitted.{lost-told}
use Rattle.typed_safety.proofs.CallForms.{lost-allows}

-- ---- where a stack begins

-- each of several types of junk is junk
junk_at : (ts : List Ty) (i : ℕ) → list_all (λ t. type_tag t == 9) ts ≡ true → slice_index_or ts i ty.Junk ≡ ty.Junk
unfolding type_tag
junk_at [] i h = refl
junk_at (t ∷ ts) zero h = grind (arith, nat_tests)
junk_at (t ∷ ts) (suc i) h = junk_at ts i (and_parts (type_tag t == 9) _ h).1

-- each register is junk where a stack begins
junk_register : (sig : Sig) → starts_stack sig ≡ true → (r : Reg) → register_type sig.params r ≡ ty.Junk
unfolding starts_stack register_type
junk_register sig h Eax = junk_at sig.params 0 (and_parts (list_all (λ t. type_tag t == 9) sig.params) _ h).0
junk_register sig h Ecx = junk_at sig.params 1 (and_parts (list_all (λ t. type_tag t == 9) sig.params) _ h).0
junk_register sig h Edx = junk_at sig.params 2 (and_parts (list_all (λ t. type_tag t == 9) sig.params) _ h).0
junk_register sig h Ebx = junk_at sig.params 3 (and_parts (list_all (λ t. type_tag t == 9) sig.params) _ h).0
junk_register sig h Esp = refl
junk_register sig h Ebp = junk_at sig.params 4 (and_parts (list_all (λ t. type_tag t == 9) sig.params) _ h).0
junk_register sig h Esi = junk_at sig.params 5 (and_parts (list_all (λ t. type_tag t == 9) sig.params) _ h).0
junk_register sig h Edi = junk_at sig.params 6 (and_parts (list_all (λ t. type_tag t == 9) sig.params) _ h).0

-- the function where a stack begins gives a number
number-result : (sig : Sig) → starts_stack sig ≡ true → sig.result ≡ ty.Num
unfolding starts_stack type_tag
number-result sig h = grind (arith, nat_tests)

-- a fresh thread's registers are numbers
fresh-number : (l : Scope) (n place : ℕ) (r : Reg) → fits_in l ((fresh_thread (Number n) place).regs r) ty.Junk ≡ true
unfolding fits_among
fresh-number l n place r = grind arith

-- a stack begins at its function
begins-fits : (l : Scope) (place : ℕ) (sig : Sig) → BeginsFunction l.image place sig → starts_stack sig ≡ true → ThreadFits l (fresh_thread (Number 0) place) (Ret 0 ∷ [])
unfolding entry plain allows
begins-fits l place sig b e = record {
  context = _;
  sig = sig;
  here = b.known;
  function = b.signature;
  regs = λ r. rw (junk_register sig e r) (fresh-number l 0 place r);
  pairs = λ i a known. absurd (cc);
  heads = λ i a known. absurd (cc);
  conditions = λ a allowed. absurd (cc);
  told = tt;
  frames = (refl, number-result sig e);
  room = omega arith;
}

-- each stack of an image begins at a function
pub starts-fit : (l : Scope) → RunsOn l.image → (n : ℕ) → n < l.image.stacks → ThreadFits l (fresh_thread (Number 0) (entry_place l.image n)) (Ret 0 ∷ [])
unfolding entry_place
starts-fit l runs n few =
    let f = slice_get-get_or l.image.entries n 0 (rw runs.entries few) in
    let begun = runs.stacks n (slice_index l.image.entries n) f in
    rw begun.2 (begins-fits l begun.0.start begun.1 begun.3 begun.4)

-- ---- where a reply is awaited

-- what a fresh thread has in its registers fits what is awaited
reply-fits : (l : Scope) (u : Ty) (eax : Value) (place : ℕ) → fits_in l eax u ≡ true
    → (r : Reg) → fits_in l ((fresh_thread eax place).regs r) (register_type (u ∷ ty.Junk ∷ ty.Junk ∷ ty.Junk ∷ ty.Junk ∷ ty.Junk ∷ ty.Junk ∷ []) r) ≡ true
unfolding register_type same fits_among
reply-fits l u eax place e Eax = e
reply-fits l u eax place e r = refl

-- a thread goes on where a reply of the type is awaited
pub replied-fits : (l : Scope) → ClassLaws (rows l) → (u : Ty) (eax : Value) (place : ℕ) (values : List Value) → Awaits l u place values → fits_in l eax u ≡ true
    → ThreadFits l (fresh_thread eax place) values
unfolding Back plain
replied-fits l laws u eax place values a e =
    let below = a.below in
    record {
      context = a.context;
      sig = a.sig;
      here = a.here;
      function = a.function;
      regs = λ r. fits-sub (shown l.image) l.live l.shapes laws ((fresh_thread eax place).regs r) _ (a.context.regs r) (reply-fits l u eax place e r) (below.regs r);
      pairs = λ i q known. absurd (let x = below.pairs i q known in cc);
      heads = λ i q known. absurd (let x = below.heads i q known in cc);
      conditions = λ q allowed. absurd (lost-allows a.context.kind q below.kind allowed);
      told = lost-told l (fresh_thread eax place) a.context.kind below.kind;
      frames = a.frames;
      room = a.room;
    }
