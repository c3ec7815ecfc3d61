-- A turn that takes no answer has no entry that tells one, and none that was not legal.
use Rattle.std.specs.Prelude.{nat_le}
use Rattle.std.specs.Option.{option_map, option_and_then, option_to_list}
use Rattle.std.proofs.Common.{◌≡◌, ◌≤◌, ℕ, zero, suc, ◌==◌, Bool, true, false, if◌then◌else◌, List, [], ◌∷◌, ◌++◌, Option, Some, None, refl, ap, length, append_assoc, arith}
use Rattle.std.proofs.lemmas.Bool.Decides.{nat_tests}
use Rattle.ia32_code.specs.declared.instruction.Inst.{Inst}
use Rattle.stack_states.specs.declared.journal_entry.Entry.{Entry}
use Rattle.stack_states.specs.declared.journal_entry.EntryKind.{EntryKind}
use Rattle.stack_states.specs.declared.journal_entry.EntryKind.TheVariants.{Call, Yield, Interrupt, Fault, Ended}
use Rattle.tal_flow.specs.Rules.{next_address}
use Rattle.tal_image.specs.Image.{ImageParts}
use Rattle.typed_machine.specs.declared.ending.Ending.{Ending}
use Rattle.ia32_code.specs.declared.instruction.Reg.TheVariants.{Eax, Ecx}
use Rattle.typed_machine.specs.Values.{ObjectShape}
use Rattle.typed_machine.specs.States.{State}
use Rattle.typed_machine.specs.Code.{inst_at}
use Rattle.typed_machine.specs.Effects.{EffectView, Moves, Faults, Calls, Ends, Effect}
use Rattle.typed_machine.specs.Replies.{ReplyView, Replies, YieldsTo, Allocates, Collects, class_asked, array_asked, alloc_object, alloc_array, Reply}
use Rattle.typed_machine.specs.Placing.{Answer, free_words}
use Rattle.typed_machine.specs.Reaching.{Roots}
use Rattle.typed_machine.specs.Turns.{Turned, turned, entry_of, kernel_goes_on, ended_by, answered, replied, after_effect, instruction, interrupted}
use Rattle.kernel_machine.specs.Machine.{entry_answer, answers_of}

-- where the turn takes no answer, its entry, if it has one, tells none
abbrev pub TellsNone : List Answer → Option Turned → Type 0
TellsNone answers None = Unit {0}
TellsNone answers (Some r) = r.left ≡ answers → (r.legal ≡ true) × (answers_of (option_to_list r.entry) ≡ [])

-- a turn with an entry that tells none
entry-tells-none : (answers : List Answer) (entry : Entry) (o : Option State) → entry_answer entry.kind entry.value ≡ None → TellsNone answers (option_map (turned answers (Some entry)) o)
entry-tells-none answers entry None none = tt
entry-tells-none answers entry (Some t) none = λ same. (refl, rw none refl)

-- the run ends, or the kernel goes on
leaving-tells-none : (image : ImageParts) (answers : List Answer) (s : State) (ending : Ending) (kind : EntryKind) (value reply : ℕ) (b : Bool) → entry_answer kind value ≡ None
    → TellsNone answers (if b then ended_by ending answers s else kernel_goes_on image answers kind value reply s)
leaving-tells-none image answers s ending kind value reply true none = λ same. (refl, refl)
leaving-tells-none image answers s ending kind value reply false none = entry-tells-none answers (entry_of kind value s) _ none

-- the entry of a call that is no allocation
call-tells-none : (k value : ℕ) → 2 ≤ k → entry_answer (Call k) value ≡ None
call-tells-none k value behind = let high : nat_le k 1 ≡ false = grind (arith, nat_tests) in rw high refl

-- an allocation takes one
answered-tells-none : (image : ImageParts) (next k : ℕ) (s : State) (shape : ObjectShape) (answers : List Answer) → TellsNone answers (answered image next k s shape answers)
answered-tells-none image next k s shape [] = tt
answered-tells-none image next k s shape (answer ∷ left) = λ same. absurd (let longer = ap length same in omega (arith, longer))

reply-tells-none : (image : ImageParts) (answers : List Answer) (next k : ℕ) (s : State) (o : Option ReplyView) → ((n : ℕ) (t : State) → o ≡ Some (Replies n t) → 3 ≤ k) → (o ≡ Some Collects → 2 ≤ k)
    → TellsNone answers (option_and_then (replied image answers next k s) o)
reply-tells-none image answers next k s None replies collects = tt
reply-tells-none image answers next k s (Some (Replies n t)) replies collects = let few = replies n t refl in λ same. (refl, rw (call-tells-none k n (omega (arith, few))) refl)
reply-tells-none image answers next k s (Some (YieldsTo to)) replies collects = entry-tells-none answers (entry_of Yield to s) _ refl
reply-tells-none image answers next k s (Some (Allocates shape)) replies collects = answered-tells-none image next k s shape answers
reply-tells-none image answers next k s (Some Collects) replies collects = λ same. (refl, rw (call-tells-none k (free_words image (Roots image next s) s) (collects refl)) refl)

-- what entries 0 and 1 come to is an allocation
pub object-allocates : (s : State) (r : ReplyView) → alloc_object s ≡ Some r → (shape : ObjectShape) × (r ≡ Allocates shape)
object-allocates s r e = go (class_asked (s.thread.regs Eax)) e
  where
    go : (o : Option ObjectShape) → option_map Allocates o ≡ Some r → (shape : ObjectShape) × (r ≡ Allocates shape)
    go None f = absurd (cc)
    go (Some shape) f = (shape, cc)

pub array-allocates : (s : State) (r : ReplyView) → alloc_array s ≡ Some r → (shape : ObjectShape) × (r ≡ Allocates shape)
array-allocates s r e = go (array_asked (s.thread.regs Eax) (s.thread.regs Ecx)) e
  where
    go : (o : Option ObjectShape) → option_map Allocates o ≡ Some r → (shape : ObjectShape) × (r ≡ Allocates shape)
    go None f = absurd (cc)
    go (Some shape) f = (shape, cc)

-- an effect
pub effect-tells-none : (image : ImageParts) (answers : List Answer) (next : ℕ) (s : State) (e : EffectView) → TellsNone answers (after_effect image answers next s e)
unfolding Reply
effect-tells-none image answers next s (Moves t) = λ same. (refl, refl)
effect-tells-none image answers next s (Faults vector) = leaving-tells-none image answers s _ Fault vector _ (s.current == 0) refl
effect-tells-none image answers next s (Calls zero) = reply-tells-none image answers next 0 s (alloc_object s)
    (λ n t e. absurd (let a = object-allocates s (Replies n t) e in cc)) (λ e. absurd (let a = object-allocates s Collects e in cc))
effect-tells-none image answers next s (Calls (suc zero)) = reply-tells-none image answers next 1 s (alloc_array s)
    (λ n t e. absurd (let a = array-allocates s (Replies n t) e in cc)) (λ e. absurd (let a = array-allocates s Collects e in cc))
effect-tells-none image answers next s (Calls (suc (suc zero))) = reply-tells-none image answers next 2 s (Some Collects) (λ n t e. absurd (cc)) (λ e. omega arith)
effect-tells-none image answers next s (Calls (suc (suc (suc k)))) =
    reply-tells-none image answers next (suc (suc (suc k))) s (Reply (suc (suc (suc k))) s) (λ n t e. omega arith) (λ e. omega arith)
effect-tells-none image answers next s Ends = leaving-tells-none image answers s _ Ended 0 _ (s.current == 0) refl

-- an instruction
pub instruction-tells-none : (image : ImageParts) (answers : List Answer) (s : State) → TellsNone answers (instruction image answers s)
instruction-tells-none image answers s = go (inst_at image s.thread.place)
  where
    effect : (next : ℕ) (o : Option EffectView) → TellsNone answers (option_and_then (after_effect image answers next s) o)
    effect next None = tt
    effect next (Some e) = effect-tells-none image answers next s e

    go : (o : Option (Inst × ℕ))
        → TellsNone answers (option_and_then (λ (i : Inst × ℕ). option_and_then (after_effect image answers (next_address s.thread.place i.1) s) (Effect image s i.0 i.1)) o)
    go None = tt
    go (Some i) = effect (next_address s.thread.place i.1) (Effect image s i.0 i.1)

-- an interrupt
pub interrupt-tells-none : (image : ImageParts) (answers : List Answer) (line : ℕ) (s : State) → TellsNone answers (interrupted image answers line s)
interrupt-tells-none image answers line s = entry-tells-none answers (entry_of Interrupt line s) _ refl

-- the answers of entries one behind another
pub answers-append : (xs ys : List Entry) → answers_of (xs ++ ys) ≡ answers_of xs ++ answers_of ys
answers-append [] ys = refl
answers-append (x ∷ xs) ys = rw (answers-append xs ys) (simp append_assoc refl)
