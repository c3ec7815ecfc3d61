use Rattle.std.proofs.Common.{◌≡◌, if◌then◌else◌, ℕ, Bool, true, false, Option, Some, None, arith, refl, slice_get}
use Rattle.std.proofs.lemmas.Bool.Decides.{nat_tests}
use Rattle.std.specs.Option.{option_and_then}
use Rattle.ia32_code.specs.declared.instruction.Reg.TheVariants.{Eax, Ecx}
use Rattle.object_layout.specs.Classes.{ShapesView}
use Rattle.object_layout.specs.Laws.{ClassLaws}
use Rattle.tal_types.specs.declared.types.Ty.{Ty}
use Rattle.tal_types.specs.declared.signatures.Sig.{Sig}
use Rattle.tal_types.specs.Types.{sub}
use Rattle.tal_types.specs.Contexts.{LiveContext, LiveBelow, register_type}
use Rattle.tal_types.specs.Shown.{ShownImage}
use Rattle.tal_flow.specs.declared.calls.Arguments.{Arguments}
use Rattle.tal_flow.specs.declared.calls.Called.{Called}
use Rattle.tal_flow.specs.declared.calls.Called.TheVariants.{Nowhere, Misfit, Gives}
use Rattle.tal_flow.specs.Calls.{arguments_fit, called_with, call_of_signature, nucleus_arguments, entry_number, entry_gives, entry_or, call_to, code_signature, call_by}
use Rattle.tal_types.specs.Laws.{TypeLaws}

-- Calls in two contexts, one below the other.

-- where the higher context gives a result, the lower one gives one below it
abbrev pub CalledBelow : ShapesView → Called → Called → Type 0
CalledBelow s (Gives t) (Gives u) = sub s t u ≡ true
CalledBelow s p (Gives u) = ⊥
CalledBelow s p q = Unit {0}

module _ (types : TypeLaws) where
  -- lower arguments fit where higher ones do
  fit-below : (s : ShapesView) → ClassLaws s → (a b : LiveContext) (sig : Sig) → LiveBelow s a b → arguments_fit s b sig ≡ true → arguments_fit s a sig ≡ true
  unfolding arguments_fit
  fit-below s l a b sig h e =
      types.every_tells (λ r. sub s (a.regs r) (register_type sig.params r))
      (λ r. types.types_transitive s l _ (b.regs r) _ (h.regs r) (types.every_told (λ r. sub s (b.regs r) (register_type sig.params r)) r e))

  -- a call that does not fit is above each
  misfit_above : (s : ShapesView) (p : Called) → CalledBelow s p Misfit
  misfit_above s p = grind arith

  -- a call of the same signature, if there is one
  called_with-below : (s : ShapesView) → ClassLaws s → (a b : LiveContext) (o : Option Sig) → LiveBelow s a b → CalledBelow s (called_with s a o) (called_with s b o)
  called_with-below s l a b None h = tt
  called_with-below s l a b (Some sig) h = go (arguments_fit s b sig) (fit-below s l a b sig h)
    where
      go : (t : Bool) → (t ≡ true → arguments_fit s a sig ≡ true)
          → CalledBelow s (if arguments_fit s a sig then Gives sig.result else Misfit) (if t then Gives sig.result else Misfit)
      go false f = misfit_above s (if arguments_fit s a sig then Gives sig.result else Misfit)
      go true f = rw (f refl) (types.types_reflexive s sig.result)

  -- a call of the same signature
  pub call_of_signature-below : (v : ShownImage) → ClassLaws v.shapes → (a b : LiveContext) (g : Option ℕ) → LiveBelow v.shapes a b
      → CalledBelow v.shapes (call_of_signature v a g) (call_of_signature v b g)
  unfolding call_of_signature
  call_of_signature-below v l a b g h = called_with-below v.shapes l a b (option_and_then v.sig g) h

  -- an entry gives less for lower arguments
  entry_gives-below : (s : ShapesView) (k : Arguments) (t u x y : Ty) → sub s t u ≡ true → sub s x y ≡ true → CalledBelow s (entry_gives k t x) (entry_gives k u y)
  unfolding sub
  entry_gives-below s k t u x y h g = grind arith

  -- a call of the same entry, or else of the same signature
  entry_or-below : (v : ShownImage) → ClassLaws v.shapes → (a b : LiveContext) (g : Option ℕ) (k : Option Arguments) → LiveBelow v.shapes a b
      → CalledBelow v.shapes (entry_or (call_of_signature v a g) a k) (entry_or (call_of_signature v b g) b k)
  entry_or-below v l a b g None h = call_of_signature-below v l a b g h
  entry_or-below v l a b g (Some k) h = entry_gives-below v.shapes k _ _ _ _ (h.regs Eax) (h.regs Ecx)

  -- a CALL of the same address
  pub call_to-below : (v : ShownImage) → ClassLaws v.shapes → (a b : LiveContext) (address : ℕ) → LiveBelow v.shapes a b
      → CalledBelow v.shapes (call_to v a address) (call_to v b address)
  unfolding call_to
  call_to-below v l a b address h = entry_or-below v l a b (v.function_at address) (option_and_then (slice_get nucleus_arguments) (entry_number address)) h

  -- a lower type has the same signature
  signature-below : (s : ShapesView) (t u : Ty) (g : ℕ) → sub s t u ≡ true → code_signature u ≡ Some g → code_signature t ≡ Some g
  unfolding sub
  signature-below s t u g e f = grind (arith, nat_tests)

  -- a call of nothing is above each
  nowhere-above : (s : ShapesView) (p : Called) → CalledBelow s p Nowhere
  nowhere-above s p = grind arith

  -- a call without a signature is above each
  nowhere-there : (v : ShownImage) (b : LiveContext) (p : Called) → CalledBelow v.shapes p (call_of_signature v b None)
  unfolding call_of_signature
  nowhere-there v b p = nowhere-above v.shapes p

  -- a CALL of what has a lower type
  pub call_by-below : (v : ShownImage) → ClassLaws v.shapes → (a b : LiveContext) (t u : Ty) → LiveBelow v.shapes a b → sub v.shapes t u ≡ true
      → CalledBelow v.shapes (call_by v a t) (call_by v b u)
  unfolding call_by
  call_by-below v l a b t u h e = go (code_signature u) refl
    where
      go : (o : Option ℕ) → code_signature u ≡ o → CalledBelow v.shapes (call_of_signature v a (code_signature t)) (call_of_signature v b o)
      go None f = nowhere-there v b (call_of_signature v a (code_signature t))
      go (Some g) f = rw (signature-below v.shapes t u g e f) (call_of_signature-below v l a b (Some g) h)
