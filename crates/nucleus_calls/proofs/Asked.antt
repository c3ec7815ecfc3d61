-- A call finds in the processor's registers the numbers that its entry asks for.
use Rattle.std.specs.Prelude.{slice_index}
use Rattle.std.proofs.Common.{◌≡◌, ℕ, Bool, true, List, Some, refl, sym, ◌∙◌}
use Rattle.ia32_code.specs.declared.instruction.Reg.TheVariants.{Eax, Ecx}
use Rattle.ia32_step.specs.declared.cpu.Cpu.{Cpu}
use Rattle.tal_types.specs.declared.types.Ty.{Ty}
use Rattle.tal_types.specs.declared.types.Ty.TheVariants as ty
use Rattle.tal_types.specs.Shown.{ShownImage}
use Rattle.tal_flow.specs.declared.calls.Arguments.{Arguments}
use Rattle.tal_flow.specs.declared.calls.Arguments.TheVariants.{Table, DescriptorAndNumber, Nothing, OneNumber, TwoNumbers}
use Rattle.tal_flow.specs.declared.calls.Called.TheVariants.{Gives}
use Rattle.tal_flow.specs.Calls.{entry_gives}
use Rattle.tal_image.specs.Image.{ImageParts}
use Rattle.typed_machine.specs.Values.{Value, Number, Null, Ref, Code, Ret, Tab, Desc, ObjectShape, Word, fits_among}
use Rattle.typed_machine.specs.States.{State, places_of, at_place}
use Rattle.typed_machine.specs.Frames.{fits_in}
use Rattle.typed_machine.specs.Typing.{scope_of}
use Rattle.typed_safety.specs.Laws.{CallTyped}
use Rattle.word_machine.specs.Standing.{CpuStands}
use Rattle.nucleus_calls.specs.Calling.{Asks, AsksOf}

-- a value of type Num is a number
number-of-type : (v : ShownImage) (live : ℕ → Bool) (os : List ObjectShape) (w : Value) → fits_among v live os w ty.Num ≡ true → (n : ℕ) × (w ≡ Number n)
unfolding fits_among
number-of-type v live os (Number n) h = (n, refl)
number-of-type v live os Null h = absurd (cc)
number-of-type v live os (Ref i) h = absurd (cc)
number-of-type v live os (Code a) h = absurd (cc)
number-of-type v live os (Ret a) h = absurd (cc)
number-of-type v live os (Tab c) h = absurd (cc)
number-of-type v live os (Desc k) h = absurd (cc)

-- a number is its word
number-is-word : (places : List ℕ) (w : Value) → (n : ℕ) × (w ≡ Number n) → w ≡ Number (Word places w)
unfolding Word
number-is-word places w (n, is) = rw is refl

pub called-asks : (image : ImageParts) (live : ℕ → Bool) (s : State) (next k : ℕ) (cpu : Cpu) → CallTyped (scope_of image live s) s next k → CpuStands (at_place next s) cpu
    → AsksOf k (slice_index cpu.regs 0) (slice_index cpu.regs 1) s
called-asks image live s next k cpu h processor arguments entry =
    let same : Some h.arguments ≡ Some arguments = sym h.entry ∙ entry in
    let is : h.arguments ≡ arguments = cc in
    rw (processor.regs, ← is) (go h.arguments h.eax h.ecx h.reply h.gives h.eax_fits h.ecx_fits)
  where
    eax : ℕ
    eax = Word (places_of s) (s.thread.regs Eax)

    ecx : ℕ
    ecx = Word (places_of s) (s.thread.regs Ecx)

    number : (w : Value) → fits_in (scope_of image live s) w ty.Num ≡ true → w ≡ Number (Word (places_of s) w)
    number w fits = number-is-word (places_of s) w (number-of-type _ _ _ w fits)

    go : (a : Arguments) (t u reply : Ty) → entry_gives a t u ≡ Gives reply → fits_in (scope_of image live s) (s.thread.regs Eax) t ≡ true
        → fits_in (scope_of image live s) (s.thread.regs Ecx) u ≡ true → Asks a eax ecx s
    go Table t u reply gives fits fits_too = tt
    go DescriptorAndNumber t u reply gives fits fits_too = tt
    go Nothing t u reply gives fits fits_too = tt
    go OneNumber ty.Num u reply gives fits fits_too = number (s.thread.regs Eax) fits
    go OneNumber t u reply gives fits fits_too = absurd (cc)
    go TwoNumbers ty.Num ty.Num reply gives fits fits_too = (number (s.thread.regs Eax) fits, number (s.thread.regs Ecx) fits_too)
    go TwoNumbers t u reply gives fits fits_too = absurd (cc)
