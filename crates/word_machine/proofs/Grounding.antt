-- What is known of words that stand for a typed state, before an instruction: the words that it works on, and the memory when
-- no word or one word changes.
use Rattle.std.proofs.Common.{◌≡◌, ◌≢◌, ℕ, ◌+◌, ◌*◌, ◌<◌, Bool, true, false, Option, Some, None, refl, sym, ap, ◌∙◌, arith}
use Rattle.object_layout.specs.Areas.{heap_start}
use Rattle.ia32_code.specs.declared.instruction.Inst.{Inst}
use Rattle.ia32_code.specs.Canonical.{Canonical}
use Rattle.ia32_step.specs.declared.cpu.Cpu.{Cpu}
use Rattle.ia32_step.specs.Operands.{WordState, state_of}
use Rattle.tal_flow.specs.Rules.{next_address}
use Rattle.tal_flow.specs.Strongest.{PlacedInst}
use Rattle.tal_image.specs.Image.{ImageParts}
use Rattle.tal_checker.specs.Running.{instruction_in}
use Rattle.typed_machine.specs.States.{State, Thread}
use Rattle.typed_machine.specs.Effects.{Effect}
use Rattle.typed_machine.specs.Words.{words_of}
use Rattle.typed_safety.specs.Laws.{KeepsTyping, EffectTyped}
use Rattle.word_machine.specs.Memory.{MemoryView, word_of, is_mapped, memory_word}
use Rattle.word_machine.specs.Standing.{values_at, CpuStands, MemoryStands}
use Rattle.word_machine.specs.Following.{Grounds, StandsAt}
use Rattle.word_machine.specs.Stepping.{StepLaws}
use Rattle.word_machine.proofs.Areas.{heap_there}
use Rattle.word_machine.proofs.Heaps.{same-list}
use Rattle.word_machine.proofs.Bounds.{few-stacks, runs-there}
use Rattle.word_machine.proofs.Spelled.{IsPlain, Canonical-plain, MayUse, plain-used}
use Rattle.word_machine.proofs.Operating.{over}

-- ---- the words that an instruction works on

-- those of a state, over a memory
abbrev pub words_over : State → MemoryView → WordState
words_over s m = over (memory_word m) (words_of s 0)

-- where the next instruction stands
abbrev pub next : State → ℕ → ℕ
next s len = next_address s.thread.place len

-- a processor that stands for a state works on the words of that state
pub held : (s : State) (cpu : Cpu) (m : MemoryView) → CpuStands s cpu → state_of cpu (memory_word m) ≡ words_over s m
unfolding words_of
held s cpu m h = rw (h.regs, h.flags, h.place) refl

-- ---- words that stay

-- with the same words the heap is the same
same-heap-words : (m after : MemoryView) → ((a : ℕ) → word_of after a ≡ word_of m a) → after.heap ≡ m.heap
same-heap-words m after same = same-list after.heap m.heap (λ k. sym (heap_there after k) ∙ same (heap_start + 4 * k) ∙ heap_there m k)

module _ {image : ImageParts} {live : ℕ → Bool} {s : State} {m : MemoryView} (h : MemoryStands image live s m) where
  -- the memory stands for the state, whatever its thread
  pub thread_stands : (t : Thread) → MemoryStands image live (record s { thread = t }) m
  unfolding values_at
  thread_stands t = record {
    tables = h.tables;
    descriptors = h.descriptors;
    statics = h.statics;
    objects = h.objects;
    stacks = h.stacks;
    room = h.room;
    lie = record { short = h.lie.short; aligned = h.lie.aligned; inside = h.lie.inside; apart = h.lie.apart };
    blocks = h.blocks;
  }

  -- a memory with the same words stands for it too
  pub same-stands : (after : MemoryView) → ((a : ℕ) → word_of after a ≡ word_of m a) → MemoryStands image live s after
  unfolding is_mapped
  same-stands after same = let heap = same-heap-words m after same in record {
    tables = λ c k w e. same _ ∙ h.tables c k w e;
    descriptors = λ d k w e. same _ ∙ h.descriptors d k w e;
    statics = λ k v e. same _ ∙ h.statics k v e;
    objects = λ i o l e k v f. same _ ∙ h.objects i o l e k v f;
    stacks = λ n few k v e. same _ ∙ h.stacks n few k v e;
    room = λ a low high whole. rw (same a, heap) (h.room a low high whole);
    lie = h.lie;
    blocks = rw heap h.blocks;
  }

-- ---- what is known before an instruction

-- A spelled instruction stands at the place of a state that the words stand for; its effect is there.
pub record Begins (image : ImageParts) (live : ℕ → Bool) (s : State) (cpu : Cpu) (m : MemoryView) (i : Inst) (len : ℕ) : Type 0 where
  pub grounds : Grounds image live s cpu m
  pub laws : StepLaws
  pub plain : IsPlain (MayUse image live s) i
  pub placed : PlacedInst
  pub here : instruction_in image s.thread.place ≡ Some placed
  pub is : placed.inst ≡ i
  pub known : Effect image s i len ≢ None

-- an effect that keeps typing is there
effect_there : (image : ImageParts) (live : ℕ → Bool) (s : State) (next : ℕ) (e : _) → EffectTyped image live s next e → e ≢ None
effect_there image live s next None h e = h
effect_there image live s next (Some x) h e = absurd (cc)

-- what is in a value that is there
pub some-is : {X : Type 0} (x y : X) → Some x ≡ Some y → x ≡ y
some-is x y h = cc

-- the parts of a pair that there is
the-pair : (i j : Inst × ℕ) → Some i ≡ Some j → (i.0 ≡ j.0) × (i.1 ≡ j.1)
the-pair i j h = (ap (λ (p : Inst × ℕ). p.0) (some-is i j h), ap (λ (p : Inst × ℕ). p.1) (some-is i j h))

-- so it is at each spelled instruction
pub begins : (image : ImageParts) (live : ℕ → Bool) (s : State) (cpu : Cpu) (m : MemoryView) (i : Inst) (len : ℕ) → StepLaws → Canonical i ≢ None → StandsAt image live s cpu m i len
    → Begins image live s cpu m i len
begins image live s cpu m i len laws spelled at =
    let kept : KeepsTyping image live s = laws.keeps image at.grounds.well_typed live s at.grounds.typed in
    let same = the-pair (kept.placed.inst, kept.placed.len) (i, len) (sym kept.spelled ∙ at.here) in
    let effect : Effect image s kept.placed.inst kept.placed.len ≢ None = effect_there image live s (next_address s.thread.place kept.placed.len) _ kept.typed in
    record {
      grounds = at.grounds;
      laws = laws;
      plain = plain-used image live s i (Canonical-plain i spelled) (rw same.0 at (laws.lives image at.grounds.well_typed live s at.grounds.typed kept.placed kept.here));
      placed = kept.placed;
      here = kept.here;
      is = same.0;
      known = rw (same.0, same.1) at effect;
    }

-- the running stack is one of 64
pub current-few : {image : ImageParts} {live : ℕ → Bool} {s : State} {cpu : Cpu} {m : MemoryView} → Grounds image live s cpu m → s.current < 64
current-few g = let stacks = few-stacks g in let runs = runs-there g in omega (arith, stacks, runs)
