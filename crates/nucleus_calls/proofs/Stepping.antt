-- An instruction that runs on the Nucleus's memory leads processor and Nucleus as it leads the state.
use Rattle.std.proofs.Common.{◌≡◌, ℕ, Bool, Option, Some, None, sym}
use Rattle.ia32_code.specs.declared.instruction.Inst.{Inst}
use Rattle.ia32_step.specs.declared.cpu.Cpu.{Cpu}
use Rattle.stack_states.specs.StackTable.{OneRuns, current_of}
use Rattle.tal_image.specs.Image.{ImageParts}
use Rattle.typed_machine.specs.States.{State}
use Rattle.typed_machine.specs.Effects.{EffectView, Moves, Faults, Calls, Ends, Effect}
use Rattle.word_machine.specs.declared.step.Step.{Step}
use Rattle.word_machine.specs.Memory.{MemoryView}
use Rattle.word_machine.specs.Laws.{HeapWritten}
use Rattle.word_machine.specs.Standing.{MemoryStands, WordsStand}
use Rattle.word_machine.specs.Following.{StandsAt, Runs, Came}
use Rattle.nucleus_calls.specs.Nucleus.{NucleusView, NucleusStands, IsNucleus}
use Rattle.nucleus_calls.specs.Turning.{AtInstruction, MayStep, BothStand, Stepped}
use Rattle.nucleus_calls.proofs.KeptParts.{KeepsRest, EffectKeeps, effect_keeps}
use Rattle.nucleus_calls.proofs.Switched.{count-is, current-is}
use Rattle.nucleus_calls.proofs.Led.{with_parts}
use Rattle.nucleus_calls.proofs.Keeping.{WritesKeepLists, lists_kept}

-- the words stand for the state at whose place the instruction is
words-stand : (image : ImageParts) (live : ℕ → Bool) (s : State) (i : Inst) (len : ℕ) (cpu : Cpu) (v : NucleusView) → AtInstruction image live s i len cpu v → StandsAt image live s cpu v.memory i len
words-stand image live s i len cpu v h = record {
  grounds = record {
    well_typed = h.before.well_typed;
    typed = h.before.typed;
    stand = record {
      processor = record { regs = h.before.processor.regs; flags = h.before.processor.flags; place = h.before.processor.place };
      memory = h.before.nucleus.memory;
    };
  };
  here = h.here;
}

-- the instruction may run on the running stack
pub may_run : (i : Inst) (len : ℕ) (cpu : Cpu) (v : NucleusView) → MayStep i len cpu v → OneRuns v.stacks → Runs (current_of v.stacks) i len cpu v.memory
may_run i len cpu v (image, live, s, h) one =
    (image, live, s, words-stand image live s i len cpu v h, sym (current-is h.before.typed h.before.nucleus one))

-- what `advance` ensures
abbrev pub Advances : Inst → ℕ → ℕ → Cpu → MemoryView → Step → Cpu → MemoryView → Type 0
Advances i len current cpu m r ran after =
    (image : ImageParts) (live : ℕ → Bool) (s : State) → StandsAt image live s cpu m i len → s.current ≡ current → Came r ran after image live s (Effect image s i len)

-- the same stacks, starts and devices with the words that came of it
same-stands : (image : ImageParts) (live : ℕ → Bool) (s : State) (v : NucleusView) (ran : Cpu) (after : MemoryView) → NucleusStands image live s v
    → WordsStand image live s ran after → BothStand image live s ran (with_parts v after v.stacks v.devices)
same-stands image live s v ran after h words = record {
  processor = words.processor;
  nucleus = record { memory = words.memory; stacks = h.stacks; starts = h.starts; devices = h.devices; marks = h.marks };
}

-- so it is with a state that kept the rest
rest-stands : (image : ImageParts) (live : ℕ → Bool) (s t : State) (v : NucleusView) (ran : Cpu) (after : MemoryView) → NucleusStands image live s v → KeepsRest s t
    → WordsStand image live t ran after → BothStand image live t ran (with_parts v after v.stacks v.devices)
rest-stands image live s t v ran after h keeps words = record {
  processor = words.processor;
  nucleus = record {
    memory = words.memory;
    stacks = rw (keeps.places, keeps.stacks) h.stacks;
    starts = h.starts;
    devices = rw keeps.devices h.devices;
    marks = h.marks;
  };
}

came_stands : (image : ImageParts) (live : ℕ → Bool) (s : State) (v : NucleusView) (r : Step) (ran : Cpu) (after : MemoryView) → NucleusStands image live s v
    → (o : Option EffectView) → EffectKeeps s o → Came r ran after image live s o → Stepped r ran (with_parts v after v.stacks v.devices) image live s o
came_stands image live s v r ran after h None keeps came = came
came_stands image live s v r ran after h (Some (Moves t)) keeps (is, words) =
    (is, rest-stands image live s t v ran after h keeps words, record { turns = keeps.turns; ending = keeps.ending })
came_stands image live s v r ran after h (Some (Faults vector)) keeps (is, words) = (is, same-stands image live s v ran after h words)
came_stands image live s v r ran after h (Some (Calls k)) keeps (is, words) = (is, same-stands image live s v ran after h words)
came_stands image live s v r ran after h (Some Ends) keeps (is, words) = (is, same-stands image live s v ran after h words)

-- the instruction leads them as it leads the state
pub step-leads : (i : Inst) (len : ℕ) (cpu : Cpu) (v : NucleusView) (r : Step) (ran : Cpu) (after : MemoryView) → OneRuns v.stacks
    → Advances i len (current_of v.stacks) cpu v.memory r ran after
    → (image : ImageParts) (live : ℕ → Bool) (s : State) → AtInstruction image live s i len cpu v
    → Stepped r ran (with_parts v after v.stacks v.devices) image live s (Effect image s i len)
step-leads i len cpu v r ran after one advances image live s h =
    came_stands image live s v r ran after h.before.nucleus (Effect image s i len) (effect_keeps image s i len)
    (advances image live s (words-stand image live s i len cpu v h) (sym (current-is h.before.typed h.before.nucleus one)))

-- the words still stand for some state
came_memory : (image : ImageParts) (live : ℕ → Bool) (s : State) (r : Step) (ran : Cpu) (after : MemoryView) (o : Option EffectView) → Came r ran after image live s o
    → (t : State) × MemoryStands image live t after
came_memory image live s r ran after None came = absurd came
came_memory image live s r ran after (Some (Moves t)) (is, words) = (t, words.memory)
came_memory image live s r ran after (Some (Faults vector)) (is, words) = (s, words.memory)
came_memory image live s r ran after (Some (Calls k)) (is, words) = (s, words.memory)
came_memory image live s r ran after (Some Ends) (is, words) = (s, words.memory)

-- so each stack has all of its words
pub step-kept : WritesKeepLists → (i : Inst) (len : ℕ) (cpu : Cpu) (v : NucleusView) (r : Step) (ran : Cpu) (after : MemoryView) → IsNucleus v → OneRuns v.stacks
    → MayStep i len cpu v → Advances i len (current_of v.stacks) cpu v.memory r ran after → HeapWritten v.memory.heap after.heap → IsNucleus (with_parts v after v.stacks v.devices)
step-kept law i len cpu v r ran after kept one (image, live, s, h) advances written =
    let t = came_memory image live s r ran after _ (advances image live s (words-stand image live s i len cpu v h) (sym (current-is h.before.typed h.before.nucleus one))) in
    let count = count-is h.before.typed h.before.nucleus in
    record { room = λ a low high aligned. t.1.room a low (rw count at high) aligned; starts = kept.starts; lists = lists_kept law v.index v.memory.heap after.heap written kept.lists }
