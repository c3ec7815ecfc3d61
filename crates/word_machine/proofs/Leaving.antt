-- What an instruction leaves of words that stand for a state: what its effect says of the state.
use Rattle.std.proofs.Common.{◌≡◌, ℕ, false, Option, Some, refl, ap, ◌∙◌, Bool}
use Rattle.ia32_code.specs.declared.instruction.Inst.{Inst}
use Rattle.ia32_step.specs.declared.cpu.Cpu.{Cpu}
use Rattle.ia32_step.specs.declared.effect.Effect.{Effect as StepEffect}
use Rattle.ia32_step.specs.declared.effect.Effect.TheVariants as step
use Rattle.ia32_step.specs.Operands.{WordState}
use Rattle.ia32_step.specs.Effects.{executed, effect_of, next_of, moved, after_instruction as ran_to}
use Rattle.ia32_step.specs.Reaches.{Reaches, is_system}
use Rattle.tal_flow.specs.Rules.{next_address}
use Rattle.heap_words.specs.Blocks.{FormedHeap}
use Rattle.tal_image.specs.Image.{ImageParts}
use Rattle.typed_machine.specs.States.{State, Thread, places_of}
use Rattle.typed_machine.specs.Effects.{EffectView, Moves}
use Rattle.typed_machine.specs.Words.{register_words, esp_of, words_of}
use Rattle.word_machine.specs.Memory.{MemoryView, is_mapped, memory_word}
use Rattle.word_machine.specs.Standing.{MemoryStands, WordsStand}
use Rattle.word_machine.specs.Stepping.{Left}
use Rattle.word_machine.proofs.Telling.{same-told}
use Rattle.word_machine.proofs.Grounding.{words_over, thread_stands, same-stands, Begins}

-- the processor and the memory after an instruction on these words
pub record Ran (i : Inst) (len : ℕ) (before : WordState) (m : MemoryView) (cpu : Cpu) (after : MemoryView) : Type 0 where
  pub regs : cpu.regs ≡ (ran_to i len before).regs
  pub flags : cpu.flags ≡ (ran_to i len before).flags
  pub place : cpu.pc ≡ (ran_to i len before).pc
  pub words : (a : ℕ) → memory_word after a ≡ (ran_to i len before).memory a
  pub mapped : (a : ℕ) → is_mapped after a ≡ is_mapped m a
  pub formed : FormedHeap after.heap

-- the same where nothing is left to the caller
pub record RanOn (i : Inst) (len : ℕ) (before : WordState) (m : MemoryView) (cpu : Cpu) (after : MemoryView) : Type 0 where
  pub regs : cpu.regs ≡ (executed i before).regs
  pub flags : cpu.flags ≡ (executed i before).flags
  pub place : cpu.pc ≡ next_of i before len
  pub words : (a : ℕ) → memory_word after a ≡ (executed i before).memory a
  pub mapped : (a : ℕ) → is_mapped after a ≡ is_mapped m a
  pub formed : FormedHeap after.heap

-- an instruction that leaves nothing to the caller has run on
pub ran_on : (i : Inst) (len : ℕ) (before : WordState) (m : MemoryView) (cpu : Cpu) (after : MemoryView) → effect_of i before len ≡ step.Next
    → Ran i len before m cpu after → RanOn i len before m cpu after
ran_on i len before m cpu after is r = record {
  regs = rw is at r.regs;
  flags = rw is at r.flags;
  place = rw is at r.place;
  words = λ a. rw is at (r.words a);
  mapped = r.mapped;
  formed = r.formed;
}

-- what an instruction asks of the words, and what it leaves where its effect on the state is this
pub record StepOf (image : ImageParts) (live : ℕ → Bool) (s : State) (m : MemoryView) (i : Inst) (len : ℕ) (e : Option EffectView) : Type 0 where
  pub reaches : Reaches i (words_over s m) (is_mapped m)
  pub runs : is_system i ≡ false
  pub leaves : (cpu : Cpu) (after : MemoryView) → Ran i len (words_over s m) m cpu after
      → Left image live s (next_address s.thread.place len) (effect_of i (words_over s m) len) e cpu after

module _ {image : ImageParts} {live : ℕ → Bool} {s : State} {cpu : Cpu} {m : MemoryView} {i : Inst} {len : ℕ} (b : Begins image live s cpu m i len) where
  -- where something is left to the caller, the words stand where they stood
  pub stays : (e : StepEffect) (ran : Cpu) (after : MemoryView) → effect_of i (words_over s m) len ≡ e
      → moved e (words_over s m) (record (executed i (words_over s m)) { pc = next_of i (words_over s m) len }) ≡ words_over s m
      → Ran i len (words_over s m) m ran after → WordsStand image live s ran after
  unfolding words_of
  stays e ran after is same r =
      let all : ran_to i len (words_over s m) ≡ words_over s m = rw is same in
      record {
        processor = record { regs = r.regs ∙ ap (λ k. k.regs) all; flags = r.flags ∙ ap (λ k. k.flags) all; place = r.place ∙ ap (λ k. k.pc) all };
        memory = same-stands b.grounds.stand.memory after
            (same-told b.laws.heap m after b.grounds.stand.memory.blocks.formed r.formed (λ a. r.words a ∙ ap (λ k. k.memory a) all) r.mapped);
      }

  -- where no word of the memory changes, it stands for the state with another thread
  pub memory-stays : (t : Thread) (after : MemoryView) → ((a : ℕ) → memory_word after a ≡ memory_word m a) → ((a : ℕ) → is_mapped after a ≡ is_mapped m a)
      → FormedHeap after.heap → MemoryStands image live (record s { thread = t }) after
  memory-stays t after words mapped formed =
      thread_stands (same-stands b.grounds.stand.memory after (same-told b.laws.heap m after b.grounds.stand.memory.blocks.formed formed words mapped)) t

  -- an instruction that changes the thread alone
  pub thread_step : (t : Thread) (before : WordState) → before ≡ words_over s m → effect_of i before len ≡ step.Next → (executed i before).memory ≡ before.memory
      → (executed i before).regs ≡ register_words (places_of s) t.regs (esp_of s) → (executed i before).flags ≡ t.flags → next_of i before len ≡ t.place
      → Reaches i before (is_mapped m) → is_system i ≡ false → StepOf image live s m i len (Some (Moves (record s { thread = t })))
  thread_step t before is effect memory regs flags place reaches runs =
      let goes : effect_of i (words_over s m) len ≡ step.Next = rw is at effect in
      record {
        reaches = rw is at reaches;
        runs = runs;
        leaves = λ ran after r.
            let on = ran_on i len (words_over s m) m ran after goes r in
            rw goes (
              record s { thread = t },
              refl,
              record {
                processor = record { regs = on.regs ∙ rw is at regs; flags = on.flags ∙ rw is at flags; place = on.place ∙ rw is at place };
                memory = memory-stays t after (λ a. on.words a ∙ ap (λ f. f a) (rw is at memory)) on.mapped on.formed;
              },
            );
      }
