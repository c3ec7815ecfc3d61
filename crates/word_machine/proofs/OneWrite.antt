-- An instruction writes one word of the memory at most, and that one is mapped: so in the heap one word of an object at most.
use Rattle.std.specs.Prelude.{◌==◌, if◌then◌else◌, slice_set}
use Rattle.std.proofs.Common.{◌≡◌, ◌⊎◌, inl, inr, ℕ, ◌+◌, ◌-◌, ◌*◌, ◌/◌, ◌<◌, ◌≤◌, Bool, true, List, length, Option, Some, None, refl, ◌∙◌, arith}
use Rattle.std.proofs.lemmas.Bool.{cases_lt}
use Rattle.ia32_code.specs.declared.instruction.Alu.{Alu}
use Rattle.ia32_code.specs.declared.instruction.Alu.TheVariants as alu
use Rattle.ia32_code.specs.declared.instruction.Operand.{Operand}
use Rattle.ia32_code.specs.declared.instruction.Operand.TheVariants.{R, M, I}
use Rattle.ia32_code.specs.declared.instruction.Inst.{Inst}
use Rattle.ia32_code.specs.declared.instruction.Inst.TheVariants as inst
use Rattle.ia32_step.specs.declared.effect.Effect.{Effect}
use Rattle.ia32_step.specs.declared.effect.Effect.TheVariants as effect
use Rattle.ia32_step.specs.Operands.{WordState, state_of, address_of, put_word}
use Rattle.ia32_step.specs.Effects.{below_top, put_quotient, executed, effect_of, next_of, moved, after_instruction}
use Rattle.ia32_step.specs.Reaches.{IsReached, Reaches}
use Rattle.heap_words.specs.Blocks.{FormedHeap, IsObjectWord}
use Rattle.object_layout.specs.Areas.{heap_start}
use Rattle.word_machine.specs.Memory.{MemoryView, is_object_word, is_mapped, memory_word}
use Rattle.word_machine.specs.Laws.{WordChanges, HeapWritten}
use Rattle.word_machine.specs.Stepping.{HeapLaws, IsLeft}
use Rattle.word_machine.proofs.Areas.{is_within, there_in_heap, heap_object, heap_stays, heap_set}
use Rattle.word_machine.proofs.Heaps.{object_inside, object_is_word}
use Rattle.word_machine.proofs.Telling.{same-heap-told, written-told}

-- ---- the words that an instruction writes

-- nothing changes, or the word at one address that is mapped
abbrev pub WritesOne : WordState → (ℕ → Bool) → (ℕ → ℕ) → Type 0
WritesOne m mapped after =
    ((a : ℕ) → after a ≡ m.memory a)
    ⊎ ((b : ℕ) × (w : ℕ) × (mapped b ≡ true) × ((a : ℕ) → after a ≡ (if a == b then w else m.memory a)))

put-one : (d : Operand) (w : ℕ) (m : WordState) (mapped : ℕ → Bool) → IsReached d m mapped → WritesOne m mapped (put_word d w m).memory
put-one (R r) w m mapped h = inl (λ a. refl)
put-one (M x) w m mapped h = inr (address_of x m.regs, w, h, λ a. refl)
put-one (I n) w m mapped h = inl (λ a. refl)

-- a quotient goes to registers
quotient-stays : (o : _) (m : WordState) (a : ℕ) → (put_quotient o m).memory a ≡ m.memory a
quotient-stays None m a = refl
quotient-stays (Some q) m a = refl

executed-one : (i : Inst) (m : WordState) (mapped : ℕ → Bool) → Reaches i m mapped → WritesOne m mapped (executed i m).memory
executed-one (inst.Alu alu.Add d x) m mapped h = put-one d _ m mapped h.0
executed-one (inst.Alu alu.Or d x) m mapped h = put-one d _ m mapped h.0
executed-one (inst.Alu alu.And d x) m mapped h = put-one d _ m mapped h.0
executed-one (inst.Alu alu.Sub d x) m mapped h = put-one d _ m mapped h.0
executed-one (inst.Alu alu.Xor d x) m mapped h = put-one d _ m mapped h.0
executed-one (inst.Alu alu.Cmp d x) m mapped h = inl (λ a. refl)
executed-one (inst.Mov d x) m mapped h = put-one d _ m mapped h.0
executed-one (inst.Lea d x) m mapped h = put-one d _ m mapped h
executed-one (inst.Test d x) m mapped h = inl (λ a. refl)
executed-one (inst.Inc d) m mapped h = put-one d _ m mapped h
executed-one (inst.Dec d) m mapped h = put-one d _ m mapped h
executed-one (inst.Not d) m mapped h = put-one d _ m mapped h
executed-one (inst.Neg d) m mapped h = put-one d _ m mapped h
executed-one (inst.Mul x) m mapped h = inl (λ a. refl)
executed-one (inst.Imul1 x) m mapped h = inl (λ a. refl)
executed-one (inst.Div x) m mapped h = inl (quotient-stays _ m)
executed-one (inst.Idiv x) m mapped h = inl (quotient-stays _ m)
executed-one (inst.Imul2 d x) m mapped h = put-one d _ m mapped h.0
executed-one (inst.Imul3 d x n) m mapped h = put-one d _ m mapped h.0
executed-one (inst.Shift op d by) m mapped h = put-one d _ m mapped h
executed-one inst.Cdq m mapped h = inl (λ a. refl)
executed-one inst.Nop m mapped h = inl (λ a. refl)
executed-one (inst.Push x) m mapped h = inr (below_top m, _, h.1, λ a. refl)
executed-one (inst.Pop r) m mapped h = inl (λ a. refl)
executed-one (inst.CallRel z) m mapped h = inl (λ a. refl)
executed-one (inst.CallAt x) m mapped h = inl (λ a. refl)
executed-one inst.Ret m mapped h = inl (λ a. refl)
executed-one (inst.Jmp z) m mapped h = inl (λ a. refl)
executed-one (inst.Jcc c z) m mapped h = inl (λ a. refl)
executed-one (inst.Priv op arg) m mapped h = inl (λ a. refl)

after-one : (i : Inst) (len : ℕ) (m : WordState) (mapped : ℕ → Bool) → Reaches i m mapped → WritesOne m mapped (after_instruction i len m).memory
after-one i len m mapped h = go (effect_of i m len)
  where
    go : (e : Effect) → WritesOne m mapped (moved e m (record (executed i m) { pc = next_of i m len })).memory
    go effect.Next = executed-one i m mapped h
    go (effect.Fault n) = inl (λ a. refl)
    go (effect.Call a) = inl (λ a. refl)
    go effect.Return = inl (λ a. refl)

-- ---- the heap

module _ (laws : HeapLaws) (m after : MemoryView) (formed : FormedHeap m.heap) (formed_after : FormedHeap after.heap)
    (mapped : (b : ℕ) → is_mapped after b ≡ is_mapped m b) where
  -- where a mapped word changes and no other, one word of an object changes at most
  heap_one : (a w : ℕ) → is_mapped m a ≡ true → ((b : ℕ) → memory_word after b ≡ (if b == a then w else memory_word m b)) → HeapWritten m.heap after.heap
  heap_one a w here words = elim (cases_lt a heap_start) [
    | inl low ↦ inl (heap_stays m after a w (written-told laws m after formed formed_after a w here words mapped) low)
    | inr high ↦ inr (
        let there = there_in_heap m a here high in
        let k = (a - heap_start) / 4 in
        let object = heap_object m a here high in
        let inside = object_inside laws m.heap formed k object in
        let at = (is_within heap_start m.heap a there).whole in
        record {
          index = k;
          word = w;
          object = object_is_word laws m.heap formed k object;
          inside = inside;
          is = heap_set m after k w (rw at at (written-told laws m after formed formed_after a w here words mapped)) inside;
        })
  ]

  -- so it is after an instruction
  pub ran_heap : (i : Inst) (len : ℕ) (before : WordState) → before.memory ≡ memory_word m → Reaches i before (is_mapped m)
      → ((a : ℕ) → memory_word after a ≡ (after_instruction i len before).memory a) → HeapWritten m.heap after.heap
  ran_heap i len before same reaches words = go (after-one i len before (is_mapped m) reaches)
    where
      go : WritesOne before (is_mapped m) (after_instruction i len before).memory → HeapWritten m.heap after.heap
      go (inl none) = inl (same-heap-told laws m after formed formed_after (λ a. words a ∙ none a ∙ (rw same refl)))
      go (inr (b, w, there, one)) = heap_one b w there (λ a. words a ∙ one a ∙ (rw same refl))

  -- where something is left to the caller, the heap stays
  pub left-heap : (i : Inst) (len : ℕ) (before : WordState) (e : Effect) → before.memory ≡ memory_word m → effect_of i before len ≡ e → IsLeft e
      → ((a : ℕ) → memory_word after a ≡ (after_instruction i len before).memory a) → after.heap ≡ m.heap
  left-heap i len before e same is left words = same-heap-told laws m after formed formed_after (λ a. words a ∙ (rw is (stays e left a)))
    where
      stays : (e : Effect) → IsLeft e → (a : ℕ) → (moved e before (record (executed i before) { pc = next_of i before len })).memory a ≡ memory_word m a
      stays effect.Next h a = absurd h
      stays (effect.Fault n) h a = rw same refl
      stays (effect.Call t) h a = rw same refl
      stays effect.Return h a = rw same refl
