-- PUSH, POP and ADD to ESP, on words that stand for a state.
use Rattle.std.specs.Prelude.{◌==◌, nat_le, if◌then◌else◌}
use Rattle.std.specs.Option.{option_map}
use Rattle.std.proofs.Common.{◌≡◌, ◌≢◌, ℕ, ◌+◌, ◌-◌, ◌*◌, ◌/◌, ◌%◌, ◌^◌, ◌<◌, ◌≤◌, ◌&&◌, zero, suc, Bool, true, false, List, [], ◌∷◌, length, drop, Option, Some, None, refl, ap, ◌∙◌, arith, eqb-true, length-drop}
use Rattle.std.proofs.lemmas.Bool.{and_parts}
use Rattle.std.proofs.lemmas.Bool.Decides.{nat_tests}
use Rattle.ia32_code.specs.declared.instruction.Reg.{Reg}
use Rattle.ia32_code.specs.declared.instruction.Reg.TheVariants.{Esp}
use Rattle.ia32_code.specs.declared.instruction.Alu.TheVariants as alu
use Rattle.ia32_code.specs.declared.instruction.Operand.{Operand}
use Rattle.ia32_code.specs.declared.instruction.Operand.TheVariants.{R, I}
use Rattle.ia32_code.specs.declared.instruction.Inst.TheVariants as inst
use Rattle.ia32_step.specs.declared.cpu.Cpu.{Cpu}
use Rattle.ia32_step.specs.Sums.{add_of}
use Rattle.ia32_step.specs.Operands.{read_word}
use Rattle.ia32_step.specs.Effects.{executed, below_top}
use Rattle.object_layout.specs.Areas.{word_index}
use Rattle.tal_types.specs.Contexts.{same}
use Rattle.tal_flow.specs.Afterwards.{slots_in}
use Rattle.tal_flow.specs.Rules.{next_address}
use Rattle.tal_image.specs.Image.{ImageParts}
use Rattle.tal_image.specs.Conditions.{immediate, marked_number}
use Rattle.tal_image.specs.Shown.{shown}
use Rattle.typed_machine.specs.Values.{Value, Ret, Word}
use Rattle.typed_machine.specs.States.{State, NoCondition, places_of, at_place, with_register, with_flags, with_values, most_values}
use Rattle.typed_machine.specs.Operands.{operand_value}
use Rattle.typed_machine.specs.Effects.{goes_on, is_full, pushes, pops, has_above, drops}
use Rattle.typed_machine.specs.Words.{stack_pointer, register_words, esp_of, words_of}
use Rattle.word_machine.specs.Memory.{MemoryView}
use Rattle.word_machine.specs.Standing.{MemoryStands}
use Rattle.word_machine.specs.Laws.{WordChanges, PushLaw, DropLaw}
use Rattle.word_machine.proofs.Telling.{there, same-told, written-told}
use Rattle.word_machine.proofs.Grounding.{words_over, next, thread_stands, same-stands, Begins, current-few}
use Rattle.word_machine.proofs.OperandWords.{register-written, value-there, value-word}
use Rattle.word_machine.proofs.Forms.{let_in}
use Rattle.word_machine.proofs.Leaving.{ran_on, StepOf}

-- ---- ESP

-- a word below a top that is not the limit, and the word above one that is not the end
pub below-top : (stack depth : ℕ) → stack < 64 → depth < 4096
    → ((stack_pointer stack depth + (2 ^ 32 - 4)) % 2 ^ 32 ≡ stack_pointer stack depth - 4) × (stack_pointer stack depth - 4 ≡ stack_pointer stack (suc depth))
below-top stack depth few room = (omega arith, omega arith)

pub above-top : (stack depth n : ℕ) → stack < 64 → depth ≤ 4096 → n ≤ depth
    → ((stack_pointer stack depth + 4 * n) % 2 ^ 32 ≡ stack_pointer stack (depth - n)) × (stack_pointer stack depth + 4 * n ≡ stack_pointer stack (depth - n))
above-top stack depth n few room some = (omega arith, omega arith)

-- a stack with room is not full, and a full one has none
pub not-full : (s : State) → length s.values < most_values → is_full s ≡ false
unfolding is_full
not-full s h = grind (arith, nat_tests)

pub full : (s : State) → most_values ≤ length s.values → is_full s ≡ true
unfolding is_full
full s h = grind (arith, nat_tests)

-- the number that PUSH takes may be marked
push-marked : (x : Operand) (n : ℕ) → x ≡ I n → marked_number (inst.Push x) ≡ Some n
unfolding marked_number immediate
push-marked x n is = rw is refl

module _ {image : ImageParts} {live : ℕ → Bool} {s : State} {cpu : Cpu} {m : MemoryView} {len : ℕ} where
  -- PUSH of this value, where there is room
  pushed-step : (x : Operand) (w : Value) → Begins image live s cpu m (inst.Push x) len → length s.values < most_values → operand_value (shown image) s x ≡ Some w
      → StepOf image live s m (inst.Push x) len (Some (goes_on (next s len) (with_values (w ∷ s.values) s)))
  unfolding words_of next_address
  pushed-step x w b room value =
      let i = inst.Push x in
      let g = b.grounds in
      let law : PushLaw image live s m = b.laws.pushes image live s cpu m g room in
      let word : read_word x (words_over s m) ≡ Word (places_of s) w = value-word b x w b.plain (push-marked x) value in
      let under = below-top s.current (length s.values) (current-few g) room in
      let low : below_top (words_over s m) ≡ esp_of s - 4 = under.0 in
      record {
        reaches = ((value-there b x w b.plain value).reached, rw low law.there);
        runs = refl;
        leaves = λ ran after r.
            let on = ran_on i len (words_over s m) m ran after refl r in
            let written : WordChanges m after (esp_of s - 4) (Word (places_of s) w) =
            written-told b.laws.heap m after g.stand.memory.blocks.formed on.formed (esp_of s - 4) (Word (places_of s) w) law.there (λ a. rw (low, word) at (on.words a)) on.mapped in (
              at_place (next s len) (with_values (w ∷ s.values) s),
              refl,
              record {
                processor = record { regs = rw (low, under.1) at on.regs; flags = on.flags; place = on.place };
                memory = thread_stands (law.pushed w after written) _;
              },
            );
      }

  -- PUSH, where there is room
  pub push-step : (x : Operand) → Begins image live s cpu m (inst.Push x) len → length s.values < most_values
      → option_map (λ w. pushes (next s len) w s) (operand_value (shown image) s x) ≢ None
      → StepOf image live s m (inst.Push x) len (option_map (λ w. pushes (next s len) w s) (operand_value (shown image) s x))
  unfolding pushes
  push-step x b room known = go (operand_value (shown image) s x) refl known
    where
      go : (o : Option Value) → operand_value (shown image) s x ≡ o → option_map (λ w. pushes (next s len) w s) o ≢ None
          → StepOf image live s m (inst.Push x) len (option_map (λ w. pushes (next s len) w s) o)
      go None e h = absurd (h refl)
      go (Some w) e h = rw (not-full s room) (pushed-step x w b room e)

  -- POP of this value
  popped_step : (r : Reg) (w : Value) (vs : List Value) → Begins image live s cpu m (inst.Pop r) len → s.values ≡ w ∷ vs → same r Esp ≡ false
      → StepOf image live s m (inst.Pop r) len (Some (goes_on (next s len) (with_register r w (with_values vs s))))
  unfolding words_of next_address
  popped_step r w vs b values spared =
      let i = inst.Pop r in
      let g = b.grounds in
      let law : DropLaw image live s m = b.laws.drops image live s cpu m g in
      let depth : length s.values ≡ suc (length vs) = ap length values in
      let at = there m (esp_of s) (Word (places_of s) w) (law.top w vs values) in
      let up : (esp_of s + 4) % 2 ^ 32 ≡ stack_pointer s.current (length vs) =
      let few = current-few g in let room = g.typed.thread.room in omega (arith, few, room, depth) in
      let left : MemoryStands image live (with_values vs s) m = rw values at (law.dropped 1 (omega (arith, depth))) in
      record {
        reaches = law.there w vs values;
        runs = refl;
        leaves = λ ran after r'.
            let on = ran_on i len (words_over s m) m ran after refl r' in
            let kept = same-stands left after (same-told b.laws.heap m after g.stand.memory.blocks.formed on.formed on.words on.mapped) in (
              at_place (next s len) (with_register r w (with_values vs s)),
              refl,
              record {
                processor = record {
                  regs = rw (up, at) at on.regs ∙ register-written s (places_of s) (stack_pointer s.current (length vs)) r w spared;
                  flags = on.flags;
                  place = on.place;
                };
                memory = thread_stands kept _;
              },
            );
      }

  -- POP
  pub pop-step : (r : Reg) → Begins image live s cpu m (inst.Pop r) len → pops (next s len) r s.values s ≢ None → StepOf image live s m (inst.Pop r) len (pops (next s len) r s.values s)
  pop-step r b known = go s.values refl known
    where
      at : (w : Value) (vs : List Value) → s.values ≡ w ∷ vs
          → (t : Bool) → same r Esp ≡ t → (if t then None else Some (goes_on (next s len) (with_register r w (with_values vs s)))) ≢ None
          → StepOf image live s m (inst.Pop r) len (if t then None else Some (goes_on (next s len) (with_register r w (with_values vs s))))
      at w vs values true e h = absurd (h refl)
      at w vs values false e h = popped_step r w vs b values e

      go : (vs : List Value) → s.values ≡ vs → pops (next s len) r vs s ≢ None → StepOf image live s m (inst.Pop r) len (pops (next s len) r vs s)
      go [] values h = absurd (h refl)
      go (Ret a ∷ vs) values h = absurd (h refl)
      go (w ∷ vs) values h = at w vs values (same r Esp) refl h

-- so many values lie on the stack
above-least : (k : ℕ) (vs : List Value) → has_above k vs ≡ true → k ≤ length vs
above-least zero vs h = omega arith
above-least (suc n) [] h = absurd (cc)
above-least (suc n) (Ret a ∷ vs) h = absurd (cc)
above-least (suc n) (w ∷ vs) h = let e = above-least n vs h in omega (arith, e)

-- so many bytes are a whole number of slots
slots-bytes : (bytes k : ℕ) → slots_in bytes ≡ Some k → bytes ≡ 4 * k
unfolding slots_in word_index
slots-bytes bytes k h = go (nat_le 0 bytes && ((bytes - 0) % 4 == 0)) refl h
  where
    go : (t : Bool) → (nat_le 0 bytes && ((bytes - 0) % 4 == 0)) ≡ t → (if t then Some ((bytes - 0) / 4) else None) ≡ Some k → bytes ≡ 4 * k
    go true e f =
        let whole : (bytes - 0) % 4 ≡ 0 = eqb-true _ _ (and_parts (nat_le 0 bytes) ((bytes - 0) % 4 == 0) e).1 in
        let slots : (bytes - 0) / 4 ≡ k = cc in
        omega (arith, whole, slots)
    go false e f = absurd (cc)

module _ {image : ImageParts} {live : ℕ → Bool} {s : State} {cpu : Cpu} {m : MemoryView} {len : ℕ} where
  -- ADD to ESP of so many slots
  dropped-step : (bytes k : ℕ) → Begins image live s cpu m (inst.Alu alu.Add (R Esp) (I bytes)) len → bytes ≡ 4 * k → k ≤ length s.values
      → StepOf image live s m (inst.Alu alu.Add (R Esp) (I bytes)) len
      (Some (goes_on (next s len)
      (with_flags (executed (inst.Alu alu.Add (R Esp) (I bytes)) (words_of s 0)).flags NoCondition (with_values (drop k s.values) s))))
  unfolding words_of next_address add_of
  dropped-step bytes k b is some =
      let i = inst.Alu alu.Add (R Esp) (I bytes) in
      let g = b.grounds in
      let law : DropLaw image live s m = b.laws.drops image live s cpu m g in
      let left : length (drop k s.values) ≡ length s.values - k = length-drop k s.values in
      let up : (esp_of s + bytes) % 2 ^ 32 ≡ stack_pointer s.current (length (drop k s.values)) =
      rw (is, left) (above-top s.current (length s.values) k (current-few g) (g.typed.thread.room) some).0 in
      record {
        reaches = (tt, tt);
        runs = refl;
        leaves = λ ran after r.
            let on = ran_on i len (words_over s m) m ran after refl r in
            let kept = same-stands (law.dropped k some) after (same-told b.laws.heap m after g.stand.memory.blocks.formed on.formed on.words on.mapped) in (
              _,
              refl,
              record {
                processor = record { regs = on.regs ∙ ap (register_words (places_of s) s.thread.regs) up; flags = on.flags; place = on.place };
                memory = thread_stands kept _;
              },
            );
      }

  -- ADD to ESP
  pub drop-step : (bytes : ℕ) → Begins image live s cpu m (inst.Alu alu.Add (R Esp) (I bytes)) len
      → drops s (inst.Alu alu.Add (R Esp) (I bytes)) (next s len) (slots_in bytes) ≢ None
      → StepOf image live s m (inst.Alu alu.Add (R Esp) (I bytes)) len (drops s (inst.Alu alu.Add (R Esp) (I bytes)) (next s len) (slots_in bytes))
  drop-step bytes b known = go (slots_in bytes) refl known
    where
      go : (o : Option ℕ) → slots_in bytes ≡ o → drops s (inst.Alu alu.Add (R Esp) (I bytes)) (next s len) o ≢ None
          → StepOf image live s m (inst.Alu alu.Add (R Esp) (I bytes)) len (drops s (inst.Alu alu.Add (R Esp) (I bytes)) (next s len) o)
      go None e h = absurd (h refl)
      go (Some k) e h =
          let above = let_in (has_above k s.values) _ h in
          rw above (dropped-step bytes k b (slots-bytes bytes k e) (above-least k s.values above))
