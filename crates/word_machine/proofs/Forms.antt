-- Moves, addresses, branches and calls, on words that stand for a state.
use Rattle.std.specs.Prelude.{◌==◌, nat_le, slice_get, not, if◌then◌else◌}
use Rattle.std.specs.Option.{option_map, option_and_then}
use Rattle.std.proofs.Common.{◌≡◌, ◌≢◌, ℕ, ◌+◌, ◌-◌, ◌/◌, ◌%◌, ◌≤◌, ◌&&◌, Bool, true, false, List, [], ◌∷◌, Option, Some, None, refl, sym, ap, subst, ◌∙◌, arith}
use Rattle.std.proofs.Math.IntN.{ℤ}
use Rattle.std.proofs.lemmas.Bool.Decides.{nat_tests}
use Rattle.std.proofs.lemmas.Option.{slice_get_past}
use Rattle.ia32_code.specs.declared.instruction.Reg.{Reg}
use Rattle.ia32_code.specs.declared.instruction.Reg.TheVariants.{Esp}
use Rattle.ia32_code.specs.declared.instruction.Cond.{Cond}
use Rattle.ia32_code.specs.declared.instruction.Mem.{Mem}
use Rattle.ia32_code.specs.declared.instruction.Operand.{Operand}
use Rattle.ia32_code.specs.declared.instruction.Operand.TheVariants.{R, M, I}
use Rattle.ia32_code.specs.declared.instruction.Inst.{Inst}
use Rattle.ia32_code.specs.declared.instruction.Inst.TheVariants as inst
use Rattle.ia32_step.specs.declared.cpu.Cpu.{Cpu}
use Rattle.ia32_step.specs.declared.effect.Effect.TheVariants as step
use Rattle.ia32_step.specs.Conditions.{holds}
use Rattle.ia32_step.specs.Operands.{WordState, address_of, read_word, put_word}
use Rattle.ia32_step.specs.Effects.{executed, effect_of, next_of, target as goes_far}
use Rattle.ia32_step.specs.Reaches.{Reaches, is_system}
use Rattle.object_layout.specs.Areas.{code_start}
use Rattle.tal_types.specs.Contexts.{same}
use Rattle.tal_flow.specs.Forms.{address_at}
use Rattle.tal_flow.specs.Calls.{nucleus_arguments, entry_number}
use Rattle.tal_flow.specs.Rules.{next_address}
use Rattle.tal_image.specs.declared.parts.FunctionPart.{FunctionPart}
use Rattle.tal_image.specs.Image.{ImageParts}
use Rattle.tal_image.specs.Conditions.{immediate, marked_number}
use Rattle.tal_image.specs.Shown.{spans, begun_by, shown}
use Rattle.typed_machine.specs.Values.{Value, Number, Code, Word}
use Rattle.typed_machine.specs.States.{State, places_of, at_place, with_register}
use Rattle.typed_machine.specs.Operands.{operand_value, write_operand}
use Rattle.typed_machine.specs.Code.{may_go}
use Rattle.typed_machine.specs.Effects.{goes_on, moves, is_number_in, addresses, calls_function, numbered_entry_or, calls_to, calls_value, returns_from, is_known, jumps, branches}
use Rattle.typed_machine.specs.Words.{esp_of, words_of}
use Rattle.word_machine.specs.Memory.{MemoryView, is_mapped}
use Rattle.word_machine.proofs.Spelled.{IsNoNumber}
use Rattle.word_machine.proofs.Grounding.{words_over, next, thread_stands, Begins}
use Rattle.word_machine.proofs.OperandWords.{register-written, value-there, value-word}
use Rattle.word_machine.proofs.Putting.{PutFor, put-reached, put-stands}
use Rattle.word_machine.proofs.Computing.{register-read}
use Rattle.word_machine.proofs.Leaving.{ran_on, StepOf, stays, thread_step}

-- what a test lets through
pub let_in : {X : Type 0} (t : Bool) (x : X) → (if t then Some x else None) ≢ None → t ≡ true
let_in true x h = refl
let_in false x h = absurd (h refl)

-- ---- moves and addresses

-- a word that is put leaves the flags
put-flags : (d : Operand) (w : ℕ) (m : WordState) → (put_word d w m).flags ≡ m.flags
put-flags (R r) w m = refl
put-flags (M x) w m = refl
put-flags (I n) w m = refl

-- the number that MOV takes may be marked
mov-marked : (d x : Operand) (n : ℕ) → x ≡ I n → marked_number (inst.Mov d x) ≡ Some n
unfolding marked_number immediate
mov-marked d x n is = rw is refl

-- what is not so is false
not-true : (b : Bool) → not b ≡ true → b ≡ false
not-true true h = absurd (cc)
not-true false h = refl

module _ {image : ImageParts} {live : ℕ → Bool} {s : State} {cpu : Cpu} {m : MemoryView} {len : ℕ} where
  module _ (d x : Operand) (b : Begins image live s cpu m (inst.Mov d x) len) where
    -- MOV of this value, which gives this state
    moved-step : (w : Value) (u : State) → operand_value (shown image) s x ≡ Some w → write_operand (shown image) s d w ≡ Some u
        → StepOf image live s m (inst.Mov d x) len (Some (goes_on (next s len) u))
    unfolding words_of next_address
    moved-step w u value written =
        let i = inst.Mov d x in
        let word : read_word x (words_over s m) ≡ Word (places_of s) w = value-word b x w b.plain.second (mov-marked d x) value in
        record {
          reaches = (put-reached b d w u b.plain.first written, (value-there b x w b.plain.second value).reached);
          runs = refl;
          leaves = λ ran after r.
              let on = ran_on i len (words_over s m) m ran after refl r in
              let put : PutFor image live s u m after d (Word (places_of s) w) =
              put-stands b d w u after b.plain.first written
              (λ a. on.words a ∙ ap (λ n. (put_word d n (words_over s m)).memory a) word) on.mapped on.formed in (
                at_place (next s len) u,
                refl,
                record {
                  processor = record {
                    regs = on.regs ∙ (ap (λ n. (put_word d n (words_over s m)).regs) word ∙ put.regs);
                    flags = on.flags ∙ (put-flags d (read_word x (words_over s m)) (words_over s m) ∙ sym put.flags);
                    place = on.place;
                  };
                  memory = thread_stands put.memory _;
                },
              );
        }

    -- MOV
    pub move-step : moves (shown image) s (next s len) d x ≢ None → StepOf image live s m (inst.Mov d x) len (moves (shown image) s (next s len) d x)
    unfolding moves
    move-step known = go (operand_value (shown image) s x) refl known
      where
        at : (w : Value) → operand_value (shown image) s x ≡ Some w → (o : Option State) → write_operand (shown image) s d w ≡ o → option_map (goes_on (next s len)) o ≢ None
            → StepOf image live s m (inst.Mov d x) len (option_map (goes_on (next s len)) o)
        at w value None e h = absurd (h refl)
        at w value (Some u) e h = moved-step w u value e

        go : (o : Option Value) → operand_value (shown image) s x ≡ o → option_map (goes_on (next s len)) (option_and_then (write_operand (shown image) s d) o) ≢ None
            → StepOf image live s m (inst.Mov d x) len (option_map (goes_on (next s len)) (option_and_then (write_operand (shown image) s d) o))
        go None e h = absurd (h refl)
        go (Some w) e h = at w e (write_operand (shown image) s d w) refl h

  -- LEA
  pub address-step : (r : Reg) (a : Mem) → Begins image live s cpu m (inst.Lea (R r) (M a)) len → addresses s (inst.Lea (R r) (M a)) (next s len) r a ≢ None
      → StepOf image live s m (inst.Lea (R r) (M a)) len (addresses s (inst.Lea (R r) (M a)) (next s len) r a)
  unfolding addresses words_of next_address Word
  address-step r a b known = go (not (same r Esp)) refl (is_number_in s a.base && is_number_in s a.index) known
    where
      there : Operand → ℕ
      there x = read_word x (executed (inst.Lea (R r) (M a)) (words_of s 0))

      goes : not (same r Esp) ≡ true → StepOf image live s m (inst.Lea (R r) (M a)) len (Some (goes_on (next s len) (with_register r (Number (there (R r))) s)))
      goes e =
          let spared : same r Esp ≡ false = not-true (same r Esp) e in
          let read : there (R r) ≡ address_of a (words_of s 0).regs = register-read s 0 (address_of a (words_of s 0).regs) r in
          thread_step b (at_place (next s len) (with_register r (Number (there (R r))) s)).thread (words_over s m) refl refl refl
          (rw read (register-written s (places_of s) (esp_of s) r (Number (address_of a (words_of s 0).regs)) spared)) refl refl tt refl

      go : (t : Bool) → not (same r Esp) ≡ t → (u : Bool) → (if t && u then Some (goes_on (next s len) (with_register r (Number (there (R r))) s)) else None) ≢ None
          → StepOf image live s m (inst.Lea (R r) (M a)) len (if t && u then Some (goes_on (next s len) (with_register r (Number (there (R r))) s)) else None)
      go true e true h = goes e
      go true e false h = absurd (h refl)
      go false e u h = absurd (h refl)

  -- ---- branches

  -- an instruction that goes to an address, and does nothing else
  gone-step : (i : Inst) (to : ℕ) → Begins image live s cpu m i len → executed i (words_over s m) ≡ words_over s m → effect_of i (words_over s m) len ≡ step.Next
      → next_of i (words_over s m) len ≡ to → Reaches i (words_over s m) (is_mapped m) → is_system i ≡ false → StepOf image live s m i len (Some (goes_on to s))
  unfolding words_of
  gone-step i to b nothing effect place reaches runs =
      thread_step b (at_place to s).thread (words_over s m) refl effect (ap (λ k. k.memory) nothing) (ap (λ k. k.regs) nothing)
      (ap (λ k. k.flags) nothing) place reaches runs

  -- NOP
  pub nothing-step : Begins image live s cpu m inst.Nop len → StepOf image live s m inst.Nop len (Some (goes_on (next s len) s))
  unfolding words_of next_address
  nothing-step b = gone-step inst.Nop (next s len) b refl refl refl tt refl

  -- JMP
  pub jump_step : (z : ℤ) → Begins image live s cpu m (inst.Jmp z) len → jumps image s (address_at (next s len) z) ≢ None
      → StepOf image live s m (inst.Jmp z) len (jumps image s (address_at (next s len) z))
  unfolding words_of next_address address_at
  jump_step z b known =
      let may = let_in (may_go image s.thread.place (address_at (next s len) z)) (goes_on (address_at (next s len) z) s) known in
      rw may (gone-step (inst.Jmp z) (address_at (next s len) z) b refl refl refl tt refl)

  -- a conditional jump
  pub branch-step : (c : Cond) (z : ℤ) → Begins image live s cpu m (inst.Jcc c z) len → branches image s (next s len) c (address_at (next s len) z) ≢ None
      → StepOf image live s m (inst.Jcc c z) len (branches image s (next s len) c (address_at (next s len) z))
  unfolding words_of next_address address_at
  branch-step c z b known =
      let may = let_in (is_known s.thread.known c && may_go image s.thread.place (address_at (next s len) z)) _ known in
      rw may (gone-step (inst.Jcc c z) (if holds c s.thread.flags then address_at (next s len) z else (next s len)) b refl refl refl tt refl)

  -- ---- calls and returns

  -- CALL of an address
  pub call-step : (z : ℤ) → Begins image live s cpu m (inst.CallRel z) len → calls_to (shown image) s (next s len) (address_at (next s len) z) ≢ None
      → StepOf image live s m (inst.CallRel z) len (calls_to (shown image) s (next s len) (address_at (next s len) z))
  unfolding words_of next_address address_at
  call-step z b known = record {
    reaches = tt;
    runs = refl;
    leaves = λ ran after r. (known, refl, stays b (step.Call (goes_far z (words_over s m) len)) ran after refl refl r);
  }

  -- RET
  pub return_step : Begins image live s cpu m inst.Ret len → returns_from s.values s ≢ None → StepOf image live s m inst.Ret len (returns_from s.values s)
  return_step b known = record {
    reaches = tt;
    runs = refl;
    leaves = λ ran after r. (known, refl, stays b step.Return ran after refl refl r);
  }

-- functions begin behind the code's first byte
begun-after : (a from g : ℕ) (fs : List FunctionPart) → begun_by a (spans from fs) ≡ Some g → from ≤ a
unfolding begun_by spans
begun-after a from g [] h = absurd (cc)
begun-after a from g (f ∷ fs) h = go (begun-after a (from + f.length) g fs) (from == a) refl h
  where
    go : (begun_by a (spans (from + f.length) fs) ≡ Some g → from + f.length ≤ a) → (t : Bool) → (from == a) ≡ t
        → (if t then Some f.sig else begun_by a (spans (from + f.length) fs)) ≡ Some g → from ≤ a
    go later true e k = grind (arith, nat_tests)
    go later false e k = let low = later k in omega (arith, low)

-- and so no entry of the Nucleus is at one
no-entry : (image : ImageParts) (a g k : ℕ) → (shown image).function_at a ≡ Some g → entry_number a ≡ Some k → slice_get nucleus_arguments k ≡ None
unfolding shown entry_number nucleus_arguments
no-entry image a g k begins entry =
    let low = begun-after a code_start g image.functions begins in
    let number_is : (a - 0x1000) / 16 ≡ k = go (nat_le 0x1000 a && ((a - 0x1000) % 16 == 0)) entry in
    slice_get_past nucleus_arguments k (omega (arith, low, number_is))
  where
    go : (t : Bool) → (if t then Some ((a - 0x1000) / 16) else None) ≡ Some k → (a - 0x1000) / 16 ≡ k
    go true h = cc
    go false h = absurd (cc)

-- a call of an address at which a function begins is one of the function
function-called : (image : ImageParts) (s : State) (next a : ℕ) → calls_function (shown image) s next a ≢ None
    → calls_to (shown image) s next a ≡ calls_function (shown image) s next a
unfolding calls_to
function-called image s next a known = go (entry_number a) refl
  where
    begins : (o : Option ℕ) → (shown image).function_at a ≡ o → (k : ℕ) → entry_number a ≡ Some k → slice_get nucleus_arguments k ≡ None
    begins None e k f = absurd (known (rw e refl))
    begins (Some g) e k f = no-entry image a g k e f

    go : (o : Option ℕ) → entry_number a ≡ o → numbered_entry_or s (calls_function (shown image) s next a) o ≡ calls_function (shown image) s next a
    go None e = refl
    go (Some k) e = rw (begins ((shown image).function_at a) refl k e) refl

module _ {image : ImageParts} {live : ℕ → Bool} {s : State} {cpu : Cpu} {m : MemoryView} {len : ℕ} where
  -- CALL of a value
  pub call_by-step : (x : Operand) → Begins image live s cpu m (inst.CallAt x) len → calls_value (shown image) s (next s len) (operand_value (shown image) s x) ≢ None
      → StepOf image live s m (inst.CallAt x) len (calls_value (shown image) s (next s len) (operand_value (shown image) s x))
  unfolding Word
  call_by-step x b known = go (operand_value (shown image) s x) refl known
    where
      no-number : (n : ℕ) → x ≡ I n → marked_number (inst.CallAt x) ≡ Some n
      no-number n is = absurd (subst IsNoNumber is b.plain.1)

      at : (a : ℕ) → operand_value (shown image) s x ≡ Some (Code a) → calls_function (shown image) s (next s len) a ≢ None
          → StepOf image live s m (inst.CallAt x) len (calls_function (shown image) s (next s len) a)
      at a value h =
          let word : read_word x (words_over s m) ≡ a = value-word b x (Code a) b.plain.0 no-number value in
          record {
            reaches = (value-there b x (Code a) b.plain.0 value).reached;
            runs = refl;
            leaves = λ ran after r. (
              h,
              sym (function-called image s (next s len) a h) ∙ ap (calls_to (shown image) s (next s len)) (sym word),
              stays b (step.Call (read_word x (words_over s m))) ran after refl refl r,
            );
          }

      go : (o : Option Value) → operand_value (shown image) s x ≡ o → calls_value (shown image) s (next s len) o ≢ None → StepOf image live s m (inst.CallAt x) len (calls_value (shown image) s (next s len) o)
      go (Some (Code a)) e h = at a e h
      go o e h = absurd (h refl)
