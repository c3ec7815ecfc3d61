-- The step of every instruction, by the table of forms.
use Rattle.std.specs.Prelude.{if◌then◌else◌}
use Rattle.std.proofs.Common.{◌≡◌, ◌≢◌, ℕ, ◌<◌, ◌%◌, ◌==◌, false, [], ◌∷◌, length, Some, None, refl, Bool}
use Rattle.ia32_code.specs.declared.instruction.Reg.TheVariants.{Eax, Ecx, Edx, Ebx, Esp, Ebp, Esi, Edi}
use Rattle.ia32_code.specs.declared.instruction.Alu.{Alu}
use Rattle.ia32_code.specs.declared.instruction.Alu.TheVariants as alu
use Rattle.ia32_code.specs.declared.instruction.Count.TheVariants.{By, Cl}
use Rattle.ia32_code.specs.declared.instruction.Operand.{Operand}
use Rattle.ia32_code.specs.declared.instruction.Operand.TheVariants.{R, M, I}
use Rattle.ia32_code.specs.declared.instruction.Inst.{Inst}
use Rattle.ia32_code.specs.declared.instruction.Inst.TheVariants as inst
use Rattle.ia32_step.specs.declared.cpu.Cpu.{Cpu}
use Rattle.tal_types.specs.declared.types.FlagKind.TheVariants as kind
use Rattle.tal_flow.specs.Forms.{form_of}
use Rattle.tal_image.specs.Image.{ImageParts}
use Rattle.tal_image.specs.Shown.{shown}
use Rattle.typed_machine.specs.States.{State, most_values}
use Rattle.typed_machine.specs.Effects.{computes, form_effect, Effect}
use Rattle.word_machine.specs.Memory.{MemoryView}
use Rattle.word_machine.proofs.Operating.{Stores, inc-operates, dec-operates, not-operates, neg-operates, shift-operates, cdq_operates, imul-operates, imul_number_operates, alu-operates, mul-widens, imul_wide-widens, div-widens, idiv-widens, cmp-sets, test-sets}
use Rattle.word_machine.proofs.Grounding.{next, Begins}
use Rattle.word_machine.proofs.Computing.{agrees_first, agrees_second, agrees_third, agrees_fourth, operation-step, wide-step}
use Rattle.word_machine.proofs.Comparing.{compare-step, test-step}
use Rattle.word_machine.proofs.Forms.{move-step, address-step, nothing-step, jump_step, branch-step, call-step, return_step, call_by-step}
use Rattle.word_machine.proofs.StackForms.{push-step, pop-step, drop-step}
use Rattle.word_machine.proofs.Leaving.{StepOf}

module _ {image : ImageParts} {live : ℕ → Bool} {s : State} {cpu : Cpu} {m : MemoryView} {len : ℕ} where
  -- ADD, OR, AND, SUB and XOR, where they are no sum with ESP
  alu-step : (op : Alu) (d x : Operand) → Stores op → Begins image live s cpu m (inst.Alu op d x) len
      → computes (shown image) s (inst.Alu op d x) len (next s len) (d ∷ x ∷ []) d false (Some kind.Num) ≢ None
      → StepOf image live s m (inst.Alu op d x) len (computes (shown image) s (inst.Alu op d x) len (next s len) (d ∷ x ∷ []) d false (Some kind.Num))
  alu-step op d x stores b known =
      operation-step b (d ∷ x ∷ []) d (Some kind.Num) (alu-operates op stores d x) b.plain.first (b.plain.first, (b.plain.second, tt))
      (λ at. (agrees_first d (d ∷ x ∷ []) at.0, (agrees_third d x [] b.plain.one at.1.0, tt))) known

  -- ADD: that of a number to ESP drops slots, every other one computes
  add-step : (d x : Operand) → Begins image live s cpu m (inst.Alu alu.Add d x) len → StepOf image live s m (inst.Alu alu.Add d x) len (Effect image s (inst.Alu alu.Add d x) len)
  unfolding Effect form_effect form_of
  add-step (R Esp) (I n) b = drop-step n b b.known
  add-step (R Esp) (R q) b = alu-step alu.Add (R Esp) (R q) tt b b.known
  add-step (R Esp) (M a) b = alu-step alu.Add (R Esp) (M a) tt b b.known
  add-step (R Eax) x b = alu-step alu.Add (R Eax) x tt b b.known
  add-step (R Ecx) x b = alu-step alu.Add (R Ecx) x tt b b.known
  add-step (R Edx) x b = alu-step alu.Add (R Edx) x tt b b.known
  add-step (R Ebx) x b = alu-step alu.Add (R Ebx) x tt b b.known
  add-step (R Ebp) x b = alu-step alu.Add (R Ebp) x tt b b.known
  add-step (R Esi) x b = alu-step alu.Add (R Esi) x tt b b.known
  add-step (R Edi) x b = alu-step alu.Add (R Edi) x tt b b.known
  add-step (I n) x b = alu-step alu.Add (I n) x tt b b.known
  add-step (M a) x b = alu-step alu.Add (M a) x tt b b.known

  -- each instruction, where PUSH has room
  pub step-of : (i : Inst) → Begins image live s cpu m i len → ((x : Operand) → i ≡ inst.Push x → length s.values < most_values)
      → StepOf image live s m i len (Effect image s i len)
  unfolding Effect form_effect form_of
  step-of (inst.Alu alu.Add d x) b room = add-step d x b
  step-of (inst.Alu alu.Or d x) b room = alu-step alu.Or d x tt b b.known
  step-of (inst.Alu alu.And d x) b room = alu-step alu.And d x tt b b.known
  step-of (inst.Alu alu.Sub d x) b room = alu-step alu.Sub d x tt b b.known
  step-of (inst.Alu alu.Xor d x) b room = alu-step alu.Xor d x tt b b.known
  step-of (inst.Alu alu.Cmp d x) b room = compare-step b d x refl (cmp-sets d x) b.plain b.known
  step-of (inst.Mov d x) b room = move-step d x b b.known
  step-of (inst.Lea (R r) (M a)) b room = address-step r a b b.known
  step-of (inst.Lea (R r) (R q)) b room = absurd (b.known refl)
  step-of (inst.Lea (R r) (I n)) b room = absurd (b.known refl)
  step-of (inst.Lea (M a) x) b room = absurd (b.known refl)
  step-of (inst.Lea (I n) x) b room = absurd (b.known refl)
  step-of (inst.Test d x) b room = test-step b d x (test-sets d x) b.plain b.known
  step-of (inst.Inc d) b room =
      operation-step b (d ∷ []) d (Some kind.Eq) (inc-operates d) b.plain (b.plain, tt) (λ at. (agrees_first d (d ∷ []) at.0, tt)) b.known
  step-of (inst.Dec d) b room =
      operation-step b (d ∷ []) d (Some kind.Eq) (dec-operates d) b.plain (b.plain, tt) (λ at. (agrees_first d (d ∷ []) at.0, tt)) b.known
  step-of (inst.Not d) b room =
      operation-step b (d ∷ []) d None (not-operates d) b.plain (b.plain, tt) (λ at. (agrees_first d (d ∷ []) at.0, tt)) b.known
  step-of (inst.Neg d) b room =
      operation-step b (d ∷ []) d (Some kind.Num) (neg-operates d) b.plain (b.plain, tt) (λ at. (agrees_first d (d ∷ []) at.0, tt)) b.known
  step-of (inst.Mul x) b room =
      wide-step b (R Eax ∷ x ∷ []) (Some kind.Lost) (mul-widens x) (tt, (b.plain, tt))
      (λ at. (tt, (agrees_third (R Eax) x [] tt at.1.0, tt))) b.known
  step-of (inst.Imul1 x) b room =
      wide-step b (R Eax ∷ x ∷ []) (Some kind.Lost) (imul_wide-widens x) (tt, (b.plain, tt))
      (λ at. (tt, (agrees_third (R Eax) x [] tt at.1.0, tt))) b.known
  step-of (inst.Div x) b room =
      wide-step b (R Eax ∷ R Edx ∷ x ∷ []) (Some kind.Lost) (div-widens x) (tt, (tt, (b.plain, tt)))
      (λ at. (tt, (tt, (agrees_fourth Eax Eax Edx x at.1.1.0, tt)))) b.known
  step-of (inst.Idiv x) b room =
      wide-step b (R Eax ∷ R Edx ∷ x ∷ []) (Some kind.Lost) (idiv-widens x) (tt, (tt, (b.plain, tt)))
      (λ at. (tt, (tt, (agrees_fourth Eax Eax Edx x at.1.1.0, tt)))) b.known
  step-of (inst.Imul2 d x) b room =
      operation-step b (d ∷ x ∷ []) d (Some kind.Lost) (imul-operates d x) b.plain.first (b.plain.first, (b.plain.second, tt))
      (λ at. (agrees_first d (d ∷ x ∷ []) at.0, (agrees_third d x [] b.plain.one at.1.0, tt))) b.known
  step-of (inst.Imul3 d x n) b room =
      operation-step b (x ∷ I n ∷ []) d (Some kind.Lost) (imul_number_operates d x n) b.plain.first (b.plain.second, (tt, tt))
      (λ at. (agrees_second d x (I n ∷ []) b.plain.one at.0, (tt, tt))) b.known
  step-of (inst.Shift op d (By n)) b room =
      operation-step b (d ∷ []) d (if n % 32 == 0 then None else Some kind.Eq) (shift-operates op d (By n) []) b.plain (b.plain, tt)
      (λ at. (agrees_first d (d ∷ []) at.0, tt)) b.known
  step-of (inst.Shift op d Cl) b room =
      operation-step b (d ∷ R Ecx ∷ []) d (Some kind.Lost) (shift-operates op d Cl (R Ecx ∷ [])) b.plain (b.plain, (tt, tt))
      (λ at. (agrees_first d (d ∷ R Ecx ∷ []) at.0, (tt, tt))) b.known
  step-of inst.Cdq b room =
      operation-step b (R Eax ∷ []) (R Edx) None cdq_operates tt (tt, tt) (λ at. (tt, tt)) b.known
  step-of inst.Nop b room = nothing-step b
  step-of (inst.Push x) b room = push-step x b (room x refl) b.known
  step-of (inst.Pop r) b room = pop-step r b b.known
  step-of (inst.CallRel z) b room = call-step z b b.known
  step-of (inst.CallAt x) b room = call_by-step x b b.known
  step-of inst.Ret b room = return_step b b.known
  step-of (inst.Jmp z) b room = jump_step z b b.known
  step-of (inst.Jcc c z) b room = branch-step c z b b.known
  step-of (inst.Priv op arg) b room = absurd (b.known refl)
