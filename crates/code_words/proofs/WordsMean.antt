-- The words of an instruction mean it: the way back undoes the way there.
use Rattle.std.proofs.Common.{◌≡◌, Some, refl, sym, subst, ◌∙◌}
use Rattle.std.proofs.lemmas.Bool.{lt-ltb}
use Rattle.ia32_code.specs.declared.instruction.Operand.{Operand}
use Rattle.ia32_code.specs.declared.instruction.Operand.TheVariants as operand
use Rattle.ia32_code.specs.declared.instruction.Count.TheVariants as count
use Rattle.ia32_code.specs.declared.instruction.Inst.{Inst}
use Rattle.ia32_code.specs.declared.instruction.Inst.TheVariants as inst
use Rattle.code_words.specs.declared.words.OperandWords.TheVariants.{One, Two}
use Rattle.code_words.specs.declared.words.Mnemonic.TheVariants as m
use Rattle.code_words.specs.declared.words.Words.{Words}
use Rattle.code_words.specs.Saying.{operand_word, said_of, HasByteCount}
use Rattle.code_words.specs.Meaning.{operand_of, count_of, bare, one, two, shifted, popped, called, jumped, branched, multiplication, meant_by}

-- What is there is one thing.
pub some_is_one : {A : Type 0} (x y : A) → Some x ≡ Some y → x ≡ y
some_is_one x y e = cc

-- The word of an operand means it.
operand_of-operand_word : (x : Operand) → operand_of (operand_word x) ≡ Some x
unfolding operand_of
operand_of-operand_word (operand.R r) = refl
operand_of-operand_word (operand.M x) = refl
operand_of-operand_word (operand.I n) = refl

-- A call of what an operand holds is no call of a place in the code.
meant_by-call : (x : Operand) → meant_by (record { mnemonic = m.Call; operands = One (operand_word x) }) ≡ Some (inst.CallAt x)
unfolding meant_by called one operand_of
meant_by-call (operand.R r) = refl
meant_by-call (operand.M x) = refl
meant_by-call (operand.I n) = refl

-- IMUL of two operands is the form with two.
meant_by-imul : (d s : Operand) → meant_by (record { mnemonic = m.Imul; operands = Two (operand_word d) (operand_word s) }) ≡ Some (inst.Imul2 d s)
unfolding meant_by multiplication two
meant_by-imul d s = rw (operand_of-operand_word d, operand_of-operand_word s) refl

-- What words mean, equal words mean.
along : {v w : Words} {i : Inst} → Some v ≡ Some w → meant_by v ≡ Some i → meant_by w ≡ Some i
along {v} {w} {i} e means = subst (λ u. meant_by u ≡ Some i) (some_is_one v w e) means

-- The words of an instruction mean it.
pub words_mean : (i : Inst) (w : Words) → HasByteCount i → said_of i ≡ Some w → meant_by w ≡ Some i
unfolding said_of operand_of count_of bare one two shifted popped called jumped branched multiplication meant_by
words_mean (inst.Alu op d s) w h e = along e (rw (operand_of-operand_word d, operand_of-operand_word s) refl)
words_mean (inst.Mov d s) w h e = along e (rw (operand_of-operand_word d, operand_of-operand_word s) refl)
words_mean (inst.Lea d s) w h e = along e (rw (operand_of-operand_word d, operand_of-operand_word s) refl)
words_mean (inst.Test d s) w h e = along e (rw (operand_of-operand_word d, operand_of-operand_word s) refl)
words_mean (inst.Inc x) w h e = along e (rw (operand_of-operand_word x) refl)
words_mean (inst.Dec x) w h e = along e (rw (operand_of-operand_word x) refl)
words_mean (inst.Not x) w h e = along e (rw (operand_of-operand_word x) refl)
words_mean (inst.Neg x) w h e = along e (rw (operand_of-operand_word x) refl)
words_mean (inst.Mul x) w h e = along e (rw (operand_of-operand_word x) refl)
words_mean (inst.Imul1 x) w h e = along e (rw (operand_of-operand_word x) refl)
words_mean (inst.Div x) w h e = along e (rw (operand_of-operand_word x) refl)
words_mean (inst.Idiv x) w h e = along e (rw (operand_of-operand_word x) refl)
words_mean (inst.Imul2 d s) w h e = along e (meant_by-imul d s)
words_mean (inst.Imul3 d s n) w h e = along e (rw (operand_of-operand_word d, operand_of-operand_word s) refl)
words_mean (inst.Shift op d count.Cl) w h e = along e (rw (operand_of-operand_word d) refl)
words_mean (inst.Shift op d (count.By n)) w h e = along e (rw (operand_of-operand_word d, lt-ltb n 256 h) refl)
words_mean inst.Cdq w h e = along e refl
words_mean inst.Nop w h e = along e refl
words_mean (inst.Push x) w h e = along e (rw (operand_of-operand_word x) refl)
words_mean (inst.Pop r) w h e = along e refl
words_mean (inst.CallRel z) w h e = along e refl
words_mean (inst.CallAt x) w h e = along e (meant_by-call x)
words_mean inst.Ret w h e = along e refl
words_mean (inst.Jmp z) w h e = along e refl
words_mean (inst.Jcc cc z) w h e = along e refl
words_mean (inst.Priv op a) w h e = cc

-- No two instructions have the same words.
pub words_say_one : (i j : Inst) (w : Words) → HasByteCount i → HasByteCount j → said_of i ≡ Some w → said_of j ≡ Some w → i ≡ j
words_say_one i j w byte_i byte_j says_i says_j = some_is_one i j (sym (words_mean i w byte_i says_i) ∙ words_mean j w byte_j says_j)
