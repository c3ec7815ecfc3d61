-- What words mean says them: the way there undoes the way back.
use Rattle.std.proofs.Common.{ℕ, ◌≡◌, nat_lt, Bool, true, false, Option, Some, None, refl, sym, ap, subst, ◌∙◌, if◌then◌else◌}
use Rattle.ia32_code.specs.declared.instruction.Operand.{Operand}
use Rattle.ia32_code.specs.declared.instruction.Operand.TheVariants as operand
use Rattle.ia32_code.specs.declared.instruction.Count.{Count}
use Rattle.ia32_code.specs.declared.instruction.Count.TheVariants as count
use Rattle.ia32_code.specs.declared.instruction.Inst.{Inst}
use Rattle.ia32_code.specs.declared.instruction.Inst.TheVariants as inst
use Rattle.ia32_code.specs.declared.instruction.Cond.{Cond}
use Rattle.code_words.specs.declared.words.OperandWord.{OperandWord}
use Rattle.code_words.specs.declared.words.OperandWord.TheVariants.{Register, Memory, Number, Cl, Target}
use Rattle.code_words.specs.declared.words.OperandWords.{OperandWords}
use Rattle.code_words.specs.declared.words.OperandWords.TheVariants.{Zero, One, Two, Three}
use Rattle.code_words.specs.declared.words.Mnemonic.{Mnemonic}
use Rattle.code_words.specs.declared.words.Mnemonic.TheVariants as m
use Rattle.code_words.specs.declared.words.Words.{Words}
use Rattle.code_words.specs.Saying.{operand_word, count_word, words, said_of}
use Rattle.code_words.specs.Meaning.{◌>>=◌, operand_of, count_of, bare, one, two, shifted, popped, called, jumped, branched, multiplication, meant_by}
use Rattle.code_words.proofs.WordsMean.{some_is_one}

-- ---- what each step of the way back takes

-- what two steps give comes from what the first gave
record Bound {A B : Type 0} (o : Option A) (f : A → Option B) (y : B) : Type 0 where
  pub from : A
  pub first : o ≡ Some from
  pub second : f from ≡ Some y

-- Two steps that give something give it in turn.
bound : {A B : Type 0} (o : Option A) (f : A → Option B) (y : B) → (o >>= f) ≡ Some y → Bound o f y
bound None f y h = cc
bound (Some x) f y h = record { from = x; first = refl; second = h }

-- A word that means an operand is its word.
operand_word-operand_of : (a : OperandWord) (x : Operand) → operand_of a ≡ Some x → a ≡ operand_word x
unfolding operand_of
operand_word-operand_of (Register r) x h = ap operand_word (some_is_one (operand.R r) x h)
operand_word-operand_of (Memory k) x h = ap operand_word (some_is_one (operand.M k) x h)
operand_word-operand_of (Number n) x h = ap operand_word (some_is_one (operand.I n) x h)
operand_word-operand_of Cl x h = cc
operand_word-operand_of (Target z) x h = cc

-- A word that means a count is its word.
count_word-count_of : (a : OperandWord) (by : Count) → count_of a ≡ Some by → a ≡ count_word by
unfolding count_of
count_word-count_of (Number n) by h = in_byte (nat_lt n 256) h
  where
    in_byte : (b : Bool) → (if b then Some (count.By n) else None) ≡ Some by → Number n ≡ count_word by
    in_byte true e = ap count_word (some_is_one (count.By n) by e)
    in_byte false e = cc
count_word-count_of Cl by h = ap count_word (some_is_one count.Cl by h)
count_word-count_of (Register r) by h = cc
count_word-count_of (Memory k) by h = cc
count_word-count_of (Target z) by h = cc

-- One operand has one word.
one_is_said : (a : OperandWords) (x : Operand) → one a ≡ Some x → a ≡ One (operand_word x)
unfolding one
one_is_said Zero x h = cc
one_is_said (One b) x h = ap One (operand_word-operand_of b x h)
one_is_said (Two b c) x h = cc
one_is_said (Three b c d) x h = cc

-- A pair of operands has a pair of words.
pair_is_said : (b c : OperandWord) (p : Operand × Operand) → (operand_of b >>= λ x. operand_of c >>= λ y. Some (x, y)) ≡ Some p
    → (b ≡ operand_word p.0) × (c ≡ operand_word p.1)
pair_is_said b c p h =
    let f = bound (operand_of b) _ p h in
    let g = bound (operand_of c) _ p f.second in
    let e : (f.from, g.from) ≡ p = some_is_one _ _ g.second in
    (operand_word-operand_of b f.from f.first ∙ ap (λ q. operand_word q.0) e, operand_word-operand_of c g.from g.first ∙ ap (λ q. operand_word q.1) e)

-- Two operands have two words.
two_are_said : (a : OperandWords) (p : Operand × Operand) → two a ≡ Some p → a ≡ Two (operand_word p.0) (operand_word p.1)
unfolding two
two_are_said Zero p h = cc
two_are_said (One b) p h = cc
two_are_said (Two b c) p h = let e = pair_is_said b c p h in rw (e.0, e.1) refl
two_are_said (Three b c d) p h = cc

-- An operand and a count have their words.
shifted_is_said : (a : OperandWords) (p : Operand × Count) → shifted a ≡ Some p → a ≡ Two (operand_word p.0) (count_word p.1)
unfolding shifted
shifted_is_said Zero p h = cc
shifted_is_said (One b) p h = cc
shifted_is_said (Two b c) p h =
    let f = bound (operand_of b) _ p h in
    let g = bound (count_of c) _ p f.second in
    let e : (f.from, g.from) ≡ p = some_is_one _ _ g.second in
    rw (operand_word-operand_of b f.from f.first ∙ ap (λ q. operand_word q.0) e, count_word-count_of c g.from g.first ∙ ap (λ q. count_word q.1) e) refl
shifted_is_said (Three b c d) p h = cc

-- ---- by the number of operands

-- An instruction of no operand.
bare_says : (mn : Mnemonic) (a : OperandWords) (i j : Inst) → said_of j ≡ words mn Zero → bare a j ≡ Some i → said_of i ≡ words mn a
unfolding bare
bare_says mn Zero i j says h = subst (λ k. said_of k ≡ words mn Zero) (some_is_one _ _ h) says
bare_says mn (One b) i j says h = cc
bare_says mn (Two b c) i j says h = cc
bare_says mn (Three b c d) i j says h = cc

-- An instruction of one operand.
one_says : (mn : Mnemonic) (a : OperandWords) (i : Inst) (f : Operand → Inst)
    → ((x : Operand) → said_of (f x) ≡ words mn (One (operand_word x))) → (one a >>= λ x. Some (f x)) ≡ Some i → said_of i ≡ words mn a
one_says mn a i f says h =
    let b = bound (one a) _ i h in
    subst (λ j. said_of j ≡ words mn a) (some_is_one _ _ b.second) (says b.from ∙ ap (words mn) (sym (one_is_said a b.from b.first)))

-- An instruction of two operands.
two_say : (mn : Mnemonic) (a : OperandWords) (i : Inst) (f : Operand → Operand → Inst)
    → ((d s : Operand) → said_of (f d s) ≡ words mn (Two (operand_word d) (operand_word s))) → (two a >>= λ p. Some (f p.0 p.1)) ≡ Some i → said_of i ≡ words mn a
two_say mn a i f says h =
    let b = bound (two a) _ i h in
    subst (λ j. said_of j ≡ words mn a) (some_is_one _ _ b.second) (says b.from.0 b.from.1 ∙ ap (words mn) (sym (two_are_said a b.from b.first)))

-- A shift.
shifted_says : (mn : Mnemonic) (a : OperandWords) (i : Inst) (f : Operand → Count → Inst)
    → ((d : Operand) (by : Count) → said_of (f d by) ≡ words mn (Two (operand_word d) (count_word by))) → (shifted a >>= λ p. Some (f p.0 p.1)) ≡ Some i → said_of i ≡ words mn a
shifted_says mn a i f says h =
    let b = bound (shifted a) _ i h in
    subst (λ j. said_of j ≡ words mn a) (some_is_one _ _ b.second) (says b.from.0 b.from.1 ∙ ap (words mn) (sym (shifted_is_said a b.from b.first)))

-- ---- by the mnemonic, where one has a form of its own

-- POP.
popped_says : (a : OperandWords) (i : Inst) → popped a ≡ Some i → said_of i ≡ words m.Pop a
unfolding popped said_of
popped_says (One (Register r)) i h = ap said_of (sym (some_is_one _ _ h))
popped_says (One (Memory k)) i h = cc
popped_says (One (Number n)) i h = cc
popped_says (One Cl) i h = cc
popped_says (One (Target z)) i h = cc
popped_says Zero i h = cc
popped_says (Two b c) i h = cc
popped_says (Three b c d) i h = cc

-- JMP.
jumped_says : (a : OperandWords) (i : Inst) → jumped a ≡ Some i → said_of i ≡ words m.Jmp a
unfolding jumped said_of
jumped_says (One (Target z)) i h = ap said_of (sym (some_is_one _ _ h))
jumped_says (One (Memory k)) i h = cc
jumped_says (One (Number n)) i h = cc
jumped_says (One Cl) i h = cc
jumped_says (One (Register r)) i h = cc
jumped_says Zero i h = cc
jumped_says (Two b c) i h = cc
jumped_says (Three b c d) i h = cc

-- A jump where a condition holds.
branched_says : (n : Cond) (a : OperandWords) (i : Inst) → branched n a ≡ Some i → said_of i ≡ words (m.Jcc n) a
unfolding branched said_of
branched_says n (One (Target z)) i h = ap said_of (sym (some_is_one _ _ h))
branched_says n (One (Memory k)) i h = cc
branched_says n (One (Number k)) i h = cc
branched_says n (One Cl) i h = cc
branched_says n (One (Register r)) i h = cc
branched_says n Zero i h = cc
branched_says n (Two b c) i h = cc
branched_says n (Three b c d) i h = cc

-- CALL, of a place in the code or of what an operand holds.
called_says : (a : OperandWords) (i : Inst) → called a ≡ Some i → said_of i ≡ words m.Call a
unfolding called said_of
called_says (One (Target z)) i h = ap said_of (sym (some_is_one _ _ h))
called_says (One (Memory k)) i h = one_says m.Call (One (Memory k)) i inst.CallAt (λ x. refl) h
called_says (One (Number n)) i h = one_says m.Call (One (Number n)) i inst.CallAt (λ x. refl) h
called_says (One Cl) i h = one_says m.Call (One Cl) i inst.CallAt (λ x. refl) h
called_says (One (Register r)) i h = one_says m.Call (One (Register r)) i inst.CallAt (λ x. refl) h
called_says Zero i h = one_says m.Call Zero i inst.CallAt (λ x. refl) h
called_says (Two b c) i h = one_says m.Call (Two b c) i inst.CallAt (λ x. refl) h
called_says (Three b c d) i h = one_says m.Call (Three b c d) i inst.CallAt (λ x. refl) h

-- IMUL of three operands.
three_say : (b c : OperandWord) (x y : Operand) (n : ℕ) → b ≡ operand_word x → c ≡ operand_word y
    → said_of (inst.Imul3 x y n) ≡ words m.Imul (Three b c (Number n))
unfolding said_of
three_say b c x y n e f = rw (e, f) refl

-- IMUL, by its number of operands.
multiplied_says : (a : OperandWords) (i : Inst) → multiplication a ≡ Some i → said_of i ≡ words m.Imul a
unfolding multiplication said_of one
multiplied_says Zero i h = two_say m.Imul Zero i inst.Imul2 (λ d s. refl) h
multiplied_says (One b) i h = one_says m.Imul (One b) i inst.Imul1 (λ x. refl) h
multiplied_says (Two b c) i h = two_say m.Imul (Two b c) i inst.Imul2 (λ d s. refl) h
multiplied_says (Three b c (Number n)) i h =
    let f = bound (operand_of b) _ i h in
    let g = bound (operand_of c) _ i f.second in
    subst (λ j. said_of j ≡ words m.Imul (Three b c (Number n))) (some_is_one _ _ g.second)
    (three_say b c f.from g.from n (operand_word-operand_of b f.from f.first) (operand_word-operand_of c g.from g.first))
multiplied_says (Three b c (Register r)) i h = two_say m.Imul (Three b c (Register r)) i inst.Imul2 (λ d s. refl) h
multiplied_says (Three b c (Memory k)) i h = two_say m.Imul (Three b c (Memory k)) i inst.Imul2 (λ d s. refl) h
multiplied_says (Three b c Cl) i h = two_say m.Imul (Three b c Cl) i inst.Imul2 (λ d s. refl) h
multiplied_says (Three b c (Target z)) i h = two_say m.Imul (Three b c (Target z)) i inst.Imul2 (λ d s. refl) h

-- ---- every mnemonic

-- What a mnemonic with its operands means says them.
mnemonic_says : (mn : Mnemonic) (a : OperandWords) (i : Inst) → meant_by (record { mnemonic = mn; operands = a }) ≡ Some i → said_of i ≡ words mn a
unfolding meant_by said_of
mnemonic_says (m.Alu op) a i h = two_say (m.Alu op) a i (inst.Alu op) (λ d s. refl) h
mnemonic_says m.Mov a i h = two_say m.Mov a i inst.Mov (λ d s. refl) h
mnemonic_says m.Lea a i h = two_say m.Lea a i inst.Lea (λ d s. refl) h
mnemonic_says m.Test a i h = two_say m.Test a i inst.Test (λ d s. refl) h
mnemonic_says m.Inc a i h = one_says m.Inc a i inst.Inc (λ x. refl) h
mnemonic_says m.Dec a i h = one_says m.Dec a i inst.Dec (λ x. refl) h
mnemonic_says m.Not a i h = one_says m.Not a i inst.Not (λ x. refl) h
mnemonic_says m.Neg a i h = one_says m.Neg a i inst.Neg (λ x. refl) h
mnemonic_says m.Mul a i h = one_says m.Mul a i inst.Mul (λ x. refl) h
mnemonic_says m.Imul a i h = multiplied_says a i h
mnemonic_says m.Div a i h = one_says m.Div a i inst.Div (λ x. refl) h
mnemonic_says m.Idiv a i h = one_says m.Idiv a i inst.Idiv (λ x. refl) h
mnemonic_says (m.Shift op) a i h = shifted_says (m.Shift op) a i (inst.Shift op) (λ d by. refl) h
mnemonic_says m.Cdq a i h = bare_says m.Cdq a i inst.Cdq refl h
mnemonic_says m.Nop a i h = bare_says m.Nop a i inst.Nop refl h
mnemonic_says m.Push a i h = one_says m.Push a i inst.Push (λ x. refl) h
mnemonic_says m.Pop a i h = popped_says a i h
mnemonic_says m.Call a i h = called_says a i h
mnemonic_says m.Ret a i h = bare_says m.Ret a i inst.Ret refl h
mnemonic_says m.Jmp a i h = jumped_says a i h
mnemonic_says (m.Jcc n) a i h = branched_says n a i h

-- What words mean says them.
pub meant_says : (w : Words) (i : Inst) → meant_by w ≡ Some i → said_of i ≡ Some w
meant_says w i h = mnemonic_says w.mnemonic w.operands i h
