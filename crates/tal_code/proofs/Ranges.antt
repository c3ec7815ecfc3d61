-- The numbers in what words mean fit their types where those of the words do.
use Rattle.std.proofs.Common.{◌≡◌, ℕ, pos, ◌<◌, ◌^◌, Bool, true, false, Option, Some, None, if◌then◌else◌, refl, ap, subst, ◌∙◌, arith, rules}
use Rattle.std.specs.Prelude.{nat_lt, ◌-ℤ◌, FitsSigned}
use Rattle.std.specs.Int.{w32}
use Rattle.ia32_code.specs.declared.instruction.Operand.{Operand}
use Rattle.ia32_code.specs.declared.instruction.Count.{Count}
use Rattle.ia32_code.specs.declared.instruction.Count.TheVariants as count
use Rattle.ia32_code.specs.declared.instruction.Cond.{Cond}
use Rattle.ia32_code.specs.declared.instruction.Inst.{Inst}
use Rattle.ia32_code.specs.declared.instruction.Inst.TheVariants as inst
use Rattle.ia32_code.specs.Ranges.{OperandInRange, CountInRange, InstInRange}
use Rattle.code_words.specs.declared.words.OperandWord.{OperandWord}
use Rattle.code_words.specs.declared.words.OperandWord.TheVariants.{Register, Memory, Number, Cl, Target}
use Rattle.code_words.specs.declared.words.OperandWords.{OperandWords}
use Rattle.code_words.specs.declared.words.OperandWords.TheVariants.{Zero, One, Two, Three}
use Rattle.code_words.specs.declared.words.Mnemonic.{Mnemonic}
use Rattle.code_words.specs.declared.words.Mnemonic.TheVariants as m
use Rattle.code_words.specs.declared.words.Words.{Words}
use Rattle.code_words.specs.Meaning.{◌>>=◌, operand_of, count_of, bare, one, two, shifted, popped, called, jumped, branched, multiplication, meant_by}
use Rattle.tal_code.proofs.Spellings.{some_is_one}

-- of an operand's word
abbrev pub WordInRange : OperandWord → Type 0
WordInRange (Register r) = Unit {0}
WordInRange (Memory x) = (x.scale < 256) × (x.disp < 2 ^ 32)
WordInRange (Number n) = n < 2 ^ 32
WordInRange Cl = Unit {0}
WordInRange (Target z) = FitsSigned w32 z

-- of all operands
abbrev pub WordsInRange : OperandWords → Type 0
WordsInRange Zero = Unit {0}
WordsInRange (One a) = WordInRange a
WordsInRange (Two a b) = WordInRange a × WordInRange b
WordsInRange (Three a b c) = WordInRange a × WordInRange b × WordInRange c

-- A second step came after a first.
pub first_step : {A B : Type 0} (o : Option A) (f : A → Option B) (y : B) → (o >>= f) ≡ Some y → (x : A) × (o ≡ Some x) × (f x ≡ Some y)
first_step None f y e = cc
first_step (Some x) f y e = (x, refl, e)

operand_range : (w : OperandWord) (x : Operand) → WordInRange w → operand_of w ≡ Some x → OperandInRange x
unfolding operand_of
operand_range (Register r) x is e = subst OperandInRange (some_is_one _ x e) tt
operand_range (Memory y) x is e = subst OperandInRange (some_is_one _ x e) is
operand_range (Number n) x is e = subst OperandInRange (some_is_one _ x e) is
operand_range Cl x is e = cc
operand_range (Target z) x is e = cc

count_range : (w : OperandWord) (x : Count) → count_of w ≡ Some x → CountInRange x
unfolding count_of
count_range (Number n) x e = by_size (nat_lt n 256) refl e
  where
    by_size : (b : Bool) → nat_lt n 256 ≡ b → (if b then Some (count.By n) else None) ≡ Some x → CountInRange x
    by_size true less e = subst CountInRange (some_is_one _ x e) (grind arith)
    by_size false less e = cc
count_range Cl x e = subst CountInRange (some_is_one _ x e) tt
count_range (Register r) x e = cc
count_range (Memory y) x e = cc
count_range (Target z) x e = cc

-- No operand.
bare_range : (os : OperandWords) (j i : Inst) → InstInRange j → bare os j ≡ Some i → InstInRange i
unfolding bare
bare_range Zero j i is e = subst InstInRange (some_is_one j i e) is
bare_range (One a) j i is e = cc
bare_range (Two a b) j i is e = cc
bare_range (Three a b c) j i is e = cc

-- One operand.
one_range : (os : OperandWords) (f : Operand → Inst) (i : Inst) → WordsInRange os → ((x : Operand) → OperandInRange x → InstInRange (f x))
    → (one os >>= λ x. Some (f x)) ≡ Some i → InstInRange i
unfolding one
one_range (One a) f i is fits e =
    let (x, there, made) = first_step (operand_of a) (λ x. Some (f x)) i e in
    subst InstInRange (some_is_one _ i made) (fits x (operand_range a x is there))
one_range Zero f i is fits e = cc
one_range (Two a b) f i is fits e = cc
one_range (Three a b c) f i is fits e = cc

-- Two operands.
two_range : (os : OperandWords) (f : Operand × Operand → Inst) (i : Inst) → WordsInRange os
    → ((x y : Operand) → OperandInRange x → OperandInRange y → InstInRange (f (x, y)))
    → (two os >>= λ p. Some (f p)) ≡ Some i → InstInRange i
unfolding two
two_range (Two a b) f i is fits e =
    let (p, there, made) = first_step (operand_of a >>= λ x. operand_of b >>= λ y. Some (x, y)) (λ p. Some (f p)) i e in
    let (x, is_x, rest) = first_step (operand_of a) (λ x. operand_of b >>= λ y. Some (x, y)) p there in
    let (y, is_y, pair) = first_step (operand_of b) (λ y. Some (x, y)) p rest in
    subst InstInRange (ap f (some_is_one (x, y) p pair) ∙ some_is_one _ i made) (fits x y (operand_range a x is.0 is_x) (operand_range b y is.1 is_y))
two_range Zero f i is fits e = cc
two_range (One a) f i is fits e = cc
two_range (Three a b c) f i is fits e = cc

-- An operand and a count.
shifted_range : (os : OperandWords) (f : Operand × Count → Inst) (i : Inst) → WordsInRange os
    → ((x : Operand) (y : Count) → OperandInRange x → CountInRange y → InstInRange (f (x, y)))
    → (shifted os >>= λ p. Some (f p)) ≡ Some i → InstInRange i
unfolding shifted
shifted_range (Two a b) f i is fits e =
    let (p, there, made) = first_step (operand_of a >>= λ x. count_of b >>= λ y. Some (x, y)) (λ p. Some (f p)) i e in
    let (x, is_x, rest) = first_step (operand_of a) (λ x. count_of b >>= λ y. Some (x, y)) p there in
    let (y, is_y, pair) = first_step (count_of b) (λ y. Some (x, y)) p rest in
    subst InstInRange (ap f (some_is_one (x, y) p pair) ∙ some_is_one _ i made) (fits x y (operand_range a x is.0 is_x) (count_range b y is_y))
shifted_range Zero f i is fits e = cc
shifted_range (One a) f i is fits e = cc
shifted_range (Three a b c) f i is fits e = cc

-- The distance of a jump, and of a call.
popped_range : (os : OperandWords) (i : Inst) → popped os ≡ Some i → InstInRange i
unfolding popped
popped_range (One (Register r)) i e = subst InstInRange (some_is_one _ i e) tt
popped_range (One (Memory x)) i e = cc
popped_range (One (Number n)) i e = cc
popped_range (One Cl) i e = cc
popped_range (One (Target z)) i e = cc
popped_range Zero i e = cc
popped_range (Two a b) i e = cc
popped_range (Three a b c) i e = cc

called_range : (os : OperandWords) (i : Inst) → WordsInRange os → called os ≡ Some i → InstInRange i
unfolding called
called_range (One (Target z)) i is e = subst InstInRange (some_is_one _ i e) is
called_range (One (Register r)) i is e = one_range (One (Register r)) (λ x. inst.CallAt x) i is (λ x y. y) e
called_range (One (Memory x)) i is e = one_range (One (Memory x)) (λ x. inst.CallAt x) i is (λ x y. y) e
called_range (One (Number n)) i is e = one_range (One (Number n)) (λ x. inst.CallAt x) i is (λ x y. y) e
called_range (One Cl) i is e = one_range (One Cl) (λ x. inst.CallAt x) i is (λ x y. y) e
called_range Zero i is e = one_range Zero (λ x. inst.CallAt x) i is (λ x y. y) e
called_range (Two a b) i is e = one_range (Two a b) (λ x. inst.CallAt x) i is (λ x y. y) e
called_range (Three a b c) i is e = one_range (Three a b c) (λ x. inst.CallAt x) i is (λ x y. y) e

jumped_range : (os : OperandWords) (i : Inst) → WordsInRange os → jumped os ≡ Some i → InstInRange i
unfolding jumped
jumped_range (One (Target z)) i is e = subst InstInRange (some_is_one _ i e) is
jumped_range (One (Register r)) i is e = cc
jumped_range (One (Memory x)) i is e = cc
jumped_range (One (Number n)) i is e = cc
jumped_range (One Cl) i is e = cc
jumped_range Zero i is e = cc
jumped_range (Two a b) i is e = cc
jumped_range (Three a b c) i is e = cc

branched_range : (k : Cond) (os : OperandWords) (i : Inst) → WordsInRange os → branched k os ≡ Some i → InstInRange i
unfolding branched
branched_range k (One (Target z)) i is e = subst InstInRange (some_is_one _ i e) is
branched_range k (One (Register r)) i is e = cc
branched_range k (One (Memory x)) i is e = cc
branched_range k (One (Number n)) i is e = cc
branched_range k (One Cl) i is e = cc
branched_range k Zero i is e = cc
branched_range k (Two a b) i is e = cc
branched_range k (Three a b c) i is e = cc

-- A multiplication.
three_range : (a b : OperandWord) (n : ℕ) (i : Inst) → WordInRange a → WordInRange b → n < 2 ^ 32
    → (operand_of a >>= λ x. operand_of b >>= λ y. Some (inst.Imul3 x y n)) ≡ Some i → InstInRange i
three_range a b n i is_a is_b few e =
    let (x, is_x, rest) = first_step (operand_of a) (λ x. operand_of b >>= λ y. Some (inst.Imul3 x y n)) i e in
    let (y, is_y, made) = first_step (operand_of b) (λ y. Some (inst.Imul3 x y n)) i rest in
    subst InstInRange (some_is_one _ i made) (operand_range a x is_a is_x, operand_range b y is_b is_y, few)

multiplied_range : (os : OperandWords) (i : Inst) → WordsInRange os → multiplication os ≡ Some i → InstInRange i
unfolding multiplication one operand_of
multiplied_range (Three a b (Number n)) i is e = three_range a b n i is.0 is.1 is.2 e
multiplied_range (One a) i is e = one_range (One a) (λ x. inst.Imul1 x) i is (λ x y. y) e
multiplied_range Zero i is e = two_range Zero (λ p. inst.Imul2 p.0 p.1) i is (λ x y p q. (p, q)) e
multiplied_range (Two a b) i is e = two_range (Two a b) (λ p. inst.Imul2 p.0 p.1) i is (λ x y p q. (p, q)) e
multiplied_range (Three a b (Register r)) i is e = two_range (Three a b (Register r)) (λ p. inst.Imul2 p.0 p.1) i is (λ x y p q. (p, q)) e
multiplied_range (Three a b (Memory x)) i is e = two_range (Three a b (Memory x)) (λ p. inst.Imul2 p.0 p.1) i is (λ x y p q. (p, q)) e
multiplied_range (Three a b Cl) i is e = two_range (Three a b Cl) (λ p. inst.Imul2 p.0 p.1) i is (λ x y p q. (p, q)) e
multiplied_range (Three a b (Target z)) i is e = two_range (Three a b (Target z)) (λ p. inst.Imul2 p.0 p.1) i is (λ x y p q. (p, q)) e

by_mnemonic : (k : Mnemonic) (os : OperandWords) (i : Inst) → WordsInRange os → meant_by (record { mnemonic = k; operands = os }) ≡ Some i → InstInRange i
unfolding meant_by
by_mnemonic (m.Alu op) os i is e = two_range os (λ p. inst.Alu op p.0 p.1) i is (λ x y p q. (p, q)) e
by_mnemonic m.Mov os i is e = two_range os (λ p. inst.Mov p.0 p.1) i is (λ x y p q. (p, q)) e
by_mnemonic m.Lea os i is e = two_range os (λ p. inst.Lea p.0 p.1) i is (λ x y p q. (p, q)) e
by_mnemonic m.Test os i is e = two_range os (λ p. inst.Test p.0 p.1) i is (λ x y p q. (p, q)) e
by_mnemonic m.Inc os i is e = one_range os (λ x. inst.Inc x) i is (λ x y. y) e
by_mnemonic m.Dec os i is e = one_range os (λ x. inst.Dec x) i is (λ x y. y) e
by_mnemonic m.Not os i is e = one_range os (λ x. inst.Not x) i is (λ x y. y) e
by_mnemonic m.Neg os i is e = one_range os (λ x. inst.Neg x) i is (λ x y. y) e
by_mnemonic m.Mul os i is e = one_range os (λ x. inst.Mul x) i is (λ x y. y) e
by_mnemonic m.Imul os i is e = multiplied_range os i is e
by_mnemonic m.Div os i is e = one_range os (λ x. inst.Div x) i is (λ x y. y) e
by_mnemonic m.Idiv os i is e = one_range os (λ x. inst.Idiv x) i is (λ x y. y) e
by_mnemonic (m.Shift op) os i is e = shifted_range os (λ p. inst.Shift op p.0 p.1) i is (λ x y p q. (p, q)) e
by_mnemonic m.Cdq os i is e = bare_range os inst.Cdq i tt e
by_mnemonic m.Nop os i is e = bare_range os inst.Nop i tt e
by_mnemonic m.Push os i is e = one_range os (λ x. inst.Push x) i is (λ x y. y) e
by_mnemonic m.Pop os i is e = popped_range os i e
by_mnemonic m.Call os i is e = called_range os i is e
by_mnemonic m.Ret os i is e = bare_range os inst.Ret i tt e
by_mnemonic m.Jmp os i is e = jumped_range os i is e
by_mnemonic (m.Jcc k) os i is e = branched_range k os i is e

-- What words mean is in range where they are.
pub meant_in_range : (w : Words) (i : Inst) → WordsInRange w.operands → meant_by w ≡ Some i → InstInRange i
meant_in_range w i is e = by_mnemonic w.mnemonic w.operands i is e

-- The distance between two offsets that are not far fits.
pub distance_fits : (a b : ℕ) → a < 2 ^ 31 → b < 2 ^ 31 → FitsSigned w32 (pos a -ℤ pos b)
distance_fits a b less few = search rules
