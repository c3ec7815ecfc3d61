-- What the bytes of a line's instruction keep.
use Rattle.std.proofs.Common.{◌≡◌, ℕ, ℤ, Bool, true, false, Option, Some, None, is_some, if◌then◌else◌, refl, sym, ap, subst, ◌∙◌, ◌⊎◌, inl, inr}
use Rattle.std.specs.Prelude.{◌==◌, ◌%◌, IfSome}
use Rattle.std.specs.Option.{option_or}
use Rattle.ia32_code.specs.declared.instruction.Alu.{Alu}
use Rattle.ia32_code.specs.declared.instruction.Alu.TheVariants as alu
use Rattle.ia32_code.specs.declared.instruction.Mem.{Mem}
use Rattle.ia32_code.specs.declared.instruction.Reg.{Reg}
use Rattle.ia32_code.specs.declared.instruction.Reg.TheVariants.{Eax, Esp}
use Rattle.ia32_code.specs.declared.instruction.Count.{Count}
use Rattle.ia32_code.specs.declared.instruction.Operand.TheVariants.{R, M, I}
use Rattle.ia32_code.specs.declared.instruction.Operand.{Operand as Op}
use Rattle.ia32_code.specs.declared.instruction.Inst.{Inst}
use Rattle.ia32_code.specs.declared.instruction.Inst.TheVariants as inst
use Rattle.ia32_code.specs.declared.spelling.Spelling.{Spelling}
use Rattle.ia32_code.specs.declared.operand_form.OperandForm.{OperandForm}
use Rattle.ia32_code.specs.declared.operand_form.OperandForm.TheVariants.{Direct, Based, Absolute, Indexed, Unbased}
use Rattle.ia32_code.specs.declared.operand_form.Displacement.TheVariants.{Disp32}
use Rattle.ia32_code.specs.declared.row.ModRm.TheVariants.{Digit}
use Rattle.ia32_code.specs.Table.{line}
use Rattle.ia32_code.specs.declared.row.Row.TheVariants.{AluEax, AluWord, AluByte, MovWord}
use Rattle.ia32_code.specs.OperandForms.{reg, number}
use Rattle.ia32_code.specs.Canonical.{canonical_row, shortest_form, memory_form, shortest_disp, usable, fits_byte, fill, without_modrm, with_form, alu_imm, alu_of, mov_of, is_eax}
use Rattle.ia32_code.specs.WholeWords.{Within, whole_word, word_offset, WordedForm, worded}
use Rattle.code_words.specs.declared.words.OperandWord.{OperandWord}
use Rattle.code_words.specs.declared.words.OperandWord.TheVariants as say
use Rattle.code_words.specs.declared.words.OperandWords.TheVariants.{Zero, One, Two, Three}
use Rattle.code_words.specs.declared.words.Mnemonic.{Mnemonic}
use Rattle.code_words.specs.declared.words.Mnemonic.TheVariants as m
use Rattle.code_words.specs.Meaning.{◌>>=◌, operand_of, count_of, bare, one, two, shifted, popped, called, jumped, branched, multiplication, meant_by}
use Rattle.tal_image.specs.Conditions.{immediate, compared, marked_number}
use Rattle.tal_names.specs.Declarations.{Names}
use Rattle.tal_operands.specs.declared.operands.Hole.{Hole}
use Rattle.tal_operands.specs.declared.operands.Sense.{Sense}
use Rattle.tal_operands.specs.declared.operands.Operand.{Operand}
use Rattle.tal_operands.specs.Operands.{wide}
use Rattle.tal_operands.specs.Instructions.{takes_special}
use Rattle.tal_code.proofs.Spellings.{some_is_one}
use Rattle.tal_code.proofs.Ranges.{first_step}
use Rattle.tal_code.proofs.Shapes.{HoleNamed, NearNamed, Marked, Shape, Common, Special, Away}
use Rattle.tal_code.proofs.Openings.{if_none}

-- ---- which words have a meaning

-- a word is an operand, by its shape
abbrev pub IsOperand : OperandWord → Type 0
IsOperand w = (x : Op) × (operand_of w ≡ Some x)

-- A place in the code is no operand.
no_target : (z : ℤ) (x : Op) → operand_of (say.Target z) ≡ Some x → ⊥
unfolding operand_of
no_target z x e = cc

-- the words of two operands, as MOV and CMP have them
two_are : (a b : OperandWord) (f : Op × Op → Inst) (i : Inst) → (two (Two a b) >>= λ p. Some (f p)) ≡ Some i
    → (x y : Op) × (operand_of a ≡ Some x) × (operand_of b ≡ Some y) × (i ≡ f (x, y))
unfolding two
two_are a b f i e =
    let (p, there, made) = first_step (operand_of a >>= λ x. operand_of b >>= λ y. Some (x, y)) (λ p. Some (f p)) i e in
    let (x, is_x, rest) = first_step (operand_of a) (λ x. operand_of b >>= λ y. Some (x, y)) p there in
    let (y, is_y, pair) = first_step (operand_of b) (λ y. Some (x, y)) p rest in
    (x, y, is_x, is_y, sym (ap f (some_is_one (x, y) p pair) ∙ some_is_one _ i made))

-- ---- PUSH, MOV and CMP

-- The number of an instruction that has a mark is its source, and its destination is no number.
pub record IsSource (a b : OperandWord) (i : Inst) : Type 0 where
  pub dst : Op
  pub src : Op
  pub dst_is : operand_of a ≡ Some dst
  pub src_is : operand_of b ≡ Some src
  pub inst_is : (i ≡ inst.Mov dst src) ⊎ (i ≡ inst.Alu alu.Cmp dst src)

-- An instruction that takes special operands and has two is a MOV or a CMP.
takes_two : (k : Mnemonic) (a b : OperandWord) (i : Inst) → takes_special k ≡ true → meant_by (record { mnemonic = k; operands = Two a b }) ≡ Some i → IsSource a b i
unfolding takes_special meant_by one
takes_two m.Mov a b i takes e =
    let (x, y, is_x, is_y, made) = two_are a b (λ p. inst.Mov p.0 p.1) i e in
    record { dst = x; src = y; dst_is = is_x; src_is = is_y; inst_is = inl made }
takes_two (m.Alu alu.Cmp) a b i takes e =
    let (x, y, is_x, is_y, made) = two_are a b (λ p. inst.Alu alu.Cmp p.0 p.1) i e in
    record { dst = x; src = y; dst_is = is_x; src_is = is_y; inst_is = inr made }
takes_two m.Push a b i takes e = cc
takes_two _ a b i takes e = cc

-- With one it is a PUSH.
takes_one : (k : Mnemonic) (a : OperandWord) (i : Inst) → takes_special k ≡ true → meant_by (record { mnemonic = k; operands = One a }) ≡ Some i → (x : Op) × (operand_of a ≡ Some x) × (i ≡ inst.Push x)
unfolding takes_special meant_by one two
takes_one m.Push a i takes e =
    let (x, is_x, made) = first_step (operand_of a) (λ x. Some (inst.Push x)) i e in
    (x, is_x, sym (some_is_one _ i made))
takes_one m.Mov a i takes e = cc
takes_one (m.Alu alu.Cmp) a i takes e = cc
takes_one _ a i takes e = cc

-- With none or three it has no meaning.
takes_none : (k : Mnemonic) (i : Inst) → takes_special k ≡ true → meant_by (record { mnemonic = k; operands = Zero }) ≡ Some i → ⊥
unfolding takes_special meant_by one two
takes_none m.Push i takes e = cc
takes_none m.Mov i takes e = cc
takes_none (m.Alu alu.Cmp) i takes e = cc
takes_none _ i takes e = cc

takes_three : (k : Mnemonic) (a b c : OperandWord) (i : Inst) → takes_special k ≡ true → meant_by (record { mnemonic = k; operands = Three a b c }) ≡ Some i → ⊥
unfolding takes_special meant_by one two
takes_three m.Push a b c i takes e = cc
takes_three m.Mov a b c i takes e = cc
takes_three (m.Alu alu.Cmp) a b c i takes e = cc
takes_three _ a b c i takes e = cc

-- A MOV or CMP into a number is not spelled.
no_number : (n : ℕ) (src : Op) (s : Spelling) → mov_of (I n) src ≡ Some s → ⊥
no_number n (R r) s e = cc
no_number n (M x) s e = cc
no_number n (I k) s e = cc

no_number_compared : (n : ℕ) (src : Op) (s : Spelling) → alu_of alu.Cmp (I n) src ≡ Some s → ⊥
no_number_compared n (R r) s e = cc
no_number_compared n (M x) s e = cc
no_number_compared n (I k) s e = cc

-- The destination is no number.
not_into_number : (n : ℕ) (dst src : Op) (i : Inst) (s : Spelling) → (i ≡ inst.Mov dst src) ⊎ (i ≡ inst.Alu alu.Cmp dst src) → canonical_row i ≡ Some s → dst ≡ I n → ⊥
not_into_number n dst src i s (inl is) row into = no_number n src s (sym (ap canonical_row (is ∙ ap (λ d. inst.Mov d src) into)) ∙ row)
not_into_number n dst src i s (inr is) row into = no_number_compared n src s (sym (ap canonical_row (is ∙ ap (λ d. inst.Alu alu.Cmp d src) into)) ∙ row)

-- Its number is that of the source.
number_of_source : (n : ℕ) (dst src : Op) (i : Inst) → (i ≡ inst.Mov dst src) ⊎ (i ≡ inst.Alu alu.Cmp dst src) → src ≡ I n → marked_number i ≡ Some n
unfolding marked_number compared immediate
number_of_source n dst src i (inl is) from = ap marked_number (is ∙ ap (inst.Mov dst) from)
number_of_source n dst src i (inr is) from = ap marked_number (is ∙ ap (inst.Alu alu.Cmp dst) from)

-- ---- a static's address beside a number

-- A choice that is some is one of the two.
either_worded : (b : Bool) (x y f : OperandForm) → is_some (worded x) ≡ true → is_some (worded y) ≡ true → Some (if b then x else y) ≡ Some f → is_some (worded f) ≡ true
either_worded true x y f a b e = subst (λ f. is_some (worded f) ≡ true) (some_is_one x f e) a
either_worded false x y f a b e = subst (λ f. is_some (worded f) ≡ true) (some_is_one y f e) b

if_worded : (b : Bool) (o : Option OperandForm) (f : OperandForm) → (o ≡ Some f → is_some (worded f) ≡ true) → (if b then o else None) ≡ Some f → is_some (worded f) ≡ true
if_worded true o f worded e = worded e
if_worded false o f worded e = cc

-- The displacement is a word.
wide_disp : (b : Reg) (d : ℕ) → d ≡ wide → shortest_disp b d ≡ Disp32 d
wide_disp b d is = rw is refl

by_parts : (base index : Option Reg) (s d : ℕ) (f : OperandForm) → d ≡ wide → memory_form base index s d ≡ Some f → is_some (worded f) ≡ true
by_parts None None s d f is e = if_worded (s == 0) _ f (λ e. subst (λ f. is_some (worded f) ≡ true) (some_is_one _ f e) refl) e
by_parts None (Some i) s d f is e = if_worded (usable i s) _ f (λ e. subst (λ f. is_some (worded f) ≡ true) (some_is_one _ f e) refl) e
by_parts (Some b) None s d f is e =
    if_worded (s == 0) _ f (either_worded (number b == 4) (Indexed 0 Esp b (shortest_disp b d)) (Based b (shortest_disp b d)) f (rw (wide_disp b d is) refl) (rw (wide_disp b d is) refl)) e
by_parts (Some b) (Some i) s d f is e =
    if_worded (usable i s) _ f (λ e. subst (λ f. is_some (worded f) ≡ true) (some_is_one _ f e) (rw (wide_disp b d is) refl)) e

-- The form of an address has a word where its displacement is no byte.
form_has_word : (x : Mem) (f : OperandForm) → x.disp ≡ wide → shortest_form (M x) ≡ Some f → is_some (worded f) ≡ true
form_has_word x f is e = by_parts x.base x.index x.scale x.disp f is e

-- A form with a word is no register.
not_eax : (f : OperandForm) → is_some (worded f) ≡ true → is_eax f ≡ false
not_eax (Direct r) e = cc
not_eax (Based b d) e = refl
not_eax (Absolute n) e = refl
not_eax (Indexed s i b d) e = refl
not_eax (Unbased s i n) e = refl

-- A row with a digit has the word of its form.
digit_word : (s : Spelling) (g : ℕ) → (line s.row).modrm ≡ Digit g → is_some (worded s.form) ≡ true → is_some (word_offset Within s) ≡ true
unfolding whole_word
digit_word s g e some = by_word (worded s.form) refl some
  where
    by_word : (o : Option WordedForm) → worded s.form ≡ o → is_some o ≡ true → is_some (word_offset Within s) ≡ true
    by_word None is some = cc
    by_word (Some w) is some = rw (e, is) refl

moved_word : (x : Mem) (n : ℕ) (s : Spelling) → x.disp ≡ wide → mov_of (M x) (I n) ≡ Some s → is_some (word_offset Within s) ≡ true
moved_word x n s is e = by_form (shortest_form (M x)) refl e
  where
    by_form : (o : Option OperandForm) → shortest_form (M x) ≡ o → with_form o (λ f. fill MovWord Eax f n) ≡ Some s → is_some (word_offset Within s) ≡ true
    by_form None at e = cc
    by_form (Some f) at e = subst (λ s. is_some (word_offset Within s) ≡ true) (some_is_one _ s e) (digit_word (fill MovWord Eax f n) 0 refl (form_has_word x f is at))

compared_word : (x : Mem) (n : ℕ) (s : Spelling) → x.disp ≡ wide → alu_of alu.Cmp (M x) (I n) ≡ Some s → is_some (word_offset Within s) ≡ true
compared_word x n s is e = by_form (shortest_form (M x)) refl e
  where
    by_size : (f : OperandForm) (b : Bool) → is_some (worded f) ≡ true
        → is_some (word_offset Within (if b then fill (AluByte alu.Cmp) (reg 7) f (n % 256) else (if is_eax f then without_modrm (AluEax alu.Cmp) n else fill (AluWord alu.Cmp) (reg 7) f n))) ≡ true
    by_size f true some = digit_word (fill (AluByte alu.Cmp) (reg 7) f (n % 256)) 7 refl some
    by_size f false some = rw (not_eax f some) (digit_word (fill (AluWord alu.Cmp) (reg 7) f n) 7 refl some)

    by_form : (o : Option OperandForm) → shortest_form (M x) ≡ o → with_form o (alu_imm alu.Cmp n) ≡ Some s → is_some (word_offset Within s) ≡ true
    by_form None at e = cc
    by_form (Some f) at e = subst (λ s. is_some (word_offset Within s) ≡ true) (some_is_one _ s e) (by_size f (fits_byte n) (form_has_word x f is at))

-- A MOV or CMP of a number into memory, at an address that is a hole, has a word within.
stored_word : (x : Mem) (n : ℕ) (dst src : Op) (i : Inst) (s : Spelling) → (i ≡ inst.Mov dst src) ⊎ (i ≡ inst.Alu alu.Cmp dst src) → canonical_row i ≡ Some s
    → dst ≡ M x → src ≡ I n → x.disp ≡ wide → is_some (word_offset Within s) ≡ true
stored_word x n dst src i s (inl is) row to from far =
    moved_word x n s far (sym (ap canonical_row (is ∙ ap (λ d. inst.Mov d src) to ∙ ap (inst.Mov (M x)) from)) ∙ row)
stored_word x n dst src i s (inr is) row to from far =
    compared_word x n s far (sym (ap canonical_row (is ∙ ap (λ d. inst.Alu alu.Cmp d src) to ∙ ap (inst.Alu alu.Cmp (M x)) from)) ∙ row)

-- ---- no place in the code among several operands

-- the word is no place in the code
abbrev pub NoTarget : OperandWord → Type 0
NoTarget w = (z : ℤ) → w ≡ say.Target z → ⊥

operand_no_target : (w : OperandWord) (x : Op) → operand_of w ≡ Some x → NoTarget w
operand_no_target w x is z e = no_target z x (sym (ap operand_of e) ∙ is)

count_no_target : (w : OperandWord) (x : Count) → count_of w ≡ Some x → NoTarget w
unfolding count_of
count_no_target w x is z e = nothing (sym (ap count_of e) ∙ is)
  where
    nothing : count_of (say.Target z) ≡ Some x → ⊥
    nothing e = cc

two_no_target : (a b : OperandWord) (f : Op × Op → Inst) (i : Inst) → (two (Two a b) >>= λ p. Some (f p)) ≡ Some i → NoTarget a × NoTarget b
two_no_target a b f i e =
    let (x, y, is_x, is_y, made) = two_are a b f i e in
    (operand_no_target a x is_x, operand_no_target b y is_y)

shifted_no_target : (a b : OperandWord) (f : Op × Count → Inst) (i : Inst) → (shifted (Two a b) >>= λ p. Some (f p)) ≡ Some i → NoTarget a × NoTarget b
unfolding shifted
shifted_no_target a b f i e =
    let (p, there, made) = first_step (operand_of a >>= λ x. count_of b >>= λ y. Some (x, y)) (λ p. Some (f p)) i e in
    let (x, is_x, rest) = first_step (operand_of a) (λ x. count_of b >>= λ y. Some (x, y)) p there in
    let (y, is_y, pair) = first_step (count_of b) (λ y. Some (x, y)) p rest in
    (operand_no_target a x is_x, count_no_target b y is_y)

-- Two operands that mean something are no places in the code.
no_targets : (k : Mnemonic) (a b : OperandWord) (i : Inst) → meant_by (record { mnemonic = k; operands = Two a b }) ≡ Some i → NoTarget a × NoTarget b
unfolding meant_by one bare popped called jumped branched multiplication
no_targets (m.Alu op) a b i e = two_no_target a b (λ p. inst.Alu op p.0 p.1) i e
no_targets m.Mov a b i e = two_no_target a b (λ p. inst.Mov p.0 p.1) i e
no_targets m.Lea a b i e = two_no_target a b (λ p. inst.Lea p.0 p.1) i e
no_targets m.Test a b i e = two_no_target a b (λ p. inst.Test p.0 p.1) i e
no_targets m.Imul a b i e = two_no_target a b (λ p. inst.Imul2 p.0 p.1) i e
no_targets (m.Shift op) a b i e = shifted_no_target a b (λ p. inst.Shift op p.0 p.1) i e
no_targets _ a b i e = cc

three_no_target : (a b c : OperandWord) (i : Inst) → multiplication (Three a b c) ≡ Some i → NoTarget a × NoTarget b × NoTarget c
unfolding multiplication two
three_no_target a b (say.Number n) i e =
    let (x, is_x, rest) = first_step (operand_of a) (λ x. operand_of b >>= λ y. Some (inst.Imul3 x y n)) i e in
    let (y, is_y, made) = first_step (operand_of b) (λ y. Some (inst.Imul3 x y n)) i rest in
    (operand_no_target a x is_x, operand_no_target b y is_y, λ z e. cc)
three_no_target a b (say.Register r) i e = cc
three_no_target a b (say.Memory x) i e = cc
three_no_target a b say.Cl i e = cc
three_no_target a b (say.Target z) i e = cc

-- Nor are three.
no_targets_of_three : (k : Mnemonic) (a b c : OperandWord) (i : Inst) → meant_by (record { mnemonic = k; operands = Three a b c }) ≡ Some i → NoTarget a × NoTarget b × NoTarget c
unfolding meant_by one two shifted bare popped called jumped branched
no_targets_of_three m.Imul a b c i e = three_no_target a b c i e
no_targets_of_three _ a b c i e = cc

-- ---- what an instruction's operands keep together

-- The holes and the mark of an instruction that a spelling spells are named, two holes lie in two words, and a marked number is
-- 0 or a hole.
pub record LineKept (m : Names) (near far : Option Hole) (sense : Option Sense) (j : Inst) (s : Spelling) : Type 0 where
  pub near_named : IfSome near (HoleNamed m)
  pub far_named : IfSome far (HoleNamed m)
  pub both : is_some near ≡ true → is_some far ≡ true → is_some (word_offset Within s) ≡ true
  pub marked : IfSome sense (Marked m far)
  pub number : is_some sense ≡ true → (n : ℕ) × (marked_number j ≡ Some n) × ((n ≡ 0) ⊎ (is_some far ≡ true))

if_map : {A : Type 0} (P Q : A → Type 0) (o : Option A) → ((x : A) → P x → Q x) → IfSome o P → IfSome o Q
if_map P Q None f p = tt
if_map P Q (Some x) f p = f x p

none_some : {A : Type 0} (o : Option A) → o ≡ None → is_some o ≡ true → ⊥
none_some None e x = cc
none_some (Some a) e x = cc

-- Without a hole at the end and a mark there is not much to keep.
pub kept_common : (m : Names) (near far : Option Hole) (sense : Option Sense) (j : Inst) (s : Spelling) → IfSome near (HoleNamed m) → far ≡ None → sense ≡ None → LineKept m near far sense j s
kept_common m near far sense j s named none unmarked = record {
  near_named = named;
  far_named = if_none _ far none;
  both = λ a b. absurd (none_some far none b);
  marked = if_none _ sense unmarked;
  number = λ a. absurd (none_some sense unmarked a);
}

-- The number of an operand.
number_is : (w : OperandWord) (x : Op) (n : ℕ) → operand_of w ≡ Some x → w ≡ say.Number n → x ≡ I n
unfolding operand_of
number_is w x n is e = sym (some_is_one (I n) x (sym (ap operand_of e) ∙ is))

memory_is : (w : OperandWord) (x : Op) (y : Mem) → operand_of w ≡ Some x → w ≡ say.Memory y → x ≡ M y
unfolding operand_of
memory_is w x y is e = sym (some_is_one (M y) x (sym (ap operand_of e) ∙ is))

-- One operand.
pub kept_one : (m : Names) (k : Mnemonic) (a : Operand) (j : Inst) (s : Spelling) → Shape m a → (a.faults.special ≡ true → takes_special k ≡ true)
    → meant_by (record { mnemonic = k; operands = One a.word }) ≡ Some j → LineKept m a.near a.far a.sense j s
unfolding marked_number immediate
kept_one m k a j s (Common near far sense) takes e = kept_common m a.near a.far a.sense j s (if_map _ _ a.near (λ h n. n.0) near) far sense
kept_one m k a j s (Special n word near special far number sense) takes e = record {
  near_named = if_none _ a.near near;
  far_named = far;
  both = λ x y. absurd (none_some a.near near x);
  marked = sense;
  number = λ x. (let (y, is_y, push) = takes_one k a.word j (takes special) e in (n, ap marked_number (push ∙ ap inst.Push (number_is a.word y n is_y word)), number));
}
kept_one m k a j s (Away z word near sense far) takes e = record {
  near_named = if_none _ a.near near;
  far_named = far;
  both = λ x y. absurd (none_some a.near near x);
  marked = if_none _ a.sense sense;
  number = λ x. absurd (none_some a.sense sense x);
}

-- The first that is there, or the second.
if_either : {A : Type 0} (P : A → Type 0) (a b : Option A) → IfSome a P → IfSome b P → IfSome (option_or a b) P
if_either P None b p q = q
if_either P (Some x) b p q = p

none_or : {A : Type 0} (a b : Option A) → a ≡ None → option_or a b ≡ b
none_or None b e = refl
none_or (Some x) b e = cc

or_none : {A : Type 0} (a b : Option A) → b ≡ None → is_some (option_or a b) ≡ true → is_some a ≡ true
or_none None b e is = absurd (none_some b e is)
or_none (Some x) b e is = refl

-- a hole that is there has an address for it
near_word : (m : Names) (w : OperandWord) (o : Option Hole) → IfSome o (NearNamed m w) → is_some o ≡ true → (x : Mem) × (w ≡ say.Memory x) × (x.disp ≡ wide)
near_word m w None named is = cc
near_word m w (Some h) named is = named.1

-- Two operands.
pub kept_two : (m : Names) (k : Mnemonic) (a b : Operand) (j : Inst) (s : Spelling) → Shape m a → Shape m b
    → (a.faults.special ≡ true → takes_special k ≡ true) → (b.faults.special ≡ true → takes_special k ≡ true)
    → meant_by (record { mnemonic = k; operands = Two a.word b.word }) ≡ Some j → canonical_row j ≡ Some s
    → LineKept m (option_or a.near b.near) (option_or a.far b.far) (option_or a.sense b.sense) j s
kept_two m k a b j s (Away z word near sense far) shape_b takes takes_b e row = absurd ((no_targets k a.word b.word j e).0 z word)
kept_two m k a b j s shape_a (Away z word near sense far) takes takes_b e row = absurd ((no_targets k a.word b.word j e).1 z word)
kept_two m k a b j s (Special n word near special far number sense) shape_b takes takes_b e row =
    let x = takes_two k a.word b.word j (takes special) e in
    absurd (not_into_number n x.dst x.src j s x.inst_is row (number_is a.word x.dst n x.dst_is word))
kept_two m k a b j s (Common near far sense) (Common near_b far_b sense_b) takes takes_b e row =
    kept_common m (option_or a.near b.near) (option_or a.far b.far) (option_or a.sense b.sense) j s
    (if_either _ a.near b.near (if_map _ _ a.near (λ h n. n.0) near) (if_map _ _ b.near (λ h n. n.0) near_b)) (none_or a.far b.far far ∙ far_b) (none_or a.sense b.sense sense ∙ sense_b)
kept_two m k a b j s (Common near far sense) (Special n word near_b special far_b number sense_b) takes takes_b e row =
    let x = takes_two k a.word b.word j (takes_b special) e in
    let from = number_is b.word x.src n x.src_is word in
    rw (none_or a.far b.far far, none_or a.sense b.sense sense) (record {
      near_named = if_either _ a.near b.near (if_map _ _ a.near (λ h n. n.0) near) (if_none _ b.near near_b);
      far_named = far_b;
      both = λ p q. (let (y, is_y, wide_y) = near_word m a.word a.near near (or_none a.near b.near near_b p) in stored_word y n x.dst x.src j s x.inst_is row (memory_is a.word x.dst y x.dst_is is_y) from wide_y);
      marked = sense_b;
      number = λ p. (n, number_of_source n x.dst x.src j x.inst_is from, number);
    })

-- what is known of one of three operands
not_special : (m : Names) (k : Mnemonic) (o : Operand) → Shape m o → (takes_special k ≡ true → ⊥) → (o.faults.special ≡ true → takes_special k ≡ true) → NoTarget o.word
    → IfSome o.near (HoleNamed m) × (o.far ≡ None) × (o.sense ≡ None)
not_special m k o (Common near far sense) never takes none = (if_map _ _ o.near (λ h n. n.0) near, far, sense)
not_special m k o (Special n word near special far number sense) never takes none = absurd (never (takes special))
not_special m k o (Away z word near sense far) never takes none = absurd (none z word)

-- Three operands.
pub kept_three : (m : Names) (k : Mnemonic) (a b c : Operand) (j : Inst) (s : Spelling) → Shape m a → Shape m b → Shape m c
    → (a.faults.special ≡ true → takes_special k ≡ true) → (b.faults.special ≡ true → takes_special k ≡ true) → (c.faults.special ≡ true → takes_special k ≡ true)
    → meant_by (record { mnemonic = k; operands = Three a.word b.word c.word }) ≡ Some j
    → LineKept m (option_or (option_or a.near b.near) c.near) (option_or (option_or a.far b.far) c.far) (option_or (option_or a.sense b.sense) c.sense) j s
kept_three m k a b c j s shape_a shape_b shape_c takes_a takes_b takes_c e =
    let never : takes_special k ≡ true → ⊥ = λ takes. takes_three k a.word b.word c.word j takes e in
    let none = no_targets_of_three k a.word b.word c.word j e in
    let x = not_special m k a shape_a never takes_a none.0 in
    let y = not_special m k b shape_b never takes_b none.1 in
    let z = not_special m k c shape_c never takes_c none.2 in
    kept_common m _ _ _ j s (if_either _ (option_or a.near b.near) c.near (if_either _ a.near b.near x.0 y.0) z.0)
    (none_or (option_or a.far b.far) c.far (none_or a.far b.far x.1 ∙ y.1) ∙ z.1)
    (none_or (option_or a.sense b.sense) c.sense (none_or a.sense b.sense x.2 ∙ y.2) ∙ z.2)
