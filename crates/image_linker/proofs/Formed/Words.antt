-- An instruction with another whole word: as long, with its whole words where they were, and with the same immediate number but for
-- the word at its end.
use Rattle.std.specs.Prelude.{option_map}
use Rattle.std.proofs.Common.{◌≡◌, ℕ, ◌+◌, ◌*◌, List, [], ◌∷◌, ◌++◌, length, Option, Some, None, ◌⊎◌, inl, inr, refl, sym, ap, ◌∙◌, subst, arith}
use Rattle.std.proofs.lemmas.Option.{same_Some}
use Rattle.std.proofs.lemmas.List.{length-append}
use Rattle.ia32_code.specs.declared.instruction.Reg.{Reg}
use Rattle.ia32_code.specs.declared.instruction.Alu.{Alu}
use Rattle.ia32_code.specs.declared.instruction.Alu.TheVariants.{Add, Or, And, Sub, Xor, Cmp}
use Rattle.ia32_code.specs.declared.instruction.Mem.{Mem}
use Rattle.ia32_code.specs.declared.instruction.Operand.{Operand}
use Rattle.ia32_code.specs.declared.instruction.Operand.TheVariants.{M, I}
use Rattle.ia32_code.specs.declared.spelling.Spelling.{Spelling}
use Rattle.ia32_code.specs.declared.row.Row.{Row}
use Rattle.ia32_code.specs.declared.row.Row.TheVariants.{AluStore, AluLoad, AluEax, AluWord, MovLoadEax, MovStoreEax, MovReg, MovWord, TestEax, TestWord, Imul3Word, PushWord, CallRel, JmpWord, JccWord}
use Rattle.ia32_code.specs.declared.row.ModRm.{ModRm}
use Rattle.ia32_code.specs.declared.row.ModRm.TheVariants.{Absent, Register, Memory, Digit}
use Rattle.ia32_code.specs.declared.row.Trailing.{Trailing}
use Rattle.ia32_code.specs.declared.row.Trailing.TheVariants.{Nothing, Byte, Word}
use Rattle.ia32_code.specs.declared.operand_form.Displacement.TheVariants.{NoDisp, Disp8, Disp32}
use Rattle.ia32_code.specs.declared.operand_form.OperandForm.{OperandForm}
use Rattle.ia32_code.specs.declared.operand_form.OperandForm.TheVariants.{Direct, Based, Absolute, Indexed, Unbased}
use Rattle.ia32_code.specs.declared.word_offsets.WholeWords.{WholeWords}
use Rattle.ia32_code.specs.OperandForms.{operand, number, index_register, scale_of, modrm_byte}
use Rattle.ia32_code.specs.Table.{line}
use Rattle.ia32_code.specs.Spells.{meaning, modrm_bytes}
use Rattle.ia32_code.specs.WholeWords.{Within, AtEnd, WordedForm, worded, Filling, other_form, other_number, inner_word, end_word, whole_word, word_offsets}
use Rattle.tal_image.specs.Conditions.{immediate, compared, marked_number}

-- ---- immediate numbers

-- a comparison with memory has no immediate number
no_memory_compared : (op : Alu) (a : Mem) → compared op (M a) ≡ None
unfolding compared immediate
no_memory_compared Add a = refl
no_memory_compared Or a = refl
no_memory_compared And a = refl
no_memory_compared Sub a = refl
no_memory_compared Xor a = refl
no_memory_compared Cmp a = refl

-- the immediate number of a row does not depend on which memory its operand is
memory_mark : (row : Row) (r : Reg) (a b : Mem) (n : ℕ) → marked_number ((line row).gives r (M a) n) ≡ marked_number ((line row).gives r (M b) n)
unfolding marked_number immediate
memory_mark (AluStore op) r a b n = refl
memory_mark (AluLoad op) r a b n = no_memory_compared op a ∙ sym (no_memory_compared op b)
memory_mark row r a b n = refl

-- the immediate number of a comparison is this number, or there is none
compared_number : (op : Alu) (n v : ℕ) → ((compared op (I n) ≡ None) × (compared op (I v) ≡ None)) ⊎ ((compared op (I n) ≡ Some n) × (compared op (I v) ≡ Some v))
unfolding compared immediate
compared_number Add n v = inl (refl, refl)
compared_number Or n v = inl (refl, refl)
compared_number And n v = inl (refl, refl)
compared_number Sub n v = inl (refl, refl)
compared_number Xor n v = inl (refl, refl)
compared_number Cmp n v = inr (refl, refl)

-- the immediate number of a row that ends with a word is that word, if there is one
end_mark : (row : Row) (r : Reg) (o : Operand) (n v : ℕ) → (line row).trailing ≡ Word
    → ((marked_number ((line row).gives r o n) ≡ None) × (marked_number ((line row).gives r o v) ≡ None)) ⊎ ((marked_number ((line row).gives r o n) ≡ Some n) × (marked_number ((line row).gives r o v) ≡ Some v))
unfolding marked_number immediate
end_mark (AluEax op) r o n v e = compared_number op n v
end_mark (AluWord op) r o n v e = compared_number op n v
end_mark MovLoadEax r o n v e = inl (refl, refl)
end_mark MovStoreEax r o n v e = inl (refl, refl)
end_mark (MovReg d) r o n v e = inr (refl, refl)
end_mark MovWord r o n v e = inr (refl, refl)
end_mark TestEax r o n v e = inl (refl, refl)
end_mark TestWord r o n v e = inl (refl, refl)
end_mark Imul3Word r o n v e = inl (refl, refl)
end_mark PushWord r o n v e = inr (refl, refl)
end_mark CallRel r o n v e = inl (refl, refl)
end_mark JmpWord r o n v e = inl (refl, refl)
end_mark (JccWord cc) r o n v e = inl (refl, refl)
end_mark row r o n v e = absurd cc

-- ---- where whole words lie

-- an operand with a whole word is memory, and stays as long with another one
record Reworded (form : OperandForm) (w : WordedForm) (v : ℕ) : Type 0 where
  again : WordedForm
  worded_again : worded (w.with v) ≡ Some again
  before : length again.before ≡ length w.before
  long : (m : ModRm) (r : Reg) → length (modrm_bytes m r (w.with v)) ≡ length (modrm_bytes m r form)
  was : Mem
  was_memory : operand form ≡ M was
  now : Mem
  now_memory : operand (w.with v) ≡ M now

-- forms as long with one ModRM byte are so with each
modrm_long : (f g : OperandForm) → ((r : Reg) → length (modrm_bytes Register r f) ≡ length (modrm_bytes Register r g)) → (m : ModRm) (r : Reg) → length (modrm_bytes m r f) ≡ length (modrm_bytes m r g)
modrm_long f g h Absent r = refl
modrm_long f g h Register r = h r
modrm_long f g h Memory r = h r
modrm_long f g h (Digit d) r = h r

-- that of a form whose whole word is this
reworded_by : (form : OperandForm) (w x : WordedForm) (v : ℕ) → Some x ≡ Some w → Reworded form x v → Reworded form w v
reworded_by form w x v h r = subst (λ (y : WordedForm). Reworded form y v) (same_Some x w h) r

-- a form with another word
reworded : (form : OperandForm) (w : WordedForm) (v : ℕ) → worded form ≡ Some w → Reworded form w v
reworded (Direct r) w v h = absurd cc
reworded (Based b NoDisp) w v h = absurd cc
reworded (Based b (Disp8 d)) w v h = absurd cc
reworded (Based b (Disp32 d)) w v h = reworded_by (Based b (Disp32 d)) w (record { before = []; word = d; with = λ x. Based b (Disp32 x) }) v h (record {
  again = record { before = []; word = v; with = λ x. Based b (Disp32 x) };
  worded_again = refl;
  before = refl;
  long = modrm_long (Based b (Disp32 v)) (Based b (Disp32 d)) (λ r. refl);
  was = record { base = Some b; index = None; scale = 0; disp = d };
  was_memory = refl;
  now = record { base = Some b; index = None; scale = 0; disp = v };
  now_memory = refl;
})
reworded (Absolute n) w v h = reworded_by (Absolute n) w (record { before = []; word = n; with = λ x. Absolute x }) v h (record {
  again = record { before = []; word = v; with = λ x. Absolute x };
  worded_again = refl;
  before = refl;
  long = modrm_long (Absolute v) (Absolute n) (λ r. refl);
  was = record { base = None; index = None; scale = 0; disp = n };
  was_memory = refl;
  now = record { base = None; index = None; scale = 0; disp = v };
  now_memory = refl;
})
reworded (Indexed s i b NoDisp) w v h = absurd cc
reworded (Indexed s i b (Disp8 d)) w v h = absurd cc
reworded (Indexed s i b (Disp32 d)) w v h = reworded_by (Indexed s i b (Disp32 d)) w (record { before = (64 * s + 8 * number i + number b) ∷ []; word = d; with = λ x. Indexed s i b (Disp32 x) }) v h (record {
  again = record { before = (64 * s + 8 * number i + number b) ∷ []; word = v; with = λ x. Indexed s i b (Disp32 x) };
  worded_again = refl;
  before = refl;
  long = modrm_long (Indexed s i b (Disp32 v)) (Indexed s i b (Disp32 d)) (λ r. refl);
  was = record { base = Some b; index = index_register i; scale = scale_of i s; disp = d };
  was_memory = refl;
  now = record { base = Some b; index = index_register i; scale = scale_of i s; disp = v };
  now_memory = refl;
})
reworded (Unbased s i n) w v h = reworded_by (Unbased s i n) w (record { before = (64 * s + 8 * number i + 5) ∷ []; word = n; with = λ x. Unbased s i x }) v h (record {
  again = record { before = (64 * s + 8 * number i + 5) ∷ []; word = v; with = λ x. Unbased s i x };
  worded_again = refl;
  before = refl;
  long = modrm_long (Unbased s i v) (Unbased s i n) (λ r. refl);
  was = record { base = None; index = index_register i; scale = scale_of i s; disp = n };
  was_memory = refl;
  now = record { base = None; index = index_register i; scale = scale_of i s; disp = v };
  now_memory = refl;
})

-- how long the bytes before a whole word are
abbrev filling_place : Option Filling → Option ℕ
filling_place o = option_map (λ (f : Filling). length f.before) o

-- the word within a spelling: that of its form
record Inner (s : Spelling) (f : Filling) : Type 0 where
  word : WordedForm
  of_form : worded s.form ≡ Some word
  with_is : (v : ℕ) → f.with v ≡ other_form s (word.with v)
  places : (t : Spelling) (x : WordedForm) → t.row ≡ s.row → length x.before ≡ length word.before → filling_place (inner_word t (line s.row).modrm (Some x)) ≡ Some (length f.before)

-- how long the bytes before a word within are
inner_length : (code : List ℕ) (b : ℕ) (before : List ℕ) → length (code ++ b ∷ before) ≡ length code + 1 + length before
inner_length code b before = length-append code (b ∷ before) ∙ omega arith

-- the word within, where the ModRM byte is there
inner_some : (s : Spelling) (w : WordedForm) (f : Filling) → worded s.form ≡ Some w → inner_word s Register (Some w) ≡ Some f
    → ((t : Spelling) (x : WordedForm) → inner_word t (line s.row).modrm (Some x) ≡ inner_word t Register (Some x)) → Inner s f
inner_some s w f eo h eval =
    let same : ◌≡◌ {A = Filling} _ f = same_Some _ f h in
    record {
      word = w;
      of_form = eo;
      with_is = λ v. ap (λ (g : Filling). g.with v) (sym same);
      places = λ t x er el.
          let here = inner_length (line t.row).code (modrm_byte (number t.reg) t.form) x.before in
          let there = inner_length (line s.row).code (modrm_byte (number s.reg) s.form) w.before in
          let code = ap (λ (r : Row). length (line r).code) er in
          let long : length ((line t.row).code ++ modrm_byte (number t.reg) t.form ∷ x.before) ≡ length f.before = here ∙ omega (arith, code, el) ∙ sym there ∙ ap (λ (g : Filling). length g.before) same in
          ap filling_place (eval t x) ∙ ap Some long;
    }

-- the word within a spelling is its form's
inner_of : (s : Spelling) (m : ModRm) (o : Option WordedForm) (f : Filling) → (line s.row).modrm ≡ m → worded s.form ≡ o → inner_word s m o ≡ Some f → Inner s f
inner_of s Absent o f em eo h = absurd cc
inner_of s Register None f em eo h = absurd cc
inner_of s Memory None f em eo h = absurd cc
inner_of s (Digit d) None f em eo h = absurd cc
inner_of s Register (Some w) f em eo h = inner_some s w f eo h (λ t x. ap (λ m. inner_word t m (Some x)) em)
inner_of s Memory (Some w) f em eo h = inner_some s w f eo h (λ t x. ap (λ m. inner_word t m (Some x)) em)
inner_of s (Digit d) (Some w) f em eo h = inner_some s w f eo h (λ t x. ap (λ m. inner_word t m (Some x)) em)

-- another number at the end leaves the word within where it was
inner_number : (s : Spelling) (v : ℕ) (m : ModRm) (o : Option WordedForm) → filling_place (inner_word (other_number s v) m o) ≡ filling_place (inner_word s m o)
inner_number s v Absent o = refl
inner_number s v Register None = refl
inner_number s v Memory None = refl
inner_number s v (Digit d) None = refl
inner_number s v Register (Some w) = refl
inner_number s v Memory (Some w) = refl
inner_number s v (Digit d) (Some w) = refl

-- and the word at the end
end_number : (s : Spelling) (v : ℕ) (t : Trailing) → filling_place (end_word (other_number s v) t) ≡ filling_place (end_word s t)
end_number s v Nothing = refl
end_number s v Byte = refl
end_number s v Word = refl

-- another form that is as long does so, too
end_form : (s : Spelling) (g : OperandForm) (t : Trailing) → length (modrm_bytes (line s.row).modrm s.reg g) ≡ length (modrm_bytes (line s.row).modrm s.reg s.form) → filling_place (end_word (other_form s g) t) ≡ filling_place (end_word s t)
end_form s g Nothing h = refl
end_form s g Byte h = refl
end_form s g Word h =
    ap Some (length-append (line s.row).code (modrm_bytes (line s.row).modrm s.reg g) ∙ ap (λ n. length (line s.row).code + n) h
    ∙ sym (length-append (line s.row).code (modrm_bytes (line s.row).modrm s.reg s.form)))

-- two places each
whole_places : (a b c d : Option ℕ) → a ≡ b → c ≡ d → ◌≡◌ {A = WholeWords} (record { within = a; at_end = c }) (record { within = b; at_end = d })
whole_places a b c d e f = ap (λ x. record { within = x; at_end = c }) e ∙ ap (λ x. record { within = b; at_end = x }) f

-- with another word within, and at the end, the whole words lie where they were
pub within_places : (s : Spelling) (f : Filling) (v : ℕ) → whole_word Within s ≡ Some f → word_offsets (f.with v) ≡ word_offsets s
unfolding whole_word
within_places s f v h =
    let i = inner_of s (line s.row).modrm (worded s.form) f refl refl h in
    let w : WordedForm = i.word in
    let r = reworded s.form w v i.of_form in
    ap word_offsets (i.with_is v)
    ∙ whole_places _ _ _ _ (ap (λ (o : Option WordedForm). filling_place (inner_word (other_form s (w.with v)) (line s.row).modrm o)) r.worded_again ∙ i.places (other_form s (w.with v)) r.again refl r.before ∙ ap filling_place (sym h))
    (end_form s (w.with v) (line s.row).trailing (r.long (line s.row).modrm s.reg))

-- a word at the end is the number there
end_is : (s : Spelling) (t : Trailing) (f : Filling) → end_word s t ≡ Some f → (t ≡ Word) × ((v : ℕ) → f.with v ≡ other_number s v)
end_is s Nothing f h = absurd cc
end_is s Byte f h = absurd cc
end_is s Word f h = let same : ◌≡◌ {A = Filling} _ f = same_Some _ f h in (refl, λ v. ap (λ (g : Filling). g.with v) (sym same))

-- so they do with another word at the end
pub end_places : (s : Spelling) (f : Filling) (v : ℕ) → whole_word AtEnd s ≡ Some f → word_offsets (f.with v) ≡ word_offsets s
unfolding whole_word
end_places s f v h =
    let e = end_is s (line s.row).trailing f h in
    ap word_offsets (e.1 v) ∙ whole_places _ _ _ _ (inner_number s v (line s.row).modrm (worded s.form)) (end_number s v (line s.row).trailing)

-- ---- immediate numbers with another word

-- the immediate number does not hang on the word within
pub within_mark : (s : Spelling) (f : Filling) (v : ℕ) → whole_word Within s ≡ Some f → marked_number (meaning (f.with v)) ≡ marked_number (meaning s)
unfolding whole_word
within_mark s f v h =
    let i = inner_of s (line s.row).modrm (worded s.form) f refl refl h in
    let w : WordedForm = i.word in
    let r = reworded s.form w v i.of_form in
    ap (λ (t : Spelling). marked_number (meaning t)) (i.with_is v) ∙ ap (λ (o : Operand). marked_number ((line s.row).gives s.reg o s.number)) r.now_memory
    ∙ memory_mark s.row s.reg r.now r.was s.number ∙ sym (ap (λ (o : Operand). marked_number ((line s.row).gives s.reg o s.number)) r.was_memory)

-- it is the word at the end, or there is none
pub end_marks : (s : Spelling) (f : Filling) (v : ℕ) → whole_word AtEnd s ≡ Some f
    → ((marked_number (meaning s) ≡ None) × (marked_number (meaning (f.with v)) ≡ None)) ⊎ ((marked_number (meaning s) ≡ Some s.number) × (marked_number (meaning (f.with v)) ≡ Some v))
unfolding whole_word
end_marks s f v h =
    let e = end_is s (line s.row).trailing f h in
    let with_is = ap (λ (t : Spelling). marked_number (meaning t)) (e.1 v) in
    elim (end_mark s.row s.reg (operand s.form) s.number v e.0) [ inl m ↦ inl (m.0, with_is ∙ m.1) | inr m ↦ inr (m.0, with_is ∙ m.1) ]
