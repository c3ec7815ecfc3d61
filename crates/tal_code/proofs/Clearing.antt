-- What becomes of the whole words of a spelling when one of them is cleared.
use Rattle.std.proofs.Common.{◌≡◌, ℕ, suc, ◌+◌, ◌≤◌, List, [], ◌∷◌, ◌++◌, length, Option, Some, None, refl, sym, ap, subst, ◌∙◌, arith}
use Rattle.std.proofs.lemmas.List.{length-append}
use Rattle.ia32_code.specs.declared.spelling.Spelling.{Spelling}
use Rattle.ia32_code.specs.declared.operand_form.OperandForm.{OperandForm}
use Rattle.ia32_code.specs.declared.operand_form.OperandForm.TheVariants.{Direct, Based, Absolute, Indexed, Unbased}
use Rattle.ia32_code.specs.declared.operand_form.Displacement.TheVariants.{NoDisp, Disp8, Disp32}
use Rattle.ia32_code.specs.declared.row.ModRm.{ModRm}
use Rattle.ia32_code.specs.declared.row.ModRm.TheVariants.{Absent, Register, Memory, Digit}
use Rattle.ia32_code.specs.declared.row.Trailing.{Trailing}
use Rattle.ia32_code.specs.declared.row.Trailing.TheVariants.{Nothing, Byte, Word}
use Rattle.ia32_code.specs.OperandForms.{number, modrm_byte, after_modrm}
use Rattle.ia32_code.specs.Table.{line}
use Rattle.ia32_code.specs.Spells.{modrm_bytes, trailing_bytes}
use Rattle.ia32_code.specs.WholeWords.{WordPlace, Within, AtEnd, Filling, WordedForm, worded, inner_word, end_word, whole_word, other_form, other_number}
use Rattle.tal_code.proofs.Spellings.{some_is_one}

-- a whole word of a spelling begins so many bytes into it, and is this
pub record IsWordAt (place : WordPlace) (s : Spelling) (k word : ℕ) : Type 0 where
  pub filling : Filling
  pub there : whole_word place s ≡ Some filling
  pub at : length filling.before ≡ k
  pub is : filling.word ≡ word

-- ---- the word at the end

-- that of a spelling
abbrev pub word_at_end : Spelling → Filling
word_at_end s = record {
  before = (line s.row).code ++ modrm_bytes (line s.row).modrm s.reg s.form;
  word = s.number;
  behind = [];
  with = λ v. other_number s v;
}

-- A word at the end is the number there, and each spelling of the row has one.
pub record IsEnd (s : Spelling) (f : Filling) : Type 0 where
  pub is : f ≡ word_at_end s
  pub used : (t : Spelling) → t.row ≡ s.row → whole_word AtEnd t ≡ Some (word_at_end t)

by_end : (s : Spelling) (f : Filling) (t : Trailing) → (line s.row).trailing ≡ t → end_word s t ≡ Some f → IsEnd s f
unfolding whole_word
by_end s f Nothing e is = cc
by_end s f Byte e is = cc
by_end s f Word e is = record { is = sym (some_is_one _ f is); used = λ t row. rw (row, e) refl }

pub end_is : (s : Spelling) (f : Filling) → whole_word AtEnd s ≡ Some f → IsEnd s f
unfolding whole_word
end_is s f is = by_end s f (line s.row).trailing refl is

-- When it is cleared it is 0.
pub end_cleared : (s : Spelling) (f : Filling) → whole_word AtEnd s ≡ Some f → IsWordAt AtEnd (f.with 0) (length f.before) 0
end_cleared s f is =
    let e = end_is s f is in
    subst (λ (f : Filling). IsWordAt AtEnd (f.with 0) (length f.before) 0) (sym e.is) (record { filling = _; there = e.used (other_number s 0) refl; at = refl; is = refl })

-- ---- the word within

-- a form that has a word has one still when this is 0
abbrev pub Again : WordedForm → Type 0
Again w = (x : WordedForm) × (worded (w.with 0) ≡ Some x) × (x.word ≡ 0) × (length x.before ≡ length w.before)

worded_again : (form : OperandForm) (w : WordedForm) → worded form ≡ Some w → Again w
worded_again (Direct r) w e = cc
worded_again (Based b NoDisp) w e = cc
worded_again (Based b (Disp8 d)) w e = cc
worded_again (Based b (Disp32 d)) w e = subst Again (some_is_one _ w e) (_, refl, refl, refl)
worded_again (Absolute n) w e = subst Again (some_is_one _ w e) (_, refl, refl, refl)
worded_again (Indexed s i b NoDisp) w e = cc
worded_again (Indexed s i b (Disp8 d)) w e = cc
worded_again (Indexed s i b (Disp32 d)) w e = subst Again (some_is_one _ w e) (_, refl, refl, refl)
worded_again (Unbased s i n) w e = subst Again (some_is_one _ w e) (_, refl, refl, refl)

-- The word of a form lies in the bytes behind the ModRM byte.
within_form : (form : OperandForm) (w : WordedForm) → worded form ≡ Some w → length w.before + 4 ≤ length (after_modrm form)
within_form (Direct r) w e = cc
within_form (Based b NoDisp) w e = cc
within_form (Based b (Disp8 d)) w e = cc
within_form (Based b (Disp32 d)) w e = subst (λ (w : WordedForm). length w.before + 4 ≤ 4) (some_is_one _ w e) (omega arith)
within_form (Absolute n) w e = subst (λ (w : WordedForm). length w.before + 4 ≤ 4) (some_is_one _ w e) (omega arith)
within_form (Indexed s i b NoDisp) w e = cc
within_form (Indexed s i b (Disp8 d)) w e = cc
within_form (Indexed s i b (Disp32 d)) w e = subst (λ (w : WordedForm). length w.before + 4 ≤ 5) (some_is_one _ w e) (omega arith)
within_form (Unbased s i n) w e = subst (λ (w : WordedForm). length w.before + 4 ≤ 5) (some_is_one _ w e) (omega arith)

-- the word within a spelling, by that of its form
abbrev pub word_in : Spelling → WordedForm → Filling
word_in s w = record {
  before = (line s.row).code ++ modrm_byte (number s.reg) s.form ∷ w.before;
  word = w.word;
  behind = trailing_bytes (line s.row).trailing s.number;
  with = λ v. other_form s (w.with v);
}

-- A word within is that of the form behind a ModRM byte, and each spelling of the row with such a form has one.
pub record IsInner (s : Spelling) (f : Filling) : Type 0 where
  pub form : WordedForm
  pub worded_is : worded s.form ≡ Some form
  pub is : f ≡ word_in s form
  pub modrm : modrm_bytes (line s.row).modrm s.reg s.form ≡ modrm_byte (number s.reg) s.form ∷ after_modrm s.form
  pub used : (t : Spelling) (w : WordedForm) → t.row ≡ s.row → worded t.form ≡ Some w → whole_word Within t ≡ Some (word_in t w)

by_modrm : (s : Spelling) (f : Filling) (m : ModRm) (o : Option WordedForm) → (line s.row).modrm ≡ m → worded s.form ≡ o → inner_word s m o ≡ Some f → IsInner s f
unfolding whole_word
by_modrm s f Absent o e worded_is is = cc
by_modrm s f Register None e worded_is is = cc
by_modrm s f Register (Some w) e worded_is is = record { form = w; worded_is = worded_is; is = sym (some_is_one _ f is); modrm = rw e refl; used = λ t x row has. rw (row, e, has) refl }
by_modrm s f Memory None e worded_is is = cc
by_modrm s f Memory (Some w) e worded_is is = record { form = w; worded_is = worded_is; is = sym (some_is_one _ f is); modrm = rw e refl; used = λ t x row has. rw (row, e, has) refl }
by_modrm s f (Digit g) None e worded_is is = cc
by_modrm s f (Digit g) (Some w) e worded_is is = record { form = w; worded_is = worded_is; is = sym (some_is_one _ f is); modrm = rw e refl; used = λ t x row has. rw (row, e, has) refl }

pub inner_is : (s : Spelling) (f : Filling) → whole_word Within s ≡ Some f → IsInner s f
unfolding whole_word
inner_is s f is = by_modrm s f (line s.row).modrm (worded s.form) refl refl is

-- as many bytes before
as_long : (code a b : List ℕ) (x y : ℕ) → length a ≡ length b → length (code ++ x ∷ a) ≡ length (code ++ y ∷ b)
as_long code a b x y is = length-append code (x ∷ a) ∙ ap (λ n. length code + suc n) is ∙ sym (length-append code (y ∷ b))

-- When it is cleared it is 0.
pub inner_cleared : (s : Spelling) (f : Filling) → whole_word Within s ≡ Some f → IsWordAt Within (f.with 0) (length f.before) 0
inner_cleared s f is =
    let i = inner_is s f is in
    let (x, has, zero, long) = worded_again s.form i.form i.worded_is in
    subst (λ (f : Filling). IsWordAt Within (f.with 0) (length f.before) 0) (sym i.is)
    (record { filling = _; there = i.used (other_form s (i.form.with 0)) x refl has; at = as_long (line s.row).code x.before i.form.before _ _ long; is = zero })

-- Another number at the end leaves it.
pub inner_kept : (s : Spelling) (n k word : ℕ) → IsWordAt Within s k word → IsWordAt Within (other_number s n) k word
inner_kept s n k word w =
    let i = inner_is s w.filling w.there in
    record {
      filling = word_in (other_number s n) i.form;
      there = i.used (other_number s n) i.form refl i.worded_is;
      at = ap (λ (f : Filling). length f.before) (sym i.is) ∙ w.at;
      is = ap (λ (f : Filling). f.word) (sym i.is) ∙ w.is;
    }

-- The word within ends before the one at the end.
pub in_order : (s : Spelling) (j k v w : ℕ) → IsWordAt Within s j v → IsWordAt AtEnd s k w → j + 4 ≤ k
in_order s j k v w a b =
    let i = inner_is s a.filling a.there in
    let e = end_is s b.filling b.there in
    let room = within_form s.form i.form i.worded_is in
    let front : j ≡ length (line s.row).code + suc (length i.form.before) =
    sym a.at ∙ ap (λ (f : Filling). length f.before) i.is ∙ length-append (line s.row).code _ in
    let all : k ≡ length (line s.row).code + suc (length (after_modrm s.form)) =
    sym b.at ∙ ap (λ (f : Filling). length f.before) e.is ∙ length-append (line s.row).code _ ∙ ap (λ (x : List ℕ). length (line s.row).code + length x) i.modrm in
    omega (arith, front, all, room)

-- ---- what is left of a spelling whose row is the same

-- A word within is cleared: the row is the same, the number is, and the word at the end is where it was.
pub inner_row : (s : Spelling) (f : Filling) (v : ℕ) → whole_word Within s ≡ Some f → ((f.with v).row ≡ s.row) × ((f.with v).number ≡ s.number)
inner_row s f v is =
    let i = inner_is s f is in
    (ap (λ (f : Filling). (f.with v).row) i.is, ap (λ (f : Filling). (f.with v).number) i.is)

-- A word at the end is cleared: the row is the same, and the number is 0.
pub end_row : (s : Spelling) (f : Filling) (v : ℕ) → whole_word AtEnd s ≡ Some f → f.with v ≡ other_number s v
end_row s f v is = ap (λ (f : Filling). f.with v) (end_is s f is).is
