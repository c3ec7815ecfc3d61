-- Any word may stand where a whole word stands.
use Rattle.std.proofs.Common.{ℕ, ◌≡◌, ◌<◌, ◌^◌, List, [], ◌∷◌, ◌++◌, Option, Some, None, refl, sym, ap, subst, ◌∙◌, append_assoc, length, arith}
use Rattle.std.proofs.lemmas.List.{append-nil, length-append}
use Rattle.std.specs.Int.{w32, to_le_bytes}
use Rattle.ia32_code.specs.declared.instruction.Reg.{Reg}
use Rattle.ia32_code.specs.declared.spelling.Spelling.{Spelling}
use Rattle.ia32_code.specs.declared.row.ModRm.{ModRm}
use Rattle.ia32_code.specs.declared.row.ModRm.TheVariants.{Absent, Register, Memory, Digit}
use Rattle.ia32_code.specs.declared.row.Trailing.{Trailing}
use Rattle.ia32_code.specs.declared.row.Trailing.TheVariants.{Nothing, Byte, Word}
use Rattle.ia32_code.specs.declared.operand_form.Displacement.TheVariants.{NoDisp, Disp8, Disp32}
use Rattle.ia32_code.specs.declared.operand_form.OperandForm.{OperandForm}
use Rattle.ia32_code.specs.declared.operand_form.OperandForm.TheVariants.{Direct, Based, Absolute, Indexed, Unbased}
use Rattle.ia32_code.specs.OperandForms.{number, modrm_byte, after_modrm, FormFits, IsMemory}
use Rattle.ia32_code.specs.Table.{line}
use Rattle.ia32_code.specs.Spells.{modrm_bytes, trailing_bytes, ModRmFits, TrailingFits, Filled, text}
use Rattle.ia32_code.specs.WholeWords.{WordPlace, Within, AtEnd, WordedForm, worded, Filling, other_form, other_number, inner_word, end_word, whole_word, Fillable, EndStays}

some_is : {A : Type 0} (x y : A) → Some x ≡ Some y → x ≡ y
some_is x y e = cc

-- the word at the end
end_fills : (s : Spelling) (t : Trailing) (f : Filling) → Filled s → (line s.row).trailing ≡ t → end_word s t ≡ Some f → Fillable s f
end_fills s Nothing f fits e h = cc
end_fills s Byte f fits e h = cc
end_fills s Word f fits e h = subst (Fillable s) (some_is _ _ h) (record { has = bytes s.number; filled = filled; text_is = λ w. bytes w })
  where
    bytes : (w : ℕ) → text (other_number s w) ≡ ((line s.row).code ++ modrm_bytes (line s.row).modrm s.reg s.form) ++ to_le_bytes w32 w ++ []
    bytes w = rw e (sym (append-nil (((line s.row).code ++ modrm_bytes (line s.row).modrm s.reg s.form) ++ to_le_bytes w32 w)))

    filled : (w : ℕ) → w < 2 ^ 32 → Filled (other_number s w)
    filled w small = record { row = fits.row; modrm = fits.modrm; trailing = subst (λ t. TrailingFits t w) (sym e) small }

-- the whole word of an operand form may be another
record WordedFits (form : OperandForm) (w : WordedForm) : Type 0 where
  fits : (v : ℕ) → v < 2 ^ 32 → FormFits (w.with v)
  byte : (g v : ℕ) → modrm_byte g (w.with v) ≡ modrm_byte g form
  after : (v : ℕ) → after_modrm (w.with v) ≡ w.before ++ to_le_bytes w32 v
  own : after_modrm form ≡ w.before ++ to_le_bytes w32 w.word
  memory : (v : ℕ) → IsMemory (w.with v)

worded_fits : (form : OperandForm) (w : WordedForm) → worded form ≡ Some w → FormFits form → WordedFits form w
worded_fits (Direct r) w h k = cc
worded_fits (Based b NoDisp) w h k = cc
worded_fits (Based b (Disp8 d)) w h k = cc
worded_fits (Based b (Disp32 d)) w h k =
    subst (WordedFits (Based b (Disp32 d))) (some_is _ _ h) (record { fits = λ v l. (k.0, k.1, l); byte = λ g v. refl; after = λ v. refl; own = refl; memory = λ v. tt })
worded_fits (Absolute n) w h k =
    subst (WordedFits (Absolute n)) (some_is _ _ h) (record { fits = λ v l. l; byte = λ g v. refl; after = λ v. refl; own = refl; memory = λ v. tt })
worded_fits (Indexed s i b NoDisp) w h k = cc
worded_fits (Indexed s i b (Disp8 d)) w h k = cc
worded_fits (Indexed s i b (Disp32 d)) w h k =
    subst (WordedFits (Indexed s i b (Disp32 d))) (some_is _ _ h) (record { fits = λ v l. (k.0, k.1, l); byte = λ g v. refl; after = λ v. refl; own = refl; memory = λ v. tt })
worded_fits (Unbased s i n) w h k =
    subst (WordedFits (Unbased s i n)) (some_is _ _ h) (record { fits = λ v l. (k.0, l); byte = λ g v. refl; after = λ v. refl; own = refl; memory = λ v. tt })

form_fits : (m : ModRm) (r : Reg) (f : OperandForm) → (m ≡ Absent → ⊥) → ModRmFits m r f → FormFits f
form_fits Absent r f n h = absurd (n refl)
form_fits Register r f n h = h
form_fits Memory r f n h = h.0
form_fits (Digit g) r f n h = h.0

other_fits : (m : ModRm) (r : Reg) (f : OperandForm) (w : WordedForm) (v : ℕ) → v < 2 ^ 32 → WordedFits f w → (m ≡ Absent → ⊥) → ModRmFits m r f → ModRmFits m r (w.with v)
other_fits Absent r f w v l ok n h = absurd (n refl)
other_fits Register r f w v l ok n h = ok.fits v l
other_fits Memory r f w v l ok n h = (ok.fits v l, ok.memory v)
other_fits (Digit g) r f w v l ok n h = (ok.fits v l, h.1)

-- the bytes of an operand with a whole word
modrm_text : (m : ModRm) (r : Reg) (f : OperandForm) → (m ≡ Absent → ⊥) → modrm_bytes m r f ≡ modrm_byte (number r) f ∷ after_modrm f
modrm_text Absent r f n = absurd (n refl)
modrm_text Register r f n = refl
modrm_text Memory r f n = refl
modrm_text (Digit g) r f n = refl

inner_word_is : (s : Spelling) (m : ModRm) (w : WordedForm) (f : Filling) → (m ≡ Absent → ⊥) → inner_word s m (Some w) ≡ Some f → inner_word s Register (Some w) ≡ Some f
inner_word_is s Absent w f n h = absurd (n refl)
inner_word_is s Register w f n h = h
inner_word_is s Memory w f n h = h
inner_word_is s (Digit g) w f n h = h

word_fills : (s : Spelling) (w : WordedForm) (f : Filling) → Filled s → ((line s.row).modrm ≡ Absent → ⊥) → worded s.form ≡ Some w → inner_word s Register (Some w) ≡ Some f → Fillable s f
word_fills s w f fits n e h = subst (Fillable s) (some_is _ _ h) (record { has = own; filled = filled; text_is = bytes })
  where
    ok : WordedFits s.form w
    ok = worded_fits s.form w e (form_fits (line s.row).modrm s.reg s.form n fits.modrm)

    move : (code tail le : List ℕ) (m : ℕ) (before : List ℕ) → (code ++ (m ∷ (before ++ le))) ++ tail ≡ ((code ++ (m ∷ before)) ++ le) ++ tail
    move code tail le m before = ap (λ z. z ++ tail) (sym (append_assoc code (m ∷ before) le))

    bytes : (v : ℕ) → text (other_form s (w.with v)) ≡ (((line s.row).code ++ (modrm_byte (number s.reg) s.form ∷ w.before)) ++ to_le_bytes w32 v) ++ trailing_bytes (line s.row).trailing s.number
    bytes v =
        ap (λ z. ((line s.row).code ++ z) ++ trailing_bytes (line s.row).trailing s.number)
        (modrm_text (line s.row).modrm s.reg (w.with v) n ∙ ap (λ z. z ∷ after_modrm (w.with v)) (ok.byte (number s.reg) v) ∙ ap (λ z. modrm_byte (number s.reg) s.form ∷ z) (ok.after v))
        ∙ move (line s.row).code (trailing_bytes (line s.row).trailing s.number) (to_le_bytes w32 v) (modrm_byte (number s.reg) s.form) w.before

    own : text s ≡ (((line s.row).code ++ (modrm_byte (number s.reg) s.form ∷ w.before)) ++ to_le_bytes w32 w.word) ++ trailing_bytes (line s.row).trailing s.number
    own =
        ap (λ z. ((line s.row).code ++ z) ++ trailing_bytes (line s.row).trailing s.number)
        (modrm_text (line s.row).modrm s.reg s.form n ∙ ap (λ z. modrm_byte (number s.reg) s.form ∷ z) ok.own)
        ∙ move (line s.row).code (trailing_bytes (line s.row).trailing s.number) (to_le_bytes w32 w.word) (modrm_byte (number s.reg) s.form) w.before

    filled : (v : ℕ) → v < 2 ^ 32 → Filled (other_form s (w.with v))
    filled v l = record { row = fits.row; modrm = other_fits (line s.row).modrm s.reg s.form w v l ok n fits.modrm; trailing = fits.trailing }

no_word : (s : Spelling) (m : ModRm) (f : Filling) → inner_word s m None ≡ Some f → ⊥
no_word s Absent f h = cc
no_word s Register f h = cc
no_word s Memory f h = cc
no_word s (Digit g) f h = cc

-- the word within
inner_fills : (s : Spelling) (o : Option WordedForm) (f : Filling) → Filled s → worded s.form ≡ o → inner_word s (line s.row).modrm o ≡ Some f → Fillable s f
inner_fills s None f fits e h = absurd (no_word s (line s.row).modrm f h)
inner_fills s (Some w) f fits e h =
    let n : (line s.row).modrm ≡ Absent → ⊥ = λ a. (let k : inner_word s Absent (Some w) ≡ Some f = ap (λ m. inner_word s m (Some w)) (sym a) ∙ h in none_is k) in
    word_fills s w f fits n e (inner_word_is s (line s.row).modrm w f n h)
  where
    none_is : {A : Type 0} {x : A} → None ≡ Some x → ⊥
    none_is k = cc

-- any word may stand at any place
pub fills : (h : WordPlace) (s : Spelling) (f : Filling) → Filled s → whole_word h s ≡ Some f → Fillable s f
unfolding whole_word
fills Within s f fits e = inner_fills s (worded s.form) f fits refl e
fills AtEnd s f fits e = end_fills s (line s.row).trailing f fits refl e

-- ---- two words

same_length : (code : List ℕ) (m : ℕ) (before x y : List ℕ) → length x ≡ length y → length (code ++ (m ∷ (before ++ x))) ≡ length (code ++ (m ∷ (before ++ y)))
same_length code m before x y e =
    let a = length-append code (m ∷ (before ++ x)) in
    let b = length-append code (m ∷ (before ++ y)) in
    let c = length-append before x in
    let d = length-append before y in
    omega arith

end_of : (s : Spelling) (t : Trailing) (g : Filling) → end_word s t ≡ Some g → (t ≡ Word) × (g.word ≡ s.number) × (g.before ≡ (line s.row).code ++ modrm_bytes (line s.row).modrm s.reg s.form)
end_of s Nothing g h = cc
end_of s Byte g h = cc
end_of s Word g h = let k = some_is _ _ h in (refl, ap (λ (x : Filling). x.word) (sym k), ap (λ (x : Filling). x.before) (sym k))

stays : (s : Spelling) (w : WordedForm) (f g : Filling) (v : ℕ) → ((line s.row).modrm ≡ Absent → ⊥) → WordedFits s.form w → inner_word s Register (Some w) ≡ Some f
    → (line s.row).trailing ≡ Word → g.word ≡ s.number → g.before ≡ (line s.row).code ++ modrm_bytes (line s.row).modrm s.reg s.form → EndStays s f g v
unfolding whole_word
stays s w f g v n ok h e word before = subst (λ (x : Filling). EndStays s x g v) (some_is _ _ h) (record { at_end = at_end; there = there; place = place; word = sym word })
  where
    at_end : Filling
    at_end = record {
      before = (line s.row).code ++ modrm_bytes (line s.row).modrm s.reg (w.with v);
      word = s.number;
      behind = [];
      with = λ u. other_number (other_form s (w.with v)) u;
    }

    there : end_word (other_form s (w.with v)) (line s.row).trailing ≡ Some at_end
    there = rw e refl

    place : length ((line s.row).code ++ modrm_bytes (line s.row).modrm s.reg (w.with v)) ≡ length g.before
    place =
        let code = (line s.row).code in
        let m = modrm_byte (number s.reg) s.form in
        let one : modrm_bytes (line s.row).modrm s.reg (w.with v) ≡ m ∷ (w.before ++ to_le_bytes w32 v) =
        modrm_text (line s.row).modrm s.reg (w.with v) n ∙ ap (λ z. z ∷ after_modrm (w.with v)) (ok.byte (number s.reg) v) ∙ ap (λ z. m ∷ z) (ok.after v) in
        let other : modrm_bytes (line s.row).modrm s.reg s.form ≡ m ∷ (w.before ++ to_le_bytes w32 w.word) =
        modrm_text (line s.row).modrm s.reg s.form n ∙ ap (λ z. m ∷ z) ok.own in
        ap (λ z. length (code ++ z)) one
        ∙ same_length code m w.before (to_le_bytes w32 v) (to_le_bytes w32 w.word) refl
        ∙ sym (ap length before ∙ ap (λ z. length (code ++ z)) other)

split : (s : Spelling) (o : Option WordedForm) (f g : Filling) (v : ℕ) → Filled s → worded s.form ≡ o → inner_word s (line s.row).modrm o ≡ Some f → whole_word AtEnd s ≡ Some g → EndStays s f g v
unfolding whole_word
split s None f g v fits e h k = absurd (no_word s (line s.row).modrm f h)
split s (Some w) f g v fits e h k =
    let n : (line s.row).modrm ≡ Absent → ⊥ = λ a. (let q : inner_word s Absent (Some w) ≡ Some f = ap (λ m. inner_word s m (Some w)) (sym a) ∙ h in none_is q) in
    let ends = end_of s (line s.row).trailing g k in
    stays s w f g v n (worded_fits s.form w e (form_fits (line s.row).modrm s.reg s.form n fits.modrm)) (inner_word_is s (line s.row).modrm w f n h) ends.0 ends.1 ends.2
  where
    none_is : {A : Type 0} {x : A} → None ≡ Some x → ⊥
    none_is k = cc

-- another word within leaves that at the end
pub end_stays : (s : Spelling) (f g : Filling) (v : ℕ) → Filled s → whole_word Within s ≡ Some f → whole_word AtEnd s ≡ Some g → EndStays s f g v
unfolding whole_word
end_stays s f g v fits h k = split s (worded s.form) f g v fits refl h k
