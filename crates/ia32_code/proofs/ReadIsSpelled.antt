-- What is read is spelled, and what is spelled is read.
use Rattle.std.proofs.Common.{◌≡◌, ◌≢◌, ℕ, ◌/◌, ◌%◌, ◌<◌, false, eqb, List, [], ◌∷◌, ◌++◌, Option, Some, None, Ok, Err, refl, sym, ap, subst, ◌∙◌, append_assoc, arith, inl, inr}
use Rattle.std.proofs.lemmas.Bool.{eqb-true, eqb-false, ne_eqb, cases_Bool}
use Rattle.std.proofs.lemmas.List.{append-nil}
use Rattle.ia32_code.specs.declared.instruction.Reg.{Reg}
use Rattle.ia32_code.specs.declared.instruction.Reg.TheVariants.{Eax}
use Rattle.ia32_code.specs.declared.instruction.Inst.{Inst}
use Rattle.ia32_code.specs.declared.row.Row.{Row}
use Rattle.ia32_code.specs.declared.spelling.Spelling.{Spelling}
use Rattle.ia32_code.specs.declared.row.ModRm.{ModRm}
use Rattle.ia32_code.specs.declared.row.ModRm.TheVariants.{Absent, Register, Memory, Digit}
use Rattle.ia32_code.specs.declared.row.Trailing.{Trailing}
use Rattle.ia32_code.specs.declared.row.Trailing.TheVariants.{Nothing, Byte, Word}
use Rattle.ia32_code.specs.declared.reading.Stop.TheVariants.{Short, Unknown}
use Rattle.ia32_code.specs.OperandForms.{reg, number, modrm_byte, after_modrm, FormFits, IsMemory}
use Rattle.ia32_code.specs.declared.operand_form.OperandForm.{OperandForm}
use Rattle.ia32_code.specs.declared.operand_form.OperandForm.TheVariants.{Direct, Based, Absolute, Indexed, Unbased}
use Rattle.ia32_code.specs.Table.{line}
use Rattle.ia32_code.specs.Spells.{modrm_bytes, trailing_bytes, ModRmFits, TrailingFits, Filled, text, meaning, Spells}
use Rattle.ia32_code.specs.Canonical.{fill}
use Rattle.ia32_code.specs.Opcodes.{row_with, row_with_digit}
use Rattle.ia32_code.specs.Reading.{seq, byte_at, form_at, trailing_at, modrm_at, end_at, digit_at, by_modrm_at, opened_at, spelling_at}
use Rattle.ia32_code.proofs.TakesFront.{IsBytes, IsBytes-append, ok_is}
use Rattle.ia32_code.proofs.Readers.{Whole-form_at, TakesFront_spelling_at}
use Rattle.ia32_code.proofs.OperandForms.{chosen, seq_ok, seq_done, word_again, word_takes, form_again, form_takes, modrm_middle, reg-number, number_below, number-reg, mode_below}
use Rattle.ia32_code.proofs.OpcodeRows.{Leads, leads, IsLine, row_of_code, row_of_digit}

-- ---- what is spelled is read

-- a number that was spelled is read
size_again : (s : Trailing) (n : ℕ) (more : List ℕ) → TrailingFits s n → trailing_at s (trailing_bytes s n ++ more) ≡ Ok (n, more)
unfolding trailing_at
size_again Nothing n more h = rw h refl
size_again Byte n more h = refl
size_again Word n more h = word_again n more h

-- the end of a row is read
end_again : (row : Row) (r : Reg) (f : OperandForm) (n : ℕ) (more : List ℕ) → TrailingFits (line row).trailing n
    → end_at row r f (trailing_bytes (line row).trailing n ++ more) ≡ Ok (fill row r f n, more)
unfolding end_at
end_again row r f n more h = rw (size_again (line row).trailing n more h) refl

-- a form and the end of a row are read
modrm_again : (row : Row) (r : Reg) (f : OperandForm) (n : ℕ) (more : List ℕ) → FormFits f → TrailingFits (line row).trailing n
    → modrm_at row (modrm_byte (number r) f) (after_modrm f ++ (trailing_bytes (line row).trailing n ++ more)) ≡ Ok (fill row r f n, more)
unfolding modrm_at
modrm_again row r f n more ff sf =
    rw
    (form_again (number r) f (trailing_bytes (line row).trailing n ++ more) (number_below r) ff, modrm_middle (number r) f (number_below r), reg-number r)
    (end_again row r f n more sf)

-- a form in memory has not mode 3
in_memory : (g : ℕ) (f : OperandForm) → g < 8 → IsMemory f → eqb (modrm_byte g f / 64) 3 ≡ false
in_memory g (Direct r) lt h = absurd h
in_memory g (Based b d) lt h = ne_eqb (modrm_byte g (Based b d) / 64) 3 (λ e. omega (arith, number_below b, mode_below d))
in_memory g (Absolute n) lt h = ne_eqb (modrm_byte g (Absolute n) / 64) 3 (λ e. omega arith)
in_memory g (Indexed k i b d) lt h = ne_eqb (modrm_byte g (Indexed k i b d) / 64) 3 (λ e. omega (arith, mode_below d))
in_memory g (Unbased k i n) lt h = ne_eqb (modrm_byte g (Unbased k i n) / 64) 3 (λ e. omega arith)

-- the bytes of a row with a ModRM byte m, in another grouping
regroup : (code after end more : List ℕ) (m : ℕ) → (code ++ (m ∷ after) ++ end) ++ more ≡ code ++ m ∷ (after ++ (end ++ more))
regroup code after end more m = simp append_assoc

-- a row is read, by its ModRM byte
again_at : (sl : ModRm) (row : Row) (code : List ℕ) (r : Reg) (f : OperandForm) (n : ℕ) (more : List ℕ) → Leads sl row code → ModRmFits sl r f → TrailingFits (line row).trailing n
    → spelling_at ((code ++ modrm_bytes sl r f ++ trailing_bytes (line row).trailing n) ++ more) ≡ Ok (fill row r f n, more)
again_at Absent row code r f n more leads sf nf =
    let e : (code ++ [] ++ trailing_bytes (line row).trailing n) ++ more ≡ code ++ (trailing_bytes (line row).trailing n ++ more) = simp (append_assoc, append-nil) in
    rw (e, sf.0, sf.1, leads (trailing_bytes (line row).trailing n ++ more)) (end_again row Eax (Direct Eax) n more nf)
again_at Register row code r f n more leads sf nf =
    let m = modrm_byte (number r) f in
    let end = trailing_bytes (line row).trailing n in
    rw (regroup code (after_modrm f) end more m, leads m (after_modrm f ++ (end ++ more))) (modrm_again row r f n more sf nf)
again_at Memory row code r f n more leads sf nf =
    let m = modrm_byte (number r) f in
    let end = trailing_bytes (line row).trailing n in
    rw (regroup code (after_modrm f) end more m, leads m (after_modrm f ++ (end ++ more)) (in_memory (number r) f (number_below r) sf.1)) (modrm_again row r f n more sf.0 nf)
again_at (Digit g) row code r f n more leads sf nf =
    let m = modrm_byte (number r) f in
    let end = trailing_bytes (line row).trailing n in
    rw (regroup code (after_modrm f) end more m, leads m (after_modrm f ++ (end ++ more)) (modrm_middle (number r) f (number_below r) ∙ sf.1)) (modrm_again row r f n more sf.0 nf)

-- a filled row is read
pub again : (s : Spelling) (more : List ℕ) → Filled s → spelling_at (text s ++ more) ≡ Ok (s, more)
again s more h = again_at (line s.row).modrm s.row (line s.row).code s.reg s.form s.number more (leads s.row h.row) h.modrm h.trailing

-- what is spelled is read, whatever follows
pub spelled_again : (bytes more : List ℕ) (i : Inst) → (h : Spells bytes i) → spelling_at (bytes ++ more) ≡ Ok (h.spelling, more)
spelled_again bytes more i h = rw h.text_is (again h.spelling more h.fits)

-- ---- what is read is spelled

-- the bytes are those of a filled row
pub record SpelledBy (bytes : List ℕ) (s : Spelling) : Type 0 where
  pub fits : Filled s
  pub text_is : bytes ≡ text s

-- a number that is read was spelled
size_takes : (s : Trailing) (t : List ℕ) (n : ℕ) → IsBytes t → trailing_at s t ≡ Ok (n, []) → TrailingFits s n × (t ≡ trailing_bytes s n)
unfolding trailing_at
size_takes Nothing t n fits e =
    let k : (0, t) ≡ (n, []) = ok_is (0, t) (n, []) e in
    (sym (ap (λ (x : ℕ × List ℕ). x.0) k), ap (λ (x : ℕ × List ℕ). x.1) k)
size_takes Byte [] n fits e = absurd cc
size_takes Byte (b ∷ t) n fits e =
    let k : (b, t) ≡ (n, []) = ok_is (b, t) (n, []) e in
    let b-is : b ≡ n = ap (λ (x : ℕ × List ℕ). x.0) k in
    (subst (λ (x : ℕ). x < 256) b-is fits.0, ap (λ (x : ℕ). x ∷ t) b-is ∙ ap (λ (x : List ℕ). n ∷ x) (ap (λ (x : ℕ × List ℕ). x.1) k))
size_takes Word t n fits e = word_takes t n fits e

-- the number that was read at the end of a row
record EndOf (row : Row) (r : Reg) (f : OperandForm) (t : List ℕ) (s : Spelling) : Type 0 where
  number : ℕ
  fits : TrailingFits (line row).trailing number
  bytes_is : t ≡ trailing_bytes (line row).trailing number
  spelling_is : s ≡ fill row r f number

-- the end of a row that is read was spelled
end_takes : (row : Row) (r : Reg) (f : OperandForm) (t : List ℕ) (s : Spelling) → IsBytes t → end_at row r f t ≡ Ok (s, []) → EndOf row r f t s
unfolding end_at
end_takes row r f t s fits e =
    let w = seq_done (trailing_at (line row).trailing) (λ n. fill row r f n) t s (trailing_at (line row).trailing t) refl e in
    let k = size_takes (line row).trailing t w.0 fits w.1 in
    record { number = w.0; fits = k.0; bytes_is = k.1; spelling_is = w.2 }

-- parts of bytes are bytes
pub parts_fit : (s t : List ℕ) → IsBytes (s ++ t) → IsBytes s × IsBytes t
parts_fit [] t h = (tt, h)
parts_fit (b ∷ s) t h = let k = parts_fit s t h.1 in ((h.0, k.0), k.1)

-- the form and number that were read after a ModRM byte
record ModrmOf (row : Row) (m : ℕ) (t : List ℕ) (s : Spelling) : Type 0 where
  form : OperandForm
  number : ℕ
  form_fits : FormFits form
  fits : TrailingFits (line row).trailing number
  modrm_is : m ≡ modrm_byte (m / 8 % 8) form
  bytes_is : t ≡ after_modrm form ++ trailing_bytes (line row).trailing number
  spelling_is : s ≡ fill row (reg (m / 8 % 8)) form number
  memory : m / 64 ≢ 3 → IsMemory form

-- a form and the end of a row that are read were spelled
modrm_takes : (row : Row) (m : ℕ) (t : List ℕ) (s : Spelling) → m < 256 → IsBytes t → modrm_at row m t ≡ Ok (s, []) → ModrmOf row m t s
unfolding modrm_at
modrm_takes row m t s lt fits e =
    let w = seq_ok (form_at m) (λ f. end_at row (reg (m / 8 % 8)) f) t (s, []) (form_at m t) refl e in
    let took = (Whole-form_at m).takes.took t w.0.0 w.0.1 w.1 in
    let both = parts_fit took.text w.0.1 (subst IsBytes took.parts fits) in
    let whole : form_at m took.text ≡ Ok (w.0.0, []) = ap (form_at m) (sym (append-nil took.text)) ∙ took.reads [] in
    let f = form_takes m took.text w.0.0 lt both.0 whole in
    let n = end_takes row (reg (m / 8 % 8)) w.0.0 w.0.1 s both.1 w.2 in
    record {
      form = w.0.0;
      number = n.number;
      form_fits = f.fits;
      fits = n.fits;
      modrm_is = f.modrm_is;
      bytes_is = took.parts ∙ ap (λ (x : List ℕ). x ++ w.0.1) f.bytes_is ∙ ap (λ (x : List ℕ). after_modrm w.0.0 ++ x) n.bytes_is;
      spelling_is = n.spelling_is;
      memory = f.memory;
    }

-- a spelling with a ModRM byte
with_modrm : (row : Row) (sl : ModRm) (code : List ℕ) (m : ℕ) (t : List ℕ) (s : Spelling) → IsLine row code sl
    → ((r : Reg) (f : OperandForm) → modrm_bytes sl r f ≡ modrm_byte (number r) f ∷ after_modrm f) → (w : ModrmOf row m t s)
    → ModRmFits sl (reg (m / 8 % 8)) w.form → SpelledBy (code ++ m ∷ t) s
with_modrm row sl code m t s ln bytes w sf =
    let r = reg (m / 8 % 8) in
    let g : number (reg (m / 8 % 8)) ≡ m / 8 % 8 = number-reg (m / 8 % 8) (omega arith) in
    let e : m ∷ t ≡ modrm_bytes (line row).modrm (reg (m / 8 % 8)) w.form ++ trailing_bytes (line row).trailing w.number =
    rw (ln.modrm_is, bytes (reg (m / 8 % 8)) w.form, g) (ap (λ (x : ℕ). x ∷ t) w.modrm_is ∙ ap (λ (x : List ℕ). modrm_byte (m / 8 % 8) w.form ∷ x) w.bytes_is) in
    subst (SpelledBy (code ++ m ∷ t)) (sym w.spelling_is) (record {
      fits = record { row = ln.is_row; modrm = subst (λ (x : ModRm). ModRmFits x r w.form) (sym ln.modrm_is) sf; trailing = w.fits };
      text_is =
          ap (λ (x : List ℕ). code ++ x) e
          ∙ ap (λ (x : List ℕ). x ++ (modrm_bytes (line row).modrm (reg (m / 8 % 8)) w.form ++ trailing_bytes (line row).trailing w.number)) (sym ln.code_is)
          ∙ sym (append_assoc (line row).code (modrm_bytes (line row).modrm (reg (m / 8 % 8)) w.form) (trailing_bytes (line row).trailing w.number));
    })

-- a spelling without a ModRM byte
without_modrm_takes : (row : Row) (code t : List ℕ) (s : Spelling) → IsLine row code Absent → EndOf row Eax (Direct Eax) t s → SpelledBy (code ++ t) s
without_modrm_takes row code t s ln w =
    let e : modrm_bytes (line row).modrm Eax (Direct Eax) ≡ [] = rw ln.modrm_is refl in
    subst (SpelledBy (code ++ t)) (sym w.spelling_is) (record {
      fits = record { row = ln.is_row; modrm = subst (λ (x : ModRm). ModRmFits x Eax (Direct Eax)) (sym ln.modrm_is) (refl, refl); trailing = w.fits };
      text_is = rw (e, ln.code_is, append-nil code) (ap (λ (x : List ℕ). code ++ x) w.bytes_is);
    })

-- a row that is read by its digit was spelled
digit_takes : (code : List ℕ) (m : ℕ) (t : List ℕ) (s : Spelling) (o : Option Row) → m < 256 → IsBytes t → row_with_digit code (m / 8 % 8) ≡ o
    → digit_at o m t ≡ Ok (s, []) → SpelledBy (code ++ m ∷ t) s
unfolding digit_at
digit_takes code m t s None lt fits q e = absurd cc
digit_takes code m t s (Some row) lt fits q e =
    let w = modrm_takes row m t s lt fits e in
    with_modrm row (Digit (m / 8 % 8)) code m t s (row_of_digit code (m / 8 % 8) row q) (λ r f. refl) w (w.form_fits, number-reg (m / 8 % 8) (omega arith))

-- what follows an opcode and is read was spelled
by_modrm_takes : (row : Row) (sl : ModRm) (code t : List ℕ) (s : Spelling) → IsLine row code sl → IsBytes t → by_modrm_at sl row t ≡ Ok (s, []) → SpelledBy (code ++ t) s
unfolding by_modrm_at digit_at
by_modrm_takes row Absent code t s ln fits e = without_modrm_takes row code t s ln (end_takes row Eax (Direct Eax) t s fits e)
by_modrm_takes row Register code [] s ln fits e = absurd cc
by_modrm_takes row Register code (m ∷ t) s ln fits e =
    let w = modrm_takes row m t s fits.0 fits.1 e in
    with_modrm row Register code m t s ln (λ r f. refl) w w.form_fits
by_modrm_takes row Memory code [] s ln fits e = absurd cc
by_modrm_takes row Memory code (m ∷ t) s ln fits e =
    elim (cases_Bool (eqb (m / 64) 3)) [
      | inl h ↦ absurd (let f = rw h at e in cc)
      | inr h ↦
          let w = modrm_takes row m t s fits.0 fits.1 (rw h at e) in
          with_modrm row Memory code m t s ln (λ r f. refl) w (w.form_fits, w.memory (eqb-false (m / 64) 3 h))
    ]
by_modrm_takes row (Digit g) code [] s ln fits e = absurd cc
by_modrm_takes row (Digit g) code (m ∷ t) s ln fits e =
    subst (λ (x : List ℕ). SpelledBy (x ++ m ∷ t) s) ln.code_is (digit_takes (line row).code m t s (row_with_digit (line row).code (m / 8 % 8)) fits.0 fits.1 refl e)

-- what an opcode leads to and is read was spelled
opened_takes : (code t : List ℕ) (s : Spelling) (o : Option Row) → IsBytes t → row_with code ≡ o → opened_at o t ≡ Ok (s, []) → SpelledBy (code ++ t) s
unfolding opened_at
opened_takes code t s None fits q e = absurd cc
opened_takes code t s (Some row) fits q e = by_modrm_takes row (line row).modrm code t s (row_of_code code row q) fits e

-- a second byte that is read was spelled
escaped_takes : (t : List ℕ) (s : Spelling) → IsBytes t → seq byte_at (λ c. opened_at (row_with (0x0F ∷ c ∷ []))) t ≡ Ok (s, []) → SpelledBy (0x0F ∷ t) s
escaped_takes [] s fits e = absurd cc
escaped_takes (c ∷ t) s fits e = opened_takes (0x0F ∷ c ∷ []) t s (row_with (0x0F ∷ c ∷ [])) fits.1 refl e

-- what is read was spelled
pub spelling_takes : (t : List ℕ) (s : Spelling) → IsBytes t → spelling_at t ≡ Ok (s, []) → SpelledBy t s
unfolding spelling_at
spelling_takes [] s fits e = absurd cc
spelling_takes (b ∷ t) s fits e =
    elim (chosen (eqb b 0x0F) (seq byte_at (λ c. opened_at (row_with (0x0F ∷ c ∷ [])))) (opened_at (row_with (b ∷ []))) t (Ok (s, [])) e) [
      | inl h ↦ subst (λ (x : ℕ). SpelledBy (x ∷ t) s) (sym (eqb-true b 0x0F h.0)) (escaped_takes t s fits.1 h.1)
      | inr h ↦ opened_takes (b ∷ []) t s (row_with (b ∷ [])) fits.1 refl h.1
    ]

-- ---- the three answers

-- a spelling at the front
pub front : (bytes : List ℕ) (s : Spelling) (rest : List ℕ) → IsBytes bytes → spelling_at bytes ≡ Ok (s, rest) → (t : List ℕ) × (bytes ≡ t ++ rest) × SpelledBy t s
front bytes s rest fits e =
    let took = TakesFront_spelling_at.took bytes s rest e in
    let both = parts_fit took.text rest (subst IsBytes took.parts fits) in
    (took.text, took.parts, spelling_takes took.text s both.0 (ap spelling_at (sym (append-nil took.text)) ∙ took.reads []))

-- a filled row spells what it means
pub spells_meaning : (t : List ℕ) (s : Spelling) → SpelledBy t s → Spells t (meaning s)
spells_meaning t s h = record { spelling = s; fits = h.fits; text_is = h.text_is; meaning_is = refl }

-- a spelling that goes on
pub goes_on : (bytes : List ℕ) → IsBytes bytes → spelling_at bytes ≡ Err Short → (more : List ℕ) × (i : Inst) × (more ≢ []) × Spells (bytes ++ more) i
goes_on bytes fits e =
    let ends = TakesFront_spelling_at.short bytes e in
    let whole : spelling_at (bytes ++ ends.text) ≡ Ok (ends.value, []) = ap (λ (x : List ℕ). spelling_at (bytes ++ x)) (sym (append-nil ends.text)) ∙ ends.reads [] in (
      ends.text,
      meaning ends.value,
      (λ nil. let again : spelling_at bytes ≡ Ok (ends.value, []) = ap spelling_at (sym (append-nil bytes))
          ∙ ap (λ (x : List ℕ). spelling_at (bytes ++ x)) (sym nil) ∙ whole in cc),
      spells_meaning (bytes ++ ends.text) ends.value (spelling_takes (bytes ++ ends.text) ends.value (IsBytes-append bytes ends.text fits ends.fits) whole),
    )

-- unknown bytes begin no spelling
pub no_more : (bytes : List ℕ) → spelling_at bytes ≡ Err Unknown → (more : List ℕ) (i : Inst) → Spells (bytes ++ more) i → ⊥
no_more bytes e more i s =
    let known : spelling_at (bytes ++ more) ≡ Ok (s.spelling, []) = ap spelling_at (sym (append-nil (bytes ++ more))) ∙ spelled_again (bytes ++ more) [] i s in
    let unknown = TakesFront_spelling_at.unknown bytes more e in
    cc

-- no spelling begins another
pub prefix_law : (s t x : List ℕ) (i j : Inst) → Spells s i → Spells t j → s ++ x ≡ t → (x ≡ []) × (i ≡ j)
prefix_law s t x i j a b e =
    let one : spelling_at (s ++ x) ≡ Ok (a.spelling, x) = spelled_again s x i a in
    let two : spelling_at (s ++ x) ≡ Ok (b.spelling, []) = ap spelling_at e ∙ ap spelling_at (sym (append-nil t)) ∙ spelled_again t [] j b in
    let k : (a.spelling, x) ≡ (b.spelling, []) = ok_is (a.spelling, x) (b.spelling, []) (sym one ∙ two) in
    (ap (λ (y : Spelling × List ℕ). y.1) k, a.meaning_is ∙ ap (λ (y : Spelling × List ℕ). meaning y.0) k ∙ sym b.meaning_is)
