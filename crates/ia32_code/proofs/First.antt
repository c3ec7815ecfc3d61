-- How a spelling is shown to be preceded by the canonical one of its instruction.
use Rattle.std.proofs.Common.{◌≡◌, ℕ, ◌+◌, ◌≤◌, length, Bool, true, false, Option, Some, None, refl, sym, ap, subst, ◌∙◌, arith, inl, inr}
use Rattle.std.proofs.lemmas.Bool.{false≢true}
use Rattle.ia32_code.specs.declared.instruction.Reg.{Reg}
use Rattle.ia32_code.specs.declared.instruction.Reg.TheVariants.{Eax}
use Rattle.ia32_code.specs.declared.instruction.Operand.{Operand}
use Rattle.ia32_code.specs.declared.instruction.Inst.{Inst}
use Rattle.ia32_code.specs.declared.row.Row.{Row}
use Rattle.ia32_code.specs.declared.row.Row.TheVariants.{JmpByte, JccByte}
use Rattle.ia32_code.specs.declared.spelling.Spelling.{Spelling}
use Rattle.ia32_code.specs.declared.operand_form.OperandForm.{OperandForm}
use Rattle.ia32_code.specs.declared.operand_form.OperandForm.TheVariants.{Direct}
use Rattle.ia32_code.specs.OperandForms.{number, reg, after_modrm, operand, FormFits}
use Rattle.ia32_code.specs.Spells.{Filled, text, meaning}
use Rattle.ia32_code.specs.Canonical.{shortest_form, fill, without_modrm, with_form, canonical_row}
use Rattle.ia32_code.specs.Order.{without_scale, Precedes, IsShortBranch, IsFirst}
use Rattle.ia32_code.proofs.OperandForms.{reg-number}
use Rattle.ia32_code.proofs.ShortestForm.{Better, best_form}

-- register 0 is EAX
pub number_zero : (r : Reg) → number r ≡ 0 → r ≡ Eax
number_zero r h = sym (reg-number r) ∙ ap reg h

-- the row of a short branch
abbrev row_is_short : Row → Bool
row_is_short JmpByte = true
row_is_short (JccByte cond) = true
row_is_short _ = false

-- the same of the row that was chosen
abbrev is_short : Option Spelling → Bool
is_short None = false
is_short (Some s) = row_is_short s.row

-- a row that its own instruction has as canonical one is no short branch
no_short : (w : Row) (r : Reg) (f : OperandForm) (n : ℕ) → canonical_row (meaning (fill w r f n)) ≡ Some (fill w r f n) → IsShortBranch w → ⊥
no_short JmpByte r f n e h = false≢true (ap is_short e)
no_short (JccByte cond) r f n e h = false≢true (ap is_short e)
no_short _ r f n e h = absurd h

-- and so is the canonical spelling of what any spelling means
long_first : (first s : Spelling) → canonical_row (meaning s) ≡ Some first → meaning first ≡ meaning s → IsShortBranch first.row → ⊥
long_first first s e same h = no_short first.row first.reg first.form first.number (ap canonical_row same ∙ e) h

-- the canonical spelling of what a spelling means is first, if it precedes
pub by_other : (first s : Spelling) → canonical_row (meaning s) ≡ Some first → Filled first → meaning first ≡ meaning s → Precedes first s → IsFirst s
by_other first s canonical filled same precedes =
    record { first = first; canonical = canonical; filled = filled; same = same; long = long_first first s canonical same; precedes = inr precedes }

-- ---- the same row with another form

-- how long a row with an operand is
abbrev pub LongAs : Row → Reg → ℕ → ℕ → Type 0
LongAs w r n k = (f : OperandForm) → length (text (fill w r f n)) ≡ k + length (after_modrm f)

-- scale bits take no room
scale_length : (f : OperandForm) → length (after_modrm (without_scale f)) ≡ length (after_modrm f)
scale_length (Direct r) = refl
scale_length _ = refl

-- a better form is no longer
pub no_longer : (g f : OperandForm) → Better g f → length (after_modrm g) ≤ length (after_modrm f)
no_longer g f b =
    elim b [
      | inl lt ↦ omega arith
      | inr e ↦ (let l : length (after_modrm g) ≡ length (after_modrm f) = ap (λ (x : OperandForm). length (after_modrm x)) e ∙ scale_length f in omega arith)
    ]

-- the same row with a better form precedes
pub by_better : (w : Row) (r : Reg) (n k : ℕ) (g f : OperandForm) → LongAs w r n k → Better g f → Precedes (fill w r g n) (fill w r f n)
by_better w r n k g f len b =
    elim b [
      | inl lt ↦ inl (omega (arith, len g, len f))
      | inr e ↦
          let l : length (after_modrm g) ≡ length (after_modrm f) = ap (λ (x : OperandForm). length (after_modrm x)) e ∙ scale_length f in
          inr (len g ∙ ap (λ (x : ℕ). k + x) l ∙ sym (len f), inr (ap (λ (x : OperandForm). fill w r x n) e))
    ]

-- the canonical spelling is the same row with the shortest form
pub by_form : (w : Row) (r : Reg) (n k : ℕ) (make : Operand → Inst) (f : OperandForm)
    → canonical_row (make (operand f)) ≡ with_form (shortest_form (operand f)) (λ y. fill w r y n)
    → ((y : OperandForm) → meaning (fill w r y n) ≡ make (operand y))
    → ((y : OperandForm) → FormFits y → operand y ≡ operand f → Filled (fill w r y n))
    → LongAs w r n k → FormFits f → IsFirst (fill w r f n)
by_form w r n k make f canon means fit len h =
    let b = best_form f h in
    by_other (fill w r b.best n) (fill w r f n)
    (ap canonical_row (means f) ∙ canon ∙ ap (λ (x : Option OperandForm). with_form x (λ y. fill w r y n)) b.chosen)
    (fit b.best b.fits b.same) (means b.best ∙ ap make b.same ∙ sym (means f)) (by_better w r n k b.best f len b.better)

-- ---- what a filled row leaves open

-- a digit is a register's number, and a number that is not spelled is 0
pub at_digit : (w : Row) (g : ℕ) (r : Reg) (f : OperandForm) (n m : ℕ) → number r ≡ g → n ≡ m → IsFirst (fill w (reg g) f m) → IsFirst (fill w r f n)
at_digit w g r f n m d z k =
    subst (λ (x : Reg). IsFirst (fill w x f n)) (ap reg (sym d) ∙ reg-number r) (subst (λ (y : ℕ). IsFirst (fill w (reg g) f y)) (sym z) k)

-- the same of what precedes
pub precedes_at : (w v : Row) (g : ℕ) (r q : Reg) (f h : OperandForm) (n m : ℕ) → number r ≡ g → Precedes (fill v q h m) (fill w (reg g) f n)
    → Precedes (fill v q h m) (fill w r f n)
precedes_at w v g r q f h n m d k = subst (λ (x : Reg). Precedes (fill v q h m) (fill w x f n)) (ap reg (sym d) ∙ reg-number r) k

-- a number that is not spelled is 0
pub at_zero : (w : Row) (r : Reg) (f : OperandForm) (n : ℕ) → n ≡ 0 → IsFirst (fill w r f 0) → IsFirst (fill w r f n)
at_zero w r f n z k = subst (λ (y : ℕ). IsFirst (fill w r f y)) (sym z) k

-- a row without a ModRM byte leaves register and form EAX
pub at_bare : (w : Row) (r : Reg) (f : OperandForm) (n m : ℕ) → (r ≡ Eax) × (f ≡ Direct Eax) → n ≡ m → IsFirst (without_modrm w m) → IsFirst (fill w r f n)
at_bare w r f n m h z k = rw (h.0, h.1, z) k

-- a row that is the canonical one of its instruction
pub own : (w : Row) (n : ℕ) → canonical_row (meaning (without_modrm w n)) ≡ Some (without_modrm w n) → Filled (without_modrm w n) → IsFirst (without_modrm w n)
own w n e h = by_other (without_modrm w n) (without_modrm w n) e h refl (inr (refl, inr refl))
