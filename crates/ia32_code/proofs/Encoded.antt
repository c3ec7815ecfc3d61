-- What the canonical spelling says of an instruction.
use Rattle.std.proofs.Common.{◌≡◌, ℕ, ◌≤◌, List, length, Option, Some, None, refl, sym, ap, subst, ◌∙◌, arith, inl, inr}
use Rattle.std.specs.Prelude.{option_map, IfSome}
use Rattle.ia32_code.specs.declared.instruction.Inst.{Inst}
use Rattle.ia32_code.specs.declared.instruction.Reg.{Reg}
use Rattle.ia32_code.specs.declared.row.Row.{Row}
use Rattle.ia32_code.specs.declared.row.Row.TheVariants.{JmpByte, JccByte}
use Rattle.ia32_code.specs.declared.operand_form.OperandForm.{OperandForm}
use Rattle.ia32_code.specs.declared.spelling.Spelling.{Spelling}
use Rattle.ia32_code.specs.Spells.{Spells, text, meaning}
use Rattle.ia32_code.specs.Canonical.{fill, canonical_row, Canonical, text_length, canonical_length, HasNone}
use Rattle.ia32_code.specs.Ranges.{InstInRange}
use Rattle.ia32_code.specs.Order.{Precedes, IsShortBranch, IsBranch, IsFirst, IsNotShorter}
use Rattle.ia32_code.proofs.CanonicalIsFirst.{is_first}
use Rattle.ia32_code.proofs.CanonicalSpells.{chosen_fits}

-- an instruction that is spelled has a canonical spelling
pub first_of : (t : List ℕ) (i : Inst) → (s : Spells t i) → IsFirst s.spelling
first_of t i s = let x = s.spelling in is_first x.row x.reg x.form x.number s.fits

-- an instruction without one has no spelling
pub none_has : (i : Inst) → canonical_row i ≡ None → HasNone i
none_has i e t s =
    let k = first_of t i s in
    let c : canonical_row i ≡ Some k.first = ap canonical_row s.meaning_is ∙ k.canonical in
    cc

-- the canonical spelling is one of the instruction
pub row_spells : (i : Inst) (s : Spelling) → InstInRange i → canonical_row i ≡ Some s → Spells (text s) i
row_spells i s h e = let k = chosen_fits i s h e in record { spelling = s; fits = k.0; text_is = refl; meaning_is = sym k.1 }

-- ---- what the chosen row says of the canonical spelling

-- the length is that of the chosen row
pub length_at : (i : Inst) (s : Spelling) → canonical_row i ≡ Some s → canonical_length i ≡ length (text s)
length_at i s e = ap (λ (x : Option Spelling). text_length (option_map text x)) e

-- and 0 where none is chosen
pub no_length : (i : Inst) → canonical_row i ≡ None → canonical_length i ≡ 0
no_length i e = ap (λ (x : Option Spelling). text_length (option_map text x)) e

-- what is chosen spells the instruction, by the choice
some_spells : (i : Inst) (o : Option Spelling) → InstInRange i → canonical_row i ≡ o → IfSome (option_map text o) (λ t. Spells t i)
some_spells i None h e = tt
some_spells i (Some s) h e = row_spells i s h e

-- the canonical spelling is one of the instruction
pub canonical_spells : (i : Inst) → InstInRange i → IfSome (Canonical i) (λ t. Spells t i)
canonical_spells i h = some_spells i (canonical_row i) h refl

-- no bytes come of no row alone
row_none : (i : Inst) (o : Option Spelling) → canonical_row i ≡ o → option_map text o ≡ None → canonical_row i ≡ None
row_none i None e n = e
row_none i (Some s) e n = absurd cc

-- an instruction without a canonical spelling has none
pub canonical_none : (i : Inst) → Canonical i ≡ None → HasNone i
canonical_none i n = none_has i (row_none i (canonical_row i) refl n)

-- ---- no spelling is shorter, but for branches

-- a short row spells a jump or a branch
short_branch : (w : Row) (r : Reg) (f : OperandForm) (n : ℕ) → IsShortBranch w → IsBranch (meaning (fill w r f n))
short_branch JmpByte r f n h = tt
short_branch (JccByte cc) r f n h = tt
short_branch _ r f n h = absurd h

-- what precedes is no longer
shorter : (c s : Spelling) → Precedes c s → length (text c) ≤ length (text s)
shorter c s p = elim p [ inl lt ↦ omega arith | inr e ↦ omega (arith, e.0) ]

-- no spelling is shorter than the canonical one, but for branches
pub shortest : (t : List ℕ) (i : Inst) → Spells t i → IsNotShorter t i
shortest t i s =
    let x = s.spelling in
    let k = first_of t i s in
    let c : canonical_row i ≡ Some k.first = ap canonical_row s.meaning_is ∙ k.canonical in (
      text k.first,
      ap (option_map text) c,
      record { spelling = k.first; fits = k.filled; text_is = refl; meaning_is = s.meaning_is ∙ sym k.same },
      elim k.precedes [
        | inl b ↦ inl (subst IsBranch (sym s.meaning_is) (short_branch x.row x.reg x.form x.number b))
        | inr p ↦ inr (let m : length t ≡ length (text x) = ap length s.text_is in omega (arith, shorter k.first x p))
      ],
    )
