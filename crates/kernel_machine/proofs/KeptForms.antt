-- What is kept tells the code, at first and after each that is kept.
use Rattle.std.specs.Prelude.{replicate, slice_index_or, slice_set}
use Rattle.std.proofs.Common.{◌≡◌, ◌≢◌, ◌⊎◌, inl, inr, ℕ, ◌+◌, ◌-◌, ◌<◌, ◌≤◌, List, length, length-set, get_or-set_same, get_or-set_other, Some, None, refl, sym, ◌∙◌, arith}
use Rattle.std.proofs.lemmas.Bool.{cases_eq}
use Rattle.std.proofs.lemmas.List.{length-replicate, get_or-replicate}
use Rattle.ia32_code.specs.declared.instruction.Inst.{Inst}
use Rattle.object_layout.specs.Areas.{code_start}
use Rattle.quick_step.specs.declared.quick_form.Quick.{Quick}
use Rattle.quick_step.specs.declared.quick_form.Quick.TheVariants.{Full}
use Rattle.quick_step.specs.QuickForms.{IsQuickOf, inst_of}
use Rattle.tal_image.specs.Image.{ImageParts}
use Rattle.kernel_machine.specs.declared.prepared.Ready.{Ready}
use Rattle.kernel_machine.specs.Prepared.{IsInstAt, ReadyTells, AllTell}

-- what is kept for an address
pub kept_at : (image : ImageParts) (all : List Ready) (pc : ℕ) (d : Ready) → AllTell image all → code_start ≤ pc → pc ≤ code_start + length image.code
    → ReadyTells image pc (slice_index_or all (pc - code_start) d)
kept_at image all pc d h low inside =
    let back : code_start + (pc - code_start) ≡ pc = omega arith in
    let under : pc - code_start < length all = omega (arith, h.count) in
    rw back at (h.each (pc - code_start) d under)

-- one is kept more, and the others stay
pub one_kept : (image : ImageParts) (all : List Ready) (pc : ℕ) (kept : Ready) → AllTell image all → code_start ≤ pc → pc ≤ code_start + length image.code
    → ReadyTells image pc kept → AllTell image (slice_set all (pc - code_start) kept)
one_kept image all pc kept h low inside tells =
    record { count = length-set all (pc - code_start) kept ∙ h.count; each = λ o d under. one o d (rw (length-set all (pc - code_start) kept) at under) (cases_eq o (pc - code_start)) }
  where
    back : code_start + (pc - code_start) ≡ pc
    back = omega arith

    one : (o : ℕ) (d : Ready) → o < length all → (o ≡ pc - code_start) ⊎ (o ≡ pc - code_start → ⊥)
        → ReadyTells image (code_start + o) (slice_index_or (slice_set all (pc - code_start) kept) o d)
    one o d under (inl same) = rw (same, get_or-set_same all (pc - code_start) kept d (rw same at under), back) tells
    one o d under (inr differs) = rw (get_or-set_other all (pc - code_start) o kept d differs) (h.each o d under)

-- at first nothing is kept
pub none_kept : (image : ImageParts) (all : List Ready) (kept : Ready) → kept.quick ≡ Full → all ≡ replicate (length image.code + 1) kept → AllTell image all
none_kept image all kept empty are =
    rw are (record {
      count = length-replicate (length image.code + 1) kept;
      each = λ o d under. inl (rw (get_or-replicate (length image.code + 1) o kept d (rw (length-replicate (length image.code + 1) kept) at under)) empty);
    })

-- what is not nothing tells its instruction
pub told : (image : ImageParts) (pc : ℕ) (kept : Ready) → ReadyTells image pc kept → (kept.quick ≡ Full → ⊥) → IsInstAt image pc (inst_of kept.quick) kept.len
told image pc kept (inl empty) full = absurd (full empty)
told image pc kept (inr is) full = is

-- the quick form of the instruction at an address may be kept for it
pub may_keep : (image : ImageParts) (pc : ℕ) (quick : Quick) (i : Inst) (len : ℕ) → IsQuickOf quick i → IsInstAt image pc i len → ReadyTells image pc (record { quick = quick; len = len })
may_keep image pc quick i len (inl none) at = inl none
may_keep image pc quick i len (inr is) at = inr (rw is at)
