-- What a table of quick forms tells of an image's code.
use Rattle.std.specs.Prelude.{◌≡◌, ◌≢◌, ◌⊎◌, ℕ, ◌+◌, ◌<◌, List, length, slice_index_or, Some, None}
use Rattle.ia32_code.specs.Canonical.{Canonical}
use Rattle.ia32_code.specs.declared.instruction.Inst.{Inst}
use Rattle.object_layout.specs.Areas.{code_start}
use Rattle.quick_step.specs.declared.quick_form.Quick.TheVariants.{Full}
use Rattle.quick_step.specs.QuickForms.{inst_of}
use Rattle.tal_image.specs.Image.{ImageParts}
use Rattle.typed_machine.specs.Code.{inst_at}
use Rattle.kernel_machine.specs.declared.prepared.Ready.{Ready}

-- the code has this instruction at an address, spelled with so many bytes
pub record IsInstAt (image : ImageParts) (pc : ℕ) (i : Inst) (len : ℕ) : Type 0 where
  pub here : inst_at image pc ≡ Some (i, len)
  pub spelled : Canonical i ≢ None

-- what is kept for an address is nothing, or tells the instruction there
abbrev pub ReadyTells : ImageParts → ℕ → Ready → Type 0
ReadyTells image pc kept = (kept.quick ≡ Full) ⊎ IsInstAt image pc (inst_of kept.quick) kept.len

-- something is kept for each byte of the code and one more, and each tells the instruction at its address
pub record AllTell (image : ImageParts) (all : List Ready) : Type 0 where
  pub count : length all ≡ length image.code + 1
  pub each : (o : ℕ) (d : Ready) → o < length all → ReadyTells image (code_start + o) (slice_index_or all o d)
