-- What a formed image tells of its code.
use Rattle.std.specs.Prelude.{◌≡◌, ℕ, ◌+◌, true, Some, is_some, slice_get}
use Rattle.ia32_code.specs.declared.instruction.Inst.{Inst}
use Rattle.object_layout.specs.Areas.{code_start}
use Rattle.tal_types.specs.declared.views.Span.{Span}
use Rattle.tal_types.specs.Contexts.{ContextView}
use Rattle.tal_flow.specs.Strongest.{PlacedInst}
use Rattle.tal_image.specs.declared.parts.FunctionPart.{FunctionPart}
use Rattle.tal_image.specs.Conditions.{begins_at}
use Rattle.tal_image.specs.Fields.{all_instructions}
use Rattle.tal_image.specs.Formed.{Formed}
use Rattle.tal_image.specs.Image.{ImageParts}
use Rattle.tal_image.specs.Shown.{spans, begun_by, block_in}
use Rattle.tal_checker.specs.Running.{instruction_in}

-- the code of a formed image
pub record CodeLaws (image : ImageParts) (formed : Formed image) : Type 0 where
  -- each function has its bytes and its signature, and begins at the first of them
  pub functions : (n : ℕ) (row : FunctionPart) → slice_get image.functions n ≡ Some row
      → (s : Span) × (slice_get (spans code_start image.functions) n ≡ Some s) × (s.sig ≡ row.sig) × (begun_by s.start (spans code_start image.functions) ≡ Some s.sig)
  -- at a block an instruction begins
  pub blocks : (pc : ℕ) (c : ContextView) → block_in pc image.blocks ≡ Some c → is_some (instruction_in image pc) ≡ true
  -- what begins at an offset of the functions' instructions is the instruction at its address
  pub begun : (offset : ℕ) (i : Inst) (x : PlacedInst) → begins_at offset (all_instructions formed.bodies) ≡ Some i → instruction_in image (code_start + offset) ≡ Some x → x.inst ≡ i
