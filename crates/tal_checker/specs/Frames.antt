-- Where the references of a frame are, at each instruction.
use Rattle.std.specs.Prelude.{◌≡◌, ℕ, ◌+◌, ◌*◌, Bool, true, false, List, [], ◌∷◌, length, if◌then◌else◌}
use Rattle.std.specs.Option.{option_map}
use Rattle.ia32_code.specs.declared.instruction.Reg.TheVariants.{Eax, Ecx, Edx, Ebx, Esp, Ebp, Esi, Edi}
use Rattle.tal_types.specs.declared.types.Ty.{Ty}
use Rattle.tal_types.specs.declared.types.Ty.TheVariants.{Num, Ref, Obj, ArrRef, Arr, Fun, Code, Tab, Desc, Junk}
use Rattle.tal_types.specs.declared.signatures.FrameRow.{FrameRow}
use Rattle.tal_types.specs.Contexts.{LiveContext, ContextView, Dead, Live}
use Rattle.frame_tables.specs.FrameRows.{RowAt, frame_row_at}
use Rattle.tal_flow.specs.Strongest.{PlacedInst, placed_at}
use Rattle.tal_image.specs.Image.{ImageParts}
use Rattle.tal_checker.specs.Instructions.{instructions}
use Rattle.tal_checker.specs.WellTyped.{strongest, strongest_at}

-- a value of the type may refer to an object or an array
unfoldable pub may_refer : Ty → Bool
may_refer Num = false
may_refer (Ref c) = true
may_refer (Obj c) = true
may_refer (ArrRef k) = true
may_refer (Arr k) = true
may_refer (Fun g) = false
may_refer (Code g) = false
may_refer (Tab c) = false
may_refer (Desc k) = false
may_refer Junk = false

-- bit i is set where type i may refer
unfoldable pub reference_bits : List Ty → ℕ
reference_bits [] = 0
reference_bits (t ∷ ts) = (if may_refer t then 1 else 0) + 2 * reference_bits ts

-- the types of the registers by their numbers
abbrev pub register_types : LiveContext → List Ty
register_types c = c.regs Eax ∷ c.regs Ecx ∷ c.regs Edx ∷ c.regs Ebx ∷ c.regs Esp ∷ c.regs Ebp ∷ c.regs Esi ∷ c.regs Edi ∷ []

-- the row of a context: which registers and slots may refer, and how many slots there are; all 0 where no run comes
unfoldable pub row_in : ContextView → FrameRow
row_in Dead = record { regs = 0; slots = 0; refs = 0 }
row_in (Live c) = record { regs = reference_bits (register_types c); slots = length c.slots; refs = reference_bits c.slots }

-- a row for each instruction, by the context that stands for it in the list
abbrev pub frame_rows : List PlacedInst → List ContextView → List RowAt
frame_rows [] cs = []
frame_rows (x ∷ xs) [] = []
frame_rows (x ∷ xs) (c ∷ cs) = record { pc = x.pc; row = row_in c } ∷ frame_rows xs cs

-- the rows of an image: one for each instruction, by its strongest context
unfoldable pub frames_of : ImageParts → List RowAt
frames_of image = frame_rows (instructions image.code) (strongest image)

-- an image has a row at an address exactly where an instruction begins, and it is that of the strongest context there
abbrev pub RowsByAddress : Type 0
RowsByAddress = (image : ImageParts) (pc : ℕ) → frame_row_at (frames_of image) pc ≡ option_map (λ (x : PlacedInst). row_in (strongest_at image pc)) (placed_at (instructions image.code) pc)
