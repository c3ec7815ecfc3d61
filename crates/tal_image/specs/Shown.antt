-- What typing, the machine and the tools see of an image: what stands at a number or an address, if anything does.
use Rattle.std.specs.Prelude.{ℕ, ◌+◌, ◌-◌, ◌*◌, ◌&&◌, nat_le, nat_lt, ◌==◌, List, [], ◌∷◌, ◌++◌, length, replicate, Option, Some, None, slice_get, if◌then◌else◌}
use Rattle.std.specs.Option.{option_map, option_and_then}
use Rattle.std.specs.List.{flat_map}
use Rattle.object_layout.specs.Areas.{descriptor_address, code_start, statics_start}
use Rattle.object_layout.specs.Classes.{ShapesView}
use Rattle.tal_types.specs.declared.views.Span.{Span}
use Rattle.tal_types.specs.declared.views.Mark.{Mark}
use Rattle.tal_types.specs.Contexts.{ContextView, plain}
use Rattle.tal_types.specs.Shown.{ShownImage}
use Rattle.tal_image.specs.declared.parts.FunctionPart.{FunctionPart}
use Rattle.tal_image.specs.declared.parts.MarkPart.{MarkPart}
use Rattle.tal_image.specs.declared.parts.DataRow.{DataRow}
use Rattle.tal_image.specs.Image.{ImageParts, ArrayPart, BlockPart}
use Rattle.tal_image.specs.Conditions.{fun_rows, array_places}

-- the code of each function, one after another from an address on
unfoldable pub spans : ℕ → List FunctionPart → List Span
spans address [] = []
spans address (f ∷ fs) = record { start = address; end = address + f.length; sig = f.sig } ∷ spans (address + f.length) fs

-- the first of the functions that has the byte at an address
unfoldable pub span_of : ℕ → List Span → Option Span
span_of pc [] = None
span_of pc (s ∷ ss) = if nat_le s.start pc && nat_lt pc s.end then Some s else span_of pc ss

-- the signature of the first of the functions that begins at an address
unfoldable pub begun_by : ℕ → List Span → Option ℕ
begun_by address [] = None
begun_by address (s ∷ ss) = if s.start == address then Some s.sig else begun_by address ss

-- the annotation of the block that begins at an address
unfoldable pub block_in : ℕ → List BlockPart → Option ContextView
block_in pc [] = None
block_in pc (b ∷ bs) = if code_start + b.offset == pc then Some (plain b.types b.slots) else block_in pc bs

-- the mark of the instruction that begins at an address
unfoldable pub mark_in : ℕ → List MarkPart → Option Mark
mark_in pc [] = None
mark_in pc (m ∷ ms) = if code_start + m.offset == pc then Some (record { tag = m.tag; index = m.index }) else mark_in pc ms

-- the classes and the array kinds, with the functions that methods name
unfoldable pub shapes_of : ImageParts → ShapesView
shapes_of i = record { classes = i.classes; kinds = i.kinds; funs = fun_rows code_start i.functions; sigs = length i.sigs }

-- what typing sees of an image
unfoldable pub shown : ImageParts → ShownImage
shown i = record {
  shapes = shapes_of i;
  statics = i.statics;
  sig = λ s. slice_get i.sigs s;
  function_at = λ address. begun_by address (spans code_start i.functions);
  function_of = λ pc. span_of pc (spans code_start i.functions);
  block_at = λ pc. block_in pc i.blocks;
  mark_at = λ pc. mark_in pc i.marks;
  data_kind = λ d. option_map (λ (a : ArrayPart). a.kind) (slice_get i.arrays d);
}

-- function f, by its addresses and its signature
unfoldable pub function_in : ImageParts → ℕ → Option Span
function_in i f = slice_get (spans code_start i.functions) f

-- data array d
unfoldable pub data_row_in : ImageParts → ℕ → Option DataRow
data_row_in i d = option_and_then (λ (a : ArrayPart). option_map (λ place. record { place = place; kind = a.kind; length = a.size })
    (slice_get (array_places (statics_start + 4 * length i.statics) i.arrays) d)) (slice_get i.arrays d)

-- the words of a data array as they are at first: its descriptor's address, its length, its elements; those that the file does not give are 0
unfoldable pub array_words : ArrayPart → List ℕ
array_words a = descriptor_address a.kind ∷ a.size ∷ (a.numbers ++ replicate (a.size - length a.numbers) 0)

-- the words of the data arrays as they are at first, which follow the last static without a gap
unfoldable pub data_words : ImageParts → List ℕ
data_words i = flat_map array_words i.arrays
