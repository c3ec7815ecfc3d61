-- The listing of an image.
use Rattle.std.specs.Prelude.{ℕ, ◌+◌, ◌-◌, List, [], ◌∷◌, ◌++◌, take, drop, codes, decimal}
use Rattle.object_layout.specs.Areas.{code_start}
use Rattle.tal_types.specs.declared.views.Span.{Span}
use Rattle.tal_image.specs.Image.{ImageParts}
use Rattle.tal_image.specs.Shown.{spans}
use Rattle.tal_listing.specs.Lines.{CodeLine, lines_from, code_text}

-- the line over a function: its number, and that of its signature
abbrev pub function_head_text : ℕ → ℕ → List ℕ
function_head_text number sig = codes "func " ++ decimal number ++ codes " sig " ++ decimal sig ++ codes "\n"

-- how many bytes a function has
abbrev pub size : Span → ℕ
size s = s.end - s.start

-- functions from this number on, with whose code the bytes begin
unfoldable pub functions_text : ℕ → List ℕ → List Span → List ℕ
functions_text number code [] = []
functions_text number code (s ∷ later) = function_head_text number s.sig ++ code_text s.start (take (size s) code) ++ functions_text (number + 1) (drop (size s) code) later

-- the lines of functions with whose code the bytes begin, without what stands over each function
unfoldable pub functions_lines : List ℕ → List Span → List CodeLine
functions_lines code [] = []
functions_lines code (s ∷ later) = lines_from 0 s.start (take (size s) code) ++ functions_lines (drop (size s) code) later

-- the whole listing: each function in its order, with its instructions
unfoldable pub ListText : ImageParts → List ℕ
ListText i = functions_text 0 i.code (spans code_start i.functions)
