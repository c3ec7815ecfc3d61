-- How many bytes functions have, and how many words data arrays.
use Rattle.std.specs.Prelude.{ℕ, ◌+◌, List, [], ◌∷◌}
use Rattle.tal_image.specs.declared.parts.FunctionPart.{FunctionPart}
use Rattle.tal_image.specs.Image.{ArrayPart}

-- how many bytes functions have
unfoldable pub code_length : List FunctionPart → ℕ
code_length [] = 0
code_length (f ∷ fs) = f.length + code_length fs

-- how many words data arrays have, each with the two before its elements
unfoldable pub array_space : List ArrayPart → ℕ
array_space [] = 0
array_space (a ∷ arrays) = 2 + a.size + array_space arrays
