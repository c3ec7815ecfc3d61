-- The data area: the statics, and the data arrays behind them. Which of its words are references.
use Rattle.std.specs.Prelude.{ℕ, Bool, false, List, [], ◌∷◌, ◌++◌, map, replicate, if◌then◌else◌}
use Rattle.std.specs.List.{flat_map}
use Rattle.std.specs.Option.{option_map_or}
use Rattle.object_layout.specs.Classes.{ShapesView, Element, is_reference}
use Rattle.tal_image.specs.declared.parts.ArrayPart.{ArrayPart}
use Rattle.tal_image.specs.Image.{ImageParts}
use Rattle.tal_image.specs.Shown.{shown}

-- a mark for each word of a data array: its descriptor and its length are none, and its elements are by their type
abbrev pub array_marks : ShapesView → ArrayPart → List Bool
array_marks s a = false ∷ false ∷ replicate a.size (option_map_or is_reference (Element s a.kind) false)

-- a mark for each word of the data area: it is a reference
unfoldable pub data_marks : ImageParts → List Bool
data_marks image = map is_reference image.statics ++ flat_map (array_marks (shown image).shapes) image.arrays

-- the words that are marked
abbrev pub marked_words : List Bool → List ℕ → List ℕ
marked_words [] words = []
marked_words (mark ∷ marks) [] = []
marked_words (mark ∷ marks) (w ∷ words) = if mark then w ∷ marked_words marks words else marked_words marks words
