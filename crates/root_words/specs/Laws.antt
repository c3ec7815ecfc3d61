-- The law of roots.
use Rattle.std.specs.Prelude.{◌≡◌, ℕ, Bool, List, map}
use Rattle.tal_types.specs.declared.types.Ty.{Ty}
use Rattle.stack_states.specs.declared.stack_state.StackState.{StackState}
use Rattle.stack_states.specs.StackTable.{current_of}
use Rattle.tal_image.specs.Image.{ImageParts}
use Rattle.tal_checker.specs.Frames.{frames_of}
use Rattle.typed_machine.specs.Values.{Word}
use Rattle.typed_machine.specs.States.{State, places_of}
use Rattle.typed_machine.specs.Words.{esp_of}
use Rattle.typed_machine.specs.Reaching.{Roots}
use Rattle.root_words.specs.DataArea.{data_marks}
use Rattle.root_words.specs.Listing.{IsWalked, AreWalkable, root_words}
use Rattle.root_words.specs.Standing.{CallStands}

-- The caller's stack and all others can be walked, and what is listed is the words of the state's roots, one after another.
pub record ListsRoots (image : ImageParts) (next : ℕ) (s : State) (area words : List ℕ) (kept : List StackState) : Type 0 where
  pub walked : IsWalked (frames_of image) words (current_of kept) (esp_of s) next
  pub walkable : AreWalkable (frames_of image) words 0 kept
  pub listed : root_words (data_marks image) area (frames_of image) words kept (esp_of s) next ≡ map (Word (places_of s)) (Roots image next s)

-- So it is at each call where the words stand.
abbrev pub RootsAreExact : Type 0
RootsAreExact =
    (image : ImageParts) (live : ℕ → Bool) (t : Ty) (next : ℕ) (s : State) (area words : List ℕ) (kept : List StackState)
    → CallStands image live t next s area words kept → ListsRoots image next s area words kept
