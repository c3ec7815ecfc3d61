-- The words that are shown of a machine, and those of a state of the typed machine.
use Rattle.std.specs.Prelude.{ℕ, zero, suc, ◌+◌, List, [], ◌∷◌, map}
use Rattle.device_model.specs.declared.screen.TheConstants.{CELLS}
use Rattle.device_model.specs.History.{History, cell}
use Rattle.stack_states.specs.declared.flag_bits.FlagBits.{FlagBits}
use Rattle.stack_states.specs.declared.stack_state.StackState.{StackState}
use Rattle.typed_machine.specs.Values.{Word}
use Rattle.typed_machine.specs.States.{State, Stack, places_of}
use Rattle.typed_machine.specs.Words.{register_words, esp_of}
use Rattle.word_machine.specs.Standing.{values_at}
use Rattle.nucleus_calls.specs.Nucleus.{state_by}

-- a stack's state, and its words from the top to the bottom
pub record ShownStack : Type 0 where
  pub state : StackState
  pub words : List ℕ

-- registers by their numbers, ESP among them
pub record ShownWords : Type 0 where
  pub regs : List ℕ
  pub flags : FlagBits
  pub place : ℕ
  pub stacks : List ShownStack
  pub statics : List ℕ
  pub cells : List ℕ

-- so many cells from a position on, where each position has this cell
unfoldable pub cells_from : (ℕ → ℕ) → ℕ → ℕ → List ℕ
cells_from at position zero = []
cells_from at position (suc n) = at position ∷ cells_from at (position + 1) n

-- the stacks of a state from number n on, with the words of their values
unfoldable pub shown_stacks : State → ℕ → List Stack → List ShownStack
shown_stacks s n [] = []
shown_stacks s n (stack ∷ stacks) =
    record { state = state_by (places_of s) n stack; words = map (Word (places_of s)) (values_at s n) } ∷ shown_stacks s (n + 1) stacks

-- the cells of the screen, by what happened to the devices
unfoldable pub screen_of : History → List ℕ
screen_of history = cells_from (λ position. cell position history) 0 CELLS

-- the words that a state shows
unfoldable pub shown_of : State → ShownWords
shown_of s = record {
  regs = register_words (places_of s) s.thread.regs (esp_of s);
  flags = s.thread.flags;
  place = s.thread.place;
  stacks = shown_stacks s 0 s.stacks;
  statics = map (Word (places_of s)) s.statics;
  cells = screen_of s.devices;
}
