-- When devices stand for a history, and what their calls answer and add.
use Rattle.std.specs.Prelude.{◌≡◌, ◌↔◌, ℕ, ◌<◌, List, [], ◌∷◌, slice_index, Bool, IsTrue, Option, Some, None}
use Rattle.device_model.specs.LineBits.{is_set}
use Rattle.device_model.specs.declared.screen.TheConstants.{CELLS}
use Rattle.device_model.specs.declared.events.Event.{Event}
use Rattle.device_model.specs.declared.events.EventKind.{EventKind}
use Rattle.device_model.specs.declared.events.EventKind.TheVariants.{Tick, Key}
use Rattle.device_model.specs.declared.interrupt_lines.Line.{Line}
use Rattle.device_model.specs.History.{Item, Ticked, Keyed, Granted, CanBeGranted, History, CountSet, Requested, InService, awaited, waiting, mask, cell}

-- the devices as contracts see them
pub record DevicesView : Type 0 where
  -- bit n is set where line n is requested
  pub requests : ℕ
  -- bit n is set where line n is in service
  pub service : ℕ
  -- bit n is set where line n is masked
  pub mask : ℕ
  pub count_set : Bool
  pub awaited : ℕ
  -- the waiting codes, the oldest first
  pub waiting : List ℕ
  pub cells : List ℕ

-- Each part is the history's.
pub record StandsFor (devices : DevicesView) (history : History) : Type 0 where
  pub requests : (line : ℕ) → line < 8 → IsTrue (is_set devices.requests line) ↔ Requested line history
  pub service : (line : ℕ) → line < 8 → IsTrue (is_set devices.service line) ↔ InService line history
  pub count_set : IsTrue devices.count_set ↔ CountSet history
  pub awaited : devices.awaited ≡ awaited history
  pub waiting : devices.waiting ≡ waiting history
  pub mask : devices.mask ≡ mask history
  pub cells : (position : ℕ) → position < CELLS → slice_index devices.cells position ≡ cell position history

-- the item of an event
abbrev pub item_of : EventKind → Item
item_of Tick = Ticked
item_of (Key code) = Keyed code

-- the history after events, in their order
abbrev pub after_events : List Event → History → History
after_events [] history = history
after_events (event ∷ events) history = after_events events (item_of event.kind ∷ history)

-- The answer names the line that can be granted, or there is none.
abbrev pub IsGrant : Option Line → History → Type 0
IsGrant None history = (line : ℕ) → CanBeGranted line history → ⊥
IsGrant (Some line) history = CanBeGranted line.0 history

-- the history after such an answer
abbrev pub after_grant : Option Line → History → History
after_grant None history = history
after_grant (Some line) history = Granted line.0 ∷ history

-- no line is in service
abbrev pub NoneInService : History → Type 0
NoneInService history = (line : ℕ) → line < 8 → InService line history → ⊥

-- some line is in service
abbrev pub SomeInService : History → Type 0
SomeInService history = (line : ℕ) × (line < 8) × InService line history
