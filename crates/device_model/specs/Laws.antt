-- The laws that the module `laws` carries: each sentence of a history item by item, one grant, one list or one fault.
use Rattle.std.specs.Prelude.{◌≡◌, ◌≢◌, ◌↔◌, ◌≤◌, ℕ, List, [], ◌∷◌, IsTrue, MatchOption, length}
use Rattle.device_model.specs.declared.events.Event.{Event}
use Rattle.device_model.specs.declared.events.EventFault.{EventFault}
use Rattle.device_model.specs.declared.events.EventFault.TheVariants.{NoMemory}
use Rattle.device_model.specs.History.{Item, History, CountSet, AcceptedFor, Requested, InService, CanBeGranted, awaited, waiting}
use Rattle.device_model.specs.ItemByItem.{next_awaited, is_count_set, accepts, is_requested, is_served, next_waiting, grantable}
use Rattle.device_model.specs.EventFile.{EventsOf, IsFirstFault}

-- Nothing is awaited at first. A command awaits two bytes, and each byte to the timer's port takes one off.
pub record AwaitedByItem : Type 0 where
  pub first : awaited [] ≡ 0
  pub next : (item : Item) (h : History) → awaited (item ∷ h) ≡ next_awaited item (awaited h)

-- A count is set from the second byte after a command on.
abbrev pub CountSetByItem : Type 0
CountSetByItem = (h : History) → IsTrue (is_count_set h) ↔ CountSet h

-- A tick is accepted where a count is set, a key where fewer than 16 codes wait.
abbrev pub AcceptedByItem : Type 0
AcceptedByItem = (line : ℕ) (item : Item) (h : History) → IsTrue (accepts line item h) ↔ AcceptedFor line item h

-- A line is requested from what is accepted for it until its grant.
abbrev pub RequestedByItem : Type 0
RequestedByItem = (line : ℕ) (h : History) → IsTrue (is_requested line h) ↔ Requested line h

-- A line is in service from its grant until an end byte that finds no lower line in service.
abbrev pub ServedByItem : Type 0
ServedByItem = (line : ℕ) (h : History) → IsTrue (is_served h line) ↔ InService line h

-- The waiting codes are a queue of at most 16: an accepted code goes last, and a read takes the first.
pub record WaitingByItem : Type 0 where
  pub first : waiting [] ≡ []
  pub next : (item : Item) (h : History) → waiting (item ∷ h) ≡ next_waiting item (waiting h)
  pub most : (h : History) → length (waiting h) ≤ 16

-- The line that is computed can be granted, and where none is computed none can.
abbrev pub GrantComputed : Type 0
GrantComputed = (h : History) → MatchOption (grantable h) ((line : ℕ) → CanBeGranted line h → ⊥) (λ line. CanBeGranted line h)

-- At most one line can be granted.
abbrev pub OneGrant : Type 0
OneGrant = (h : History) (line other : ℕ) → CanBeGranted line h → CanBeGranted other h → line ≡ other

-- Bytes have one list of events at most.
abbrev pub OneList : Type 0
OneList = (bytes : List ℕ) (events others : List Event) → EventsOf bytes events → EventsOf bytes others → events ≡ others

-- Bytes with a list have no fault but want of memory.
abbrev pub ListOrFault : Type 0
ListOrFault = (bytes : List ℕ) (events : List Event) (fault : EventFault) → EventsOf bytes events → IsFirstFault bytes fault → fault ≡ NoMemory

-- Bytes have one first fault at most, want of memory apart.
abbrev pub OneFault : Type 0
OneFault = (bytes : List ℕ) (fault other : EventFault) → fault ≢ NoMemory → other ≢ NoMemory → IsFirstFault bytes fault → IsFirstFault bytes other → fault ≡ other
