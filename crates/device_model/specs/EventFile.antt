-- Event files: the lines, what each says, the list of events, and the first fault.
use Rattle.std.specs.Prelude.{◌≡◌, ◌≢◌, ℕ, ◌+◌, ◌-◌, ◌*◌, ◌<◌, ◌≤◌, List, [], ◌∷◌, ◌++◌, length, Bool, true, ◌==◌, ◌&&◌, nat_le, IsTrue, if◌then◌else◌, codes, Option, Some, None, IsSome}
use Rattle.std.specs.Char.{is_ascii_digit}
use Rattle.std.specs.Option.{option_to_list}
use Rattle.std.specs.List.{fold, AllByRecursion}
use Rattle.device_model.specs.declared.events.Event.{Event}
use Rattle.device_model.specs.declared.events.EventKind.TheVariants.{Tick, Key}
use Rattle.device_model.specs.declared.events.EventFault.{EventFault}
use Rattle.device_model.specs.declared.events.EventFault.TheVariants.{Syntax, Range, TooMany, NoMemory}
use Rattle.device_model.specs.declared.events.TheConstants.{LAST_TURN, MOST_EVENTS}

-- ---- lines

-- the byte in front of the first line
abbrev pub with_first : ℕ → List (List ℕ) → List (List ℕ)
with_first byte [] = (byte ∷ []) ∷ []
with_first byte (line ∷ lines) = (byte ∷ line) ∷ lines

-- the lines, each ended by LF, which the last may lack
unfoldable pub lines_of : List ℕ → List (List ℕ)
lines_of [] = []
lines_of (byte ∷ bytes) = if byte == 10 then [] ∷ lines_of bytes else with_first byte (lines_of bytes)

-- ---- numbers

-- the number that decimal digits spell
unfoldable pub value : List ℕ → ℕ
value digits = fold (λ n digit. n * 10 + (digit - 48)) 0 digits

-- one or more decimal digits, and their number
pub record IsNumber (text : List ℕ) (number : ℕ) : Type 0 where
  pub some : text ≢ []
  pub digits : AllByRecursion (λ byte. IsTrue (is_ascii_digit byte)) text
  pub spells : number ≡ value text

-- ---- what a line says

-- nothing, or an event with the numbers as they are spelled
pub data LineForm : Type 0 where
  Skipped : LineForm
  TickLine : ℕ → LineForm
  KeyLine : ℕ → ℕ → LineForm

-- `TURN tick`
pub record IsTick (line : List ℕ) (turn : ℕ) : Type 0 where
  pub digits : List ℕ
  pub number : IsNumber digits turn
  pub parts : line ≡ digits ++ codes " tick"

-- `TURN key CODE`
pub record IsKey (line : List ℕ) (turn code : ℕ) : Type 0 where
  pub digits : List ℕ
  pub more : List ℕ
  pub number : IsNumber digits turn
  pub code_number : IsNumber more code
  pub parts : line ≡ digits ++ (codes " key " ++ more)

-- A line that is empty or begins with '#' is skipped.
abbrev pub is_skipped : List ℕ → Bool
is_skipped [] = true
is_skipped (byte ∷ bytes) = byte == 35

-- The line says this.
abbrev pub HasForm : List ℕ → LineForm → Type 0
HasForm line Skipped = IsTrue (is_skipped line)
HasForm line (TickLine turn) = IsTick line turn
HasForm line (KeyLine turn code) = IsKey line turn code

-- ---- ranges

-- the turn of the last event, 0 where there is none
unfoldable pub last_turn : List Event → ℕ
last_turn events = fold (λ turn event. event.turn) 0 events

-- from 1 to the last turn, and not below the turn before it in the list
pub record IsTurn (events : List Event) (turn : ℕ) : Type 0 where
  pub first : 1 ≤ turn
  pub last : turn ≤ LAST_TURN
  pub in_order : last_turn events ≤ turn

-- The numbers of a form are in range, after these events.
abbrev pub InRange : List Event → LineForm → Type 0
InRange events Skipped = Unit {0}
InRange events (TickLine turn) = IsTurn events turn
InRange events (KeyLine turn code) = IsTurn events turn × (code ≤ 255)

-- the event that a form brings
abbrev pub event_in : LineForm → Option Event
event_in Skipped = None
event_in (TickLine turn) = Some (record { turn = turn; kind = Tick })
event_in (KeyLine turn code) = Some (record { turn = turn; kind = Key code })

-- ---- the list of events

-- After these events the line leaves those: its own event, if it brings one, is in range, and stands last of no more than there may be.
pub record LineLeaves (before : List Event) (line : List ℕ) (after : List Event) : Type 0 where
  pub form : LineForm
  pub has : HasForm line form
  pub in_range : InRange before form
  pub room : IsSome (event_in form) → length before < MOST_EVENTS
  pub are : after ≡ before ++ option_to_list (event_in form)

-- Lines leave them one after another.
abbrev pub LinesLeave : List Event → List (List ℕ) → List Event → Type 0
LinesLeave before [] after = after ≡ before
LinesLeave before (line ∷ lines) after = (between : List Event) × LineLeaves before line between × LinesLeave between lines after

-- The bytes are an event file with this list.
abbrev pub EventsOf : List ℕ → List Event → Type 0
EventsOf bytes events = LinesLeave [] (lines_of bytes) events

-- From this turn on no turn falls, and none is above the last.
abbrev pub InOrderFrom : ℕ → List Event → Type 0
InOrderFrom turn [] = Unit {0}
InOrderFrom turn (event ∷ events) = (turn ≤ event.turn) × (event.turn ≤ LAST_TURN) × InOrderFrom event.turn events

-- The turns are 1 to the last and do not fall.
abbrev pub InOrder : List Event → Type 0
InOrder events = InOrderFrom 1 events

-- ---- faults

-- it has no form
abbrev pub BreaksSyntax : List Event → List ℕ → Type 0
BreaksSyntax before line = (form : LineForm) → HasForm line form → ⊥

-- it has a form with a number that is not in range
pub record BreaksRange (before : List Event) (line : List ℕ) : Type 0 where
  pub form : LineForm
  pub has : HasForm line form
  pub breaks : InRange before form → ⊥

-- its event is the 1000001st
pub record BreaksRoom (before : List Event) (line : List ℕ) : Type 0 where
  pub form : LineForm
  pub has : HasForm line form
  pub in_range : InRange before form
  pub brings : IsSome (event_in form)
  pub full : MOST_EVENTS ≤ length before

-- The first line that breaks a rule has this number, counted from 1.
pub record FirstLineThat (Breaks : List Event → List ℕ → Type 0) (bytes : List ℕ) (number : ℕ) : Type 0 where
  pub good : List (List ℕ)
  pub line : List ℕ
  pub rest : List (List ℕ)
  pub before : List Event
  pub parts : lines_of bytes ≡ good ++ line ∷ rest
  pub place : number ≡ length good + 1
  pub sound : LinesLeave [] good before
  pub breaks : Breaks before line

-- The fault is that of the first line with one: Syntax before Range before TooMany. Want of memory may come at any line.
abbrev pub IsFirstFault : List ℕ → EventFault → Type 0
IsFirstFault bytes (Syntax line) = FirstLineThat BreaksSyntax bytes line
IsFirstFault bytes (Range line) = FirstLineThat BreaksRange bytes line
IsFirstFault bytes (TooMany line) = FirstLineThat BreaksRoom bytes line
IsFirstFault bytes NoMemory = Unit {0}
