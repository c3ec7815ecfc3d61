-- What the parts of the reader of event files give.
use Rattle.std.specs.Prelude.{◌≡◌, ℕ, ◌-◌, ◌<◌, ◌≤◌, ◌^◌, List, ◌++◌, drop, min, Option, Result, Ok, Err}
use Rattle.std.specs.List.{prefix_len, take_while}
use Rattle.std.specs.Option.{option_to_list}
use Rattle.device_model.specs.declared.events.Event.{Event}
use Rattle.device_model.specs.declared.line_form.Form.{Form}
use Rattle.device_model.specs.declared.line_form.Form.TheVariants as held
use Rattle.device_model.specs.declared.events.EventFault.{EventFault}
use Rattle.device_model.specs.declared.events.EventFault.TheVariants.{Syntax, Range, TooMany, NoMemory}
use Rattle.std.specs.Char.{is_ascii_digit}
use Rattle.device_model.specs.EventFile.{LineForm, Skipped, TickLine, KeyLine, value, HasForm, LineLeaves, BreaksSyntax, BreaksRange, BreaksRoom}

-- a number as 32 bits hold it: a larger one is the greatest
abbrev pub capped : ℕ → ℕ
capped number = min number (2 ^ 32 - 1)

abbrev pub capped_form : LineForm → LineForm
capped_form Skipped = Skipped
capped_form (TickLine turn) = TickLine (capped turn)
capped_form (KeyLine turn code) = KeyLine (capped turn) (capped code)

-- what the code's form says
abbrev pub said : Form → LineForm
said held.Skipped = Skipped
said (held.Tick turn) = TickLine turn
said (held.Key turn code) = KeyLine turn code

-- A key's code fits a byte.
abbrev pub CodeFits : Form → Type 0
CodeFits (held.Key turn code) = code ≤ 255
CodeFits form = Unit {0}

-- the digits at the front as a number, and what follows
pub record TakesNumber (text : List ℕ) (number : ℕ) (rest : List ℕ) : Type 0 where
  pub begins : 0 < prefix_len is_ascii_digit text
  pub is_number : number ≡ capped (value (take_while is_ascii_digit text))
  pub is_rest : rest ≡ drop (prefix_len is_ascii_digit text) text

-- the line's form as the code holds it
pub record TakesForm (line : List ℕ) (taken : Form) : Type 0 where
  pub form : LineForm
  pub has : HasForm line form
  pub is_taken : said taken ≡ capped_form form

-- what a line gives after the events before, as the line of this number
abbrev pub LineGives : List Event → List ℕ → ℕ → Result (Option Event) EventFault → Type 0
LineGives before line number (Ok event) = LineLeaves before line (before ++ option_to_list event)
LineGives before line number (Err (Syntax at)) = (at ≡ number) × BreaksSyntax before line
LineGives before line number (Err (Range at)) = (at ≡ number) × BreaksRange before line
LineGives before line number (Err (TooMany at)) = (at ≡ number) × BreaksRoom before line
LineGives before line number (Err NoMemory) = ⊥
