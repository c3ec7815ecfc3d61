-- What happened to the devices, and what follows from it, a sentence each (docs/devices.md). The interrupt controller
-- follows Intel's 8259A, the timer Intel's 8254, as far as they are stated here.
use Rattle.std.specs.Prelude.{◌≡◌, ℕ, zero, suc, ◌+◌, ◌-◌, ◌<◌, ◌≤◌, ◌⊎◌, List, [], ◌∷◌, ◌++◌, length, drop, Bool, false, ◌&&◌, ◌||◌, ◌==◌, nat_lt, if◌then◌else◌, Option, Some, None, option_map, unwrap_or, slice_get, IsTrue, IsFalse}
use Rattle.std.specs.Option.{option_map_or}
use Rattle.std.specs.List.{AllByRecursion}
use Rattle.device_model.specs.LineBits.{is_set}
use Rattle.device_model.specs.declared.screen.TheConstants.{BLANK}

-- one thing that happens
pub data Item : Type 0 where
  -- the timer ticks
  Ticked : Item
  -- the keyboard sends this code
  Keyed : ℕ → Item
  -- a port gets a byte
  Wrote : ℕ → ℕ → Item
  -- port 0x60 is read, whether a code waits or not
  Took : Item
  -- this line is granted
  Granted : ℕ → Item
  -- a cell of the screen, by its position, gets a value
  Drew : ℕ → ℕ → Item

-- What happened, the latest first: behind an item stands what came before it.
abbrev pub History : Type 0
History = List Item

-- ---- kinds of items

-- the command 0x34 to port 0x43, which begins a count
abbrev pub begins_count : Item → Bool
begins_count (Wrote port byte) = port == 0x43 && byte == 0x34
begins_count x = false

-- a byte to port 0x40
abbrev pub is_count_byte : Item → Bool
is_count_byte (Wrote port byte) = port == 0x40
is_count_byte x = false

-- the end byte 0x20 to port 0x20
abbrev pub ends_service : Item → Bool
ends_service (Wrote port byte) = port == 0x20 && byte == 0x20
ends_service x = false

-- a grant of the line
abbrev pub grants : ℕ → Item → Bool
grants line (Granted other) = other == line
grants line x = false

-- no item is of the kind
abbrev pub NoItem : (Item → Bool) → History → Type 0
NoItem kind items = AllByRecursion (λ x. IsFalse (kind x)) items

-- ---- the timer

-- A count is set where some command has two count bytes after it, with no other command before the second of them.
pub record CountSet (history : History) : Type 0 where
  pub later : History
  pub second : Item
  pub middle : History
  pub first : Item
  pub early : History
  pub command : Item
  pub before : History
  pub parts : history ≡ later ++ second ∷ (middle ++ first ∷ (early ++ command ∷ before))
  pub begins : IsTrue (begins_count command)
  pub low : IsTrue (is_count_byte first)
  pub high : IsTrue (is_count_byte second)
  pub none_early : NoItem begins_count early
  pub none_middle : NoItem begins_count middle

-- how many count bytes came since the last command, where there was a command
abbrev pub count_bytes : History → Option ℕ
count_bytes [] = None
count_bytes (x ∷ before) = if begins_count x then Some 0 else option_map (λ n. if is_count_byte x then n + 1 else n) (count_bytes before)

-- how many bytes the timer awaits: two less these, and none without a command
unfoldable pub awaited : History → ℕ
awaited history = option_map_or (λ n. 2 - n) (count_bytes history) 0

-- ---- the keyboard

-- the accepted codes, the oldest first, without as many oldest ones as reads found a code waiting
abbrev pub left_of : List ℕ → ℕ → List ℕ
left_of accepted found = drop found accepted

unfoldable mutual
  -- A code is accepted where fewer than 16 wait.
  pub accepted_codes : History → List ℕ
  accepted_codes [] = []
  accepted_codes (Keyed code ∷ before) = if nat_lt
      (length (left_of (accepted_codes before) (found_reads before))) 16 then accepted_codes before ++ code ∷ [] else accepted_codes before
  accepted_codes (x ∷ before) = accepted_codes before

  -- how many reads found a code: those at which one waited
  pub found_reads : History → ℕ
  found_reads [] = 0
  found_reads (Took ∷ before) = if nat_lt 0 (length (left_of (accepted_codes before) (found_reads before))) then found_reads before + 1 else found_reads before
  found_reads (x ∷ before) = found_reads before

-- the waiting codes
unfoldable pub waiting : History → List ℕ
waiting history = left_of (accepted_codes history) (found_reads history)

-- ---- requests

-- The item is accepted for the line, by what came before it.
abbrev pub AcceptedFor : ℕ → Item → History → Type 0
AcceptedFor line Ticked before = (line ≡ 0) × CountSet before
AcceptedFor line (Keyed code) before = (line ≡ 1) × (length (waiting before) < 16)
AcceptedFor line x before = ⊥

-- Something accepted for the line comes after the last grant of the line.
pub record Requested (line : ℕ) (history : History) : Type 0 where
  pub later : History
  pub item : Item
  pub before : History
  pub parts : history ≡ later ++ item ∷ before
  pub accepted : AcceptedFor line item before
  pub none_granted : NoItem (grants line) later

-- ---- service

-- The line was granted, and each end byte since then found a lower line in service.
pub record GrantedUntil (lower : History → Type 0) (line : ℕ) (history : History) : Type 0 where
  pub later : History
  pub grant : Item
  pub before : History
  pub parts : history ≡ later ++ grant ∷ before
  pub granted : IsTrue (grants line grant)
  pub served : (after : History) (x : Item) (between : History) → later ≡ after ++ x ∷ between → IsTrue (ends_service x) → lower (between ++ grant ∷ before)

-- a line below this one is in service
abbrev pub LowerInService : ℕ → History → Type 0
LowerInService zero history = ⊥
LowerInService (suc line) history = LowerInService line history ⊎ GrantedUntil (LowerInService line) line history

-- A line is in service from its grant until an end byte that finds no lower line in service.
abbrev pub InService : ℕ → History → Type 0
InService line history = GrantedUntil (LowerInService line) line history

-- ---- last writes

-- the last byte written to port 0x21
abbrev pub mask : History → ℕ
mask [] = 0
mask (Wrote port byte ∷ before) = if port == 0x21 then byte else mask before
mask (x ∷ before) = mask before

-- what was last written to the cell
abbrev pub cell : ℕ → History → ℕ
cell position [] = BLANK
cell position (Drew other written ∷ before) = if other == position then written else cell position before
cell position (x ∷ before) = cell position before

-- ---- what can be granted

-- the lowest line that is requested and not masked, where no line of the same or a lower number is in service
pub record CanBeGranted (line : ℕ) (history : History) : Type 0 where
  pub is_line : line < 8
  pub requested : Requested line history
  pub unmasked : IsFalse (is_set (mask history) line)
  pub lowest : (other : ℕ) → other < line → Requested other history → IsTrue (is_set (mask history) other)
  pub free : (other : ℕ) → other ≤ line → InService other history → ⊥

-- ---- ports

-- the ports that can be written
abbrev pub has_out : ℕ → Bool
has_out port = port == 0x20 || port == 0x21 || port == 0x40 || port == 0x43

-- the ports that can be read
abbrev pub has_in : ℕ → Bool
has_in port = port == 0x21 || port == 0x60 || port == 0x64

-- what a read of a port gives, where it can be read: the mask; the oldest code, 0 where none waits; whether a code waits
abbrev pub port_gives : ℕ → History → Option ℕ
port_gives port history =
    if port == 0x21 then Some (mask history) else
    if port == 0x60 then Some (unwrap_or (slice_get (waiting history) 0) 0) else
    if port == 0x64 then Some (if length (waiting history) == 0 then 0 else 1) else None

-- the history after a read of a port
abbrev pub after_in : ℕ → History → History
after_in port history = if port == 0x60 then Took ∷ history else history
