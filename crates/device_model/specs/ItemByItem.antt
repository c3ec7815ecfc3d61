-- What a history gives, item by item. The module `laws` says that it is what the sentences of `History` say.
use Rattle.std.specs.Prelude.{ℕ, zero, suc, ◌+◌, ◌-◌, List, [], ◌∷◌, ◌++◌, length, drop, Bool, false, not, ◌&&◌, ◌||◌, ◌==◌, nat_lt, if◌then◌else◌, Option, Some, None, option_and_then}
use Rattle.std.specs.Option.{option_or}
use Rattle.device_model.specs.LineBits.{is_set, any_below}
use Rattle.device_model.specs.History.{Item, Ticked, Keyed, Took, History, begins_count, is_count_byte, ends_service, grants, awaited, waiting, mask}

-- the awaited bytes after an item, where so many were awaited
abbrev pub next_awaited : Item → ℕ → ℕ
next_awaited x n = if begins_count x then 2 else (if is_count_byte x then n - 1 else n)

-- The second awaited byte sets a count, for ever.
unfoldable pub is_count_set : History → Bool
is_count_set [] = false
is_count_set (x ∷ before) = (is_count_byte x && awaited before == 1) || is_count_set before

-- whether the item is accepted for the line
abbrev pub accepts : ℕ → Item → History → Bool
accepts line Ticked before = line == 0 && is_count_set before
accepts line (Keyed code) before = line == 1 && nat_lt (length (waiting before)) 16
accepts line x before = false

-- An accepted item requests the line, a grant ends that.
unfoldable pub is_requested : ℕ → History → Bool
is_requested line [] = false
is_requested line (x ∷ before) = accepts line x before || (not (grants line x) && is_requested line before)

-- A grant begins service. An end byte leaves the lines that have a lower one in service.
unfoldable pub is_served : History → ℕ → Bool
is_served [] line = false
is_served (x ∷ before) line = grants line x || (is_served before line && (not (ends_service x) || any_below (is_served before) line))

-- the codes that wait after an item, where these waited
unfoldable pub next_waiting : Item → List ℕ → List ℕ
next_waiting (Keyed code) codes = if nat_lt (length codes) 16 then codes ++ code ∷ [] else codes
next_waiting Took codes = drop 1 codes
next_waiting x codes = codes

-- the line is requested and not masked
unfoldable pub is_open : History → ℕ → Bool
is_open history line = is_requested line history && not (is_set (mask history) line)

-- the lowest line below this number that passes
unfoldable pub lowest_below : (ℕ → Bool) → ℕ → Option ℕ
lowest_below test zero = None
lowest_below test (suc line) = option_or (lowest_below test line) (if test line then Some line else None)

-- the line that can be granted: the lowest open one, unless one up to it is in service
unfoldable pub grantable : History → Option ℕ
grantable history = option_and_then (λ line. if any_below (is_served history) (line + 1) then None else Some line) (lowest_below (is_open history) 8)
