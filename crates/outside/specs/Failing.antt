-- Calls that fail by a list. Calls are counted from 1.
use Rattle.std.specs.Prelude.{ℕ, ◌+◌, ◌-◌, ◌^◌, min, List, [], ◌∷◌, take, Option, Some, None, option_map, unwrap_or, ◌==◌, if◌then◌else◌}
use Rattle.outside.specs.declared.failing.FailingCall.{FailingCall}
use Rattle.outside.specs.Memory.{FilesInMemory, BytesInMemory}

-- Files in memory, how many calls there were, and the list.
pub record FailingFilesView : Type 0 where
  pub files : FilesInMemory
  pub calls : ℕ
  pub failing : List FailingCall

-- A sink in memory, how many calls there were, and the list.
pub record FailingSinkView : Type 0 where
  pub sink : BytesInMemory
  pub calls : ℕ
  pub failing : List FailingCall

-- The number of the call after so many.
abbrev pub next_call : ℕ → ℕ
next_call calls = min (calls + 1) (2 ^ 64 - 1)

-- How many bytes still go through at this call, where the list has it: its first row of that number.
abbrev pub through_at : List FailingCall → ℕ → Option ℕ
through_at [] call = None
through_at (f ∷ fs) call = if f.call == call then Some f.through else through_at fs call

-- Those of the bytes that go through at this call: all, where the list does not have it.
abbrev pub passing : List FailingCall → ℕ → List ℕ → List ℕ
passing failing call bytes = unwrap_or (option_map (λ n. take n bytes) (through_at failing call)) bytes
