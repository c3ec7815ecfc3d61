-- What the adapters over the system's files and streams keep.
use Rattle.std.specs.Prelude.{ℕ, List, Option}

-- How many reads and how many writes of real files failed.
pub record FileFaults : Type 0 where
  pub read_faults : ℕ
  pub write_faults : ℕ

-- The bytes that a stream's writer holds, where they are known, and how many calls failed.
pub record StreamBytes : Type 0 where
  pub contents : Option (List ℕ)
  pub faults : ℕ
