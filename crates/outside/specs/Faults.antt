-- Counts of faults. A count never falls; one that is kept in 64 bits stops at 2^64 - 1.
use Rattle.std.specs.Prelude.{ℕ, ◌<◌, ◌≡◌, ◌⊎◌, ◌+◌, ◌-◌, ◌^◌, Bool, true, false}

-- Something failed in this call: the count rose, or it stands at its greatest number.
abbrev pub Faulted : ℕ → ℕ → Type 0
Faulted before after = (before < after) ⊎ (before ≡ 2 ^ 64 - 1)

-- Nothing failed: the count did not rise, though it could have.
abbrev pub Quiet : ℕ → ℕ → Type 0
Quiet before after = (after ≡ before) × (before < 2 ^ 64 - 1)

-- The count rose by one, or it stands at its greatest number.
abbrev pub RoseByOne : ℕ → ℕ → Type 0
RoseByOne before after = (after ≡ before + 1) ⊎ ((before ≡ 2 ^ 64 - 1) × (after ≡ before))

-- A count afterwards, of a call that failed or did not.
abbrev pub Counts : Bool → ℕ → ℕ → Type 0
Counts true before after = RoseByOne before after
Counts false before after = after ≡ before
