-- What a sink tells. None stands for one that tells nothing, as a standard stream.
use Rattle.std.specs.Prelude.{ℕ, ◌≡◌, List, ◌++◌, Option, option_map}
use Rattle.outside.specs.FileMaps.{IsFront}

-- Where bytes are told, they have gained these at their end.
abbrev pub Gained : Option (List ℕ) → Option (List ℕ) → List ℕ → Type 0
Gained before after bytes = after ≡ option_map (λ told. told ++ bytes) before

-- Where bytes are told, they have gained a front of these at their end.
abbrev pub GainedFront : Option (List ℕ) → Option (List ℕ) → List ℕ → Type 0
GainedFront before after bytes = (front : List ℕ) × IsFront front bytes × Gained before after front
