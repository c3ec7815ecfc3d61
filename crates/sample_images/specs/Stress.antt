-- The text of the large run.
use Rattle.std.specs.Prelude.{ℕ, List, ◌++◌, decimal}
use Rattle.sample_images.specs.declared.stress_text.TheConstants.{STRESS_HEAD, STRESS_TAIL}

-- the head, the seed's decimal digits, the tail
abbrev pub StressText : ℕ → List ℕ
StressText seed = STRESS_HEAD.now ++ decimal seed ++ STRESS_TAIL.now
