-- Cells of the screen, one after another.
use Rattle.std.specs.Prelude.{slice_index}
use Rattle.std.proofs.Common.{◌≡◌, ℕ, zero, suc, ◌+◌, ◌<◌, true, if◌then◌else◌, ◌∷◌, length, Option, Some, None, nat_lt, refl, sym, ◌∙◌, ap, ap₂, arith}
use Rattle.std.proofs.lemmas.Bool.Decides.{nat_tests}
use Rattle.device_model.specs.declared.screen.TheConstants.{CELLS}
use Rattle.device_model.specs.History.{History, cell}
use Rattle.device_model.specs.Devices.{DevicesView, StandsFor}
use Rattle.run_report.specs.Shown.{cells_from, screen_of}
use Rattle.kernel_machine.specs.Shown.{screen_by}

-- there are as many as were asked for
pub cells-count : (at : ℕ → ℕ) (position n : ℕ) → length (cells_from at position n) ≡ n
unfolding cells_from
cells-count at position zero = refl
cells-count at position (suc n) = ap suc (cells-count at (position + 1) n)

-- each is that of its position
cells-read : (at : ℕ → ℕ) (position n k : ℕ) → k < n → slice_index (cells_from at position n) k ≡ at (position + k)
unfolding cells_from
cells-read at position zero k low = absurd (omega (arith, low))
cells-read at position (suc n) zero low = let none : position + 0 ≡ position = omega arith in rw none refl
cells-read at position (suc n) (suc k) low =
    let next : position + 1 + k ≡ position + suc k = omega arith in
    rw next at (cells-read at (position + 1) n k (omega (arith, low)))

-- they are alike where each position has the same cell
cells-alike : (at there : ℕ → ℕ) (position n : ℕ) → ((k : ℕ) → k < position + n → at k ≡ there k) → cells_from at position n ≡ cells_from there position n
unfolding cells_from
cells-alike at there position zero same = refl
cells-alike at there position (suc n) same =
    ap₂ (λ (c : ℕ) cells. c ∷ cells) (same position (omega arith)) (cells-alike at there (position + 1) n (λ k low. same k (omega (arith, low))))

-- devices that stand for a history have its cells
pub screen_same : (devices : DevicesView) (history : History) → StandsFor devices history → screen_by devices ≡ screen_of history
unfolding screen_by screen_of
screen_same devices history h =
    cells-alike (slice_index devices.cells) (λ position. cell position history) 0 CELLS (λ k low. h.cells k (omega (arith, low)))

-- what a machine shows of the cells
pub screen_count : (devices : DevicesView) → length (screen_by devices) ≡ CELLS
unfolding screen_by
screen_count devices = cells-count (slice_index devices.cells) 0 CELLS

-- a cell that the devices of a history answer for a position
pub screen_read : (devices : DevicesView) (history : History) → StandsFor devices history → (position : ℕ) → position < CELLS → (o : Option ℕ) (answer : ℕ)
    → o ≡ (if nat_lt position CELLS then Some (cell position history) else None) → o ≡ Some answer → answer ≡ slice_index (screen_by devices) position
unfolding screen_by
screen_read devices history h position low o answer told is =
    let inside : nat_lt position CELLS ≡ true = grind (arith, nat_tests) in
    let there : o ≡ Some (cell position history) = rw inside at told in
    let same : answer ≡ cell position history = cc in
    let none : 0 + position ≡ position = omega arith in
    same ∙ sym (h.cells position low) ∙ sym (rw none at (cells-read (slice_index devices.cells) 0 CELLS position low))
