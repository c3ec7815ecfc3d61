use Rattle.std.proofs.Common.{◌≡◌, ℕ, ◌<◌, ◌≤◌, length, get_or}
use Rattle.tal_image.proofs.Finding.Indexes.{Knows}
use Rattle.tal_image.proofs.index.index_of.Given as goal

abbrev pub invariant-loop-number : goal.invariant-loop-number
invariant-loop-number l = record {
  counted : l.next ≡ l.number-index;
  ahead : (j : ℕ) → l.number-index ≤ j → j < length l.rising → length l.places.items ≤ get_or l.rising j 0;
  known : Knows l.rising l.number-index l.places.items;
}
