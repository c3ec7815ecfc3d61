use Rattle.std.proofs.Common.{◌≡◌, map, take}
use Rattle.outside.specs.Shelf.{vacant_place}
use Rattle.outside.proofs.shelf.make_places.Given as goal

abbrev pub invariant-loop-row : goal.invariant-loop-row
invariant-loop-row l = l.places.items ≡ map (λ r. vacant_place r.name.now r.room) (take l.row-index l.rooms)
