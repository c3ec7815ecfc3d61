use Rattle.std.proofs.Common.{◌≡◌, ◌++◌, take, drop}
use Rattle.outside.specs.Shelf.{place_of, written}
use Rattle.outside.proofs.shelf.write_file.Given as goal

-- no place so far has the name, and none was changed
abbrev pub invariant-loop-place : goal.invariant-loop-place
invariant-loop-place l =
    (l.places ≡ l.initial.places) ×
    (place_of l.initial.places l.name ≡ place_of (drop l.place-index l.initial.places) l.name) ×
    (written l.initial.places l.name l.bytes ≡
    take l.place-index l.initial.places ++ written (drop l.place-index l.initial.places) l.name l.bytes)
