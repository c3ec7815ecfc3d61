use Rattle.std.proofs.Common.{◌≡◌, drop}
use Rattle.outside.specs.Shelf.{files_of}
use Rattle.outside.proofs.shelf.find_file.Given as goal

-- no place so far has the name
abbrev pub invariant-loop-place : goal.invariant-loop-place
invariant-loop-place l = files_of l.places l.name ≡ files_of (drop l.place-index l.places) l.name
