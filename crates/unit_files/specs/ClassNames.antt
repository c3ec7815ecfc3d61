-- Classes, and what stands before each: they are read side by side.
use Rattle.std.specs.Prelude.{List, map, zip}
use Rattle.object_layout.specs.declared.rows.ClassRow.{ClassRow}
use Rattle.unit_files.specs.Unit.{UnitClass}
use Rattle.unit_files.specs.Fields.{Mention}

-- a class behind what stands before it
abbrev pub named_class : Mention → ClassRow → UnitClass
named_class m row = record { name = m.name; ext = m.ext; row = row }

-- the same of all
abbrev pub named_classes : List Mention → List ClassRow → List UnitClass
named_classes mentions rows = map (λ x. named_class x.0 x.1) (zip mentions rows)
