-- Classes and what stands before each, read side by side.
use Rattle.std.proofs.Common.{◌≡◌, List, [], ◌∷◌, ◌++◌, length, refl, ap, arith}
use Rattle.object_layout.specs.declared.rows.ClassRow.{ClassRow}
use Rattle.unit_files.specs.Unit.{UnitClass}
use Rattle.unit_files.specs.Fields.{Mention}
use Rattle.unit_files.specs.ClassNames.{named_class, named_classes}

-- one class more
pub named_more : (mentions : List Mention) (rows : List ClassRow) (m : Mention) (row : ClassRow) → length mentions ≡ length rows
    → named_classes (mentions ++ m ∷ []) (rows ++ row ∷ []) ≡ named_classes mentions rows ++ named_class m row ∷ []
named_more [] [] m row same = refl
named_more [] (r ∷ rows) m row same = absurd (omega (arith, same))
named_more (x ∷ mentions) [] m row same = absurd (omega (arith, same))
named_more (x ∷ mentions) (r ∷ rows) m row same =
    ap (λ (xs : List UnitClass). named_class x r ∷ xs) (named_more mentions rows m row (omega (arith, same)))
