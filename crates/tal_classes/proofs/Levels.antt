-- The fields of a class and of those above it, level by level.
use Rattle.std.proofs.Common.{◌≡◌, ◌<◌, ℕ, zero, suc, ◌+◌, ◌-◌, List, length, Option, Some, None, slice_get, refl, ap, ◌∙◌, arith}
use Rattle.std.specs.Option.{option_and_then, option_map_or}
use Rattle.unit_files.specs.declared.parts.UnitClass.{UnitClass}
use Rattle.tal_classes.specs.Members.{field_count}

-- no levels have no field
pub count_none : (n : ℕ) (rows : List UnitClass) (c : Option ℕ) → n ≡ 0 → field_count n rows c ≡ 0
unfolding field_count
count_none zero rows c h = refl
count_none (suc n) rows c h = absurd (omega arith)

-- a class that is not there has none
pub count_nowhere : (n : ℕ) (rows : List UnitClass) (c : Option ℕ) → option_and_then (slice_get rows) c ≡ None → field_count n rows c ≡ 0
unfolding field_count
count_nowhere zero rows c h = refl
count_nowhere (suc n) rows c h = ap (λ (o : Option UnitClass). option_map_or (λ (k : UnitClass). length k.row.fields + field_count n rows k.row.parent) o 0) h

-- a class that is there has its own fields and those of the class above it
pub count_behind : (n : ℕ) (rows : List UnitClass) (c : Option ℕ) (k : UnitClass) → 0 < n → option_and_then (slice_get rows) c ≡ Some k
    → field_count n rows c ≡ length k.row.fields + field_count (n - 1) rows k.row.parent
unfolding field_count
count_behind zero rows c k lt h = absurd (omega arith)
count_behind (suc n) rows c k lt h =
    ap (λ (o : Option UnitClass). option_map_or (λ (j : UnitClass). length j.row.fields + field_count n rows j.row.parent) o 0) h
    ∙ ap (λ i. length k.row.fields + field_count i rows k.row.parent) (let e : n ≡ suc n - 1 = omega arith in e)
