-- A file of one number that ends inside it has fewer than four bytes.
use Rattle.std.proofs.Common.{arith, ℕ, ◌<◌, ◌^◌, Bool, List, [], ◌∷◌, length, subst, sym}
use Rattle.file_fields.specs.Grammar.{Grammar, Field, checked, Sound, EndsInside}
use Rattle.file_fields.specs.Grammar.Grammar.{done}
use Rattle.file_fields.specs.Grammar.Field.{Chunk, Instruction}
use Rattle.file_fields.specs.Laws.{EndsBy}

-- no file ends behind the end
not_behind_done : {A : Type 0} (x : A) (fs : List Field) (after : Grammar A) (bytes : List ℕ) → Sound (done x) fs after → EndsInside after bytes → ⊥
not_behind_done {A} x [] after bytes e ends = subst (λ (g : Grammar A). EndsInside g bytes) (sym e) ends
not_behind_done x (f ∷ fs) after bytes (mid, meets, sound) ends = meets

-- so it has at most 2^31 bytes
pub ends_by_checked : (ok : ℕ → Bool) (condition : ℕ) → EndsBy (checked ok condition) (2 ^ 31)
ends_by_checked ok condition [] after bytes e ends =
    let short : length bytes < 4 = subst (λ (g : Grammar ℕ). EndsInside g bytes) (sym e) ends in omega arith
ends_by_checked ok condition (Chunk t ∷ fs) after bytes (mid, (l, b, o, e), sound) ends =
    absurd (not_behind_done _ fs after bytes (subst (λ (g : Grammar ℕ). Sound g fs after) e sound) ends)
ends_by_checked ok condition (Instruction t i ∷ fs) after bytes (mid, meets, sound) ends = absurd meets
