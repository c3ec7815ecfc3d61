-- What holds by the case of a result.
use Rattle.std.proofs.Common.{◌≡◌, ℕ, Ok, Err, Some, OnOk, OnErr, IsOk, refl, arith}
use Rattle.std.specs.Prelude.{Result}
use Rattle.outside.specs.Transfer.{taken}

-- What holds anyway holds on an error.
pub on-err : {T E : Type 0} {P : Type 0} (r : Result T E) → P → OnErr r P
on-err (Ok _) p = tt
on-err (Err _) p = p

-- What follows from success holds where there was success.
pub on-ok : {T E : Type 0} {P : Type 0} (r : Result T E) → (IsOk r → P) → OnOk r P
on-ok (Ok _) p = p refl
on-ok (Err _) p = tt

-- A write that took bytes answered how many.
pub taken-some : {E : Type 0} (r : Result ℕ E) (count : ℕ) → taken r ≡ Some count → r ≡ Ok count
taken-some (Ok n) count took = grind arith
taken-some (Err _) count took = cc
