-- What sinks in memory gain.
use Rattle.std.proofs.Common.{◌≡◌, ℕ, List, ◌++◌, ◌-◌, ◌≤◌, take, take_all, arith, length, Some, None, IsNone, Option, ap, ◌∙◌, option_map, unwrap_or, refl}
use Rattle.outside.specs.FileMaps.{IsFront}
use Rattle.outside.specs.Sinks.{Gained, GainedFront}
use Rattle.outside.specs.Memory.{BytesInMemory, HasRoomFor, filled}
use Rattle.outside.specs.declared.failing.FailingCall.{FailingCall}
use Rattle.outside.specs.Failing.{passing, through_at}
use Rattle.outside.proofs.Fronts.{IsFront-take, IsFront-trans, IsFront-all}

-- Filling with some of the bytes gains a front of them.
pub gains_front : (old new : BytesInMemory) (part bytes : List ℕ) → new.bytes ≡ filled old part → IsFront part bytes → GainedFront (Some old.bytes) (Some new.bytes) bytes
gains_front old new part bytes made is_front =
    (take (old.room - length old.bytes) part, IsFront-trans _ _ _ (IsFront-take _ part) is_front, ap (λ l. Some l) made)

-- What passes at a call is a front of the bytes.
pub passing-front : (failing : List FailingCall) (call : ℕ) (bytes : List ℕ) → IsFront (passing failing call bytes) bytes
passing-front failing call bytes = by_row (through_at failing call)
  where
    by_row : (o : Option ℕ) → IsFront (unwrap_or (option_map (λ n. take n bytes) o) bytes) bytes
    by_row None = IsFront-all bytes
    by_row (Some n) = IsFront-take n bytes

-- Where all bytes pass and there is room, they are gained.
pub gains_all : (old new : BytesInMemory) (part bytes : List ℕ) → new.bytes ≡ filled old part → part ≡ bytes → HasRoomFor old (length bytes) → Gained (Some old.bytes) (Some new.bytes) bytes
gains_all old new part bytes made all room =
    let fits : length bytes ≤ old.room - length old.bytes = omega arith in
    ap (λ l. Some l) (made ∙ ap (λ l. filled old l) all ∙ ap (λ l. old.bytes ++ l) (take_all _ bytes fits))

-- At a call that the list does not have all bytes pass.
pub passing-all : (failing : List FailingCall) (call : ℕ) (bytes : List ℕ) → IsNone (through_at failing call) → passing failing call bytes ≡ bytes
passing-all failing call bytes unlisted = by_row (through_at failing call) unlisted
  where
    by_row : (o : Option ℕ) → IsNone o → unwrap_or (option_map (λ n. take n bytes) o) bytes ≡ bytes
    by_row None unlisted = refl
    by_row (Some n) unlisted = cc
