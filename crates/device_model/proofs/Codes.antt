-- The waiting codes, item by item.
use Rattle.std.proofs.Common.{◌≡◌, ◌≤◌, ℕ, List, [], ◌∷◌, length, drop, false, ltb, refl, sym, arith, inl, inr, length-append, length-drop}
use Rattle.std.proofs.lemmas.Bool.{cases_Bool, ltb-true, ltb-false}
use Rattle.std.proofs.lemmas.List.{drop-append-le, drop-drop}
use Rattle.device_model.specs.History.{Item, Ticked, Keyed, Wrote, Took, Granted, Drew, History, accepted_codes, found_reads, left_of, waiting}
use Rattle.device_model.specs.ItemByItem.{next_waiting}

-- no more reads found a code than codes were accepted
found_few : (h : History) → found_reads h ≤ length (accepted_codes h)
unfolding accepted_codes
found_few [] = omega arith
found_few (Keyed code ∷ h) =
    elim (cases_Bool (ltb (length (left_of (accepted_codes h) (found_reads h))) 16)) [
      | inl b ↦ rw b (omega (arith, found_few h, length-append (accepted_codes h) (code ∷ [])))
      | inr b ↦ rw b (found_few h)
    ]
found_few (Took ∷ h) =
    elim (cases_Bool (ltb 0 (length (left_of (accepted_codes h) (found_reads h))))) [
      | inl b ↦ rw b (omega (arith, ltb-true 0 (length (drop (found_reads h) (accepted_codes h))) b, length-drop (found_reads h) (accepted_codes h)))
      | inr b ↦ rw b (found_few h)
    ]
found_few (Ticked ∷ h) = found_few h
found_few (Wrote port byte ∷ h) = found_few h
found_few (Granted line ∷ h) = found_few h
found_few (Drew position written ∷ h) = found_few h

-- Taking from an empty queue changes nothing.
no_less : (xs : List ℕ) → ltb 0 (length xs) ≡ false → drop 1 xs ≡ xs
no_less [] b = refl
no_less (x ∷ xs) b = absurd (omega (arith, ltb-false 0 (length (x ∷ xs)) b))

-- One item more, and what waits: the queue takes a code that finds room, and gives its first to a read.
pub waiting_steps : (x : Item) (h : History) → waiting (x ∷ h) ≡ next_waiting x (waiting h)
unfolding accepted_codes waiting next_waiting
waiting_steps (Keyed code) h =
    elim (cases_Bool (ltb (length (left_of (accepted_codes h) (found_reads h))) 16)) [
      | inl b ↦ rw b (drop-append-le (found_reads h) (accepted_codes h) (code ∷ []) (found_few h))
      | inr b ↦ rw b refl
    ]
waiting_steps Took h =
    elim (cases_Bool (ltb 0 (length (left_of (accepted_codes h) (found_reads h))))) [
      | inl b ↦ rw b (sym (drop-drop 1 (found_reads h) (accepted_codes h)))
      | inr b ↦ rw b (sym (no_less (drop (found_reads h) (accepted_codes h)) b))
    ]
waiting_steps Ticked h = refl
waiting_steps (Wrote port byte) h = refl
waiting_steps (Granted line) h = refl
waiting_steps (Drew position written) h = refl

-- Nothing waits at first.
pub waiting_first : waiting [] ≡ []
unfolding accepted_codes waiting
waiting_first = refl

-- An item leaves at most 16 codes where at most 16 waited.
few_after : (x : Item) (codes : List ℕ) → length codes ≤ 16 → length (next_waiting x codes) ≤ 16
unfolding next_waiting
few_after (Keyed code) codes few =
    elim (cases_Bool (ltb (length codes) 16)) [
      | inl room ↦ rw room (omega (arith, ltb-true (length codes) 16 room, length-append codes (code ∷ [])))
      | inr full ↦ rw full few
    ]
few_after Took codes few = omega (arith, few, length-drop 1 codes)
few_after Ticked codes few = few
few_after (Wrote port byte) codes few = few
few_after (Granted line) codes few = few
few_after (Drew position written) codes few = few

-- At most 16 codes wait.
pub few_wait : (h : History) → length (waiting h) ≤ 16
few_wait [] = rw waiting_first (omega arith)
few_wait (x ∷ h) = rw (waiting_steps x h) (few_after x (waiting h) (few_wait h))
