-- An object of the one class.
use Rattle.std.proofs.Common.{◌≡◌, ℕ, zero, suc, ◌+◌, ◌-◌, ◌<◌, ◌≤◌, inl, inr, List, [], ◌∷◌, length, slice_index, IsTrue, nat_eq, arith, sym, ◌∙◌, ap, subst}
use Rattle.std.proofs.lemmas.Bool.Decides.{nat_tests}
use Rattle.heap_words.specs.Headers.{size_at}
use Rattle.heap_words.specs.Blocks.{FormedHeap, IsObjectWord, IsUsed}
use Rattle.heap_words.specs.Laws.{BlockLaws}
use Rattle.free_index.specs.Lists.{In}
use Rattle.object_layout.specs.Areas.{table_address}
use Rattle.object_layout.specs.Classes.{ShapesView, Need}
use Rattle.object_layout.specs.declared.rows.Shape.TheVariants.{Class}
use Rattle.mark_sweep.specs.Objects.{IsObject, shape_named, shape_word}
use Rattle.heap_cases.specs.Plain.{IsPlain}

-- it stands in a used block that has the class's word and the size that its objects need
pub number_object : (s : ShapesView) (words : List ℕ) (i : ℕ) → IsPlain s → shape_named (shape_word (Class 0)) ≡ Class 0 → IsUsed words i
    → slice_index words (i + 2) ≡ table_address 0 → Need s (Class 0) (slice_index words (i + 3)) ≡ size_at words i → IsObject s words i
unfolding shape_word
number_object s words i p back used named exact =
    let e : shape_named (slice_index words (i + 2)) ≡ Class 0 = ap shape_named named ∙ back in
    record { used = used; there = rw e p.there; named = rw e named; exact = rw e (sym exact) }

-- a word of a used block behind the header and the link is one of an object
pub object_place : BlockLaws → (words : List ℕ) (at i : ℕ) → FormedHeap words → IsUsed words at → 2 ≤ i - at → i < at + size_at words at → (i < length words) × IsObjectWord words i
object_place laws words at i formed used behind before =
    let room = laws.places.room words at formed used.begins in
    let within = room.within in
    let place : at + (i - at) ≡ i = omega arith in
    (omega arith, subst (IsObjectWord words) place (laws.places.object words at (i - at) used behind (omega arith)))

-- what holds of each of the first n words of a list that is no longer holds of each listed one
pub listed_hold : (P : ℕ → Type 0) (list : List ℕ) (n : ℕ) → ((k : ℕ) → k < n → P (slice_index list k)) → length list ≤ n → (w : ℕ) → In w list → P w
listed_hold P [] n each fits w m = absurd m
listed_hold P (x ∷ xs) n each fits w (inl e) = subst P (sym e) (each zero (omega arith))
listed_hold P (x ∷ xs) n each fits w (inr m) = listed_hold P xs (n - 1) (λ k l. each (suc k) (omega arith)) (omega arith) w m

-- numbers that a test finds equal
pub same_number : (a b : ℕ) → IsTrue (nat_eq a b) → a ≡ b
same_number a b h = grind (arith, nat_tests)
