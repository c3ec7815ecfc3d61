use Rattle.std.proofs.Common.{◌≡◌, ℕ, ◌+◌, ◌-◌, ◌*◌, ◌/◌, ◌<◌, ◌≤◌, ◌&&◌, Bool, true, false, IsTrue, cond, nat_le, nat_lt, Option, None, Some, List, length, get_or, arith, refl}
use Rattle.std.specs.Option.{option_and_then, option_map_or}
use Rattle.std.specs.List.{slice_get}
use Rattle.std.proofs.lemmas.Bool.{false≢true}
use Rattle.std.proofs.lemmas.Bool.Decides.{nat_tests}
use Rattle.std.proofs.lemmas.Option.{slice_get_within}
use Rattle.object_layout.specs.declared.rows.FieldTy.{FieldTy}
use Rattle.object_layout.specs.declared.rows.Shape.{Shape}
use Rattle.object_layout.specs.declared.rows.Shape.TheVariants.{Class, Kind}
use Rattle.object_layout.specs.Areas.{word_index}
use Rattle.object_layout.specs.Classes.{ShapesView, Fields, field_at, Need, rounded_up, Element, is_reference}
use Rattle.mark_sweep.specs.Objects.{IsObject, IsReference, holds_reference, shape_named}

-- the word of those from byte 4 on that stands at a byte
word-at : (b j : ℕ) → word_index 4 b ≡ Some j → (4 ≤ b) × (j ≡ (b - 4) / 4)
unfolding word_index
word-at b j e = parts (nat_le 4 b) _ refl e
  where
    below : nat_le 4 b ≡ true → 4 ≤ b
    below h = grind (arith, nat_tests)

    parts : (t u : Bool) → nat_le 4 b ≡ t → cond (t && u) (Some ((b - 4) / 4)) None ≡ Some j → (4 ≤ b) × (j ≡ (b - 4) / 4)
    parts true true h e = (below h, cc)
    parts true false h e = cc
    parts false u h e = cc

-- no type is no reference
none-holds_reference : option_map_or is_reference None false ≡ true → ⊥
none-holds_reference h = false≢true h

-- a reference field is one of the fields
field_word : (s : ShapesView) (c k : ℕ) → option_map_or is_reference (field_at s c (4 * k)) false ≡ true → (1 ≤ k) × (k ≤ length (Fields s c))
unfolding field_at
field_word s c k h = at (word_index 4 (4 * k)) refl h
  where
    found : (j : ℕ) → word_index 4 (4 * k) ≡ Some j → (o : Option FieldTy) → slice_get (Fields s c) j ≡ o → option_map_or is_reference o false ≡ true → (1 ≤ k) × (k ≤ length (Fields s c))
    found j e None g r = absurd (none-holds_reference r)
    found j e (Some t) g r =
        let w = word-at (4 * k) j e in
        let l = slice_get_within (Fields s c) j t g in
        let a = w.0 in
        let b = w.1 in
        (omega arith, omega arith)

    at : (o : Option ℕ) → word_index 4 (4 * k) ≡ o → option_map_or is_reference (option_and_then (slice_get (Fields s c)) o) false ≡ true → (1 ≤ k) × (k ≤ length (Fields s c))
    at None e r = absurd (none-holds_reference r)
    at (Some j) e r = found j e (slice_get (Fields s c) j) refl r

-- the references of a shape lie within what it needs
within-need : (s : ShapesView) (shape : Shape) (n k : ℕ) → holds_reference s shape n k ≡ true → (1 ≤ k) × (k + 2 < Need s shape n)
unfolding holds_reference Need rounded_up
within-need s (Class c) n k h = let f = field_word s c k h in let a = f.0 in let b = f.1 in (a, omega arith)
within-need s (Kind q) n k h = let p = tests (nat_lt 1 k) (nat_lt k (2 + n)) (option_map_or is_reference (Element s q) false) refl refl h in let a = p.0 in let b = p.1 in (omega arith, omega arith)
  where
    first : nat_lt 1 k ≡ true → 1 < k
    first e = grind (arith, nat_tests)

    second : nat_lt k (2 + n) ≡ true → k < 2 + n
    second e = grind (arith, nat_tests)

    tests : (a b c : Bool) → nat_lt 1 k ≡ a → nat_lt k (2 + n) ≡ b → (a && b) && c ≡ true → (1 < k) × (k < 2 + n)
    tests true true c e f h = (first e, second f)
    tests true false c e f h = absurd (false≢true h)
    tests false b c e f h = absurd (false≢true h)

-- an object's references lie within its block
pub lie_within : (s : ShapesView) (words : List ℕ) (i k : ℕ) → IsObject s words i
    → IsTrue (holds_reference s (shape_named (get_or words (i + 2) 0)) (get_or words (i + 3) 0) k) → IsReference s words i k
lie_within s words i k o h =
    let w = within-need s (shape_named (get_or words (i + 2) 0)) (get_or words (i + 3) 0) k h in
    record { behind = w.0; within = rw o.exact w.1; holds_reference = h }
