-- The table of one class with one number field has no reference.
use Rattle.std.proofs.Common.{◌≡◌, ℕ, zero, suc, ◌+◌, ◌&&◌, Bool, true, false, slice_index, List, [], ◌∷◌, Option, None, Some, Result, Ok, Err, IfOk, option_and_then, slice_get, arith, refl, sym, subst}
use Rattle.std.specs.Option.{option_map_or}
use Rattle.object_layout.specs.Classes.{ShapesView, parent, own_fields, lineage, lineage_within, Fields, field_at, Element, is_reference}
use Rattle.object_layout.specs.declared.rows.Shape.{Shape}
use Rattle.object_layout.specs.declared.rows.Shape.TheVariants.{Class, Kind}
use Rattle.object_layout.specs.declared.rows.FieldTy.TheVariants.{Num}
use Rattle.mark_sweep.specs.Objects.{IsReference, holds_reference, shape_named}
use Rattle.heap_cases.specs.Plain.{number_class, IsPlain}

-- its rows
abbrev pub number_rows : ShapesView
number_rows = record { classes = number_class ∷ []; kinds = []; funs = []; sigs = 0 }

-- the type at a place of one number is none of references
of_number : (place : Option ℕ) → option_map_or is_reference (option_and_then (slice_get (Num ∷ [])) place) false ≡ false
unfolding is_reference
of_number None = refl
of_number (Some zero) = refl
of_number (Some (suc i)) = refl

-- nor is that at a place of no fields
of_none : (place : Option ℕ) → option_map_or is_reference (option_and_then (slice_get []) place) false ≡ false
of_none None = refl
of_none (Some i) = refl

-- a test beside one that fails fails
none_and : (a : Bool) → (a && false) ≡ false
none_and true = refl
none_and false = refl

-- no word is a reference
no_reference : (shape : Shape) (n k : ℕ) → holds_reference number_rows shape n k ≡ false
unfolding holds_reference field_at Fields lineage lineage_within own_fields parent Element
no_reference (Class zero) n k = of_number _
no_reference (Class (suc c)) n k = of_none _
no_reference (Kind q) n k = none_and _

-- so the table is plain
pub plain_table : (s : ShapesView) → s ≡ number_rows → IsPlain s
plain_table s e = subst IsPlain (sym e) (record { there = omega arith; few = omega arith; plain = none })
  where
    none : (words : List ℕ) (i k : ℕ) → IsReference number_rows words i k → ⊥
    none words i k r =
        let a = r.holds_reference in
        let b : holds_reference number_rows (shape_named (slice_index words (i + 2))) (slice_index words (i + 3)) k ≡ false = no_reference _ _ _ in
        cc

-- what follows from what holds of a value holds of it
pub ok_so : {T E : Type 0} (P Q : T → Type 0) → ((x : T) → P x → Q x) → (r : Result T E) → IfOk r P → IfOk r Q
ok_so P Q f (Ok x) h = f x h
ok_so P Q f (Err e) h = h
