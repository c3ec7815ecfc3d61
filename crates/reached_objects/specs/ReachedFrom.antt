-- What values reach in a store, as a least set.
use Rattle.std.specs.Prelude.{◌≡◌, ℕ, ◌<◌, true, List, length, Some, slice_get}
use Rattle.object_layout.specs.Classes.{ShapesView}
use Rattle.typed_machine.specs.Values.{Value}
use Rattle.typed_machine.specs.Stores.{Object, Store}
use Rattle.typed_machine.specs.Reaching.{names, references_of}

-- the least set of objects that has those that the values refer to, and those that a member's reference fields or elements
-- refer to
pub data ReachedFrom (s : ShapesView) (store : Store) (values : List Value) : ℕ → Type 0 where
  named : (i : ℕ) → i < length store → names values i ≡ true → ReachedFrom s store values i
  followed : (i j : ℕ) (o : Object) → ReachedFrom s store values i → slice_get store i ≡ Some o → j < length store → names (references_of s o) j ≡ true → ReachedFrom s store values j
