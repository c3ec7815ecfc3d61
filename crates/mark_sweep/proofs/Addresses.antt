-- Words that name shapes and blocks.
use Rattle.std.proofs.Common.{◌≡◌, ℕ, ◌+◌, ◌-◌, ◌*◌, ◌/◌, ◌<◌, ◌≤◌, true, false, length, arith, refl}
use Rattle.std.specs.Prelude.{nat_lt}
use Rattle.std.proofs.lemmas.Bool.Decides.{nat_tests}
use Rattle.object_layout.specs.declared.rows.Shape.{Shape}
use Rattle.object_layout.specs.declared.rows.Shape.TheVariants.{Class, Kind}
use Rattle.object_layout.specs.Areas.{heap_start, table_address, descriptor_address}
use Rattle.object_layout.specs.Classes.{ShapesView, IsShape}
use Rattle.mark_sweep.specs.Objects.{address, shape_named, shape_word}

-- the word of a class names it, and that of a kind names it
pub shape_back : (s : ShapesView) (shape : Shape) → length s.classes ≤ 1024 → IsShape s shape → shape_named (shape_word shape) ≡ shape
unfolding shape_named shape_word table_address descriptor_address
shape_back s (Class c) few l =
    let below : nat_lt (2097152 + 256 * c) 2621440 ≡ true = grind (arith, nat_tests) in
    let number : (2097152 + 256 * c - 2097152) / 256 ≡ c = omega arith in
    rw (below, number) refl
shape_back s (Kind k) few l =
    let above : nat_lt (2621440 + 16 * k) 2621440 ≡ false = grind (arith, nat_tests) in
    let number : (2621440 + 16 * k - 2621440) / 16 ≡ k = omega arith in
    rw (above, number) refl

-- two blocks' objects have two addresses
pub address-apart : (i j : ℕ) → address i ≡ address j → i ≡ j
unfolding address
address-apart i j e = omega arith

-- and these lie in the heap
pub address-high : (i : ℕ) → heap_start ≤ address i
unfolding address
address-high i = omega arith
