-- How blocks, marks and fix-ups are read, one field after another.
use Rattle.std.proofs.Common.{◌≡◌, ℕ, Bool, cond, List, Result, Ok, Err, ap, ◌∙◌}
use Rattle.std.specs.Prelude.{nat_lt}
use Rattle.file_fields.specs.declared.fault.ImageFault.{ImageFault}
use Rattle.file_fields.specs.declared.fault.ImageFault.TheVariants.{Bad}
use Rattle.file_fields.specs.Grammar.{Grammar, done, pair, field, checked, then_with, between}
use Rattle.file_fields.specs.Reading.{◌▸◌, any_number_at, pair_at, run}
use Rattle.file_fields.specs.Composed.{run-then_with, then_run, number_run, pair_run, same_bind}
use Rattle.tal_image.specs.declared.parts.Tables.{Tables}
use Rattle.tal_image.specs.Fields.{block_where, mark_where}
use Rattle.unit_files.specs.Unit.{UnitMark}
use Rattle.unit_files.specs.Conditions.{fixed_rows}
use Rattle.unit_files.specs.Fields.{unit_block_where, unit_mark_where, fixup_where}

-- a number, and what is read then
number_then : {B : Type 0} (ok : ℕ → Bool) (fault : ℕ → ImageFault) (file : List ℕ) (at : ℕ) (f : ℕ → Grammar B) (more : ℕ × ℕ → Result (B × ℕ) ImageFault)
    → ((n : ℕ × ℕ) → run (f n.0) file n.1 ≡ more n)
    → run (then_with (field ok fault) f) file at ≡ (any_number_at file at ▸ λ n. cond (ok n.0) (more n) (Err (fault at)))
unfolding then_with
number_then {B} ok fault file at f more same =
    number_run ok fault f file at
    ∙ same_bind (any_number_at file at) _ _ (λ n. ap (λ (r : Result (B × ℕ) ImageFault). cond (ok n.0) r (Err (fault at))) (same n))

-- a block
pub block_run : (t : Tables) (place : ℕ → Bool) (file : List ℕ) (at : ℕ)
    → run (unit_block_where t place) file at ≡ (run (block_where t place) file at ▸ λ b. Ok (record { offset = b.0.offset; regs = b.0.types; slots = b.0.slots }, b.1))
unfolding unit_block_where
block_run t place file at = run-then_with (block_where t place) _ file at

-- a mark
abbrev mark_of : ℕ → ℕ → ℕ → UnitMark
mark_of offset tag index = record { offset = offset; tag = tag; index = index }

pub mark_run : (place : ℕ → Bool) (word : ℕ → ℕ → ℕ → Bool) (file : List ℕ) (at : ℕ)
    → run (unit_mark_where place word) file at
    ≡ (any_number_at file at ▸ λ offset. cond (place offset.0) (
    pair_at file offset.1 ▸ λ p. cond (word offset.0 p.0.0 p.0.1) (Ok (mark_of offset.0 p.0.0 p.0.1, p.1)) (Err (Bad offset.1 27))) (Err (Bad at 26)))
unfolding unit_mark_where mark_where then_with
mark_run place word file at =
    number_then place (λ at. Bad at 26) file at (λ offset. pair (word offset) (λ tag index at. Bad at 27) (λ tag index. done (mark_of offset tag index))) _ (λ offset.
    pair_run (word offset.0) (λ tag index at. Bad at 27) (λ tag index. done (mark_of offset.0 tag index)) file offset.1)

-- a fix-up
pub fixup_run : (t : Tables) (functions arrays statics : ℕ) (place : ℕ → Bool) (file : List ℕ) (at : ℕ)
    → run (fixup_where t functions arrays statics place) file at
    ≡ (any_number_at file at ▸ λ offset. cond (place offset.0) (
    run (checked (between 1 7) 30) file offset.1 ▸ λ kind. run (checked (λ n. nat_lt n (fixed_rows t functions arrays statics kind.0)) 30) file kind.1 ▸ λ index.
    Ok (record { offset = offset.0; kind = kind.0; index = index.0 }, index.1)) (Err (Bad at 30)))
unfolding fixup_where
fixup_run t functions arrays statics place file at =
    number_then place (λ at. Bad at 30) file at _ _ (λ offset. then_run (checked (between 1 7) 30) _ file offset.1 _ (λ kind.
    run-then_with (checked (λ n. nat_lt n (fixed_rows t functions arrays statics kind.0)) 30) _ file kind.1))
