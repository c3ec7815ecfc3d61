-- How blocks and marks are read, one field after another.
use Rattle.std.proofs.Common.{◌≡◌, ℕ, Bool, cond, List, Ok, Err}
use Rattle.file_fields.specs.declared.fault.ImageFault.TheVariants.{Bad}
use Rattle.file_fields.specs.Grammar.{done, checked, each}
use Rattle.file_fields.specs.Reading.{◌▸◌, any_number_at, pair_at, run}
use Rattle.file_fields.specs.Composed.{then_run, run-then_with, pair_run}
use Rattle.tal_image.specs.Conditions.{Tables, between}
use Rattle.tal_image.specs.Fields.{type_field, block_where, mark_where}
use Rattle.tal_image.proofs.Meaning.Rows.{after_types}
use Rattle.tal_image.proofs.Reading.RowReadings.{number_then}

-- a block
pub block_run : (t : Tables) (place : ℕ → Bool) (file : List ℕ) (at : ℕ)
    → run (block_where t place) file at
    ≡ (any_number_at file at ▸ λ offset. cond (place offset.0) (
    run (each 7 (type_field t)) file offset.1 ▸ λ types. run (checked (between 0 64) 25) file types.1 ▸ λ count.
    run (each count.0 (type_field t)) file count.1 ▸ λ slots. Ok (record { offset = offset.0; types = types.0; slots = slots.0 }, slots.1)) (Err (Bad at 24)))
unfolding block_where
block_run t place file at =
    number_then place (λ at. Bad at 24) file at _ _ (λ offset. then_run (each 7 (type_field t)) (after_types t offset.0) file offset.1 _ (λ types.
    then_run (checked (between 0 64) 25) _ file types.1 _ (λ count. run-then_with (each count.0 (type_field t)) _ file count.1)))

-- a mark
pub mark_run : (place : ℕ → Bool) (word : ℕ → ℕ → ℕ → Bool) (file : List ℕ) (at : ℕ)
    → run (mark_where place word) file at
    ≡ (any_number_at file at ▸ λ offset. cond (place offset.0) (
    pair_at file offset.1 ▸ λ p. cond (word offset.0 p.0.0 p.0.1) (Ok (record { offset = offset.0; tag = p.0.0; index = p.0.1 }, p.1)) (Err (Bad offset.1 27))) (Err (Bad at 26)))
unfolding mark_where
mark_run place word file at =
    number_then place (λ at. Bad at 26) file at _ _ (λ offset.
    pair_run (word offset.0) (λ tag index at. Bad at 27) (λ tag index. done (record { offset = offset.0; tag = tag; index = index })) file offset.1)
