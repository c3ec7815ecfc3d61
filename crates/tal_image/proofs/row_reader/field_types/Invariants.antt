use Rattle.std.proofs.Common.{◌≡◌, ◌-◌, ℕ, length}
use Rattle.file_fields.specs.Grammar.{each}
use Rattle.file_fields.specs.Reading.{run}
use Rattle.tal_image.specs.Fields.{field_type_field}
use Rattle.file_fields.specs.Composed.{RowsLeft}
use Rattle.tal_image.proofs.row_reader.field_types.Given as goal

abbrev pub invariant-loop-i : goal.invariant-loop-i
invariant-loop-i l = record {
  read : RowsLeft l.fields (l.count - l.i) (λ later (kept : ℕ). field_type_field l.tables) (λ (kept : ℕ) x. kept) 0 l.reader.file.now l.reader.at (run (each l.count (field_type_field l.tables)) l.fn.reader.file.now l.fn.reader.at);
  count : length l.fields ≡ l.i;
  file : l.reader.file ≡ l.fn.reader.file;
}
