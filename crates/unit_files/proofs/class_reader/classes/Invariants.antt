use Rattle.std.proofs.Common.{◌≡◌, ◌-◌, length}
use Rattle.file_fields.specs.Reading.{run}
use Rattle.file_fields.specs.Composed.{RowsLeft}
use Rattle.tal_image.specs.Conditions.{class_view}
use Rattle.tal_image.specs.ClassReading.{AreSizes}
use Rattle.unit_files.specs.ClassNames.{named_classes}
use Rattle.unit_files.specs.Fields.{tables_behind, unit_class_fields, unit_classes}
use Rattle.unit_files.specs.Formed.{with_unit_class}
use Rattle.unit_files.proofs.class_reader.classes.Given as goal

abbrev pub invariant-loop-i : goal.invariant-loop-i
invariant-loop-i l = record {
  read : RowsLeft (named_classes l.mentions.items l.rows.items) (l.header.image.classes - l.i) (λ later kept. unit_class_fields l.header.names (tables_behind l.header) l.functions kept) with_unit_class l.rows.items l.reader.file.now l.reader.at (run (unit_classes l.header l.functions) l.fn.reader.file.now l.fn.reader.at);
  known : AreSizes (class_view l.functions l.rows.items) l.sizes.items;
  same : length l.mentions.items ≡ length l.rows.items;
  file : l.reader.file ≡ l.fn.reader.file;
}
