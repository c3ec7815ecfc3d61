use Rattle.std.proofs.Common.{◌≡◌, ◌-◌, []}
use Rattle.tal_image.specs.Conditions.{class_view}
use Rattle.tal_image.specs.Fields.{with_class, class_fields}
use Rattle.file_fields.specs.Grammar.{many}
use Rattle.file_fields.specs.Reading.{run}
use Rattle.tal_image.specs.ClassReading.{AreSizes}
use Rattle.file_fields.specs.Composed.{RowsLeft}
use Rattle.tal_image.proofs.class_reader.classes.Given as goal

abbrev pub invariant-loop-i : goal.invariant-loop-i
invariant-loop-i l = record {
  read : RowsLeft l.classes.items (l.count - l.i) (λ later kept. class_fields l.tables l.functions kept) with_class l.classes.items l.reader.file.now l.reader.at (run (many l.count (λ later classes. class_fields l.tables l.functions classes) with_class []) l.fn.reader.file.now l.fn.reader.at);
  known : AreSizes (class_view l.functions l.classes.items) l.sizes.items;
  file : l.reader.file ≡ l.fn.reader.file;
}
