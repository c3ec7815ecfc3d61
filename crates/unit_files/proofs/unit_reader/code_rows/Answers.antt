use Rattle.std.proofs.Common.{◌∙◌, sym}
use Rattle.std.proofs.lemmas.Result.{err_from_is_err_and}
use Rattle.unit_files.specs.UnitReading.{unit_front_of}
use Rattle.unit_files.proofs.Reading.Codes.{no_code, bytes_are, are_spelled, no_blocks, no_marks, no_fixups, code_read}
use Rattle.unit_files.proofs.unit_reader.code_rows.Goals as goal

pub returns-in_err-starts-clause-gives : goal.returns-in_err-starts-clause-gives
returns-in_err-starts-clause-gives c =
    let p = err_from_is_err_and c.from_residual-in_err-starts.result c.from_residual-in_err-starts.ensures.1 in
    rw (p.1, p.2) (no_code (unit_front_of c.args.front.now) _ _ c.in_err-starts.field-0.0 (rw c.deref-3.ensures.value at c.in_err-starts.ensures.gives))

pub returns-in_err-blocks-clause-gives : goal.returns-in_err-blocks-clause-gives
returns-in_err-blocks-clause-gives c =
    let p = err_from_is_err_and c.from_residual-in_err-blocks.result c.from_residual-in_err-blocks.ensures.1 in
    let f = unit_front_of c.args.front.now in
    let file = c.in_ok-starts.ensures.file in
    let starts = rw c.deref-3.ensures.value at c.in_ok-starts.ensures.gives in
    rw (p.1, p.2) (no_blocks c.decoded_law.ensures c.read_code_laws.ensures f _ c.are_bytes.ensures c.requires _ _ _ starts c.in_err-blocks.field-0.0
    (rw (file, c.tables.ensures, c.deref-6.ensures.value, c.deref-7.ensures.value, c.in_ok-firsts.ensures, c.deref-2.ensures.value, c.in_ok-own.ensures, c.deref.ensures.value) at c.in_err-blocks.ensures.gives))

-- what is kept of the bytes of the code is that of the instructions that were read
pub returns-in_err-marks-clause-gives : goal.returns-in_err-marks-clause-gives
returns-in_err-marks-clause-gives c =
    let p = err_from_is_err_and c.from_residual-in_err-marks.result c.from_residual-in_err-marks.ensures.1 in
    let f = unit_front_of c.args.front.now in
    let file = c.in_ok-starts.ensures.file in
    let file2 = c.in_ok-blocks.ensures.file ∙ file in
    let starts = rw c.deref-3.ensures.value at c.in_ok-starts.ensures.gives in
    let blocks = rw (file, c.tables.ensures, c.deref-6.ensures.value, c.deref-7.ensures.value, c.in_ok-firsts.ensures, c.deref-2.ensures.value, c.in_ok-own.ensures, c.deref.ensures.value) at c.in_ok-blocks.ensures.gives in
    let same = bytes_are c.decoded_law.ensures c.read_code_laws.ensures f _ c.are_bytes.ensures c.requires _ _ _ starts in
    let table = c.in_ok-bytes.ensures _ (are_spelled c.decoded_law.ensures c.read_code_laws.ensures f _ c.are_bytes.ensures c.requires _ _ _ starts) (c.deref-5.ensures.value ∙ rw file at c.in_ok-code.ensures.bytes ∙ sym same) in
    rw (p.1, p.2) (no_marks c.decoded_law.ensures c.read_code_laws.ensures f _ c.are_bytes.ensures c.requires _ _ _ starts _ _ blocks _ table c.in_err-marks.field-0.0 (rw (file2, c.deref-8.ensures.value, c.deref-9.ensures.value) at c.in_err-marks.ensures.gives))

pub returns-in_err-fixups-clause-gives : goal.returns-in_err-fixups-clause-gives
returns-in_err-fixups-clause-gives c =
    let p = err_from_is_err_and c.from_residual-in_err-fixups.result c.from_residual-in_err-fixups.ensures.1 in
    let f = unit_front_of c.args.front.now in
    let file = c.in_ok-starts.ensures.file in
    let file2 = c.in_ok-blocks.ensures.file ∙ file in
    let file3 = c.in_ok-marks.ensures.file ∙ file2 in
    let starts = rw c.deref-3.ensures.value at c.in_ok-starts.ensures.gives in
    let blocks = rw (file, c.tables.ensures, c.deref-6.ensures.value, c.deref-7.ensures.value, c.in_ok-firsts.ensures, c.deref-2.ensures.value, c.in_ok-own.ensures, c.deref.ensures.value) at c.in_ok-blocks.ensures.gives in
    let same = bytes_are c.decoded_law.ensures c.read_code_laws.ensures f _ c.are_bytes.ensures c.requires _ _ _ starts in
    let table = c.in_ok-bytes.ensures _ (are_spelled c.decoded_law.ensures c.read_code_laws.ensures f _ c.are_bytes.ensures c.requires _ _ _ starts) (c.deref-5.ensures.value ∙ rw file at c.in_ok-code.ensures.bytes ∙ sym same) in
    rw (p.1, p.2) (no_fixups c.decoded_law.ensures c.read_code_laws.ensures f _ c.are_bytes.ensures c.requires _ _ _ starts _ _ blocks _ table _ _ (rw (file2, c.deref-8.ensures.value, c.deref-9.ensures.value) at c.in_ok-marks.ensures.gives) c.in_err-fixups.field-0.0 (rw (file3, c.deref-9.ensures.value) at c.in_err-fixups.ensures.gives))

pub returns-clause-gives : goal.returns-clause-gives
returns-clause-gives c =
    let f = unit_front_of c.args.front.now in
    let file = c.in_ok-starts.ensures.file in
    let file2 = c.in_ok-blocks.ensures.file ∙ file in
    let file3 = c.in_ok-marks.ensures.file ∙ file2 in
    let starts = rw c.deref-3.ensures.value at c.in_ok-starts.ensures.gives in
    let blocks = rw (file, c.tables.ensures, c.deref-6.ensures.value, c.deref-7.ensures.value, c.in_ok-firsts.ensures, c.deref-2.ensures.value, c.in_ok-own.ensures, c.deref.ensures.value) at c.in_ok-blocks.ensures.gives in
    let same = bytes_are c.decoded_law.ensures c.read_code_laws.ensures f _ c.are_bytes.ensures c.requires _ _ _ starts in
    let table = c.in_ok-bytes.ensures _ (are_spelled c.decoded_law.ensures c.read_code_laws.ensures f _ c.are_bytes.ensures c.requires _ _ _ starts) (c.deref-5.ensures.value ∙ rw file at c.in_ok-code.ensures.bytes ∙ sym same) in
    code_read c.decoded_law.ensures c.read_code_laws.ensures f _ c.are_bytes.ensures c.requires _ _ _ starts _ _ blocks _ table _ _ (rw (file2, c.deref-8.ensures.value, c.deref-9.ensures.value) at c.in_ok-marks.ensures.gives) _ _ _ (rw (file3, c.deref-9.ensures.value) at c.in_ok-fixups.ensures.gives) (rw file at c.in_ok-code.ensures.bytes)
