use Rattle.std.proofs.Common.{ℕ, [], ◌∷◌, Err, refl}
use Rattle.std.proofs.lemmas.Result.{err_from_is_err_and}
use Rattle.verve_tool.specs.Assembling.{HasUnit}
use Rattle.verve_tool.specs.Causes.{Unassembled, FileRead}
use Rattle.verve_tool.specs.Commands.{Assemble}
use Rattle.verve_tool.specs.Seen.{files_seen}
use Rattle.verve_tool.specs.declared.load.TheConstants.{TEXT_MOST}
use Rattle.verve_tool.proofs.Endings.{acted_stopped, acted_wanting, acted_written, no_puts, quiet_reads}
use Rattle.verve_tool.proofs.FilesRead.{unread_stops, held_stops}
use Rattle.verve_tool.proofs.assembling.act_asm.Goals as goal

pub returns-in_err-bytes : goal.returns-in_err-bytes
returns-in_err-bytes g c =
    let p = err_from_is_err_and c.from_residual.result c.from_residual.ensures.1 in
    let seen = files_seen g.F.Files.told g.F.Files.steady g.F.Files.read_faults g.F.Files.write_faults in
    rw (p.1, p.2) (acted_stopped _ (Assemble c.args.text.now c.args.unit.now) _ refl refl refl (λ u. u)
    (unread_stops (seen c.args.files.now) (seen c.read_file.new.files) c.args.text.now TEXT_MOST (Unassembled c.args.text.now ∷ []) _ c.in_err-bytes.ensures.stopped)
    c.in_err-bytes.ensures.reads (no_puts _))

pub returns-in_err-made : goal.returns-in_err-made
returns-in_err-made g c =
    let p = err_from_is_err_and c.from_residual-in_err-made.result c.from_residual-in_err-made.ensures.1 in
    let seen = files_seen g.F.Files.told g.F.Files.steady g.F.Files.read_faults g.F.Files.write_faults in
    let file : FileRead (g.F.Files.told c.args.files.now) c.args.text.now TEXT_MOST c.deref.result.now = rw c.deref.ensures.value c.in_ok-bytes.ensures.read in
    rw (p.1, p.2) (acted_stopped _ (Assemble c.args.text.now c.args.unit.now) _ refl refl refl (λ u. u)
    (held_stops {T = ℕ} (seen c.args.files.now) (seen c.read_file.new.files) c.args.text.now c.deref.result.now TEXT_MOST (Unassembled c.args.text.now ∷ [])
    (Err c.in_err-made.field-0.0) file (c.in_err-made.ensures.stopped _ c.args.text.now file))
    (quiet_reads _ _ _ c.in_ok-bytes.ensures.reads) (no_puts _))

pub returns-in_err-file : goal.returns-in_err-file
returns-in_err-file g c =
    let p = err_from_is_err_and c.from_residual-in_err-file.result c.from_residual-in_err-file.ensures.1 in
    rw (p.1, p.2) (acted_wanting _ (Assemble c.args.text.now c.args.unit.now) refl (record { no_entries = refl; none_kept = refl }) c.in_ok-bytes.ensures.reads (no_puts _))

pub returns : goal.returns
returns g c =
    let has : HasUnit c.in_ok-bytes.bytes.items c.in_ok-file.file.items = record {
      unit = c.in_ok-made.made;
      made = rw c.deref.ensures.value at c.in_ok-made.ensures.made;
      stands = c.in_ok-file.ensures.stands;
    } in
    acted_written _ _ (Assemble c.args.text.now c.args.unit.now) c.args.unit.now c.in_ok-file.file.items _ refl
    (c.in_ok-bytes.bytes.items, c.in_ok-bytes.ensures.read, has, record { no_entries = refl; none_kept = refl }, refl)
    refl c.in_ok-bytes.ensures.reads (rw (← c.deref-2.ensures.value) c.write_file.ensures.written) c.write_file.ensures.writes
