use Rattle.std.proofs.Common.{[], ◌∷◌}
use Rattle.std.proofs.lemmas.Result.{err_from_is_err_and}
use Rattle.verve_tool.specs.Causes.{Malformed}
use Rattle.verve_tool.specs.Seen.{files_seen}
use Rattle.verve_tool.specs.declared.load.TheConstants.{IMAGE_MOST}
use Rattle.verve_tool.proofs.FilesRead.{unread_stops, held_stops}
use Rattle.verve_tool.proofs.load.hold_image.Goals as goal

pub returns-in_err-bytes-clause-stopped : goal.returns-in_err-bytes-clause-stopped
returns-in_err-bytes-clause-stopped g c =
    let p = err_from_is_err_and c.from_residual.result c.from_residual.ensures.1 in
    let seen = files_seen g.F.Files.told g.F.Files.steady g.F.Files.read_faults g.F.Files.write_faults in
    rw (p.1, p.2) (unread_stops (seen c.args.files.now) (seen c.read_file.new.files) c.args.name.now IMAGE_MOST (Malformed c.args.name.now ∷ []) _
    c.in_err-bytes.ensures.stopped)

pub returns-clause-stopped : goal.returns-clause-stopped
returns-clause-stopped g c =
    let seen = files_seen g.F.Files.told g.F.Files.steady g.F.Files.read_faults g.F.Files.write_faults in
    held_stops (seen c.args.files.now) (seen c.read_file.new.files) c.args.name.now _ IMAGE_MOST (Malformed c.args.name.now ∷ []) _
    c.in_ok-bytes.ensures.read (c.read_image.ensures.stopped _ (rw c.deref.ensures.value c.in_ok-bytes.ensures.read))
