use Rattle.std.proofs.lemmas.Result.{err_from_is_err_and}
use Rattle.verve_tool.specs.Seen.{files_seen}
use Rattle.verve_tool.proofs.FilesRead.{unheld_stops, image_stops}
use Rattle.verve_tool.proofs.load.load_image.Goals as goal

pub returns-in_err-image-clause-stopped : goal.returns-in_err-image-clause-stopped
returns-in_err-image-clause-stopped g c =
    let p = err_from_is_err_and c.from_residual.result c.from_residual.ensures.1 in
    let seen = files_seen g.F.Files.told g.F.Files.steady g.F.Files.read_faults g.F.Files.write_faults in
    rw (p.1, p.2) (unheld_stops (seen c.args.files.now) (seen c.hold_image.new.files) c.args.name.now _ c.in_err-image.ensures.stopped)

pub returns-clause-stopped : goal.returns-clause-stopped
returns-clause-stopped g c =
    let seen = files_seen g.F.Files.told g.F.Files.steady g.F.Files.read_faults g.F.Files.write_faults in
    image_stops c.one_meaning.ensures (seen c.args.files.now) (seen c.hold_image.new.files) c.args.name.now c.in_ok-image.image c.accept.result
    c.in_ok-image.ensures.held (c.accept.ensures.stopped _ c.args.name.now c.in_ok-image.ensures.held)
