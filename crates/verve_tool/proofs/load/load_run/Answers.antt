use Rattle.std.proofs.lemmas.Result.{err_from_is_err_and}
use Rattle.verve_tool.specs.Causes.{FileRead, HoldsImage, TypedImage}
use Rattle.verve_tool.specs.declared.load.TheConstants.{EVENTS_MOST}
use Rattle.verve_tool.specs.Seen.{files_seen}
use Rattle.verve_tool.specs.Stops.{run_of}
use Rattle.verve_tool.proofs.FilesRead.{image_stops_run, check_stops_run, events_stop_run}
use Rattle.verve_tool.proofs.Endings.{reads_both}
use Rattle.verve_tool.proofs.load.load_run.Goals as goal

pub returns-in_err-image-clause-stopped : goal.returns-in_err-image-clause-stopped
returns-in_err-image-clause-stopped g c =
    let p = err_from_is_err_and c.from_residual-in_err-image.result c.from_residual-in_err-image.ensures.1 in
    let seen = files_seen g.F.Files.told g.F.Files.steady g.F.Files.read_faults g.F.Files.write_faults in
    rw (p.1, p.2) (image_stops_run (seen c.args.files.now) (seen c.read_file-2.new.files) (run_of c.args.run)
    c.in_ok-image_bytes.image_bytes.items c.in_ok-event_bytes.event_bytes.items _ c.in_ok-image_bytes.ensures.read
    (rw c.in_ok-image_bytes.ensures.reads.told at c.in_ok-event_bytes.ensures.read)
    (c.in_err-image.ensures.stopped _ (rw c.deref.ensures.value c.in_ok-image_bytes.ensures.read)))

pub returns-in_err-checked-clause-stopped : goal.returns-in_err-checked-clause-stopped
returns-in_err-checked-clause-stopped g c =
    let p = err_from_is_err_and c.from_residual-in_err-checked.result c.from_residual-in_err-checked.ensures.1 in
    let seen = files_seen g.F.Files.told g.F.Files.steady g.F.Files.read_faults g.F.Files.write_faults in
    let held : HoldsImage (g.F.Files.told c.args.files.now) c.args.run.image.now c.in_ok-image.image =
    record { bytes = c.deref.result.now; file = rw c.deref.ensures.value c.in_ok-image_bytes.ensures.read; stands = c.in_ok-image.ensures.stands } in
    rw (p.1, p.2) (check_stops_run c.one_meaning.ensures (seen c.args.files.now) (seen c.read_file-2.new.files) (run_of c.args.run)
    c.in_ok-event_bytes.event_bytes.items c.in_ok-image.image _ held (rw c.in_ok-image_bytes.ensures.reads.told at c.in_ok-event_bytes.ensures.read)
    (c.in_err-checked.ensures.stopped _ c.args.run.image.now held))

pub returns-in_err-events-clause-stopped : goal.returns-in_err-events-clause-stopped
returns-in_err-events-clause-stopped g c =
    let p = err_from_is_err_and c.from_residual-in_err-events.result c.from_residual-in_err-events.ensures.1 in
    let seen = files_seen g.F.Files.told g.F.Files.steady g.F.Files.read_faults g.F.Files.write_faults in
    let typed : TypedImage (g.F.Files.told c.args.files.now) c.args.run.image.now c.in_ok-image.image = record {
      held = record {
        bytes = c.deref.result.now;
        file = rw c.deref.ensures.value c.in_ok-image_bytes.ensures.read;
        stands = c.in_ok-image.ensures.stands;
      };
      well_typed = c.in_ok-checked.ensures.well_typed;
    } in
    let events : FileRead (g.F.Files.told c.args.files.now) c.args.run.events.now EVENTS_MOST c.deref-2.result.now =
    rw (c.deref-2.ensures.value, ← c.in_ok-image_bytes.ensures.reads.told) c.in_ok-event_bytes.ensures.read in
    rw (p.1, p.2) (events_stop_run c.one_meaning.ensures c.one_refusal.ensures (seen c.args.files.now) (seen c.read_file-2.new.files) (run_of c.args.run)
    c.deref-2.result.now c.in_ok-image.image c.in_err-events.field-0.0 typed events c.in_err-events.ensures.fault)

pub returns-in_err-image-clause-reads : goal.returns-in_err-image-clause-reads
returns-in_err-image-clause-reads g c = reads_both _ _ _ _ c.in_ok-image_bytes.ensures.reads c.in_ok-event_bytes.ensures.reads

pub returns-in_err-checked-clause-reads : goal.returns-in_err-checked-clause-reads
returns-in_err-checked-clause-reads g c = reads_both _ _ _ _ c.in_ok-image_bytes.ensures.reads c.in_ok-event_bytes.ensures.reads

pub returns-in_err-events-clause-reads : goal.returns-in_err-events-clause-reads
returns-in_err-events-clause-reads g c = reads_both _ _ _ _ c.in_ok-image_bytes.ensures.reads c.in_ok-event_bytes.ensures.reads

pub returns-clause-reads : goal.returns-clause-reads
returns-clause-reads g c = reads_both _ _ _ _ c.in_ok-image_bytes.ensures.reads c.in_ok-event_bytes.ensures.reads
