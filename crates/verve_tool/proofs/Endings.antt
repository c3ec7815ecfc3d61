-- How a command ends, from what its parts did.
use Rattle.std.specs.Prelude.{Option, Some, None, Result, Ok, Err, IsErrAnd}
use Rattle.std.proofs.Common.{◌≡◌, ◌≤◌, ◌<◌, ℕ, List, [], inl, inr, refl, sym, ◌∙◌, ap, subst, arith}
use Rattle.outside.specs.FileMaps.{FileMap, Writes, LeavesFront}
use Rattle.tal_checker.specs.WellTyped.{WellTyped}
use Rattle.typed_machine.specs.declared.ending.Ending.{Ending}
use Rattle.stack_states.specs.declared.journal_entry.Entry.{Entry}
use Rattle.run_report.specs.declared.run_end.RunEnd.{RunEnd}
use Rattle.run_report.specs.declared.run_end.RunEnd.TheVariants as run_end
use Rattle.kernel_machine.specs.Machine.{MachineView, shown_by, Follows, run_answer}
use Rattle.kernel_machine.specs.Laws.{MachinesShowTheirRuns}
use Rattle.verve_tool.specs.Commands.{Request, Run, command_form}
use Rattle.verve_tool.specs.Runs.{RunWords, IsOver, run_text, text_of, status_at}
use Rattle.verve_tool.specs.declared.words.RunText.{RunText}
use Rattle.verve_tool.specs.Forms.{Unrun}
use Rattle.verve_tool.specs.Seen.{FilesSeen, SinkSeen, Call, KeptBut, OnlyReads, OnlyPuts, OnlyWrites, Leaves}
use Rattle.verve_tool.specs.Outcome.{Ends, finished, unwritten, unread, stopped, wanting, Idle}
use Rattle.verve_tool.specs.Stops.{Acted, Made, IsPut, IsWritten, StopsAt, IsUnread, status_of, line_of, told_status, told_line}
use Rattle.verve_tool.specs.declared.status.Status.{Status}
use Rattle.verve_tool.specs.declared.status.Status.TheVariants as status
use Rattle.verve_tool.specs.declared.stop.Stop.{Stop}
use Rattle.verve_tool.specs.declared.stop.Stop.TheVariants.{Read, Write, NoMemory}

-- a file was not read
unread_status : (s : Stop) → IsUnread s → status_of s ≡ status.ReadFault
unread_status (Read name) h = refl
unread_status _ h = absurd h

-- what was put of a text tells each fault
put_status : (r : Result Status Stop) → IsErrAnd r (λ s. s ≡ Write) → told_status r ≡ status.WriteFault
put_status (Ok s) h = absurd h
put_status (Err s) h = rw h refl

-- a stream into which nothing was put
pub no_puts : (s : SinkSeen) → OnlyPuts s s ⊥
no_puts s = record { never_falls = omega arith; failed_alone = λ h. omega (arith, h) }

-- a count that rose in neither of two calls did not rise
no_rise : (before mid after : ℕ) → (before < mid → ⊥) → (mid < after → ⊥) → before < after → ⊥
no_rise before mid after a b h =
    let first : mid ≤ before = omega (arith, a) in
    let second : after ≤ mid = omega (arith, b) in
    omega (arith, first, second, h)

-- two reads one after another, of which neither failed
pub reads_both : (before mid after : FilesSeen) (Told : Type 0) → OnlyReads before mid ⊥ → OnlyReads mid after ⊥ → OnlyReads before after Told
reads_both before mid after Told a b = record {
  told = b.told ∙ a.told;
  steady = b.steady ∙ a.steady;
  write_faults = b.write_faults ∙ a.write_faults;
  never_falls = omega (arith, a.never_falls, b.never_falls);
  failed_alone = λ h. absurd (no_rise _ _ _ a.failed_alone b.failed_alone h);
}

-- files that stay are as before but for any one
kept_same : (written : Option (List ℕ)) (before after : Option FileMap) → after ≡ before → KeptBut written before after
kept_same None before after same = same
kept_same (Some name) None after same = same
kept_same (Some name) (Some files) after same = rw same (λ other differs. refl)

-- reads of which none failed
pub quiet_reads : (before after : FilesSeen) (Told : Type 0) → OnlyReads before after ⊥ → OnlyReads before after Told
quiet_reads before after Told r = record {
  told = r.told;
  steady = r.steady;
  write_faults = r.write_faults;
  never_falls = r.never_falls;
  failed_alone = λ rose. absurd (r.failed_alone rose);
}

-- a command only read files and put text, and told each fault
leaves_all : (c : Call) (s : Status) (writes : Option (List ℕ)) (R P : Type 0) → OnlyReads c.files c.files_after R → OnlyPuts c.out c.out_after P
    → (R → s ≡ status.ReadFault) → (P → s ≡ status.WriteFault) → Leaves writes c s
leaves_all c s writes R P reads puts r p = record {
  files = kept_same writes c.files.told c.files_after.told reads.told;
  steady = reads.steady;
  reads = reads.never_falls;
  reads_told = λ h. r (reads.failed_alone h);
  writes = omega (arith, reads.write_faults);
  writes_told = λ h. absurd (omega (arith, h, reads.write_faults));
  puts = puts.never_falls;
  puts_told = λ h. p (puts.failed_alone h);
}

-- the files of a command stopped it before anything was done
ends_stopped : (c : Call) (request : Request) (s : Stop) → Idle c → (command_form request).MayHaveRun c → StopsAt c.files c.files_after (command_form request).causes s
    → Ends c (command_form request) (status_of s) (line_of s)
ends_stopped c request (Read n) idle left h =
    unread (record { name = n.now; comes = h.0; fault = h.1; missing = h.2; idle = idle; status = refl; line_is = refl })
ends_stopped c request s idle left (inl want) = wanting (record { silent = idle.silent; left = left; status = want.status; line_is = want.line })
ends_stopped c request s idle left (inr h) = stopped (record { cause = h.cause; first = h.first; idle = idle; status = h.status })

pub acted_stopped : (c : Call) (request : Request) (s : Stop) → c.out_after.told ≡ c.out.told → c.entries ≡ [] → c.kept ≡ None
    → (Unrun c → (command_form request).MayHaveRun c) → StopsAt c.files c.files_after (command_form request).causes s → OnlyReads c.files c.files_after (IsUnread s)
    → OnlyPuts c.out c.out_after ⊥ → Acted request c (Err s)
acted_stopped c request s silent entries kept left stops reads puts = record {
  ends =
      let unrun : Unrun c = record { no_entries = entries; none_kept = kept } in
      ends_stopped c request s (record { silent = record { out = silent; files = reads.told }; unrun = unrun }) (left unrun) stops;
  leaves = leaves_all c (status_of s) _ (IsUnread s) ⊥ reads puts (unread_status s) (λ h. absurd h);
}

-- memory was wanting before anything was put
pub acted_wanting : (c : Call) (request : Request) → c.out_after.told ≡ c.out.told → (command_form request).MayHaveRun c
    → OnlyReads c.files c.files_after ⊥ → OnlyPuts c.out c.out_after ⊥ → Acted request c (Err NoMemory)
acted_wanting c request silent left reads puts = record {
  ends = wanting (record { silent = record { out = silent; files = reads.told }; left = left; status = refl; line_is = refl });
  leaves = leaves_all c status.NoMemory _ ⊥ ⊥ reads puts (λ h. absurd h) (λ h. absurd h);
}

-- a command did its work, and its text was put
ends_put : (c : Call) (request : Request) (whole : Status) (text : List ℕ) (r : Result Status Stop) → (command_form request).writes ≡ None
    → (command_form request).Did c whole text → IsPut c.out c.out_after text whole r → Ends c (command_form request) (told_status r) (told_line r)
ends_put c request whole text (Ok s) none did put = rw put.1 (finished (record { text = text; did = did; written = rw none put.0; line_is = refl }))
ends_put c request whole text (Err Write) none did put =
    unwritten (record { whole = whole; text = text; did = did; part = rw none put; status = refl; line_is = refl })
ends_put c request whole text (Err _) none did put = absurd put

pub acted_put : (c : Call) (request : Request) (whole : Status) (text : List ℕ) (r : Result Status Stop) → (command_form request).writes ≡ None
    → (command_form request).Did c whole text → IsPut c.out c.out_after text whole r → OnlyReads c.files c.files_after ⊥
    → OnlyPuts c.out c.out_after (IsErrAnd r (λ s. s ≡ Write)) → Acted request c r
acted_put c request whole text r none did put reads puts = record {
  ends = ends_put c request whole text r none did put;
  leaves = leaves_all c (told_status r) _ ⊥ (IsErrAnd r (λ s. s ≡ Write)) reads puts (λ h. absurd h) (put_status r);
}

-- ---- files that are written

-- a file that was written whole, and one that was not, leave every other as it was
kept_whole : (name bytes : List ℕ) (before after : Option FileMap) → Writes before after name bytes → KeptBut (Some name) before after
kept_whole name bytes None after h = h
kept_whole name bytes (Some files) None h = absurd h
kept_whole name bytes (Some files) (Some more) h = h.1

kept_part : (name bytes : List ℕ) (before after : Option FileMap) → LeavesFront before after name bytes → KeptBut (Some name) before after
kept_part name bytes before after (inl h) = kept_whole name h.0 before after h.2
kept_part name bytes before after (inr h) = kept_same (Some name) before after h.1

kept_written : (name bytes : List ℕ) (before after : FilesSeen) (r : Result Status Stop) → IsWritten before after name bytes r → KeptBut (Some name) before.told after.told
kept_written name bytes before after (Ok s) h = kept_whole name bytes before.told after.told h.0
kept_written name bytes before after (Err Write) h = kept_part name bytes before.told after.told h.1
kept_written name bytes before after (Err _) h = absurd h

-- a command did its work, and its text was written into a file
ends_written : (c : Call) (mid : FilesSeen) (request : Request) (name text : List ℕ) (r : Result Status Stop) → (command_form request).writes ≡ Some name
    → (command_form request).Did c status.Done text → c.out_after ≡ c.out → mid.told ≡ c.files.told → mid.write_faults ≡ c.files.write_faults
    → IsWritten mid c.files_after name text r → Ends c (command_form request) (told_status r) (told_line r)
ends_written c mid request name text (Ok s) is did out told faults h =
    rw h.1 (finished (record { text = text; did = did; written = rw is (rw told at h.0, rw out refl); line_is = refl }))
ends_written c mid request name text (Err Write) is did out told faults h = unwritten (record {
  whole = status.Done;
  text = text;
  did = did;
  part = rw is (rw faults at h.0, rw told at h.1, rw out refl);
  status = refl;
  line_is = refl;
})
ends_written c mid request name text (Err _) is did out told faults h = absurd h

pub acted_written : (c : Call) (mid : FilesSeen) (request : Request) (name text : List ℕ) (r : Result Status Stop) → (command_form request).writes ≡ Some name
    → (command_form request).Did c status.Done text → c.out_after ≡ c.out → OnlyReads c.files mid ⊥ → IsWritten mid c.files_after name text r
    → OnlyWrites mid c.files_after (IsErrAnd r (λ s. s ≡ Write)) → Acted request c r
acted_written c mid request name text r is did out reads h writes = record {
  ends = ends_written c mid request name text r is did out reads.told reads.write_faults h;
  leaves = subst (λ w. Leaves w c (told_status r)) (sym is) (record {
    files = rw reads.told at (kept_written name text mid c.files_after r h);
    steady = writes.steady ∙ reads.steady;
    reads = omega (arith, reads.never_falls, writes.read_faults);
    reads_told = λ rose. absurd (reads.failed_alone (omega (arith, rose, writes.read_faults)));
    writes = omega (arith, reads.write_faults, writes.never_falls);
    writes_told = λ rose. (refl, put_status r (writes.failed_alone (omega (arith, rose, reads.write_faults))));
    puts = omega (arith, ap (λ o. o.faults) out);
    puts_told = λ rose. absurd (omega (arith, rose, ap (λ o. o.faults) out));
  });
}

-- ---- runs

-- a run that answered other than want of memory is over
over : (turns : ℕ) (m : MachineView) → (run_answer m.ending ≡ run_end.Turns → m.turns ≡ turns) → (e : Option Ending) → m.ending ≡ e → IsOver turns m
over turns m all None is = inl (all (ap (λ o. run_answer o) is))
over turns m all (Some e) is = inr (rw is refl)

-- what is told of the machine is told of the typed machine's run
text_is : MachinesShowTheirRuns → (kind : RunText) (entries : List Entry) (m : MachineView) → WellTyped m.image → (e : RunEnd) (f : Follows m entries)
    → e ≡ run_answer m.ending → run_text kind (shown_by m) e m.turns entries ≡ text_of kind f.run
text_is law kind entries m w e f end = rw (end, law m entries w f, f.stands.ending, f.stands.turns, f.entries_are) refl

-- a run was made, and its text was put
pub acted_run : MachinesShowTheirRuns → (c : Call) (kind : RunText) (run : RunWords) (e : RunEnd) (made : Made run c.files.told c.kept c.entries e) (text : List ℕ)
    (r : Result Status Stop) → e ≡ run_answer made.ran.machine.ending → text ≡ run_text kind (shown_by made.ran.machine) e made.ran.machine.turns c.entries
    → IsPut c.out c.out_after text (status_at e) r → OnlyReads c.files c.files_after ⊥ → OnlyPuts c.out c.out_after (IsErrAnd r (λ s. s ≡ Write))
    → Acted (Run kind run) c r
acted_run law c kind run e made text r end is put reads puts =
    let m = made.ran.machine in
    let done = over run.turns m (λ h. made.all (end ∙ h)) m.ending refl in
    let status = ap status_at (end ∙ ap (λ o. run_answer o) made.ran.follows.stands.ending) in
    let told = is ∙ text_is law kind c.entries m made.ran.loaded.typed.well_typed e made.ran.follows end in
    acted_put c (Run kind run) (status_at e) text r refl (made.ran, done, status, told) put reads puts
