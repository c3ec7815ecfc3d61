-- What is seen of a call from outside: of its files and of its output, before and after, and what it may leave of them.
use Rattle.std.specs.Prelude.{◌≡◌, ◌≢◌, ◌≤◌, ◌<◌, ℕ, List, Bool, Option, Some, None, IsSome, IsSomeAnd}
use Rattle.outside.specs.FileMaps.{FileMap}
use Rattle.stack_states.specs.declared.journal_entry.Entry.{Entry}
use Rattle.kernel_machine.specs.Machine.{MachineView}
use Rattle.verve_tool.specs.declared.status.Status.{Status}
use Rattle.verve_tool.specs.declared.status.Status.TheVariants.{ReadFault, WriteFault}

-- what files tell, whether they are steady, and how many reads and writes of them failed
pub record FilesSeen : Type 0 where
  pub told : Option FileMap
  pub steady : Bool
  pub read_faults : ℕ
  pub write_faults : ℕ

-- what a stream tells, and how many calls of it failed
pub record SinkSeen : Type 0 where
  pub told : Option (List ℕ)
  pub faults : ℕ

-- what is seen of files, by the words of their trait
abbrev pub files_seen : {F : Type 0} → (F → Option FileMap) → (F → Bool) → (F → ℕ) → (F → ℕ) → F → FilesSeen
files_seen told steady read_faults write_faults files =
    record { told = told files; steady = steady files; read_faults = read_faults files; write_faults = write_faults files }

-- what is seen of a stream, by the words of its trait
abbrev pub sink_seen : {K : Type 0} → (K → Option (List ℕ)) → (K → ℕ) → K → SinkSeen
sink_seen told faults sink = record { told = told sink; faults = faults sink }

-- files are as before, but for the one of this name where there is one
abbrev pub KeptBut : Option (List ℕ) → Option FileMap → Option FileMap → Type 0
KeptBut None before after = after ≡ before
KeptBut (Some name) None after = after ≡ None
KeptBut (Some name) (Some before) after = IsSomeAnd after (λ files. (other : List ℕ) → other ≢ name → files other ≡ before other)

-- Files were only read, and this is so where a read failed.
pub record OnlyReads (before after : FilesSeen) (Told : Type 0) : Type 0 where
  pub told : after.told ≡ before.told
  pub steady : after.steady ≡ before.steady
  pub write_faults : after.write_faults ≡ before.write_faults
  pub never_falls : before.read_faults ≤ after.read_faults
  pub failed_alone : before.read_faults < after.read_faults → Told

-- One file was written, and this is so where that failed.
pub record OnlyWrites (before after : FilesSeen) (Told : Type 0) : Type 0 where
  pub steady : after.steady ≡ before.steady
  pub read_faults : after.read_faults ≡ before.read_faults
  pub never_falls : before.write_faults ≤ after.write_faults
  pub failed_alone : before.write_faults < after.write_faults → Told

-- A stream was only put into, and this is so where that failed.
pub record OnlyPuts (before after : SinkSeen) (Told : Type 0) : Type 0 where
  pub never_falls : before.faults ≤ after.faults
  pub failed_alone : before.faults < after.faults → Told

-- what a call was given of files and output, and what it left, with the journal and the machine that is kept
pub record Call : Type 0 where
  pub files : FilesSeen
  pub files_after : FilesSeen
  pub out : SinkSeen
  pub out_after : SinkSeen
  pub entries : List Entry
  pub kept : Option MachineView

-- the call whose files and output these are, by the words of their traits, before and after
abbrev pub call_of : {F K : Type 0} → (F → Option FileMap) → (F → Bool) → (F → ℕ) → (F → ℕ) → (K → Option (List ℕ)) → (K → ℕ)
    → F → F → K → K → List Entry → Option MachineView → Call
call_of told steady read_faults write_faults text faults files files_after out out_after entries kept = record {
  files = files_seen told steady read_faults write_faults files;
  files_after = files_seen told steady read_faults write_faults files_after;
  out = sink_seen text faults out;
  out_after = sink_seen text faults out_after;
  entries = entries;
  kept = kept;
}

-- What any command leaves that writes this file, or none: other files are as before, steady ones steady, no count falls, and
-- the status tells each fault.
pub record Leaves (written : Option (List ℕ)) (c : Call) (s : Status) : Type 0 where
  pub files : KeptBut written c.files.told c.files_after.told
  pub steady : c.files_after.steady ≡ c.files.steady
  pub reads : c.files.read_faults ≤ c.files_after.read_faults
  pub reads_told : c.files.read_faults < c.files_after.read_faults → s ≡ ReadFault
  pub writes : c.files.write_faults ≤ c.files_after.write_faults
  pub writes_told : c.files.write_faults < c.files_after.write_faults → IsSome written × (s ≡ WriteFault)
  pub puts : c.out.faults ≤ c.out_after.faults
  pub puts_told : c.out.faults < c.out_after.faults → s ≡ WriteFault
