-- The form of a command: all that is said of one command stands in one record of this form.
use Rattle.std.specs.Prelude.{◌≡◌, ℕ, List, [], Option, Some, None}
use Rattle.outside.specs.FileMaps.{Writes, LeavesFront}
use Rattle.outside.specs.Faults.{Faulted, Quiet}
use Rattle.outside.specs.Sinks.{Gained, GainedFront}
use Rattle.verve_tool.specs.Causes.{Cause}
use Rattle.verve_tool.specs.Seen.{Call}
use Rattle.verve_tool.specs.declared.status.Status.{Status}

pub record Form : Type 1 where
  -- the words that spell it, and what is asked of them
  pub words : List (List ℕ)
  pub Allowed : Type 0
  -- what can stop it by its files, in this order
  pub causes : List Cause
  -- the file that it writes; where there is none its text goes into the output
  pub writes : Option (List ℕ)
  -- it did its work over its files: this is its status, where the text is written whole, and this its text
  pub Did : Call → Status → List ℕ → Type 0
  -- it may have begun so where memory was wanting
  pub MayHaveRun : Call → Type 0

-- no machine ran
pub record Unrun (c : Call) : Type 0 where
  pub no_entries : c.entries ≡ []
  pub none_kept : c.kept ≡ None

-- the text went whole to where it goes: behind the output, or into the file, which has it alone
abbrev pub Written : Option (List ℕ) → Call → List ℕ → Type 0
Written None c text = Gained c.out.told c.out_after.told text
Written (Some name) c text = Writes c.files.told c.files_after.told name text × (c.out_after.told ≡ c.out.told)

-- writing it failed, after a front of it
abbrev pub PartWritten : Option (List ℕ) → Call → List ℕ → Type 0
PartWritten None c text = Faulted c.out.faults c.out_after.faults × GainedFront c.out.told c.out_after.told text
PartWritten (Some name) c text =
    Faulted c.files.write_faults c.files_after.write_faults × LeavesFront c.files.told c.files_after.told name text × (c.out_after.told ≡ c.out.told)

-- writing it does not fail
abbrev pub WritesQuietly : Option (List ℕ) → Call → Type 0
WritesQuietly None c = Quiet c.out.faults c.out_after.faults
WritesQuietly (Some name) c = Quiet c.files.write_faults c.files_after.write_faults
