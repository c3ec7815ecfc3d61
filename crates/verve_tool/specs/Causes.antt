-- Why the files of a command stop it: the causes, which come in an order, and of which the first that holds decides.
use Rattle.std.specs.Prelude.{◌≡◌, ◌≢◌, ◌⊎◌, ◌<◌, ◌≤◌, ℕ, List, [], ◌∷◌, length, Option, Some, None, Err}
use Rattle.outside.specs.FileMaps.{FileMap, Gives, Lacks}
use Rattle.device_model.specs.EventFile.{IsFirstFault}
use Rattle.device_model.specs.declared.events.EventFault.{EventFault}
use Rattle.device_model.specs.declared.events.EventFault.TheVariants as event_fault
use Rattle.tal_image.specs.Image.{ImageParts}
use Rattle.tal_image.specs.Formed.{ImageOf}
use Rattle.tal_image.specs.Fields.{FirstFault}
use Rattle.file_fields.specs.declared.fault.ImageFault.{ImageFault}
use Rattle.file_fields.specs.declared.fault.ImageFault.TheVariants.{NoMemory}
use Rattle.tal_checker.specs.WellTyped.{WellTyped, FirstRefusal}
use Rattle.tal_syntax.specs.declared.fault.TextFault.{TextFault}
use Rattle.verve_tool.specs.Texts.{unit_at}
use Rattle.verve_tool.specs.Lines.{read_line, long_line, fault_line, event_fault_line, text_line, refused_line}
use Rattle.verve_tool.specs.declared.load.TheConstants.{IMAGE_MOST, EVENTS_MOST, TEXT_MOST}
use Rattle.verve_tool.specs.declared.status.Status.{Status}
use Rattle.verve_tool.specs.declared.status.Status.TheVariants as status

-- Each cause is of the file of a name.
pub data Cause : Type 0 where
  -- there is none
  Missing : List ℕ → Cause
  -- it has more than so many bytes
  Long : List ℕ → ℕ → Cause
  -- no image stands for it
  Malformed : List ℕ → Cause
  -- its image is not well typed
  IllTyped : List ℕ → Cause
  -- it is no event file
  BadEvents : List ℕ → Cause
  -- its text has no unit
  Unassembled : List ℕ → Cause

-- the status by which a cause is told
abbrev pub status_of : Cause → Status
status_of (Missing name) = status.ReadFault
status_of (Long name most) = status.TooLong
status_of (Malformed name) = status.Malformed
status_of (IllTyped name) = status.Refused
status_of (BadEvents name) = status.Events
status_of (Unassembled name) = status.Text

-- a file was read, and has at most so many bytes
pub record FileRead (told : Option FileMap) (name : List ℕ) (most : ℕ) (bytes : List ℕ) : Type 0 where
  pub read : Gives told name most bytes
  pub within : length bytes ≤ most

-- an image stands for the file
pub record HoldsImage (told : Option FileMap) (name : List ℕ) (image : ImageParts) : Type 0 where
  pub bytes : List ℕ
  pub file : FileRead told name IMAGE_MOST bytes
  pub stands : ImageOf bytes image

-- a well typed image does
pub record TypedImage (told : Option FileMap) (name : List ℕ) (image : ImageParts) : Type 0 where
  pub held : HoldsImage told name image
  pub well_typed : WellTyped image

-- an image does, and a rule fails in it: first at this address, this one
pub record IsIllTyped (told : Option FileMap) (name : List ℕ) (address rule : ℕ) : Type 0 where
  pub image : ImageParts
  pub held : HoldsImage told name image
  pub refusal : FirstRefusal image address rule

-- the file has more than so many bytes
pub record IsLong (told : Option FileMap) (name : List ℕ) (most : ℕ) : Type 0 where
  pub bytes : List ℕ
  pub read : Gives told name most bytes
  pub more : most < length bytes

-- no image stands for the file, and this is its first fault
pub record HasFault (told : Option FileMap) (name : List ℕ) (fault : ImageFault) : Type 0 where
  pub bytes : List ℕ
  pub file : FileRead told name IMAGE_MOST bytes
  pub first : FirstFault bytes fault
  pub real : fault ≢ NoMemory

-- no list of events stands for the file, and this is its first fault
pub record HasEventFault (told : Option FileMap) (name : List ℕ) (fault : EventFault) : Type 0 where
  pub bytes : List ℕ
  pub file : FileRead told name EVENTS_MOST bytes
  pub first : IsFirstFault bytes fault
  pub real : fault ≢ event_fault.NoMemory

-- the text of the file has no unit, and this is its first fault
pub record HasTextFault (told : Option FileMap) (name : List ℕ) (fault : TextFault) : Type 0 where
  pub bytes : List ℕ
  pub file : FileRead told name TEXT_MOST bytes
  pub first : unit_at bytes ≡ Err fault

-- The cause holds of the files, and this is its line. Of files that tell nothing it says that there are such bytes.
abbrev pub Holds : Option FileMap → Cause → List ℕ → Type 0
Holds told (Missing name) line = Lacks told name × (line ≡ read_line name)
Holds told (Long name most) line = IsLong told name most × (line ≡ long_line name)
Holds told (Malformed name) line = (fault : ImageFault) × HasFault told name fault × (line ≡ fault_line name fault)
Holds told (IllTyped name) line = (address rule : ℕ) × IsIllTyped told name address rule × (line ≡ refused_line address rule)
Holds told (BadEvents name) line = (fault : EventFault) × HasEventFault told name fault × (line ≡ event_fault_line fault)
Holds told (Unassembled name) line = (fault : TextFault) × HasTextFault told name fault × (line ≡ text_line fault)

-- The cause does not hold. Of files that tell nothing nobody knows.
abbrev pub CauseFails : Option FileMap → Cause → Type 0
CauseFails None cause = Unit {0}
CauseFails (Some files) cause = (line : List ℕ) → Holds (Some files) cause line → ⊥

-- A command with these causes comes to this one: nothing earlier holds.
abbrev pub ComesTo : Option FileMap → List Cause → Cause → Type 0
ComesTo told [] cause = ⊥
ComesTo told (c ∷ cs) cause = (cause ≡ c) ⊎ (CauseFails told c × ComesTo told cs cause)

-- the first of these causes that holds, with its line
pub record IsFirstCause (told : Option FileMap) (causes : List Cause) (cause : Cause) (line : List ℕ) : Type 0 where
  pub comes : ComesTo told causes cause
  pub holds : Holds told cause line

-- none of these causes holds
abbrev pub NoneHolds : Option FileMap → List Cause → Type 0
NoneHolds told [] = Unit {0}
NoneHolds told (c ∷ cs) = CauseFails told c × NoneHolds told cs

-- Told files decide one thing of a list of causes: one is the first, or none holds.
pub record OneCause (files : FileMap) (causes : List Cause) : Type 0 where
  pub one_first : (a b : Cause) (s t : List ℕ) → IsFirstCause (Some files) causes a s → IsFirstCause (Some files) causes b t → a ≡ b
  pub not_both : (a : Cause) (s : List ℕ) → IsFirstCause (Some files) causes a s → NoneHolds (Some files) causes → ⊥
