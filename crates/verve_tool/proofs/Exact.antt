-- Which status comes, where files are told and no count rises.
use Rattle.std.specs.Prelude.{String, Option, Some, None}
use Rattle.std.specs.declared.alloc.Global.{Global}
use Rattle.std.proofs.Common.{◌≡◌, ◌⊎◌, ◌≤◌, ◌<◌, ◌^◌, ℕ, List, [], ◌∷◌, inl, inr, refl, sym, ap, ◌∙◌, subst, arith}
use Rattle.std.specs.Prelude.{decimal}
use Rattle.std.proofs.lemmas.Fmt.{decimal_injective}
use Rattle.outside.specs.FileMaps.{FileMap}
use Rattle.outside.specs.Faults.{Faulted, Quiet}
use Rattle.tal_image.specs.Image.{ImageParts}
use Rattle.verve_tool.specs.Commands.{Request, Check, Listing, Run, Assemble, command_form, WordsOf, NoCommand, NothingStops}
use Rattle.verve_tool.specs.Runs.{RunWords, AllowsRun, command_word, turns_most}
use Rattle.verve_tool.specs.declared.words.RunText.{RunText}
use Rattle.verve_tool.specs.declared.words.RunText.TheVariants.{Report, Journal}
use Rattle.verve_tool.specs.Causes.{Cause, Missing, IsFirstCause, NoneHolds, OneCause, TypedImage, status_of}
use Rattle.verve_tool.specs.Forms.{PartWritten, WritesQuietly}
use Rattle.verve_tool.specs.Seen.{Call, Leaves}
use Rattle.verve_tool.specs.Outcome.{Outcome, Ends, finished, unwritten, unread, stopped, wanting, IsWorked}
use Rattle.verve_tool.specs.declared.status.Status.{Status}
use Rattle.verve_tool.specs.declared.status.Status.TheVariants.{Done, Usage, ReadFault, NoMemory}

-- two words have one second
same_names : (w i j : List ℕ) → (w ∷ i ∷ []) ≡ (w ∷ j ∷ []) → i ≡ j
same_names w i j h = cc

-- three words have one second and one third
same_pair : (w i j k l : List ℕ) → (w ∷ i ∷ k ∷ []) ≡ (w ∷ j ∷ l ∷ []) → (i ≡ j) × (k ≡ l)
same_pair w i j k l h = (cc, cc)

-- equal lists of words have equal words
same_words : (w i j e f s t : List ℕ) → (w ∷ i ∷ e ∷ s ∷ []) ≡ (w ∷ j ∷ f ∷ t ∷ []) → (i ≡ j) × (e ≡ f) × (s ≡ t)
same_words w i j e f s t h = (cc, cc, cc)

-- runs with equal words are equal
same_run : (w : List ℕ) (a b : RunWords) → a.turns < 2 ^ 64 → b.turns < 2 ^ 64
    → (w ∷ a.image ∷ a.events ∷ decimal a.turns ∷ []) ≡ (w ∷ b.image ∷ b.events ∷ decimal b.turns ∷ []) → a ≡ b
same_run w a b few fewer e =
    let parts = same_words w a.image b.image a.events b.events _ _ e in
    let turns = decimal_injective a.turns b.turns few fewer parts.2 in
    λ i. record { image = parts.0 i; events = parts.1 i; turns = turns i }

-- a word tells what is told of a run
same_kind : (k m : RunText) → command_word k ≡ command_word m → k ≡ m
same_kind Report Report h = refl
same_kind Journal Journal h = refl
same_kind k m h = absurd (cc h)

-- a run takes few turns
few_turns : (k : RunText) (run : RunWords) → AllowsRun (turns_most k) run → run.turns < 2 ^ 64
few_turns Report run a = omega (arith, a.not_too_many)
few_turns Journal run a = omega (arith, a.not_too_many)

-- words are one command
same_request : (words : List (String Global)) (a b : Request) → WordsOf words a → WordsOf words b → a ≡ b
same_request words (Check a) (Check b) p q = ap (λ (n : List ℕ). Check n) (same_names _ a b (sym p.spelled ∙ q.spelled))
same_request words (Listing a) (Listing b) p q = ap (λ (n : List ℕ). Listing n) (same_names _ a b (sym p.spelled ∙ q.spelled))
same_request words (Run k a) (Run m b) p q =
    let spelled = sym p.spelled ∙ q.spelled in
    let same : k ≡ m = same_kind k m (cc spelled) in
    let run = same_run (command_word k) a b (few_turns k a p.allowed) (few_turns m b q.allowed) (spelled ∙ rw same refl) in
    rw (same, run) refl
same_request words (Assemble a u) (Assemble b v) p q =
    let same = same_pair _ a b u v (sym p.spelled ∙ q.spelled) in
    rw (same.0, same.1) refl
same_request words a b p q = absurd (cc (sym p.spelled ∙ q.spelled))

-- the words of a command ended as that command
ends_as : (words : List (String Global)) (c : Call) (s : Status) (line : List ℕ) (request : Request) → Outcome words c s line → WordsOf words request
    → Ends c (command_form request) s line
ends_as words c s line request (inl none) w = absurd (none.no_command request w)
ends_as words c s line request (inr asked) w =
    subst (λ (r : Request). Ends c (command_form r) s line) (same_request words asked.request request asked.asked w) asked.ends

-- and left no more than it may
pub leaves_as : (words : List (String Global)) (c : Call) (s : Status) (line : List ℕ) (request : Request) → Outcome words c s line → WordsOf words request
    → Leaves (command_form request).writes c s
leaves_as words c s line request (inl none) w = absurd (none.no_command request w)
leaves_as words c s line request (inr asked) w =
    subst (λ (r : Request). Leaves (command_form r).writes c s) (same_request words asked.request request asked.asked w) asked.leaves

-- the words are no command: that is all that is told, and nothing was written
pub usage_status : (words : List (String Global)) (c : Call) (s : Status) (line : List ℕ) → Outcome words c s line → NoCommand words → s ≡ Usage
usage_status words c s line (inl none) h = none.status
usage_status words c s line (inr asked) h = absurd (h asked.request asked.asked)

pub usage_leaves : (words : List (String Global)) (c : Call) (s : Status) (line : List ℕ) → Outcome words c s line → NoCommand words → Leaves None c s
usage_leaves words c s line (inl none) h = none.leaves
usage_leaves words c s line (inr asked) h = absurd (h asked.request asked.asked)

-- a count did not rise, or something failed, and not both
quiet_or_faulted : (before after : ℕ) → Quiet before after → Faulted before after → ⊥
quiet_or_faulted before after q (inl rose) = omega (arith, q.0, rose)
quiet_or_faulted before after q (inr full) = omega (arith, q.1, full)

-- so it is with a text that was not written whole
quiet_or_part : (writes : Option (List ℕ)) (c : Call) (text : List ℕ) → WritesQuietly writes c → PartWritten writes c text → ⊥
quiet_or_part None c text q p = quiet_or_faulted _ _ q p.0
quiet_or_part (Some name) c text q p = quiet_or_faulted _ _ q p.0

-- the first cause is a file that is missing
pub missing_status : (words : List (String Global)) (c : Call) (s : Status) (line : List ℕ) (files : FileMap) (request : Request) (name first_line : List ℕ)
    → OneCause files (command_form request).causes → NothingStops → Outcome words c s line → c.files.told ≡ Some files → WordsOf words request
    → IsFirstCause (Some files) (command_form request).causes (Missing name) first_line → (s ≡ ReadFault) ⊎ (s ≡ NoMemory)
missing_status words c s line files request name first_line one nothing o told w first = elim (ends_as words c s line request o w) [
  | finished h ↦ absurd (one.not_both (Missing name) first_line first (rw told at (nothing c request s h.text h.did)))
  | unwritten h ↦ absurd (one.not_both (Missing name) first_line first (rw told at (nothing c request h.whole h.text h.did)))
  | unread h ↦ inl h.status
  | stopped h ↦ inl (h.status ∙ ap status_of (one.one_first h.cause (Missing name) line first_line (rw told at h.first) first))
  | wanting h ↦ inr h.status
]

-- the files stop the command
pub stopped_status : (words : List (String Global)) (c : Call) (s : Status) (line : List ℕ) (files : FileMap) (request : Request) (cause : Cause) (first_line : List ℕ)
    → OneCause files (command_form request).causes → NothingStops → Outcome words c s line → c.files.told ≡ Some files → WordsOf words request
    → Quiet c.files.read_faults c.files_after.read_faults → IsFirstCause (Some files) (command_form request).causes cause first_line → (s ≡ status_of cause) ⊎ (s ≡ NoMemory)
stopped_status words c s line files request cause first_line one nothing o told w quiet first = elim (ends_as words c s line request o w) [
  | finished h ↦ absurd (one.not_both cause first_line first (rw told at (nothing c request s h.text h.did)))
  | unwritten h ↦ absurd (one.not_both cause first_line first (rw told at (nothing c request h.whole h.text h.did)))
  | unread h ↦ absurd (quiet_or_faulted _ _ quiet h.fault)
  | stopped h ↦ inl (h.status ∙ ap status_of (one.one_first h.cause cause line first_line (rw told at h.first) first))
  | wanting h ↦ inr h.status
]

-- nothing stops the command, and writing does not fail
pub complete_status : (words : List (String Global)) (c : Call) (s : Status) (line : List ℕ) (files : FileMap) (request : Request)
    → OneCause files (command_form request).causes → Outcome words c s line → c.files.told ≡ Some files → WordsOf words request
    → Quiet c.files.read_faults c.files_after.read_faults → NoneHolds (Some files) (command_form request).causes → WritesQuietly (command_form request).writes c
    → IsWorked c request s ⊎ (s ≡ NoMemory)
complete_status words c s line files request one o told w quiet none writes = elim (ends_as words c s line request o w) [
  | finished h ↦ inl (h.text, h.did, h.written)
  | unwritten h ↦ absurd (quiet_or_part (command_form request).writes c h.text writes h.part)
  | unread h ↦ absurd (quiet_or_faulted _ _ quiet h.fault)
  | stopped h ↦ absurd (one.not_both h.cause line (rw told at h.first) none)
  | wanting h ↦ inr h.status
]

-- no cause is told as work that was done
never_done : (cause : Cause) → Done ≡ status_of cause → ⊥
never_done (Missing name) is = cc is
never_done _ is = cc is

-- a check was done, so a well typed image stands for its file
pub accepted_status : (words : List (String Global)) (c : Call) (s : Status) (line : List ℕ) (files : FileMap) (name : List ℕ) → Outcome words c s line
    → c.files.told ≡ Some files → WordsOf words (Check name) → s ≡ Done → (image : ImageParts) × TypedImage (Some files) name image
accepted_status words c s line files name o told w done = elim (ends_as words c s line (Check name) o w) [
  | finished h ↦ (h.did.0, rw told at h.did.1)
  | unwritten h ↦ absurd (cc (sym done ∙ h.status))
  | unread h ↦ absurd (cc (sym done ∙ h.status))
  | stopped h ↦ absurd (never_done h.cause (sym done ∙ h.status))
  | wanting h ↦ absurd (cc (sym done ∙ h.status))
]
