-- What was read of files tells which causes do not hold of them, and which do.
use Rattle.std.specs.Prelude.{Option, Some, None, IsSomeAnd, Result, Ok, Err, IfErr}
use Rattle.tal_syntax.specs.declared.fault.TextFault.{TextFault}
use Rattle.unit_files.specs.Unit.{UnitParts}
use Rattle.verve_tool.specs.Texts.{unit_at}
use Rattle.verve_tool.proofs.WordLemmas.{no_err}
use Rattle.std.proofs.Common.{◌≡◌, ◌≢◌, ◌⊎◌, ◌≤◌, ◌<◌, ℕ, ◌+◌, List, [], ◌∷◌, take, length, Bor, inl, inr, refl, sym, ◌∙◌, subst, append-nil, arith}
use Rattle.outside.specs.FileMaps.{FileMap, Gives}
use Rattle.device_model.specs.EventFile.{IsFirstFault}
use Rattle.device_model.specs.Laws.{ListOrFault}
use Rattle.device_model.specs.declared.events.Event.{Event}
use Rattle.device_model.specs.declared.events.EventFault.{EventFault}
use Rattle.device_model.specs.declared.events.EventFault.TheVariants as event_fault
use Rattle.tal_image.specs.Image.{ImageParts}
use Rattle.tal_image.specs.Formed.{ImageOf}
use Rattle.tal_image.specs.Laws.{OneImageMeaning}
use Rattle.tal_image.specs.Fields.{FirstFault}
use Rattle.file_fields.specs.declared.fault.ImageFault.{ImageFault}
use Rattle.file_fields.specs.declared.fault.ImageFault.TheVariants as fault
use Rattle.tal_checker.specs.WellTyped.{FirstRefusal, OneRefusal}
use Rattle.tal_checker.specs.declared.answer.CheckAnswer.{CheckAnswer}
use Rattle.tal_checker.specs.declared.answer.CheckAnswer.TheVariants as answer
use Rattle.verve_tool.specs.Checks.{a_check}
use Rattle.verve_tool.specs.Listings.{a_listing}
use Rattle.verve_tool.specs.Commands.{Check, Listing, Run, Assemble, NothingStops}
use Rattle.verve_tool.specs.Runs.{RunWords, run_causes, HoldsEvents, Loaded}
use Rattle.verve_tool.specs.Causes.{Cause, Missing, Long, Malformed, IllTyped, BadEvents, Unassembled, Holds, CauseFails, NoneHolds, FileRead, HoldsImage, TypedImage, status_of as status_of_cause}
use Rattle.verve_tool.specs.Seen.{FilesSeen}
use Rattle.verve_tool.specs.Stops.{StopsBy, StopsAt, TellsFirst, status_of, line_of}
use Rattle.verve_tool.proofs.CauseLists.{stops_between, stops_by_bytes}
use Rattle.verve_tool.specs.declared.load.TheConstants.{IMAGE_MOST, EVENTS_MOST, TEXT_MOST}
use Rattle.verve_tool.specs.declared.stop.Stop.{Stop}
use Rattle.verve_tool.specs.declared.stop.Stop.TheVariants.{Image, NotAccepted, Events, Text}

-- a file has one front of a length
one_front : (o : Option (List ℕ)) (n : ℕ) (a b : List ℕ) → IsSomeAnd o (λ whole. a ≡ take n whole) → IsSomeAnd o (λ whole. b ≡ take n whole) → a ≡ b
one_front None n a b p q = absurd p
one_front (Some whole) n a b p q = p ∙ sym q

-- two reads of one file give the same bytes
gives_one : (files : FileMap) (name : List ℕ) (most : ℕ) (a b : List ℕ) → Gives (Some files) name most a → Gives (Some files) name most b → a ≡ b
gives_one files name most a b p q = one_front (files name) (most + 1) a b p q

-- a file that is not there has no front
none_given : (o : Option (List ℕ)) (n : ℕ) (a : List ℕ) → IsSomeAnd o (λ whole. a ≡ take n whole) → o ≡ None → ⊥
none_given None n a p e = absurd p
none_given (Some whole) n a p e = cc e

-- a file that was read is there
pub not_missing : (told : Option FileMap) (name : List ℕ) (most : ℕ) (bytes : List ℕ) → Gives told name most bytes → CauseFails told (Missing name)
not_missing None name most bytes g = tt
not_missing (Some files) name most bytes g = λ line h. none_given (files name) (most + 1) bytes g h.0

-- a length is within a limit or above it, and not both
within_or_above : (most n : ℕ) → n ≤ most → most < n → ⊥
within_or_above most n w l = omega arith

-- a file within its limit is not too long
not_long : (told : Option FileMap) (name : List ℕ) (most : ℕ) (bytes : List ℕ) → FileRead told name most bytes → CauseFails told (Long name most)
not_long None name most bytes f = tt
not_long (Some files) name most bytes f = λ line h. within_or_above most (length bytes) f.within
    (subst (λ (b : List ℕ). most < length b) (gives_one files name most h.0.bytes bytes h.0.read f.read) h.0.more)

-- a file that was read, and is within its limit, has neither cause
pub read_stops_none : (told : Option FileMap) (name : List ℕ) (most : ℕ) (bytes : List ℕ) → FileRead told name most bytes
    → NoneHolds told (Missing name ∷ Long name most ∷ [])
read_stops_none told name most bytes f = (not_missing told name most bytes f.read, (not_long told name most bytes f, tt))

-- told files hold one image
same_image : OneImageMeaning → (files : FileMap) (name : List ℕ) (i j : ImageParts) → HoldsImage (Some files) name i → HoldsImage (Some files) name j → i ≡ j
same_image meaning files name i j a b = meaning.one_image b.bytes i j
    (subst (λ (x : List ℕ). ImageOf x i) (gives_one files name IMAGE_MOST a.bytes b.bytes a.file.read b.file.read) a.stands) b.stands

-- a file for which an image stands is not malformed
pub not_malformed : OneImageMeaning → (told : Option FileMap) (name : List ℕ) (image : ImageParts) → HoldsImage told name image → CauseFails told (Malformed name)
not_malformed meaning None name image held = tt
not_malformed meaning (Some files) name image held = λ line h. meaning.not_both held.bytes image h.0 held.stands
    (subst (λ (b : List ℕ). FirstFault b h.0) (gives_one files name IMAGE_MOST h.1.bytes held.bytes h.1.file.read held.file.read) h.1.first)

-- a file whose image is well typed is not ill typed
not_ill_typed : OneImageMeaning → OneRefusal → (told : Option FileMap) (name : List ℕ) (image : ImageParts) → TypedImage told name image → CauseFails told (IllTyped name)
not_ill_typed meaning refusal None name image t = tt
not_ill_typed meaning refusal (Some files) name image t = λ line h. refusal.not_typed image h.0 h.1
    (subst (λ (i : ImageParts). FirstRefusal i h.0 h.1) (same_image meaning files name h.2.image image h.2.held t.held) h.2.refusal) t.well_typed

-- an event file for which a list stands has no fault
not_bad_events : ListOrFault → (told : Option FileMap) (name : List ℕ) (events : List Event) → HoldsEvents told name events → CauseFails told (BadEvents name)
not_bad_events either None name events held = tt
not_bad_events either (Some files) name events held = λ line h. h.1.real (either held.bytes events h.0 held.list
    (subst (λ (b : List ℕ). IsFirstFault b h.0) (gives_one files name EVENTS_MOST h.1.bytes held.bytes h.1.file.read held.file.read) h.1.first))

-- a text that has a unit has no fault
not_unassembled : (told : Option FileMap) (name bytes : List ℕ) (unit : UnitParts) → FileRead told name TEXT_MOST bytes → unit_at bytes ≡ Ok unit
    → CauseFails told (Unassembled name)
not_unassembled None name bytes unit file made = tt
not_unassembled (Some files) name bytes unit file made = λ line h. no_err (unit_at bytes) unit h.0 made
    (subst (λ (b : List ℕ). unit_at b ≡ Err h.0) (gives_one files name TEXT_MOST h.1.bytes bytes h.1.file.read file.read) h.1.first)

-- a run that was loaded had no cause to stop
loaded_stops_none : OneImageMeaning → OneRefusal → ListOrFault → (told : Option FileMap) (run : RunWords) (image : ImageParts) (events : List Event)
    → Loaded told run image events → NoneHolds told (run_causes run)
loaded_stops_none meaning refusal either told run image events l =
    let a = read_stops_none told run.image IMAGE_MOST l.typed.held.bytes l.typed.held.file in
    let b = read_stops_none told run.events EVENTS_MOST l.recorded.bytes l.recorded.file in
    let m = not_malformed meaning told run.image image l.typed.held in
    let t = not_ill_typed meaning refusal told run.image image l.typed in
    let e = not_bad_events either told run.events events l.recorded in
    (a.0, (a.1.0, (b.0, (b.1.0, (m, (t, (e, tt)))))))

-- nothing stops a command that did its work
pub nothing_stops : OneImageMeaning → OneRefusal → ListOrFault → NothingStops
nothing_stops meaning refusal either c (Check name) s text d =
    let a = read_stops_none c.files.told name IMAGE_MOST d.1.held.bytes d.1.held.file in
    (a.0, (a.1.0, (not_malformed meaning c.files.told name d.0 d.1.held, (not_ill_typed meaning refusal c.files.told name d.0 d.1, tt))))
nothing_stops meaning refusal either c (Listing name) s text d =
    let a = read_stops_none c.files.told name IMAGE_MOST d.1.bytes d.1.file in
    (a.0, (a.1.0, (not_malformed meaning c.files.told name d.0 d.1, tt)))
nothing_stops meaning refusal either c (Run kind run) s text d =
    loaded_stops_none meaning refusal either c.files.told run d.0.machine.image d.0.machine.events d.0.loaded
nothing_stops meaning refusal either c (Assemble text unit) s bytes d =
    let a = read_stops_none c.files.told text TEXT_MOST d.0 d.1 in
    (a.0, (a.1.0, (not_unassembled c.files.told text d.0 d.2.unit d.1 d.2.made, tt)))

-- ---- what stops a command

-- a stop that tells a cause stops by it where nothing before it holds
first_of_one : (told : Option FileMap) (cause : Cause) (rest : List Cause) (s : Stop) → Holds told cause (line_of s) → status_of s ≡ status_of_cause cause
    → TellsFirst told (cause ∷ rest) s
first_of_one told cause rest s holds is = record { cause = cause; first = record { comes = inl refl; holds = holds }; status = is }

-- a fault of the image file
pub fault_stops : (told : Option FileMap) (name : Bor (List ℕ)) (bytes : List ℕ) (f : ImageFault) → FileRead told name.now IMAGE_MOST bytes
    → (f ≡ fault.NoMemory) ⊎ FirstFault bytes f → StopsBy told (Malformed name.now ∷ []) (Image name f)
fault_stops told name bytes fault.NoMemory file h = inl (record { status = refl; line = refl })
fault_stops told name bytes f file (inl is) = absurd (cc is)
fault_stops told name bytes f file (inr first) = inr (first_of_one told (Malformed name.now) [] (Image name f)
    (f, record { bytes = bytes; file = file; first = first; real = λ e. cc e }, refl) refl)

-- a refusal of the image
pub answer_stops : (told : Option FileMap) (name : List ℕ) (image : ImageParts) (a : CheckAnswer) → HoldsImage told name image
    → ((address rule : ℕ) → a ≡ answer.Refused address rule → FirstRefusal image address rule) → StopsBy told (IllTyped name ∷ []) (NotAccepted a)
answer_stops told name image answer.NoMemory held refused = inl (record { status = refl; line = refl })
answer_stops told name image (answer.Refused address rule) held refused = inr (first_of_one told (IllTyped name) [] _
    (address, rule, record { image = image; held = held; refusal = refused address rule refl }, refl) refl)

-- a fault of the event file
event_fault_stops : (told : Option FileMap) (events bytes : List ℕ) (f : EventFault) → FileRead told events EVENTS_MOST bytes → IsFirstFault bytes f
    → StopsBy told (BadEvents events ∷ []) (Events f)
event_fault_stops told events bytes event_fault.NoMemory file first = inl (record { status = refl; line = refl })
event_fault_stops told events bytes f file first = inr (first_of_one told (BadEvents events) [] (Events f)
    (f, record { bytes = bytes; file = file; first = first; real = λ e. cc e }, refl) refl)

-- a fault of a text
pub text_fault_stops : (told : Option FileMap) (name bytes : List ℕ) (f : TextFault) → FileRead told name TEXT_MOST bytes → unit_at bytes ≡ Err f
    → StopsBy told (Unassembled name ∷ []) (Text f)
text_fault_stops told name bytes f file first =
    inr (first_of_one told (Unassembled name) [] (Text f) (f, record { bytes = bytes; file = file; first = first }, refl) refl)

-- ---- steps of a command, one after another

-- a file that was not read stops a command that begins with it
pub unread_stops : (before after : FilesSeen) (name : List ℕ) (most : ℕ) (rest : List Cause) (s : Stop)
    → StopsAt before after (Missing name ∷ Long name most ∷ []) s → StopsAt before after (Missing name ∷ Long name most ∷ rest) s
unread_stops before after name most rest s h = stops_between before after [] (Missing name ∷ Long name most ∷ []) rest s tt h

-- one that was read stops it by what it holds
pub held_stops : {T : Type 0} (before after : FilesSeen) (name bytes : List ℕ) (most : ℕ) (rest : List Cause) (r : Result T Stop) → FileRead before.told name most bytes
    → IfErr r (λ s. StopsBy before.told rest s) → IfErr r (λ s. StopsAt before after (Missing name ∷ Long name most ∷ rest) s)
held_stops before after name bytes most rest (Ok x) file h = tt
held_stops before after name bytes most rest (Err s) file h = subst (λ cs. StopsAt before after (Missing name ∷ Long name most ∷ cs) s) (append-nil rest)
    (stops_between before after (Missing name ∷ Long name most ∷ []) rest [] s (read_stops_none before.told name most bytes file)
    (stops_by_bytes before after rest s h))

-- so does a file that holds no image, and one whose image is not accepted
pub unheld_stops : (before after : FilesSeen) (name : List ℕ) (s : Stop) → StopsAt before after (a_listing name).causes s → StopsAt before after (a_check name).causes s
unheld_stops before after name s h = stops_between before after [] (a_listing name).causes (IllTyped name ∷ []) s tt h

pub image_stops : {T : Type 0} → OneImageMeaning → (before after : FilesSeen) (name : List ℕ) (image : ImageParts) (r : Result T Stop) → HoldsImage before.told name image
    → IfErr r (λ s. StopsBy before.told (IllTyped name ∷ []) s) → IfErr r (λ s. StopsAt before after (a_check name).causes s)
image_stops meaning before after name image (Ok x) held h = tt
image_stops meaning before after name image (Err s) held h =
    let a = read_stops_none before.told name IMAGE_MOST held.bytes held.file in
    stops_between before after (a_listing name).causes (IllTyped name ∷ []) [] s
    (a.0, (a.1.0, (not_malformed meaning before.told name image held, tt))) (stops_by_bytes before after (IllTyped name ∷ []) s h)

-- the bytes of its image stop a run
pub image_stops_run : (before after : FilesSeen) (run : RunWords) (image_bytes event_bytes : List ℕ) (s : Stop)
    → FileRead before.told run.image IMAGE_MOST image_bytes → FileRead before.told run.events EVENTS_MOST event_bytes
    → StopsBy before.told (Malformed run.image ∷ []) s → StopsAt before after (run_causes run) s
image_stops_run before after run image_bytes event_bytes s image_file event_file h =
    let a = read_stops_none before.told run.image IMAGE_MOST image_bytes image_file in
    let b = read_stops_none before.told run.events EVENTS_MOST event_bytes event_file in
    stops_between before after (Missing run.image ∷ Long run.image IMAGE_MOST ∷ Missing run.events ∷ Long run.events EVENTS_MOST ∷ [])
    (Malformed run.image ∷ []) (IllTyped run.image ∷ BadEvents run.events ∷ []) s
    (a.0, (a.1.0, b)) (stops_by_bytes before after (Malformed run.image ∷ []) s h)

-- its image does
pub check_stops_run : OneImageMeaning → (before after : FilesSeen) (run : RunWords) (event_bytes : List ℕ) (image : ImageParts) (s : Stop)
    → HoldsImage before.told run.image image → FileRead before.told run.events EVENTS_MOST event_bytes
    → StopsBy before.told (IllTyped run.image ∷ []) s → StopsAt before after (run_causes run) s
check_stops_run meaning before after run event_bytes image s held event_file h =
    let a = read_stops_none before.told run.image IMAGE_MOST held.bytes held.file in
    let b = read_stops_none before.told run.events EVENTS_MOST event_bytes event_file in
    let m = not_malformed meaning before.told run.image image held in
    stops_between before after (Missing run.image ∷ Long run.image IMAGE_MOST ∷ Missing run.events ∷ Long run.events EVENTS_MOST ∷ Malformed run.image ∷ [])
    (IllTyped run.image ∷ []) (BadEvents run.events ∷ []) s
    (a.0, (a.1.0, (b.0, (b.1.0, (m, tt))))) (stops_by_bytes before after (IllTyped run.image ∷ []) s h)

-- its events do
pub events_stop_run : OneImageMeaning → OneRefusal → (before after : FilesSeen) (run : RunWords) (event_bytes : List ℕ) (image : ImageParts) (f : EventFault)
    → TypedImage before.told run.image image → FileRead before.told run.events EVENTS_MOST event_bytes → IsFirstFault event_bytes f
    → StopsAt before after (run_causes run) (Events f)
events_stop_run meaning refusal before after run event_bytes image f typed event_file first =
    let a = read_stops_none before.told run.image IMAGE_MOST typed.held.bytes typed.held.file in
    let b = read_stops_none before.told run.events EVENTS_MOST event_bytes event_file in
    let m = not_malformed meaning before.told run.image image typed.held in
    let t = not_ill_typed meaning refusal before.told run.image image typed in
    stops_between before after
    (Missing run.image ∷ Long run.image IMAGE_MOST ∷ Missing run.events ∷ Long run.events EVENTS_MOST ∷ Malformed run.image ∷ IllTyped run.image ∷ [])
    (BadEvents run.events ∷ []) [] (Events f)
    (a.0, (a.1.0, (b.0, (b.1.0, (m, (t, tt))))))
    (stops_by_bytes before after (BadEvents run.events ∷ []) (Events f) (event_fault_stops before.told run.events event_bytes f event_file first))
