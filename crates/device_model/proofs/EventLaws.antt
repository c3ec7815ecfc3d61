-- Lines read one after another give the list of the file, or its first fault.
use Rattle.std.proofs.Common.{◌≡◌, ◌≢◌, ◌≤◌, ◌<◌, ℕ, suc, ◌+◌, List, [], ◌∷◌, ◌++◌, length, Err, refl, sym, ap, subst, ◌∙◌, append_assoc, arith, ◌⊎◌, inl, inr}
use Rattle.std.specs.Prelude.{IsSome}
use Rattle.std.specs.List.{fold}
use Rattle.std.specs.Option.{option_to_list}
use Rattle.std.proofs.lemmas.List.{append-nil, length_push}
use Rattle.std.proofs.lemmas.List.Sums.{fold_push}
use Rattle.device_model.specs.declared.events.Event.{Event}
use Rattle.device_model.specs.declared.events.EventFault.{EventFault}
use Rattle.device_model.specs.declared.events.EventFault.TheVariants.{Syntax, Range, TooMany, NoMemory}
use Rattle.device_model.specs.declared.events.TheConstants.{LAST_TURN, MOST_EVENTS}
use Rattle.device_model.specs.EventFile.{LineForm, Skipped, TickLine, KeyLine, lines_of, last_turn, InRange, event_in, LineLeaves, LinesLeave, EventsOf, BreaksSyntax, BreaksRange, BreaksRoom, FirstLineThat, IsFirstFault}
use Rattle.device_model.specs.declared.events.EventKind.TheVariants.{Tick, Key}
use Rattle.device_model.specs.EventFile.{InOrder, InOrderFrom, IsTurn}
use Rattle.device_model.specs.EventReading.{LineGives}
use Rattle.device_model.proofs.LineForms.{one_form}
use Rattle.device_model.proofs.Lists.{head_of, tail_of}

-- ---- one list

-- A line leaves one list, since it has one form,
line_leaves_one : (before : List Event) (line : List ℕ) (a b : List Event) → LineLeaves before line a → LineLeaves before line b → a ≡ b
line_leaves_one before line a b x y = x.are ∙ (ap (λ f. before ++ option_to_list (event_in f)) (one_form line x.form y.form x.has y.has) ∙ sym y.are)

-- and so do lines.
pub lines_leave_one : (lines : List (List ℕ)) (before a b : List Event) → LinesLeave before lines a → LinesLeave before lines b → a ≡ b
lines_leave_one [] before a b x y = x ∙ sym y
lines_leave_one (line ∷ lines) before a b x y =
    let same : y.0 ≡ x.0 = line_leaves_one before line y.0 x.0 y.1 x.1 in
    let z : LinesLeave x.0 lines b = subst (λ (m : List Event). LinesLeave m lines b) same y.2 in
    lines_leave_one lines x.0 a b x.2 z

-- ---- no list where a line breaks a rule

-- The line leaves some list.
record LeavesSome (before : List Event) (line : List ℕ) : Type 0 where
  after : List Event
  leaves : LineLeaves before line after

-- Where a whole file has a list, the line behind any sound lines leaves some.
goes_past : (good : List (List ℕ)) (line : List ℕ) (rest : List (List ℕ)) (start before list : List Event)
    → LinesLeave start (good ++ line ∷ rest) list → LinesLeave start good before → LeavesSome before line
goes_past [] line rest start before list x y = record { after = x.0; leaves = subst (λ (b : List Event). LineLeaves b line x.0) (sym y) x.1 }
goes_past (g ∷ good) line rest start before list x y =
    let same : y.0 ≡ x.0 = line_leaves_one start g y.0 x.0 y.1 x.1 in
    goes_past good line rest x.0 before list x.2 (subst (λ (m : List Event). LinesLeave m good before) same y.2)

-- So the line of a fault would leave some list,
past : (Breaks : List Event → List ℕ → Type 0) (bytes : List ℕ) (number : ℕ) (list : List Event) → (f : FirstLineThat Breaks bytes number)
    → EventsOf bytes list → LeavesSome f.before f.line
past Breaks bytes number list f is = goes_past f.good f.line f.rest [] f.before list (subst (λ (lines : List (List ℕ)). LinesLeave [] lines list) f.parts is) f.sound

-- with its own form,
in_range_of : (before : List Event) (line : List ℕ) (form : LineForm) → (l : LeavesSome before line) → l.leaves.form ≡ form → InRange before form
in_range_of before line form l same = subst (λ (f : LineForm). InRange before f) same l.leaves.in_range

-- which a line without a form,
no_syntax : (before : List Event) (line : List ℕ) → BreaksSyntax before line → LeavesSome before line → ⊥
no_syntax before line breaks l = breaks l.leaves.form l.leaves.has

-- one with a number out of range,
no_range : (before : List Event) (line : List ℕ) → BreaksRange before line → LeavesSome before line → ⊥
no_range before line breaks l = breaks.breaks (in_range_of before line breaks.form l (one_form line l.leaves.form breaks.form l.leaves.has breaks.has))

-- and one too many do not.
no_room : (before : List Event) (line : List ℕ) → BreaksRoom before line → LeavesSome before line → ⊥
no_room before line breaks l =
    let same = one_form line l.leaves.form breaks.form l.leaves.has breaks.has in
    let room : length before < MOST_EVENTS = l.leaves.room (subst (λ (g : LineForm). IsSome (event_in g)) (sym same) breaks.brings) in
    omega (arith, room, breaks.full)

-- So a file with a list has no fault but want of memory.
pub only_memory : (bytes : List ℕ) (list : List Event) (fault : EventFault) → IsFirstFault bytes fault → EventsOf bytes list → fault ≡ NoMemory
only_memory bytes list (Syntax number) f is = absurd (no_syntax f.before f.line f.breaks (past BreaksSyntax bytes number list f is))
only_memory bytes list (Range number) f is = absurd (no_range f.before f.line f.breaks (past BreaksRange bytes number list f is))
only_memory bytes list (TooMany number) f is = absurd (no_room f.before f.line f.breaks (past BreaksRoom bytes number list f is))
only_memory bytes list NoMemory f is = refl

-- ---- one fault

-- two places at which sound lines end and a line follows that leaves nothing
record SamePlace (good others : List (List ℕ)) (line other : List ℕ) (before before' : List Event) : Type 0 where
  count : length good ≡ length others
  lines : line ≡ other
  events : before ≡ before'

-- A line that leaves nothing does not stand among sound lines.
not_within : (line : List ℕ) (rest : List (List ℕ)) (g : List ℕ) (good : List (List ℕ)) (other : List ℕ) (rest' : List (List ℕ)) (start before before' : List Event)
    → line ∷ rest ≡ g ∷ (good ++ other ∷ rest') → before ≡ start → LinesLeave start (g ∷ good) before' → (LeavesSome before line → ⊥) → ⊥
not_within line rest g good other rest' start before before' same at leaves broken =
    broken (record {
      after = leaves.0;
      leaves = subst (λ (b : List Event). LineLeaves b line leaves.0) (sym at)
          (subst (λ (l : List ℕ). LineLeaves start l leaves.0) (sym (head_of line g rest (good ++ other ∷ rest') same)) leaves.1);
    })

-- Two places at which sound lines end and a line follows that leaves nothing are one place.
same_place : (good others : List (List ℕ)) (line other : List ℕ) (rest rest' : List (List ℕ)) (start before before' : List Event)
    → good ++ line ∷ rest ≡ others ++ other ∷ rest' → LinesLeave start good before → LinesLeave start others before'
    → (LeavesSome before line → ⊥) → (LeavesSome before' other → ⊥) → SamePlace good others line other before before'
same_place [] [] line other rest rest' start before before' same x y broken broken' = record { count = refl; lines = head_of line other rest rest' same; events = x ∙ sym y }
same_place [] (g ∷ others) line other rest rest' start before before' same x y broken broken' =
    absurd (not_within line rest g others other rest' start before before' same x y broken)
same_place (g ∷ good) [] line other rest rest' start before before' same x y broken broken' =
    absurd (not_within other rest' g good line rest start before' before (sym same) y x broken')
same_place (g ∷ good) (k ∷ others) line other rest rest' start before before' same x y broken broken' =
    let heads = head_of g k (good ++ line ∷ rest) (others ++ other ∷ rest') same in
    let k_leaves : LineLeaves start g y.0 = subst (λ (l : List ℕ). LineLeaves start l y.0) (sym heads) y.1 in
    let between : y.0 ≡ x.0 = line_leaves_one start g y.0 x.0 k_leaves x.1 in
    let s = same_place good others line other rest rest' x.0 before before' (tail_of g k (good ++ line ∷ rest) (others ++ other ∷ rest') same) x.2
    (subst (λ (b : List Event). LinesLeave b others before') between y.2) broken broken' in
    record { count = ap suc s.count; lines = s.lines; events = s.events }

-- two first faults stand in one place
record OnePlace (B C : List Event → List ℕ → Type 0) (m n : ℕ) : Type 0 where
  numbers : m ≡ n
  before : List Event
  line : List ℕ
  first : B before line
  second : C before line

-- Two first faults of any kinds stand at one line, behind one list.
one_place : (B C : List Event → List ℕ → Type 0) → ((before : List Event) (line : List ℕ) → B before line → LeavesSome before line → ⊥)
    → ((before : List Event) (line : List ℕ) → C before line → LeavesSome before line → ⊥)
    → (bytes : List ℕ) (m n : ℕ) → FirstLineThat B bytes m → FirstLineThat C bytes n → OnePlace B C m n
one_place B C no_b no_c bytes m n f g =
    let s = same_place f.good g.good f.line g.line f.rest g.rest [] f.before g.before (sym f.parts ∙ g.parts) f.sound g.sound
    (no_b f.before f.line f.breaks) (no_c g.before g.line g.breaks) in
    record {
      numbers = f.place ∙ (ap (λ k. k + 1) s.count ∙ sym g.place);
      before = f.before;
      line = f.line;
      first = f.breaks;
      second = subst (λ (l : List ℕ). C f.before l) (sym s.lines) (subst (λ (b : List Event). C b g.line) (sym s.events) g.breaks);
    }

-- A line does not break both the ranges and the room.
ranges_apart : (before : List Event) (line : List ℕ) → BreaksRange before line → BreaksRoom before line → ⊥
ranges_apart before line r m = r.breaks (subst (λ (f : LineForm). InRange before f) (one_form line m.form r.form m.has r.has) m.in_range)

-- Bytes have one first fault at most.
pub one_fault : (bytes : List ℕ) (f g : EventFault) → f ≢ NoMemory → g ≢ NoMemory → IsFirstFault bytes f → IsFirstFault bytes g → f ≡ g
one_fault bytes NoMemory g f_is g_is x y = absurd (f_is refl)
one_fault bytes (Syntax m) NoMemory f_is g_is x y = absurd (g_is refl)
one_fault bytes (Range m) NoMemory f_is g_is x y = absurd (g_is refl)
one_fault bytes (TooMany m) NoMemory f_is g_is x y = absurd (g_is refl)
one_fault bytes (Syntax m) (Syntax n) f_is g_is x y = ap Syntax (one_place BreaksSyntax BreaksSyntax no_syntax no_syntax bytes m n x y).numbers
one_fault bytes (Range m) (Range n) f_is g_is x y = ap Range (one_place BreaksRange BreaksRange no_range no_range bytes m n x y).numbers
one_fault bytes (TooMany m) (TooMany n) f_is g_is x y = ap TooMany (one_place BreaksRoom BreaksRoom no_room no_room bytes m n x y).numbers
one_fault bytes (Syntax m) (Range n) f_is g_is x y = let p = one_place BreaksSyntax BreaksRange no_syntax no_range bytes m n x y in absurd (p.first p.second.form p.second.has)
one_fault bytes (Syntax m) (TooMany n) f_is g_is x y = let p = one_place BreaksSyntax BreaksRoom no_syntax no_room bytes m n x y in absurd (p.first p.second.form p.second.has)
one_fault bytes (Range m) (Syntax n) f_is g_is x y = let p = one_place BreaksRange BreaksSyntax no_range no_syntax bytes m n x y in absurd (p.second p.first.form p.first.has)
one_fault bytes (TooMany m) (Syntax n) f_is g_is x y = let p = one_place BreaksRoom BreaksSyntax no_room no_syntax bytes m n x y in absurd (p.second p.first.form p.first.has)
one_fault bytes (Range m) (TooMany n) f_is g_is x y =
    let p = one_place BreaksRange BreaksRoom no_range no_room bytes m n x y in absurd (ranges_apart p.before p.line p.first p.second)
one_fault bytes (TooMany m) (Range n) f_is g_is x y =
    let p = one_place BreaksRoom BreaksRange no_room no_range bytes m n x y in absurd (ranges_apart p.before p.line p.second p.first)

-- A fault that is found is the first one, or want of memory.
pub first_or_memory : (bytes : List ℕ) (f g : EventFault) → g ≢ NoMemory → IsFirstFault bytes f → IsFirstFault bytes g → (f ≡ g) ⊎ (f ≡ NoMemory)
first_or_memory bytes NoMemory g is x y = inr refl
first_or_memory bytes (Syntax m) g is x y = inl (one_fault bytes (Syntax m) g (λ e. cc) is x y)
first_or_memory bytes (Range m) g is x y = inl (one_fault bytes (Range m) g (λ e. cc) is x y)
first_or_memory bytes (TooMany m) g is x y = inl (one_fault bytes (TooMany m) g (λ e. cc) is x y)

-- ---- turns in order

-- An event behind others, with no lower turn, keeps the order.
order_push : (turn : ℕ) (events : List Event) (event : Event) → InOrderFrom turn events → fold (λ t e. e.turn) turn events ≤ event.turn
    → event.turn ≤ LAST_TURN → InOrderFrom turn (events ++ event ∷ [])
order_push turn [] event o low high = (low, high, tt)
order_push turn (e ∷ events) event o low high = (o.0, o.1, order_push e.turn events event o.2 low high)

-- A turn in range is not below the last one, nor below 1.
after_turn : (events : List Event) (turn : ℕ) → IsTurn events turn → fold (λ t e. e.turn) 1 events ≤ turn
unfolding last_turn
after_turn [] turn is = is.first
after_turn (e ∷ events) turn is = is.in_order

-- A line keeps the order,
order_line : (before : List Event) (form : LineForm) → InOrder before → InRange before form → InOrder (before ++ option_to_list (event_in form))
order_line before Skipped o r = subst (λ (es : List Event). InOrder es) (sym (append-nil before)) o
order_line before (TickLine turn) o r = order_push 1 before (record { turn = turn; kind = Tick }) o (after_turn before turn r) r.last
order_line before (KeyLine turn code) o r = order_push 1 before (record { turn = turn; kind = Key code }) o (after_turn before turn r.0) r.0.last

-- and so do lines.
pub order_lines : (lines : List (List ℕ)) (before after : List Event) → InOrder before → LinesLeave before lines after → InOrder after
order_lines [] before after o l = subst (λ (es : List Event). InOrder es) (sym l) o
order_lines (line ∷ lines) before after o l =
    order_lines lines l.0 after (subst (λ (es : List Event). InOrder es) (sym l.1.are) (order_line before l.1.form o l.1.in_range)) l.2

-- ---- reading on

-- what was read, where so much of the file is left
pub record SoFar (bytes left : List ℕ) (number last : ℕ) (events : List Event) : Type 0 where
  pub good : List (List ℕ)
  pub parts : lines_of bytes ≡ good ++ lines_of left
  pub count : length good ≡ number
  pub sound : LinesLeave [] good events
  pub last_is : last_turn events ≡ last
  pub place : number + length left ≤ length bytes

-- At the start nothing was read.
pub starts : (bytes : List ℕ) → SoFar bytes bytes 0 0 []
unfolding last_turn
starts bytes = record { good = []; parts = refl; count = refl; sound = refl; last_is = refl; place = omega arith }

-- One line more behind sound lines.
leaves_push : (good : List (List ℕ)) (line : List ℕ) (start before after : List Event) → LinesLeave start good before → LineLeaves before line after
    → LinesLeave start (good ++ line ∷ []) after
leaves_push [] line start before after x y = (after, subst (λ (b : List Event). LineLeaves b line after) x y, refl)
leaves_push (g ∷ good) line start before after x y = (x.0, x.1, leaves_push good line x.0 before after x.2 y)

-- A line is read: one more sound line,
reads_on : (bytes left rest line : List ℕ) (number last last' : ℕ) (events after : List Event) → SoFar bytes left number last events
    → lines_of left ≡ line ∷ lines_of rest → length rest < length left → LineLeaves events line after → last_turn after ≡ last' → SoFar bytes rest (number + 1) last' after
reads_on bytes left rest line number last last' events after s first shorter leaves turn = record {
  good = s.good ++ line ∷ [];
  parts = s.parts ∙ rw first (sym (append_assoc s.good (line ∷ []) (lines_of rest)));
  count = length_push s.good line ∙ ap (λ n. n + 1) s.count;
  sound = leaves_push s.good line [] events after s.sound leaves;
  last_is = turn;
  place = omega (arith, s.place, shorter);
}

-- that is skipped,
pub reads_nothing : (bytes left rest line : List ℕ) (number last : ℕ) (events : List Event) → SoFar bytes left number last events
    → lines_of left ≡ line ∷ lines_of rest → length rest < length left → LineLeaves events line (events ++ []) → SoFar bytes rest (number + 1) last events
reads_nothing bytes left rest line number last events s first shorter leaves =
    reads_on bytes left rest line number last last events events s first shorter (subst (λ (e : List Event). LineLeaves events line e) (append-nil events) leaves) s.last_is

-- or brings an event.
pub reads_event : (bytes left rest line : List ℕ) (number last : ℕ) (events : List Event) (event : Event) → SoFar bytes left number last events
    → lines_of left ≡ line ∷ lines_of rest → length rest < length left → LineLeaves events line (events ++ event ∷ [])
    → SoFar bytes rest (number + 1) event.turn (events ++ event ∷ [])
unfolding last_turn
reads_event bytes left rest line number last events event s first shorter leaves =
    reads_on bytes left rest line number last event.turn events (events ++ event ∷ []) s first shorter leaves (fold_push (λ turn e. e.turn) 0 events event)

-- Where nothing is left the list is that of the file.
pub is_all : (bytes left : List ℕ) (number last : ℕ) (events : List Event) → SoFar bytes left number last events → left ≡ [] → EventsOf bytes events
unfolding lines_of
is_all bytes left number last events s done =
    subst (λ (lines : List (List ℕ)). LinesLeave [] lines events) (sym (s.parts ∙ (ap (λ l. s.good ++ lines_of l) done ∙ append-nil s.good))) s.sound

-- Where a line breaks a rule it is the first that does,
at_fault : (Breaks : List Event → List ℕ → Type 0) (bytes left rest line : List ℕ) (number last at : ℕ) (events : List Event) → SoFar bytes left number last events
    → lines_of left ≡ line ∷ lines_of rest → at ≡ number + 1 → Breaks events line → FirstLineThat Breaks bytes at
at_fault Breaks bytes left rest line number last at events s first place breaks = record {
  good = s.good;
  line = line;
  rest = lines_of rest;
  before = events;
  parts = s.parts ∙ ap (λ l. s.good ++ l) first;
  place = place ∙ ap (λ n. n + 1) (sym s.count);
  sound = s.sound;
  breaks = breaks;
}

-- and the fault that the reader answers is the first one.
pub is_first_fault : (bytes left rest line : List ℕ) (number last : ℕ) (events : List Event) (fault : EventFault) → SoFar bytes left number last events
    → lines_of left ≡ line ∷ lines_of rest → LineGives events line (number + 1) (Err fault) → IsFirstFault bytes fault
is_first_fault bytes left rest line number last events (Syntax at) s first g = at_fault BreaksSyntax bytes left rest line number last at events s first g.0 g.1
is_first_fault bytes left rest line number last events (Range at) s first g = at_fault BreaksRange bytes left rest line number last at events s first g.0 g.1
is_first_fault bytes left rest line number last events (TooMany at) s first g = at_fault BreaksRoom bytes left rest line number last at events s first g.0 g.1
is_first_fault bytes left rest line number last events NoMemory s first g = tt
