-- Whether a count is set: item by item, and in one sentence.
use Rattle.std.proofs.Common.{◌≡◌, ◌≤◌, ◌+◌, ◌-◌, ℕ, [], ◌∷◌, ◌++◌, true, false, ◌&&◌, eqb, cond, refl, sym, ap, ◌∙◌, arith, ◌⊎◌, inl, inr, Option, Some, None}
use Rattle.std.specs.Prelude.{IsTrue, option_map}
use Rattle.std.specs.Option.{option_map_or}
use Rattle.std.proofs.lemmas.Bool.{or_cases, and_parts, or_left, or_right, and_from, eqb-true, eq-eqb, true≢false, cases_Bool}
use Rattle.device_model.specs.History.{Item, Ticked, Keyed, Wrote, Took, Granted, Drew, History, begins_count, is_count_byte, NoItem, CountSet, count_bytes, awaited}
use Rattle.device_model.specs.ItemByItem.{next_awaited, is_count_set}

-- a command is no count byte
command_alone : (x : Item) → begins_count x ≡ true → is_count_byte x ≡ false
command_alone (Wrote port byte) b = let p : port ≡ 0x43 = eqb-true port 0x43 (and_parts (eqb port 0x43) (eqb byte 0x34) b).0 in rw p refl
command_alone Ticked b = refl
command_alone (Keyed code) b = refl
command_alone Took b = refl
command_alone (Granted line) b = refl
command_alone (Drew position written) b = refl

-- A count byte is no command.
byte_alone : (x : Item) → is_count_byte x ≡ true → begins_count x ≡ false
byte_alone (Wrote port byte) b = let p : port ≡ 0x40 = eqb-true port 0x40 b in rw p refl
byte_alone Ticked b = refl
byte_alone (Keyed code) b = refl
byte_alone Took b = refl
byte_alone (Granted line) b = refl
byte_alone (Drew position written) b = refl

-- ---- the awaited bytes

-- Nothing is awaited at first.
pub awaited_first : awaited [] ≡ 0
unfolding awaited
awaited_first = refl

-- an item that is no command, where so many bytes came since the last one
after_bytes : (x : Item) (o : Option ℕ) → option_map_or (λ n. 2 - n) (option_map (λ n. cond (is_count_byte x) (n + 1) n) o) 0
    ≡ cond (is_count_byte x) (option_map_or (λ n. 2 - n) o 0 - 1) (option_map_or (λ n. 2 - n) o 0)
after_bytes x None = elim (cases_Bool (is_count_byte x)) [ inl d ↦ rw d refl | inr d ↦ rw d refl ]
after_bytes x (Some n) = elim (cases_Bool (is_count_byte x)) [ inl d ↦ rw d (omega arith) | inr d ↦ rw d refl ]

-- One item more, and what is awaited: a command awaits two bytes, a count byte takes one off.
pub awaited_steps : (x : Item) (h : History) → awaited (x ∷ h) ≡ next_awaited x (awaited h)
unfolding awaited
awaited_steps x h =
    elim (cases_Bool (begins_count x)) [
      | inl b ↦ rw b refl
      | inr b ↦ rw b (after_bytes x (count_bytes h))
    ]

-- ---- from what is awaited to the sentence

-- the last command, with no byte after it, or with one
record NoneYet (history : History) : Type 0 where
  early : History
  command : Item
  before : History
  parts : history ≡ early ++ command ∷ before
  begins : IsTrue (begins_count command)
  none_early : NoItem begins_count early

record OneYet (history : History) : Type 0 where
  middle : History
  first : Item
  rest : History
  parts : history ≡ middle ++ first ∷ rest
  low : IsTrue (is_count_byte first)
  none_middle : NoItem begins_count middle
  none_yet : NoneYet rest

-- An item that is no command leaves what the last command has behind it.
none_more : (x : Item) (h : History) → begins_count x ≡ false → NoneYet h → NoneYet (x ∷ h)
none_more x h b n = record { early = x ∷ n.early; command = n.command; before = n.before; parts = ap (λ t. x ∷ t) n.parts; begins = n.begins; none_early = (b, n.none_early) }

-- The same of the command and the count byte behind it.
one_more : (x : Item) (h : History) → begins_count x ≡ false → OneYet h → OneYet (x ∷ h)
one_more x h b n =
    record { middle = x ∷ n.middle; first = n.first; rest = n.rest; parts = ap (λ t. x ∷ t) n.parts; low = n.low; none_middle = (b, n.none_middle); none_yet = n.none_yet }

-- what the number of awaited bytes tells
record Tells (h : History) : Type 0 where
  two : awaited h ≡ 2 → NoneYet h
  one : awaited h ≡ 1 → OneYet h
  most : awaited h ≤ 2

-- Two awaited bytes tell of a command with none behind it, one of a command with one byte behind it.
tells : (h : History) → Tells h
tells [] = record { two = λ e. absurd (omega (arith, e, awaited_first)); one = λ e. absurd (omega (arith, e, awaited_first)); most = omega (arith, awaited_first) }
tells (x ∷ h) =
    let t = tells h in
    elim (cases_Bool (begins_count x)) [
      | inl b ↦
          let n : awaited (x ∷ h) ≡ 2 = awaited_steps x h ∙ rw b refl in
          record {
            two = λ e. record { early = []; command = x; before = h; parts = refl; begins = b; none_early = tt };
            one = λ e. absurd (omega (arith, n, e));
            most = omega (arith, n);
          }
      | inr b ↦ elim (cases_Bool (is_count_byte x)) [
        | inl d ↦
            let n : awaited (x ∷ h) ≡ awaited h - 1 = awaited_steps x h ∙ rw (b, d) refl in
            record {
              two = λ e. absurd (omega (arith, n, e, t.most));
              one = λ e. record { middle = []; first = x; rest = h; parts = refl; low = d; none_middle = tt; none_yet = t.two (omega (arith, n, e)) };
              most = omega (arith, n, t.most);
            }
        | inr d ↦
            let n : awaited (x ∷ h) ≡ awaited h = awaited_steps x h ∙ rw (b, d) refl in
            record {
              two = λ e. none_more x h b (t.two (sym n ∙ e));
              one = λ e. one_more x h b (t.one (sym n ∙ e));
              most = omega (arith, n, t.most);
            }
      ]
    ]

-- A byte behind these two sets a count,
set_now : (x : Item) (h : History) → is_count_byte x ≡ true → OneYet h → CountSet (x ∷ h)
set_now x h d n = record {
  later = [];
  second = x;
  middle = n.middle;
  first = n.first;
  early = n.none_yet.early;
  command = n.none_yet.command;
  before = n.none_yet.before;
  parts = ap (λ t. x ∷ t) (n.parts ∙ ap (λ t. n.middle ++ n.first ∷ t) n.none_yet.parts);
  begins = n.none_yet.begins;
  low = n.low;
  high = d;
  none_early = n.none_yet.none_early;
  none_middle = n.none_middle;
}

-- and a count that is set stays set.
set_before : (x : Item) (h : History) → CountSet h → CountSet (x ∷ h)
set_before x h c = record {
  later = x ∷ c.later;
  second = c.second;
  middle = c.middle;
  first = c.first;
  early = c.early;
  command = c.command;
  before = c.before;
  parts = ap (λ t. x ∷ t) c.parts;
  begins = c.begins;
  low = c.low;
  high = c.high;
  none_early = c.none_early;
  none_middle = c.none_middle;
}

-- what is computed is so
pub count_set_sound : (h : History) → is_count_set h ≡ true → CountSet h
unfolding is_count_set
count_set_sound [] e = absurd (true≢false (sym e))
count_set_sound (x ∷ h) e =
    elim (or_cases (is_count_byte x && eqb (awaited h) 1) (is_count_set h) e) [
      | inl now ↦ let p = and_parts (is_count_byte x) (eqb (awaited h) 1) now in set_now x h p.0 ((tells h).one (eqb-true (awaited h) 1 p.1))
      | inr old ↦ set_before x h (count_set_sound h old)
    ]

-- ---- the other way

-- Later items leave a count set, as it is computed.
set_stays : (later h : History) → is_count_set h ≡ true → is_count_set (later ++ h) ≡ true
unfolding is_count_set
set_stays [] h e = e
set_stays (x ∷ later) h e = or_right (is_count_byte x && eqb (awaited (later ++ h)) 1) (is_count_set (later ++ h)) (set_stays later h e)

-- a command came, or the byte after it too, and a count is set if more came
record One (h : History) : Type 0 where
  is : (awaited h ≡ 1) ⊎ (is_count_set h ≡ true)

record Two (h : History) : Type 0 where
  is : (awaited h ≡ 2) ⊎ ((awaited h ≡ 1) ⊎ (is_count_set h ≡ true))

-- What an item does to the awaited bytes, by its kind.
same_awaited : (x : Item) (h : History) → begins_count x ≡ false → is_count_byte x ≡ false → awaited (x ∷ h) ≡ awaited h
same_awaited x h b d = awaited_steps x h ∙ rw (b, d) refl

-- A count byte leaves one byte less awaited.
less_awaited : (x : Item) (h : History) → is_count_byte x ≡ true → awaited (x ∷ h) ≡ awaited h - 1
less_awaited x h d = awaited_steps x h ∙ rw (byte_alone x d, d) refl

-- A byte behind a command and a byte sets a count,
byte_sets : (x : Item) (h : History) → is_count_byte x ≡ true → One h → is_count_set (x ∷ h) ≡ true
unfolding is_count_set
byte_sets x h d one =
    elim one.is [
      | inl e ↦ or_left (is_count_byte x && eqb (awaited h) 1) (is_count_set h) (and_from (is_count_byte x) (eqb (awaited h) 1) d (eq-eqb (awaited h) 1 e))
      | inr e ↦ set_stays (x ∷ []) h e
    ]

-- which other items do not undo.
one_stays : (x : Item) (h : History) → begins_count x ≡ false → One h → One (x ∷ h)
one_stays x h b one =
    elim (cases_Bool (is_count_byte x)) [
      | inl d ↦ record { is = inr (byte_sets x h d one) }
      | inr d ↦ elim one.is [
        | inl e ↦ record { is = inl (same_awaited x h b d ∙ e) }
        | inr e ↦ record { is = inr (set_stays (x ∷ []) h e) }
      ]
    ]

-- A byte behind a command leaves one to come,
two_steps : (x : Item) (h : History) → is_count_byte x ≡ true → Two h → One (x ∷ h)
two_steps x h d two =
    elim two.is [
      | inl e ↦ record { is = inl (less_awaited x h d ∙ ap (λ n. n - 1) e) }
      | inr one ↦ record { is = inr (byte_sets x h d (record { is = one })) }
    ]

-- which other items do not undo either.
two_stays : (x : Item) (h : History) → begins_count x ≡ false → Two h → Two (x ∷ h)
two_stays x h b two =
    elim (cases_Bool (is_count_byte x)) [
      | inl d ↦ record { is = inr (two_steps x h d two).is }
      | inr d ↦ elim two.is [
        | inl e ↦ record { is = inl (same_awaited x h b d ∙ e) }
        | inr one ↦ record { is = inr (one_stays x h b (record { is = one })).is }
      ]
    ]

-- The same over many items without a command.
one_along : (later h : History) → NoItem begins_count later → One h → One (later ++ h)
one_along [] h quiet one = one
one_along (x ∷ later) h quiet one = one_stays x (later ++ h) quiet.0 (one_along later h quiet.1 one)

-- The same along items that begin no count.
two_along : (later h : History) → NoItem begins_count later → Two h → Two (later ++ h)
two_along [] h quiet two = two
two_along (x ∷ later) h quiet two = two_stays x (later ++ h) quiet.0 (two_along later h quiet.1 two)

-- A command leaves two bytes to come.
begun : (x : Item) (h : History) → begins_count x ≡ true → Two (x ∷ h)
begun x h b = record { is = inl (awaited_steps x h ∙ rw b refl) }

-- what is so is computed
pub count_set_complete : (h : History) → CountSet h → is_count_set h ≡ true
count_set_complete h c =
    let two = two_along c.early (c.command ∷ c.before) c.none_early (begun c.command c.before c.begins) in
    let one = one_along c.middle (c.first ∷ (c.early ++ c.command ∷ c.before)) c.none_middle (two_steps c.first (c.early ++ c.command ∷ c.before) c.low two) in
    let set = byte_sets c.second (c.middle ++ c.first ∷ (c.early ++ c.command ∷ c.before)) c.high one in
    rw c.parts (set_stays c.later (c.second ∷ (c.middle ++ c.first ∷ (c.early ++ c.command ∷ c.before))) set)
