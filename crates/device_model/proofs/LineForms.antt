-- The form of a line: what is read has it, what is not read has none, and a line has one at most.
use Rattle.std.proofs.Common.{◌≡◌, ◌≢◌, ◌<◌, ℕ, List, [], ◌∷◌, ◌++◌, length, take, drop, get_or, true, false, eqb, refl, sym, ap, ◌∙◌, arith}
use Rattle.std.specs.Prelude.{codes}
use Rattle.std.specs.List.{prefix_len, take_while}
use Rattle.std.proofs.lemmas.Bool.{true≢false, eqb-true, eq-eqb}
use Rattle.std.proofs.lemmas.List.{take_at, take-append-drop, append_cancel_left, append-nil, nil_from_length}
use Rattle.std.specs.Str.{bytes_eq}
use Rattle.std.proofs.lemmas.Slice.Eq.{bytes_eq-Decides}
use Rattle.device_model.specs.declared.line_form.Form.TheVariants as held
use Rattle.std.specs.Char.{is_ascii_digit}
use Rattle.device_model.specs.EventFile.{LineForm, Skipped, TickLine, KeyLine, value, IsTick, IsKey, is_skipped, HasForm}
use Rattle.device_model.specs.EventReading.{TakesNumber, TakesForm}
use Rattle.device_model.proofs.Digits.{Front, front_number, front_of, same_value}

-- ---- the fronts of a line with a form

-- A line of a tick has its turn at the front,
tick_front : (line : List ℕ) (turn : ℕ) → (t : IsTick line turn) → Front line t.digits (codes " tick")
tick_front line turn t = front_of line t.digits (codes " tick") turn t.number refl t.parts

-- a line of a key too,
key_front : (line : List ℕ) (turn code : ℕ) → (k : IsKey line turn code) → Front line k.digits (codes " key " ++ k.more)
key_front line turn code k = front_of line k.digits (codes " key " ++ k.more) turn k.number refl k.parts

-- and its code at the front of what follows.
code_front : (line : List ℕ) (turn code : ℕ) → (k : IsKey line turn code) → Front k.more k.more []
code_front line turn code k = front_of k.more k.more [] code k.code_number refl (sym (append-nil k.more))

-- ---- tests of a text against a word

-- The test of an empty text,
pub is_empty : (text : List ℕ) → true ≡ eqb (length text) 0 → text ≡ []
is_empty text e = nil_from_length text (eqb-true (length text) 0 (sym e))

-- A text with a length is not empty.
pub not_empty : (text : List ℕ) → false ≡ eqb (length text) 0 → text ≢ []
not_empty text e nil = true≢false (sym (eq-eqb (length text) 0 (ap length nil)) ∙ sym e)

-- and of a text that is a word.
pub word_same : (rest word : List ℕ) → true ≡ bytes_eq rest word → rest ≡ word
word_same rest word e = (bytes_eq-Decides rest word).0 (sym e)

-- A text that is not a word byte by byte is another.
pub word_apart : (rest word : List ℕ) → false ≡ bytes_eq rest word → rest ≢ word
word_apart rest word e same = true≢false (sym ((bytes_eq-Decides rest word).1 same) ∙ sym e)

-- The text begins with the word of a key,
pub key_same : (rest more : List ℕ) → bytes_eq (take 5 rest) (codes " key ") ≡ true → more ≡ drop 5 rest → rest ≡ codes " key " ++ more
key_same rest more e is = sym (take-append-drop 5 rest) ∙ rw ((bytes_eq-Decides (take 5 rest) (codes " key ")).0 e, is) refl

-- or it does not.
pub key_apart : (rest : List ℕ) → bytes_eq (take 5 rest) (codes " key ") ≡ false → (more : List ℕ) → rest ≢ codes " key " ++ more
key_apart rest e more same = true≢false (sym ((bytes_eq-Decides (take 5 rest) (codes " key ")).1 (ap (take 5) same ∙ take_at (codes " key ") more 5 refl)) ∙ e)

-- ---- what is read has the form

-- A text is its digits at the front and the rest.
parts_of : (line : List ℕ) (number : ℕ) (rest : List ℕ) → TakesNumber line number rest → line ≡ take_while is_ascii_digit line ++ rest
parts_of line number rest t = sym (take-append-drop (prefix_len is_ascii_digit line) line) ∙ ap (λ r. take_while is_ascii_digit line ++ r) (sym t.is_rest)

-- A number and the word of a tick are a tick.
pub reads_tick : (line : List ℕ) (turn : ℕ) (rest : List ℕ) → TakesNumber line turn rest → rest ≡ codes " tick" → TakesForm line (held.Tick turn)
reads_tick line turn rest t word = record {
  form = TickLine (value (take_while is_ascii_digit line));
  has = record { digits = take_while is_ascii_digit line; number = front_number line t.begins; parts = parts_of line turn rest t ∙ ap (λ r. take_while is_ascii_digit line ++ r) word };
  is_taken = ap TickLine t.is_number;
}

-- Two numbers and the word of a key are a key.
pub reads_key : (line : List ℕ) (turn code : ℕ) (rest more after : List ℕ) → TakesNumber line turn rest → rest ≡ codes " key " ++ more
    → TakesNumber more code after → after ≡ [] → TakesForm line (held.Key turn code)
reads_key line turn code rest more after t word u none = record {
  form = KeyLine (value (take_while is_ascii_digit line)) (value (take_while is_ascii_digit more));
  has = record {
    digits = take_while is_ascii_digit line;
    more = take_while is_ascii_digit more;
    number = front_number line t.begins;
    code_number = front_number more u.begins;
    parts = parts_of line turn rest t ∙ ap (λ r. take_while is_ascii_digit line ++ r) (word
        ∙ ap (λ m. codes " key " ++ m) (parts_of more code after u ∙ ap (λ r. take_while is_ascii_digit more ++ r) none ∙ append-nil (take_while is_ascii_digit more)));
  };
  is_taken = rw (t.is_number, u.is_number) refl;
}

-- ---- what is not read has no form

-- No digit stands at the front.
pub no_digits : (line : List ℕ) → is_skipped line ≡ false → prefix_len is_ascii_digit line ≡ 0 → (form : LineForm) → HasForm line form → ⊥
no_digits line s none Skipped has = true≢false (sym has ∙ s)
no_digits line s none (TickLine turn) has = omega (arith, (tick_front line turn has).begins, none)
no_digits line s none (KeyLine turn code) has = omega (arith, (key_front line turn code has).begins, none)

-- The number is followed by neither word.
pub no_word : (line : List ℕ) (turn : ℕ) (rest : List ℕ) → is_skipped line ≡ false → TakesNumber line turn rest → rest ≢ codes " tick"
    → ((more : List ℕ) → rest ≢ codes " key " ++ more) → (form : LineForm) → HasForm line form → ⊥
no_word line turn rest s t tick key Skipped has = true≢false (sym has ∙ s)
no_word line turn rest s t tick key (TickLine other) has = tick (t.is_rest ∙ (tick_front line other has).rest)
no_word line turn rest s t tick key (KeyLine other code) has = key has.more (t.is_rest ∙ (key_front line other code has).rest)

-- What follows the word of a key is the digits of its code.
same_more : (line : List ℕ) (turn : ℕ) (rest more : List ℕ) (other code : ℕ) → TakesNumber line turn rest → rest ≡ codes " key " ++ more
    → (k : IsKey line other code) → more ≡ k.more
same_more line turn rest more other code t word k = append_cancel_left (codes " key ") more k.more (sym word ∙ (t.is_rest ∙ (key_front line other code k).rest))

-- The word of a key is followed by no digit.
pub no_code : (line : List ℕ) (turn : ℕ) (rest more : List ℕ) → is_skipped line ≡ false → TakesNumber line turn rest → rest ≢ codes " tick"
    → rest ≡ codes " key " ++ more → prefix_len is_ascii_digit more ≡ 0 → (form : LineForm) → HasForm line form → ⊥
no_code line turn rest more s t tick word none Skipped has = true≢false (sym has ∙ s)
no_code line turn rest more s t tick word none (TickLine other) has = tick (t.is_rest ∙ (tick_front line other has).rest)
no_code line turn rest more s t tick word none (KeyLine other code) has =
    omega (arith, (code_front line other code has).begins, ap (prefix_len is_ascii_digit) (same_more line turn rest more other code t word has), none)

-- More follows the code.
pub no_end : (line : List ℕ) (turn code : ℕ) (rest more after : List ℕ) → is_skipped line ≡ false → TakesNumber line turn rest → rest ≢ codes " tick"
    → rest ≡ codes " key " ++ more → TakesNumber more code after → after ≢ [] → (form : LineForm) → HasForm line form → ⊥
no_end line turn code rest more after s t tick word u some Skipped has = true≢false (sym has ∙ s)
no_end line turn code rest more after s t tick word u some (TickLine other) has = tick (t.is_rest ∙ (tick_front line other has).rest)
no_end line turn code rest more after s t tick word u some (KeyLine other number) has =
    some (u.is_rest ∙ (ap (λ m. drop (prefix_len is_ascii_digit m) m) (same_more line turn rest more other number t word has) ∙ (code_front line other number has).rest))

-- ---- a line has one form at most

-- A line that begins with a digit is not skipped.
digits_no_skip : (line : List ℕ) → 0 < prefix_len is_ascii_digit line → is_skipped line ≡ true → ⊥
digits_no_skip [] lt s = omega (arith, lt)
digits_no_skip (b ∷ line) lt s = let e : b ≡ 35 = eqb-true b 35 s in let p : prefix_len is_ascii_digit (b ∷ line) ≡ 0 = rw e refl in omega (arith, p, lt)

-- The word of a tick does not begin as that of a key.
tick_no_key : (more : List ℕ) → codes " tick" ≡ codes " key " ++ more → ⊥
tick_no_key more e = let second : get_or (codes " tick") 1 0 ≡ get_or (codes " key " ++ more) 1 0 = ap (λ t. get_or t 1 0) e in omega (arith, second)

-- A line has one form at most.
pub one_form : (line : List ℕ) (f g : LineForm) → HasForm line f → HasForm line g → f ≡ g
one_form line Skipped Skipped x y = refl
one_form line Skipped (TickLine t) x y = absurd (digits_no_skip line (tick_front line t y).begins x)
one_form line Skipped (KeyLine t c) x y = absurd (digits_no_skip line (key_front line t c y).begins x)
one_form line (TickLine t) Skipped x y = absurd (digits_no_skip line (tick_front line t x).begins y)
one_form line (KeyLine t c) Skipped x y = absurd (digits_no_skip line (key_front line t c x).begins y)
one_form line (TickLine t) (TickLine u) x y = ap TickLine (same_value x.digits y.digits t u x.number y.number (sym (tick_front line t x).taken ∙ (tick_front line u y).taken))
one_form line (TickLine t) (KeyLine u c) x y = absurd (tick_no_key y.more (sym (tick_front line t x).rest ∙ (key_front line u c y).rest))
one_form line (KeyLine t c) (TickLine u) x y = absurd (tick_no_key x.more (sym (tick_front line u y).rest ∙ (key_front line t c x).rest))
one_form line (KeyLine t c) (KeyLine u d) x y =
    let turns = same_value x.digits y.digits t u x.number y.number (sym (key_front line t c x).taken ∙ (key_front line u d y).taken) in
    let codes_are = same_value x.more y.more c d x.code_number y.code_number
    (append_cancel_left (codes " key ") x.more y.more (sym (key_front line t c x).rest ∙ (key_front line u d y).rest)) in
    rw (turns, codes_are) refl
