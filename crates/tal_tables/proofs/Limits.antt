-- Where a line has no fault, there is room for its row.
use Rattle.std.proofs.Common.{◌≡◌, ◌<◌, ◌≤◌, ◌+◌, ◌==◌, ◌||◌, ◌∷◌, ◌++◌, suc, ℕ, ℤ, Bool, true, false, not, nat_lt, nat_le, List, [], length, drop, get_or, add-one, drop-cons, length-append, Option, Some, None, Result, Ok, Err, refl, sym, ap, ◌∙◌, arith}
use Rattle.std.proofs.lemmas.Bool.Decides.{nat_tests}
use Rattle.std.specs.Option.{option_map_or}
use Rattle.std.specs.List.{list_any}
use Rattle.object_layout.specs.declared.rows.FieldTy.{FieldTy}
use Rattle.tal_types.specs.declared.signatures.Sig.{Sig}
use Rattle.tal_syntax.specs.declared.form.RegType.{RegType}
use Rattle.tal_syntax.specs.declared.form.TypeText.{TypeText}
use Rattle.tal_names.specs.Declarations.{Names}
use Rattle.tal_names.specs.NameSets.{number_of_name}
use Rattle.tal_names.specs.LookUps.{type_of}
use Rattle.tal_rows.specs.declared.lines.DataLine.{DataLine}
use Rattle.tal_rows.specs.declared.lines.EntryLine.{EntryLine}
use Rattle.unit_files.specs.declared.parts.UnitEntry.{UnitEntry}
use Rattle.tal_rows.specs.Trials.{need_value, unless}
use Rattle.tal_rows.specs.Lines.{is_twice, field_type, natural, all_known, repeats, types_in, parent_row_fits, is_too_long, numbers_fit, sig_line, kind_line, static_line, data_line, function_line, class_line, entry_line}
use Rattle.tal_tables.proofs.Passing.{after_one, after_two, after_three, after_four}

below : (n m : ℕ) → nat_le n m ≡ false → m < n
below n m h = grind (arith, nat_tests)

-- a signature
pub sig_room : (m : Names) (n : List ℕ) (ps : List RegType) (r : TypeText) (rows : ℕ) (s : Sig) → sig_line m n ps r rows ≡ Ok s → rows < 4096
unfolding sig_line
sig_room m n ps r rows s h =
    below 4096 rows (after_four (not (all_known m ps)) (type_of m r) (repeats [] ps) (is_twice m.sigs n rows) (nat_le 4096 rows) (λ result. Ok (record { params = types_in m ps; result = result })) s h)

-- an array kind
pub kind_room : (m : Names) (n : List ℕ) (t : TypeText) (rows : ℕ) (held : FieldTy) → kind_line m n t rows ≡ Ok held → rows < 256
unfolding kind_line
kind_room m n t rows held h =
    below 256 rows (after_two (type_of m t) (is_twice m.kinds n rows) (nat_le 256 rows) (λ found. need_value (field_type found) 18 (λ x. Ok x)) held h)

-- a static
pub static_room : (m : Names) (n : List ℕ) (t : TypeText) (rows words : ℕ) (held : FieldTy) → static_line m n t rows words ≡ Ok held → words < 65536
unfolding static_line
static_room m n t rows words held h =
    below 65536 words (after_two (type_of m t) (is_twice m.statics n rows) (nat_le 65536 words) (λ found. need_value (field_type found) 18 (λ x. Ok x)) held h)

-- a function
pub function_room : (m : Names) (n s : List ℕ) (has_code : Bool) (rows sig : ℕ) → function_line m n s has_code rows ≡ Ok sig → rows < 16384
unfolding function_line
function_room m n s has_code rows sig h =
    below 16384 rows (after_three 15 (number_of_name m.sigs s) (is_twice m.functions n rows) (λ x. not has_code) (nat_le 16384 rows) (λ x. Ok x) sig h)

-- a class
pub class_room : (m : Names) (n : List ℕ) (p : Option (List ℕ)) (rows : ℕ) (above : Option ℕ) → class_line m n p rows ≡ Ok above → rows < 1024
unfolding class_line
class_room m n None rows above h = below 1024 rows (after_one 12 (is_twice m.classes n rows) (nat_le 1024 rows) (Ok None) above h)
class_room m n (Some a) rows above h =
    below 1024 rows (after_three 14 (number_of_name m.classes a) (is_twice m.classes n rows) (λ p. not (parent_row_fits m rows p)) (nat_le 1024 rows) (λ p. Ok (Some p)) above h)

not_above : (n m : ℕ) → nat_lt n m ≡ false → m ≤ n
not_above n m h = grind (arith, nat_tests)

fits : (o : Option ℕ) (words n : ℕ) → option_map_or (λ n. nat_lt 65536 (words + 2 + n)) o false ≡ false → o ≡ Some n → words + 2 + n ≤ 65536
fits o words n long is = not_above _ _ (sym (ap (λ (p : Option ℕ). option_map_or (λ n. nat_lt 65536 (words + 2 + n)) p false) is) ∙ long)

length_of : Result DataLine ℕ → ℕ
length_of (Ok l) = l.length
length_of (Err code) = 0

last_step : (fails : Bool) (kind n : ℕ) (l : DataLine) → unless fails 17 (Ok (record { kind = kind; length = n })) ≡ Ok l → n ≡ l.length
unfolding length_of
last_step true kind n l h = absurd (cc)
last_step false kind n l h = ap length_of h

data_steps : (k : Option ℕ) (twice long : Bool) (size : Option ℕ) (unfit : ℕ → ℕ → Bool) (l : DataLine)
    → need_value k 11 (λ kind. unless twice 12 (unless long 16 (need_value size 17 (λ n. unless (unfit kind n) 17 (Ok (record { kind = kind; length = n })))))) ≡ Ok l → (long ≡ false) × (size ≡ Some l.length)
data_steps None twice long size unfit l h = absurd (cc)
data_steps (Some kind) true long size unfit l h = absurd (cc)
data_steps (Some kind) false true size unfit l h = absurd (cc)
data_steps (Some kind) false false None unfit l h = absurd (cc)
data_steps (Some kind) false false (Some n) unfit l h = (refl, ap (λ k. Some k) (last_step (unfit kind n) kind n l h))

-- a data array
pub data_room : (m : Names) (n k : List ℕ) (size : ℤ) (ns : Option (List ℤ)) (rows words : ℕ) (l : DataLine) → data_line m n k size ns rows words ≡ Ok l → words + 2 + l.length ≤ 65536
unfolding data_line is_too_long
data_room m n k size ns rows words l h =
    let a = data_steps (number_of_name m.kinds k) (is_twice m.arrays n rows) (is_too_long size words) (natural size) (λ kind found. not (numbers_fit m kind found ns)) l h in
    fits (natural size) words l.length a.0 a.1

stack_of : Result EntryLine ℕ → ℕ
stack_of (Ok l) = l.stack
stack_of (Err code) = 0

few_stacks : (over : Bool) (f n : ℕ) (l : EntryLine) → unless over 17 (Ok (record { stack = n; function = f })) ≡ Ok l → over ≡ nat_lt 63 n → nat_lt 63 l.stack ≡ false
unfolding stack_of
few_stacks true f n l h is = absurd (cc)
few_stacks false f n l h is = ap (nat_lt 63) (sym (ap stack_of h)) ∙ sym is

stack_steps : (f : Option ℕ) (given : Bool) (s : Option ℕ) (l : EntryLine)
    → need_value f 11 (λ function. unless given 12 (need_value s 17 (λ n. unless (nat_lt 63 n) 17 (Ok (record { stack = n; function = function }))))) ≡ Ok l → nat_lt 63 l.stack ≡ false
stack_steps None given s l h = absurd (cc)
stack_steps (Some f) true s l h = absurd (cc)
stack_steps (Some f) false None l h = absurd (cc)
stack_steps (Some f) false (Some n) l h = few_stacks (nat_lt 63 n) f n l h refl

-- a stack's number is at most 63
pub stack_room : (m : Names) (stack : ℤ) (f : List ℕ) (given : Bool) (l : EntryLine) → entry_line m stack f given ≡ Ok l → l.stack ≤ 63
unfolding entry_line
stack_room m stack f given l h = not_above 63 l.stack (stack_steps (number_of_name m.functions f) given (natural stack) l h)

-- one row more
pub one_more : {X : Type 0} (xs ys : List X) (x : X) (n : ℕ) → ys ≡ xs ++ x ∷ [] → length xs < n → length ys ≤ n
one_more xs ys x n is lt = omega (arith, ap length is, length-append xs (x ∷ []))

-- the entry is the stack's, or one behind it is
pub next_entry : (s : ℕ) (es : List UnitEntry) (i : ℕ) (e : UnitEntry) → i < length es → e ≡ get_or es i e
    → list_any (λ (x : UnitEntry). x.stack == s) (drop i es) ≡ (e.stack == s || list_any (λ (x : UnitEntry). x.stack == s) (drop (i + 1) es))
next_entry s es i e lt is =
    ap (list_any (λ (x : UnitEntry). x.stack == s)) (drop-cons es i e lt ∙ ap (λ y. y ∷ drop (suc i) es) (sym is) ∙ ap (λ n. e ∷ drop n es) (sym (add-one i)))
