-- What was read has room in memory: the functions within the code, the data arrays within the words behind the statics.
use Rattle.std.proofs.Common.{◌≡◌, ℕ, zero, suc, ◌+◌, ◌-◌, ◌<◌, ◌≤◌, Bool, true, false, cond, List, [], ◌∷◌, Result, Ok, Err, refl, sym, ap, subst, ◌∙◌, arith}
use Rattle.std.proofs.lemmas.Bool.Decides.{nat_tests}
use Rattle.object_layout.specs.declared.rows.KindRow.{KindRow}
use Rattle.file_fields.specs.declared.fault.ImageFault.{ImageFault}
use Rattle.file_fields.specs.declared.fault.ImageFault.TheVariants.{Bad}
use Rattle.tal_image.specs.declared.parts.FunctionPart.{FunctionPart}
use Rattle.tal_image.specs.Image.{ArrayPart}
use Rattle.tal_image.specs.Conditions.{Tables, where_given, between, length_fits, part_length_fits, sig_fits, kind_fits, array_fits, with_array, numbers_given}
use Rattle.file_fields.specs.Grammar.{Grammar, checked, each, many}
use Rattle.file_fields.specs.Reading.{◌▸◌, any_number_at, run}
use Rattle.file_fields.specs.Composed.{checked_run, many_run}
use Rattle.tal_image.specs.Fields.{any_number, function_fields, array_fields, after_function}
use Rattle.tal_image.specs.CodeReading.{AllPositive}
use Rattle.tal_image.proofs.Reading.Lengths.{code_length, array_space}
use Rattle.tal_image.proofs.Reading.RowReadings.{function_run, array_run}

-- what was read first, and what then
pub bind_inverse : {A B : Type 0} (r : Result A ImageFault) (k : A → Result B ImageFault) (y : B)
    → (r ▸ k) ≡ Ok y → (x : A) × (r ≡ Ok x) × (k x ≡ Ok y)
bind_inverse (Ok x) k y e = (x, refl, e)
bind_inverse (Err f) k y e = absurd cc

-- one answer has one value, and one end
ok_same : {A : Type 0} (x y : A) → (let l : Result A ImageFault = Ok x in l) ≡ Ok y → x ≡ y
ok_same x y e = cc

pub ok_pair : {A : Type 0} (x y : A) (n m : ℕ) → (let l : Result (A × ℕ) ImageFault = Ok (x, n) in l) ≡ Ok (y, m) → (x ≡ y) × (n ≡ m)
ok_pair {A} x y n m e = let k = ok_same (x, n) (y, m) e in (ap (λ (z : A × ℕ). z.0) k, ap (λ (z : A × ℕ). z.1) k)

-- what a test lets through
passed : {A : Type 0} (b : Bool) (r : Result A ImageFault) (f : ImageFault) (y : A) → cond b r (Err f) ≡ Ok y → (b ≡ true) × (r ≡ Ok y)
passed true r f y e = (refl, e)
passed false r f y e = absurd cc

-- a number that was read met its condition
checked_met : (ok : ℕ → Bool) (condition : ℕ) (file : List ℕ) (at : ℕ) (n : ℕ × ℕ) → run (checked ok condition) file at ≡ Ok n → ok n.0 ≡ true
checked_met ok condition file at n e =
    let one = bind_inverse (any_number_at file at) _ n (sym (checked_run ok condition file at) ∙ e) in
    let two = passed (ok one.0.0) (Ok one.0) (Bad at condition) n one.2 in
    subst (λ (z : ℕ × ℕ). ok z.0 ≡ true) (ok_same one.0 n two.1) two.0

-- a row, then the others
many_inverse : {S A : Type 0} (row : ℕ → S → Grammar A) (step : S → A → S) (n : ℕ) (kept : S) (file : List ℕ) (at : ℕ) (ys : List A) (end : ℕ)
    → run (many (suc n) row step kept) file at ≡ Ok (ys, end)
    → (x : A × ℕ) × (xs : List A) × (run (row n kept) file at ≡ Ok x) × (run (many n row step (step kept x.0)) file x.1 ≡ Ok (xs, end)) × (x.0 ∷ xs ≡ ys)
many_inverse {S} {A} row step n kept file at ys end e =
    let one = bind_inverse (run (row n kept) file at) _ (ys, end) (sym (many_run row step n kept file at) ∙ e) in
    let x = one.0 in
    let more = bind_inverse (run (many n row step (step kept x.0)) file x.1) _ (ys, end) one.2 in
    let same = ok_pair (x.0 ∷ more.0.0) ys more.0.1 end more.2 in
    (x, more.0.0, one.1, more.1 ∙ ap (λ (z : ℕ). let r : Result (List A × ℕ) ImageFault = Ok (more.0.0, z) in r) same.1, same.0)

-- a number within limits, or 0 where it may be left out, is not more than the higher one
pub given_within : (partial : Bool) (low high n : ℕ) → where_given partial (between low high) n ≡ true → n ≤ high
given_within true low high n h = grind (arith, nat_tests)
given_within false low high n h = grind (arith, nat_tests)

-- ---- functions

-- a function, extern or not, has no more than are left
pub part_fits : (ext : Bool) (later left n : ℕ) → part_length_fits ext later left n ≡ true → n ≤ left
unfolding part_length_fits
part_fits true later left n h = grind (arith, nat_tests)
part_fits false later left n h = grind (arith, nat_tests)

-- a function has a byte at least, and no more than are left
function_fits : (t : Tables) (later left : ℕ) (file : List ℕ) (at : ℕ) (f : FunctionPart × ℕ)
    → run (function_fields t later left) file at ≡ Ok f → (0 < f.0.length) × (f.0.length ≤ left)
function_fits t later left file at f e =
    let one = bind_inverse (any_number_at file at) _ f (sym (function_run t (length_fits later left) file at) ∙ e) in
    let met = passed (length_fits later left one.0.0) _ (Bad at 13) f one.2 in
    let two = bind_inverse (any_number_at file one.0.1) _ f met.1 in
    let last = passed (sig_fits t two.0.0) _ (Bad one.0.1 14) f two.2 in
    let same : one.0.0 ≡ f.0.length = ap (λ (z : FunctionPart × ℕ). z.0.length) (ok_same _ f last.1) in
    let test = met.0 in
    subst (λ (n : ℕ). (0 < n) × (n ≤ left)) same (grind (arith, nat_tests), grind (arith, nat_tests))

-- functions have a byte each at least, and no more in all than the code
pub functions_fit : (t : Tables) (n left : ℕ) (file : List ℕ) (at : ℕ) (fs : List FunctionPart) (end : ℕ)
    → run (many n (function_fields t) after_function left) file at ≡ Ok (fs, end) → AllPositive fs × (code_length fs ≤ left)
unfolding code_length
functions_fit t zero left file at fs end e =
    let k = ok_pair [] fs at end e in
    subst (λ (z : List FunctionPart). AllPositive z × (code_length z ≤ left)) k.0 (tt, omega arith)
functions_fit t (suc n) left file at fs end e =
    let k = many_inverse (function_fields t) after_function n left file at fs end e in
    let f = k.0 in
    let one = function_fits t n left file at f k.2 in
    let more = functions_fit t n (left - f.0.length) file f.1 k.1 end k.3 in
    let room = one.1 in
    let rest = more.1 in
    subst (λ (z : List FunctionPart). AllPositive z × (code_length z ≤ left)) k.4 ((one.0, more.0), omega arith)

-- ---- data arrays

-- a data array lies within the words of memory
array_room : (t : Tables) (kinds : List KindRow) (used : ℕ) (file : List ℕ) (at : ℕ) (a : ArrayPart × ℕ)
    → run (array_fields t kinds used) file at ≡ Ok a → used + 2 + a.0.size ≤ 65536
array_room t kinds used file at a e =
    let one = bind_inverse (run (checked (kind_fits t) 21) file at) _ a (sym (array_run t (numbers_given kinds) used file at) ∙ e) in
    let two = bind_inverse (run (checked (array_fits used) 22) file one.0.1) _ a one.2 in
    let three = bind_inverse (run (each (numbers_given kinds one.0.0 two.0.0) any_number) file two.0.1) _ a two.2 in
    let met = checked_met (array_fits used) 22 file one.0.1 two.0 two.1 in
    let same : two.0.0 ≡ a.0.size = ap (λ (z : ArrayPart × ℕ). z.0.size) (ok_same _ a three.2) in
    subst (λ (n : ℕ). used + 2 + n ≤ 65536) same (grind (arith, nat_tests))

-- so do all of them
pub arrays_fit : (t : Tables) (kinds : List KindRow) (n used : ℕ) (file : List ℕ) (at : ℕ) (xs : List ArrayPart) (end : ℕ)
    → run (many n (λ later kept. array_fields t kinds kept) with_array used) file at ≡ Ok (xs, end) → used ≤ 65536 → used + array_space xs ≤ 65536
unfolding array_space
arrays_fit t kinds zero used file at xs end e le =
    let k = ok_pair [] xs at end e in
    subst (λ (z : List ArrayPart). used + array_space z ≤ 65536) k.0 (omega arith)
arrays_fit t kinds (suc n) used file at xs end e le =
    let k = many_inverse (λ later kept. array_fields t kinds kept) with_array n used file at xs end e in
    let a = k.0 in
    let one = array_room t kinds used file at a k.2 in
    let more = arrays_fit t kinds n (used + 2 + a.0.size) file a.1 k.1 end k.3 one in
    subst (λ (z : List ArrayPart). used + array_space z ≤ 65536) k.4 (omega arith)
