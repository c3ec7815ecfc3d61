-- Where the instructions of code begin, and where words lie in them.
use Rattle.std.proofs.Common.{◌≡◌, ℕ, ◌+◌, ◌-◌, ◌≤◌, ◌<◌, List, [], ◌∷◌, ◌++◌, length, Bool, true, false, Some, None, is_some, if◌then◌else◌, refl, ap, ◌∙◌, arith}
use Rattle.std.specs.Prelude.{◌==◌, nat_lt}
use Rattle.std.proofs.lemmas.List.{length-append}
use Rattle.file_fields.specs.Parts.{Each}
use Rattle.tal_image.specs.declared.parts.FunctionPart.{FunctionPart}
use Rattle.tal_image.specs.Conditions.{Spelled, begins_at, function_begins}
use Rattle.tal_image.specs.Fields.{code_bytes}
use Rattle.unit_files.specs.Conditions.{words_in_text, hole_in, hole_at, wide_at}

-- A choice by a test.
pub chosen : {A : Type 0} (b : Bool) (x y : A) → b ≡ true → (if b then x else y) ≡ x
chosen true x y e = refl
chosen false x y e = cc

pub other : {A : Type 0} (b : Bool) (x y : A) → b ≡ false → (if b then x else y) ≡ y
other true x y e = cc
other false x y e = refl

-- The bytes of instructions are those of the first, and those behind it.
pub length_bytes : (s : Spelled) (more : List Spelled) → length (code_bytes (s ∷ more)) ≡ length s.text + length (code_bytes more)
length_bytes s more = length-append s.text (code_bytes more)

-- ---- more code behind

-- What begins at an offset begins there in longer code.
pub begins_more : (offset : ℕ) (code more : List Spelled) → is_some (begins_at offset code) ≡ true → begins_at offset (code ++ more) ≡ begins_at offset code
unfolding begins_at
begins_more offset [] more e = cc
begins_more offset (s ∷ code) more e = by_first (begins_more (offset - length s.text) code more) (offset == 0) (nat_lt offset (length s.text)) e
  where
    by_first : (is_some (begins_at (offset - length s.text) code) ≡ true → begins_at (offset - length s.text) (code ++ more) ≡ begins_at (offset - length s.text) code)
        → (a b : Bool) → is_some (if a then Some s.means else if b then None else begins_at (offset - length s.text) code) ≡ true
        → (if a then Some s.means else if b then None else begins_at (offset - length s.text) (code ++ more))
        ≡ (if a then Some s.means else if b then None else begins_at (offset - length s.text) code)
    by_first later true b e = refl
    by_first later false true e = cc
    by_first later false false e = later e

-- A hole lies there in longer code.
pub hole_more : (offset : ℕ) (code more : List Spelled) → hole_at offset code ≡ true → hole_at offset (code ++ more) ≡ true
unfolding hole_at
hole_more offset [] more e = cc
hole_more offset (s ∷ code) more e = by_first (hole_more (offset - length s.text) code more) (nat_lt offset (length s.text)) e
  where
    by_first : (hole_at (offset - length s.text) code ≡ true → hole_at (offset - length s.text) (code ++ more) ≡ true) → (b : Bool) → (if b then hole_in s.text offset else hole_at (offset - length s.text) code) ≡ true
        → (if b then hole_in s.text offset else hole_at (offset - length s.text) (code ++ more)) ≡ true
    by_first later true e = e
    by_first later false e = later e

-- And so does a word at an instruction's end.
pub wide_more : (offset : ℕ) (code more : List Spelled) → wide_at offset code ≡ true → wide_at offset (code ++ more) ≡ true
unfolding wide_at
wide_more offset [] more e = cc
wide_more offset (s ∷ code) more e = by_first (wide_more (offset - length s.text) code more) (offset == 0) (nat_lt offset (length s.text)) e
  where
    by_first : (wide_at (offset - length s.text) code ≡ true → wide_at (offset - length s.text) (code ++ more) ≡ true) → (a b : Bool) → (if a then is_some (words_in_text s.text).at_end else if b then false else wide_at (offset - length s.text) code) ≡ true
        → (if a then is_some (words_in_text s.text).at_end else if b then false else wide_at (offset - length s.text) (code ++ more)) ≡ true
    by_first later true b e = e
    by_first later false true e = cc
    by_first later false false e = later e

-- ---- offsets are within the code

-- What begins in the code begins before its end.
pub begins_within : (offset : ℕ) (code : List Spelled) → Each (λ (s : Spelled). 0 < length s.text) code → is_some (begins_at offset code) ≡ true → offset < length (code_bytes code)
unfolding begins_at
begins_within offset [] some e = cc
begins_within offset (s ∷ code) (some, all) e =
    rw (length_bytes s code) (by_first (begins_within (offset - length s.text) code all) (offset == 0) (nat_lt offset (length s.text)) refl refl e)
  where
    by_first : (is_some (begins_at (offset - length s.text) code) ≡ true → offset - length s.text < length (code_bytes code)) → (a b : Bool) → (offset == 0) ≡ a → nat_lt offset (length s.text) ≡ b
        → is_some (if a then Some s.means else if b then None else begins_at (offset - length s.text) code) ≡ true → offset < length s.text + length (code_bytes code)
    by_first later true b zero less e = (let z : offset ≡ 0 = grind arith in omega (arith, z, some))
    by_first later false true zero less e = cc
    by_first later false false zero less e =
        let k = later e in
        omega (arith, k)

-- A hole lies before the code's end.
pub hole_within : (offset : ℕ) (code : List Spelled) → hole_at offset code ≡ true → offset < length (code_bytes code)
unfolding hole_at
hole_within offset [] e = cc
hole_within offset (s ∷ code) e = rw (length_bytes s code) (by_first (hole_within (offset - length s.text) code) (nat_lt offset (length s.text)) refl e)
  where
    by_first : (hole_at (offset - length s.text) code ≡ true → offset - length s.text < length (code_bytes code)) → (b : Bool) → nat_lt offset (length s.text) ≡ b → (if b then hole_in s.text offset else hole_at (offset - length s.text) code) ≡ true
        → offset < length s.text + length (code_bytes code)
    by_first later true less e = (let l : offset < length s.text = grind arith in omega (arith, l))
    by_first later false less e =
        let k = later e in
        omega (arith, k)

-- ---- an instruction with code before and behind it

-- The offset behind an instruction is not before its end, and so many bytes more.
behind : (s : Spelled) (before : List Spelled) (offset k : ℕ) → offset ≡ length (code_bytes (s ∷ before)) + k
    → (offset - length s.text ≡ length (code_bytes before) + k) × (nat_lt offset (length s.text) ≡ false)
behind s before offset k is =
    let n : offset ≡ length s.text + length (code_bytes before) + k = is ∙ ap (λ n. n + k) (length_bytes s before) in
    (omega (arith, n), let le : length s.text ≤ offset = omega (arith, n) in grind (arith, le))

-- An instruction begins behind those before it.
pub begins_here : (before : List Spelled) (s : Spelled) (more : List Spelled) (offset : ℕ) → Each (λ (s : Spelled). 0 < length s.text) before
    → offset ≡ length (code_bytes before) + 0 → begins_at offset (before ++ s ∷ more) ≡ Some s.means
unfolding begins_at
begins_here [] s more offset all is = chosen (offset == 0) (Some s.means) _ (let z : offset ≡ 0 = is in grind (arith, z))
begins_here (x ∷ before) s more offset (some, all) is =
    let b = behind x before offset 0 is in
    let n : offset ≡ length x.text + length (code_bytes before) + 0 = is ∙ ap (λ n. n + 0) (length_bytes x before) in
    let later : (offset == 0) ≡ false = (let p : 0 < offset = omega (arith, n, some) in grind (arith, p)) in
    other (offset == 0) (Some x.means) _ later
    ∙ other (nat_lt offset (length x.text)) None _ b.1
    ∙ begins_here before s more (offset - length x.text) all b.0

-- It ends with a word where its bytes do.
pub wide_here : (before : List Spelled) (s : Spelled) (more : List Spelled) (offset : ℕ) → Each (λ (s : Spelled). 0 < length s.text) before
    → offset ≡ length (code_bytes before) + 0 → wide_at offset (before ++ s ∷ more) ≡ is_some (words_in_text s.text).at_end
unfolding wide_at
wide_here [] s more offset all is = chosen (offset == 0) (is_some (words_in_text s.text).at_end) _ (let z : offset ≡ 0 = is in grind (arith, z))
wide_here (x ∷ before) s more offset (some, all) is =
    let b = behind x before offset 0 is in
    let n : offset ≡ length x.text + length (code_bytes before) + 0 = is ∙ ap (λ n. n + 0) (length_bytes x before) in
    let later : (offset == 0) ≡ false = (let p : 0 < offset = omega (arith, n, some) in grind (arith, p)) in
    other (offset == 0) (is_some (words_in_text x.text).at_end) _ later
    ∙ other (nat_lt offset (length x.text)) false _ b.1
    ∙ wide_here before s more (offset - length x.text) all b.0

-- A hole of it lies as far behind those before it.
pub hole_here : (before : List Spelled) (s : Spelled) (more : List Spelled) (offset k : ℕ) → k < length s.text
    → offset ≡ length (code_bytes before) + k → hole_at offset (before ++ s ∷ more) ≡ hole_in s.text k
unfolding hole_at
hole_here [] s more offset k lt is =
    let same : offset ≡ k = omega (arith, is) in
    chosen (nat_lt offset (length s.text)) (hole_in s.text offset) _ (let l : offset < length s.text = rw same lt in grind (arith, l)) ∙ ap (hole_in s.text) same
hole_here (x ∷ before) s more offset k lt is =
    let b = behind x before offset k is in
    other (nat_lt offset (length x.text)) (hole_in x.text offset) _ b.1 ∙ hole_here before s more (offset - length x.text) k lt b.0

-- ---- where functions begin

-- how many bytes functions have together
abbrev pub all_bytes : List FunctionPart → ℕ
all_bytes [] = 0
all_bytes (f ∷ fs) = f.length + all_bytes fs

-- One function more begins at no offset before it.
pub begins_before : (offset : ℕ) (own : List FunctionPart) (f : FunctionPart) → offset < all_bytes own → function_begins offset (own ++ f ∷ []) ≡ function_begins offset own
unfolding function_begins
begins_before offset [] f lt = absurd (omega (arith, lt))
begins_before offset (g ∷ own) f lt = by_first (begins_before (offset - g.length) own f) (offset == 0) (nat_lt offset g.length) refl
  where
    by_first : (offset - g.length < all_bytes own → function_begins (offset - g.length) (own ++ f ∷ []) ≡ function_begins (offset - g.length) own) → (a b : Bool) → nat_lt offset g.length ≡ b
        → (if a then true else if b then false else function_begins (offset - g.length) (own ++ f ∷ []))
        ≡ (if a then true else if b then false else function_begins (offset - g.length) own)
    by_first later true b less = refl
    by_first later false true less = refl
    by_first later false false less =
        let le : g.length ≤ offset = grind arith in
        later (omega (arith, lt, le))

-- No function begins behind the first instruction of the last one.
pub begins_no_more : (offset : ℕ) (own : List FunctionPart) (f : FunctionPart) → all_bytes own < offset → function_begins offset (own ++ f ∷ []) ≡ false
unfolding function_begins
begins_no_more offset [] f lt =
    other (offset == 0) true _ (grind (arith, lt)) ∙ by_last (nat_lt offset f.length)
  where
    by_last : (b : Bool) → (if b then false else function_begins (offset - f.length) []) ≡ false
    by_last true = refl
    by_last false = refl
begins_no_more offset (g ∷ own) f lt =
    let p : 0 < offset = omega (arith, lt) in
    let le : g.length ≤ offset = omega (arith, lt) in
    other (offset == 0) true _ (grind (arith, p))
    ∙ other (nat_lt offset g.length) false _ (grind (arith, le))
    ∙ begins_no_more (offset - g.length) own f (omega (arith, lt))
