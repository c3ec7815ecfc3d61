-- What is known of the instructions that were read: where each begins, its bytes, and what it is.
use Rattle.std.proofs.Common.{◌≡◌, ℕ, zero, suc, ◌+◌, ◌-◌, ◌<◌, ◌≤◌, ◌⊎◌, inl, inr, Bool, true, false, cond, Option, Some, None, List, [], ◌∷◌, ◌++◌, length, take, drop, replicate, Result, Ok, Err, refl, sym, ap, subst, ◌∙◌, arith, ⊎_elim}
use Rattle.std.specs.Prelude.{◌&&◌, nat_le, nat_lt, ◌==◌, is_some, slice_index_or}
use Rattle.std.specs.Option.{option_map_or}
use Rattle.std.proofs.lemmas.Bool.{cases_lt}
use Rattle.std.proofs.lemmas.Bool.Decides.{nat_tests}
use Rattle.std.proofs.lemmas.List.{length-take-le, length-append, drop-drop}
use Rattle.ia32_code.specs.declared.instruction.Inst.{Inst}
use Rattle.ia32_code.specs.declared.decoding.Decoded.{Decoded}
use Rattle.ia32_code.specs.declared.decoding.Decoded.TheVariants as answer
use Rattle.ia32_code.specs.Decoding.{Answers, DecodedLaw, decoded}
use Rattle.file_fields.specs.declared.fault.ImageFault.{ImageFault}
use Rattle.file_fields.specs.declared.fault.ImageFault.TheVariants.{Bad}
use Rattle.tal_image.specs.declared.parts.FunctionPart.{FunctionPart}
use Rattle.tal_image.specs.Conditions.{Spelled, begins_at, function_begins, block_fits, mark_fits, marked_number_at, marked_number}
use Rattle.file_fields.specs.Grammar.{done, then_with, AreBytes}
use Rattle.tal_image.specs.Fields.{function_instructions, bodies, all_instructions, code_bytes}
use Rattle.file_fields.specs.Reading.{after_decoding, run}
use Rattle.tal_image.specs.declared.start.Start.{Start}
use Rattle.tal_image.specs.declared.start.Start.TheVariants.{Nothing}
use Rattle.tal_image.specs.CodeReading.{headed, start_with, start_of, start_at, is_start, start_number, instruction_starts, function_starts, starts_at, place_fits, offset_fits, AllPositive, StandAt, ReadCodeLaws}
use Rattle.tal_image.proofs.Meaning.Bodies.{joined_bytes}
use Rattle.file_fields.specs.Composed.{run-then_with}
use Rattle.tal_image.proofs.Reading.Limits.{bind_inverse, ok_pair}

-- the bytes behind some are bytes
bytes_after : (n : ℕ) (bytes : List ℕ) → AreBytes bytes → AreBytes (drop n bytes)
bytes_after zero bytes fits = fits
bytes_after (suc n) [] fits = fits
bytes_after (suc n) (b ∷ bytes) fits = bytes_after n bytes (λ i. fits (suc i))

-- some, then others
stand_both : (file : List ℕ) (at : ℕ) (code more : List Spelled) → StandAt file at code → StandAt file (at + length (code_bytes code)) more → StandAt file at (code ++ more)
stand_both file at [] more h g = subst (λ (n : ℕ). StandAt file n more) (let e : at + 0 ≡ at = omega arith in e) g
stand_both file at (s ∷ code) more h g =
    let l = length-append s.text (code_bytes code) in
    let e : at + length (code_bytes (s ∷ code)) ≡ at + length s.text + length (code_bytes code) = omega arith in
    (h.0, h.1, h.2, stand_both file (at + length s.text) code more h.3 (subst (λ (n : ℕ). StandAt file n more) e g))

-- a test that was passed
passed : {A : Type 0} (b : Bool) (x : Result A ImageFault) (f : ImageFault) (y : A) → cond b x (Err f) ≡ Ok y → x ≡ Ok y
passed true x f y e = e
passed false x f y e = absurd cc

-- how many bytes the instructions of functions have
joined_length : (body : List Spelled) (more : List (List Spelled)) → length (code_bytes (all_instructions (body ∷ more))) ≡ length (code_bytes body) + length (code_bytes (all_instructions more))
joined_length body more = ap (λ (z : List ℕ). length z) (joined_bytes body more) ∙ length-append (code_bytes body) (code_bytes (all_instructions more))

-- what was read ends behind these instructions
abbrev Read_to : List ℕ → ℕ → List Spelled → ℕ → Type 0
Read_to file at code end = StandAt file at code × (end ≡ at + length (code_bytes code))

module _ (law : DecodedLaw) (file : List ℕ) (fits : AreBytes file) where
  -- nothing was read
  nothing : (at : ℕ) (xs : List Spelled) (end : ℕ) → (let r : Result (List Spelled × ℕ) ImageFault = Ok ([], at) in r) ≡ Ok (xs, end) → Read_to file at xs end
  nothing at xs end e =
      let k = ok_pair [] xs at end e in
      let p : end ≡ at + 0 = let q = k.1 in omega arith in
      subst (λ (z : List Spelled). Read_to file at z end) k.0 (tt, p)

  -- one instruction, then others
  one_more : (n r at : ℕ) (xs : List Spelled) (end : ℕ) (d : Decoded) → decoded (drop at file) ≡ d → Answers (drop at file) d
      → after_decoding d (λ len i. run (then_with (function_instructions n (suc r - length (take len (drop at file)))) (λ more. done (record { text = take len (drop at file); means = i } ∷ more))) file (at + len)) (suc r) at (length file) ≡ Ok (xs, end)
      → ((room next : ℕ) (ys : List Spelled) (last : ℕ) → run (function_instructions n room) file next ≡ Ok (ys, last) → Read_to file next ys last) → Read_to file at xs end
  one_more n r at xs end answer.Short de a e more = absurd cc
  one_more n r at xs end answer.Unknown de a e more = absurd cc
  one_more n r at xs end (answer.One i len) de a e more =
      let text = take len (drop at file) in
      let s : Spelled = record { text = text; means = i } in
      let l = length-take-le len (drop at file) a.1 in
      let inner = passed (nat_le len (suc r)) (run (then_with (function_instructions n (suc r - length text)) (λ ys. done (s ∷ ys))) file (at + len)) (Bad at 23) (xs, end) e in
      let bound = bind_inverse (run (function_instructions n (suc r - length text)) file (at + len)) (λ x. Ok (s ∷ x.0, x.1)) (xs, end) (sym (run-then_with (function_instructions n (suc r - length text)) (λ ys. done (s ∷ ys)) file (at + len)) ∙ inner) in
      let rest = more (suc r - length text) (at + len) bound.0.0 bound.0.1 bound.1 in
      let k = ok_pair (s ∷ bound.0.0) xs bound.0.1 end bound.2 in
      let place : at + len ≡ at + length text = omega arith in
      let sum = length-append text (code_bytes bound.0.0) in
      let last : end ≡ at + length (code_bytes (s ∷ bound.0.0)) = let q = rest.1 in let q2 = k.1 in omega arith in
      subst (λ (z : List Spelled). Read_to file at z end) k.0 (
        (
          (let pos = a.0 in omega arith),
          ap (λ (m : ℕ). take m (drop at file)) (sym l),
          a.2,
          subst (λ (m : ℕ). StandAt file m bound.0.0) place rest.0,
        ),
        last,
      )

  -- the instructions of one function
  instructions_stand : (n room at : ℕ) (xs : List Spelled) (end : ℕ) → run (function_instructions n room) file at ≡ Ok (xs, end) → Read_to file at xs end
  unfolding function_instructions
  instructions_stand zero room at xs end e = nothing at xs end e
  instructions_stand (suc n) zero at xs end e = nothing at xs end e
  instructions_stand (suc n) (suc r) at xs end e =
      one_more n r at xs end (decoded (drop at file)) refl (law (drop at file) (bytes_after at file fits)) e (λ room next ys last h. instructions_stand n room next ys last h)

  -- those of all functions
  bodies_stand : (functions : List FunctionPart) (at : ℕ) (xs : List (List Spelled)) (end : ℕ) → run (bodies functions) file at ≡ Ok (xs, end) → Read_to file at (all_instructions xs) end
  unfolding bodies
  bodies_stand [] at xs end e =
      let k = ok_pair [] xs at end e in
      let p : end ≡ at + 0 = let q = k.1 in omega arith in
      subst (λ (z : List (List Spelled)). Read_to file at (all_instructions z) end) k.0 (tt, p)
  bodies_stand (f ∷ functions) at xs end e =
      let one = bind_inverse (run (function_instructions f.length f.length) file at) (λ x. run (then_with (bodies functions) (λ more. done (x.0 ∷ more))) file x.1) (xs, end) (sym (run-then_with (function_instructions f.length f.length) (λ body. then_with (bodies functions) (λ more. done (body ∷ more))) file at) ∙ e) in
      let body = one.0 in
      let two = bind_inverse (run (bodies functions) file body.1) (λ x. Ok (body.0 ∷ x.0, x.1)) (xs, end) (sym (run-then_with (bodies functions) (λ more. done (body.0 ∷ more)) file body.1) ∙ one.2) in
      let first = instructions_stand f.length f.length at body.0 body.1 one.1 in
      let rest = bodies_stand functions body.1 two.0.0 two.0.1 two.1 in
      let k = ok_pair (body.0 ∷ two.0.0) xs two.0.1 end two.2 in
      let sum = joined_length body.0 two.0.0 in
      let last : end ≡ at + length (code_bytes (all_instructions (body.0 ∷ two.0.0))) = let q = rest.1 in let q2 = k.1 in let q3 = first.1 in omega arith in
      subst (λ (z : List (List Spelled)). Read_to file at (all_instructions z) end) k.0
      (stand_both file at body.0 (all_instructions two.0.0) first.0 (subst (λ (m : ℕ). StandAt file m (all_instructions two.0.0)) first.1 rest.0), last)

-- ---- the bytes

-- nothing is taken of nothing
take_nothing : (n : ℕ) → take {A = ℕ} n [] ≡ []
take_nothing zero = refl
take_nothing (suc n) = refl

-- the first bytes, and then the next
take_both : (n m : ℕ) (bytes : List ℕ) → take n bytes ++ take m (drop n bytes) ≡ take (n + m) bytes
take_both zero m bytes = ap (λ (k : ℕ). take k bytes) (let e : m ≡ 0 + m = omega arith in e)
take_both (suc n) m [] = take_nothing m ∙ sym (take_nothing (suc n + m))
take_both (suc n) m (b ∷ bytes) = let e : suc n + m ≡ suc (n + m) = omega arith in rw e (ap (λ (z : List ℕ). b ∷ z) (take_both n m bytes))

-- the bytes of the instructions are those of the file
bytes_are : (file : List ℕ) (at : ℕ) (code : List Spelled) → StandAt file at code → code_bytes code ≡ take (length (code_bytes code)) (drop at file)
bytes_are file at [] h = refl
bytes_are file at (s ∷ code) h =
    let l = length-append s.text (code_bytes code) in
    ap (λ (z : List ℕ). z ++ code_bytes code) h.1
    ∙ ap (λ (z : List ℕ). take (length s.text) (drop at file) ++ z) (bytes_are file (at + length s.text) code h.3 ∙ ap (take (length (code_bytes code))) (sym (drop-drop (length s.text) at file)))
    ∙ take_both (length s.text) (length (code_bytes code)) (drop at file)
    ∙ ap (λ (n : ℕ). take n (drop at file)) (sym l)

-- ---- where things begin

module _ {A : Type 0} (first other : A) where
  -- others alone
  among_others : (m : ℕ) (rest : List A) (k : ℕ) → k < m → slice_index_or (replicate m other ++ rest) k other ≡ other
  among_others zero rest k h = absurd (omega arith)
  among_others (suc m) rest zero h = refl
  among_others (suc m) rest (suc k) h = among_others m rest k (omega arith)

  past_others : (m : ℕ) (rest : List A) (k : ℕ) → m ≤ k → slice_index_or (replicate m other ++ rest) k other ≡ slice_index_or rest (k - m) other
  past_others zero rest k h = ap (λ (i : ℕ). slice_index_or rest i other) (let e : k ≡ k - 0 = omega arith in e)
  past_others (suc m) rest zero h = absurd (omega arith)
  past_others (suc m) rest (suc k) h =
      past_others m rest k (omega arith) ∙ ap (λ (i : ℕ). slice_index_or rest i other) (let e : k - m ≡ suc k - suc m = omega arith in e)

  -- so many, of which the first is another: the first, one of the others, and what stands past them
  at_first : (n : ℕ) (rest : List A) → 0 < n → slice_index_or (headed first other n ++ rest) 0 other ≡ first
  unfolding headed
  at_first zero rest h = absurd (omega arith)
  at_first (suc n) rest h = refl

  at_other : (n : ℕ) (rest : List A) (k : ℕ) → 0 < k → k < n → slice_index_or (headed first other n ++ rest) k other ≡ other
  unfolding headed
  at_other zero rest k p h = absurd (omega arith)
  at_other (suc n) rest zero p h = absurd (omega arith)
  at_other (suc n) rest (suc k) p h = among_others n rest k (omega arith)

  at_later : (n : ℕ) (rest : List A) (k : ℕ) → 0 < n → n ≤ k → slice_index_or (headed first other n ++ rest) k other ≡ slice_index_or rest (k - n) other
  unfolding headed
  at_later zero rest k p h = absurd (omega arith)
  at_later (suc n) rest zero p h = absurd (omega arith)
  at_later (suc n) rest (suc k) p h =
      past_others n rest k (omega arith) ∙ ap (λ (i : ℕ). slice_index_or rest i other) (let e : k - n ≡ suc k - suc n = omega arith in e)

-- at the first of so many bytes, at another of them, or past them
places : (k n : ℕ) → (k ≡ 0) ⊎ (((0 < k) × (k < n)) ⊎ ((0 < k) × (n ≤ k)))
places zero n = inl refl
places (suc k) n = ⊎_elim (λ (low : suc k < n). inr (inl (omega arith, low))) (λ (high : n ≤ suc k). inr (inr (omega arith, high))) (cases_lt (suc k) n)

-- the instruction that begins at a byte
begins_first : (s : Spelled) (more : List Spelled) → begins_at 0 (s ∷ more) ≡ Some s.means
unfolding begins_at
begins_first s more = refl

-- no instruction begins within another
begins_within : (s : Spelled) (more : List Spelled) (k : ℕ) → 0 < k → k < length s.text → begins_at k (s ∷ more) ≡ None
unfolding begins_at
begins_within s more k p h =
    let a : (k == 0) ≡ false = grind (arith, nat_tests) in
    let b : nat_lt k (length s.text) ≡ true = grind (arith, nat_tests) in
    rw (a, b) refl

-- past it another one may begin
begins_past : (s : Spelled) (more : List Spelled) (k : ℕ) → 0 < k → length s.text ≤ k → begins_at k (s ∷ more) ≡ begins_at (k - length s.text) more
unfolding begins_at
begins_past s more k p h =
    let a : (k == 0) ≡ false = grind (arith, nat_tests) in
    let b : nat_lt k (length s.text) ≡ false = grind (arith, nat_tests) in
    rw (a, b) refl

-- none begins where there is none
begins_nowhere : (k : ℕ) → begins_at k [] ≡ None
unfolding begins_at
begins_nowhere k = refl

-- what begins where this instruction does, if one does
abbrev started : Option Inst → Start
started None = Nothing
started (Some i) = start_of i

-- at a byte the instruction begins that was put there
started_at : (file : List ℕ) (at : ℕ) (code : List Spelled) → StandAt file at code → (k : ℕ) → started (begins_at k code) ≡ start_at (instruction_starts code) k
started_at file at [] h k = ap started (begins_nowhere k)
started_at file at (s ∷ code) h k =
    let n = length s.text in
    let rest = instruction_starts code in
    let first = start_of s.means in
    let pos = h.0 in
    ⊎_elim
    (λ (z : k ≡ 0). ap (λ (m : ℕ). started (begins_at m (s ∷ code))) z ∙ ap started (begins_first s code) ∙ sym (ap (start_at (headed first Nothing n ++ rest)) z ∙ at_first first Nothing n rest pos))
    (λ later. ⊎_elim
    (λ (w : (0 < k) × (k < n)). ap started (begins_within s code k w.0 w.1) ∙ sym (at_other first Nothing n rest k w.0 w.1))
    (λ (w : (0 < k) × (n ≤ k)). ap started (begins_past s code k w.0 w.1) ∙ started_at file (at + n) code h.3 (k - n) ∙ sym (at_later first Nothing n rest k pos w.1))
    later)
    (places k n)

-- it is told whether one begins, and its immediate number
begun : (o : Option ℕ) → is_start (start_with o) ≡ true
begun None = refl
begun (Some n) = refl

told : (o : Option ℕ) → start_number (start_with o) ≡ o
told None = refl
told (Some n) = refl

is_begun : (o : Option Inst) → is_some o ≡ is_start (started o)
is_begun None = refl
is_begun (Some i) = sym (begun (marked_number i))

is_told : (o : Option Inst) → option_map_or marked_number o None ≡ start_number (started o)
is_told None = refl
is_told (Some i) = sym (told (marked_number i))

-- an instruction begins where a start is kept
starts_same : (file : List ℕ) (at : ℕ) (code : List Spelled) → StandAt file at code → (k : ℕ) → is_some (begins_at k code) ≡ is_start (start_at (instruction_starts code) k)
starts_same file at code h k = is_begun (begins_at k code) ∙ ap is_start (started_at file at code h k)

-- and its immediate number is kept there
number_same : (file : List ℕ) (at : ℕ) (code : List Spelled) → StandAt file at code → (k : ℕ) → marked_number_at k code ≡ start_number (start_at (instruction_starts code) k)
unfolding marked_number_at
number_same file at code h k = is_told (begins_at k code) ∙ ap start_number (started_at file at code h k)

-- a function begins where one is marked
functions_same : (functions : List FunctionPart) → AllPositive functions → (k : ℕ) → function_begins k functions ≡ starts_at (function_starts functions) k
unfolding function_begins
functions_same [] h k = refl
functions_same (f ∷ functions) h k =
    let n = f.length in
    let rest = function_starts functions in
    let pos = h.0 in
    ⊎_elim
    (λ (z : k ≡ 0). let a : (k == 0) ≡ true = grind (arith, nat_tests) in rw a (sym (ap (starts_at (headed true false n ++ rest)) z ∙ at_first true false n rest pos)))
    (λ later. ⊎_elim
    (λ (w : (0 < k) × (k < n)).
    let low = w.0 in
    let high = w.1 in
    let a : (k == 0) ≡ false = grind (arith, nat_tests) in
    let b : nat_lt k n ≡ true = grind (arith, nat_tests) in
    rw (a, b) (sym (at_other true false n rest k w.0 w.1)))
    (λ (w : (0 < k) × (n ≤ k)).
    let low = w.0 in
    let high = w.1 in
    let a : (k == 0) ≡ false = grind (arith, nat_tests) in
    let b : nat_lt k n ≡ false = grind (arith, nat_tests) in
    rw (a, b) (functions_same functions h.1 (k - n) ∙ sym (at_later true false n rest k pos w.1)))
    later)
    (places k n)

-- ---- what a condition asks

-- a block may stand where an instruction begins that is not the first of a function
block_same : (file : List ℕ) (at : ℕ) (code : List Spelled) → StandAt file at code → (functions : List FunctionPart) → AllPositive functions
    → (least n : ℕ) → block_fits functions code least n ≡ place_fits (instruction_starts code) (function_starts functions) least n
unfolding block_fits place_fits
block_same file at code h functions positive least n = rw (starts_same file at code h n, functions_same functions positive n) refl

-- a mark may stand where a number is marked
mark_same : (file : List ℕ) (at : ℕ) (code : List Spelled) → StandAt file at code
    → (least n : ℕ) → mark_fits code least n ≡ offset_fits (instruction_starts code) least n
unfolding mark_fits offset_fits
mark_same file at code h least n = ap (λ (o : Option ℕ). nat_le least n && is_some o) (number_same file at code h n)

-- all of it
pub read_code_laws : DecodedLaw → ReadCodeLaws
read_code_laws law = record {
  stand = bodies_stand law;
  bytes = bytes_are;
  block = block_same;
  mark = mark_same;
  number = number_same;
}
