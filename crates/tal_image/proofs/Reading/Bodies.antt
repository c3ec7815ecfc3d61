-- Reading the instructions of a function one after another.
use Rattle.std.proofs.Common.{◌≡◌, ℕ, zero, suc, ◌+◌, ◌-◌, ◌<◌, ◌≤◌, true, false, cond, List, [], ◌∷◌, ◌++◌, length, take, drop, Result, Ok, Err, refl, sym, ap, subst, ◌∙◌, append_assoc, arith}
use Rattle.std.specs.Prelude.{nat_le}
use Rattle.std.proofs.lemmas.Bool.Decides.{nat_tests}
use Rattle.std.proofs.lemmas.List.{length-take-le, append-nil, length-drop}
use Rattle.std.proofs.lemmas.Grind.{flat_map-append}
use Rattle.ia32_code.specs.declared.instruction.Inst.{Inst}
use Rattle.ia32_code.specs.declared.decoding.Decoded.{Decoded}
use Rattle.ia32_code.specs.declared.decoding.Decoded.TheVariants as answer
use Rattle.ia32_code.specs.Decoding.{decoded}
use Rattle.file_fields.specs.declared.fault.ImageFault.{ImageFault}
use Rattle.file_fields.specs.declared.fault.ImageFault.TheVariants.{Short, Bad}
use Rattle.tal_image.specs.Conditions.{Spelled}
use Rattle.file_fields.specs.Grammar.{done, then_with}
use Rattle.tal_image.specs.declared.parts.FunctionPart.{FunctionPart}
use Rattle.tal_image.specs.Fields.{function_instructions, bodies, all_instructions}
use Rattle.file_fields.specs.Reading.{◌▸◌, after_decoding, run}
use Rattle.tal_image.specs.declared.start.Start.{Start}
use Rattle.tal_image.specs.declared.start.Start.TheVariants.{Nothing}
use Rattle.tal_image.specs.CodeReading.{body_at, headed, start_of, instruction_starts, bodies_at, starts_behind}
use Rattle.file_fields.specs.Composed.{run-then_with, bind_then, same_bind, with_front, regroup}

-- all of a list is as many as it has
take_whole : (k : ℕ) (xs : List ℕ) → length xs ≤ k → take k xs ≡ xs
take_whole zero [] h = refl
take_whole zero (x ∷ xs) h = absurd (omega arith)
take_whole (suc k) [] h = refl
take_whole (suc k) (x ∷ xs) h = ap (λ (z : List ℕ). x ∷ z) (take_whole k xs (omega arith))

-- the bytes from a place on
pub tail_is : (at : ℕ) (file : List ℕ) → take (length file - at) (drop at file) ≡ drop at file
tail_is at file = let l = length-drop at file in take_whole (length file - at) (drop at file) (omega arith)

-- So many bytes are still to be read; instructions stand before them, what is read is the whole, and it is marked where they
-- begin.
pub record BodyLeft (begun starts : List Start) (left : ℕ) (file : List ℕ) (at : ℕ) (total : Result (List Spelled × ℕ) ImageFault) : Type 0 where
  pub fuel : ℕ
  pub front : List Spelled
  pub enough : left ≤ fuel
  pub read : with_front front (run (function_instructions fuel left) file at) ≡ total
  pub marked : starts ≡ begun ++ instruction_starts front

-- at first nothing is read
bind_ok : (r : Result (List Spelled × ℕ) ImageFault) → with_front [] r ≡ r
bind_ok (Ok x) = refl
bind_ok (Err e) = refl

-- at first all is left
pub body_begins : (begun : List Start) (n : ℕ) (file : List ℕ) (at : ℕ) → BodyLeft begun begun n file at (run (function_instructions n n) file at)
body_begins begun n file at = record { fuel = n; front = []; enough = omega arith; read = bind_ok (run (function_instructions n n) file at); marked = sym (append-nil begun) }

-- the instructions from one on
abbrev after_one : ℕ → ℕ → List ℕ → ℕ → ℕ → Inst → Result (List Spelled × ℕ) ImageFault
after_one n room file at len i = run (then_with (function_instructions n (room - length (take len (drop at file)))) (λ more. done (record { text = take len (drop at file); means = i } ∷ more))) file (at + len)

-- where an instruction must come, the answer to the bytes decides
one_more : (n r : ℕ) (file : List ℕ) (at : ℕ) (d : Decoded) → d ≡ decoded (drop at file) → run (function_instructions (suc n) (suc r)) file at ≡ after_decoding d (after_one n (suc r) file at) (suc r) at (length file)
unfolding function_instructions
one_more n r file at d e = ap (λ (z : Decoded). after_decoding z (after_one n (suc r) file at) (suc r) at (length file)) (sym e)

-- a test that holds lets through
passes : {A : Type 0} (len room : ℕ) (x y : A) → len ≤ room → cond (nat_le len room) x y ≡ x
passes len room x y h = let t : nat_le len room ≡ true = grind (arith, nat_tests) in rw t refl

-- a test that does not hold stops
stops : {A : Type 0} (len room : ℕ) (x y : A) → room < len → cond (nat_le len room) x y ≡ y
stops len room x y h = let t : nat_le len room ≡ false = grind (arith, nat_tests) in rw t refl

-- one instruction more is marked
one_marked : (begun : List Start) (front : List Spelled) (x : Spelled) (len : ℕ) → length x.text ≡ len → (begun ++ instruction_starts front) ++ headed (start_of x.means) Nothing len ≡ begun ++ instruction_starts (front ++ x ∷ [])
one_marked begun front x len e =
    append_assoc begun (instruction_starts front) (headed (start_of x.means) Nothing len)
    ∙ ap (λ (z : List Start). begun ++ z) (ap (λ (z : List Start). instruction_starts front ++ z) (sym (append-nil (headed (start_of x.means) Nothing len)) ∙ ap (λ (n : ℕ). headed (start_of x.means) Nothing n ++ []) (sym e)) ∙ sym (flat_map-append (λ (s : Spelled). headed (start_of s.means) Nothing (length s.text)) front (x ∷ [])))

module _ (begun starts : List Start) (left : ℕ) (file : List ℕ) (at : ℕ) (total : Result (List Spelled × ℕ) ImageFault) (b : BodyLeft begun starts left file at total) where
  -- one instruction more is read
  pub body_on : (i : Inst) (len : ℕ) → 0 < left → answer.One i len ≡ decoded (drop at file) → 0 < len → len ≤ length (drop at file) → len ≤ left → BodyLeft begun (starts ++ headed (start_of i) Nothing len) (left - len) file (at + len) total
  body_on i len some e pos within fits = go left b.fuel some b.enough fits b.read
    where
      x : Spelled
      x = record { text = take len (drop at file); means = i }

      go : (room fuel : ℕ) → 0 < room → room ≤ fuel → len ≤ room → with_front b.front (run (function_instructions fuel room) file at) ≡ total → BodyLeft begun (starts ++ headed (start_of i) Nothing len) (room - len) file (at + len) total
      go zero fuel h k f r = absurd (omega arith)
      go (suc m) zero h k f r = absurd (omega arith)
      go (suc m) (suc n) h k f r =
          let l = length-take-le len (drop at file) within in
          let step : run (function_instructions (suc n) (suc m)) file at ≡ (run (function_instructions n (suc m - len)) file (at + len) ▸ λ z. Ok (x ∷ z.0, z.1)) =
          one_more n m file at (answer.One i len) e ∙ passes len (suc m) (after_one n (suc m) file at len i) (Err (Bad at 23)) f
          ∙ run-then_with (function_instructions n (suc m - length (take len (drop at file)))) (λ more. done (x ∷ more)) file (at + len)
          ∙ ap (λ (z : ℕ). run (function_instructions n (suc m - z)) file (at + len) ▸ λ y. Ok (x ∷ y.0, y.1)) l in
          record {
            fuel = n;
            front = b.front ++ x ∷ [];
            enough = omega arith;
            read = sym (regroup b.front x (run (function_instructions n (suc m - len)) file (at + len))) ∙ ap (with_front b.front) (sym step) ∙ r;
            marked = ap (λ (z : List Start). z ++ headed (start_of i) Nothing len) b.marked ∙ one_marked begun b.front x len l;
          }

  -- no instruction follows that may
  stopped : (d : Decoded) (f : ImageFault) → 0 < left → d ≡ decoded (drop at file)
      → ((n room : ℕ) → left ≡ room → after_decoding d (after_one n room file at) room at (length file) ≡ Err f) → starts_behind begun total ≡ Err f
  stopped d f some e h = ap (starts_behind begun) (go left b.fuel some b.enough refl b.read)
    where
      go : (room fuel : ℕ) → 0 < room → room ≤ fuel → left ≡ room → with_front b.front (run (function_instructions fuel room) file at) ≡ total → total ≡ Err f
      go zero fuel p k q r = absurd (omega arith)
      go (suc m) zero p k q r = absurd (omega arith)
      go (suc m) (suc n) p k q r = sym r ∙ ap (with_front b.front) (one_more n m file at d e ∙ h n (suc m) q)

  -- the file ends in an instruction
  pub body_short : 0 < left → answer.Short ≡ decoded (drop at file) → starts_behind begun total ≡ Err (Short (length file))
  body_short some e = stopped answer.Short (Short (length file)) some e (λ n room q. refl)

  -- no instruction begins here
  pub body_unknown : 0 < left → answer.Unknown ≡ decoded (drop at file) → starts_behind begun total ≡ Err (Bad at 23)
  body_unknown some e = stopped answer.Unknown (Bad at 23) some e (λ n room q. refl)

  -- an instruction ends past its function
  pub body_past : (i : Inst) (len : ℕ) → 0 < left → answer.One i len ≡ decoded (drop at file) → left < len → starts_behind begun total ≡ Err (Bad at 23)
  body_past i len some e past = stopped (answer.One i len) (Bad at 23) some e (λ n room q. let p : room < len = omega arith in stops len room (after_one n room file at len i) (Err (Bad at 23)) p)

  -- all is read
  pub body_done : left ≡ 0 → starts_behind begun total ≡ Ok (starts, at)
  unfolding function_instructions
  body_done none = ap (starts_behind begun) all ∙ ap (λ (z : List Start). let r : Result (List Start × ℕ) ImageFault = Ok (z, at) in r) (sym b.marked)
    where
      end : with_front b.front (Ok ([], at)) ≡ Ok (b.front, at)
      end = ap (λ (z : List Spelled). let r : Result (List Spelled × ℕ) ImageFault = Ok (z, at) in r) (append-nil b.front)

      go : (fuel : ℕ) → with_front b.front (run (function_instructions fuel 0) file at) ≡ Ok (b.front, at)
      go zero = end
      go (suc n) = end

      all : total ≡ Ok (b.front, at)
      all = sym b.read ∙ subst (λ (z : ℕ). with_front b.front (run (function_instructions b.fuel z) file at) ≡ Ok (b.front, at)) (sym none) (go b.fuel)

-- ---- the instructions of functions

-- two readings that are the same read the same
ok_are : {A : Type 0} (x y : A) (n m : ℕ) → (let l : Result (A × ℕ) ImageFault = Ok (x, n) in l) ≡ Ok (y, m) → (x ≡ y) × (n ≡ m)
ok_are {A} x y n m e = let k = pair_is (x, n) (y, m) e in (ap (λ (z : A × ℕ). z.0) k, ap (λ (z : A × ℕ). z.1) k)
  where
    pair_is : (p q : A × ℕ) → (let l : Result (A × ℕ) ImageFault = Ok p in l) ≡ Ok q → p ≡ q
    pair_is p q d = cc

module _ (begun : List Start) (f : FunctionPart) (functions : List FunctionPart) (file : List ℕ) (at : ℕ) where
  -- one function, then the others
  one_function : bodies_at (f ∷ functions) file at ≡ (body_at f.length file at ▸ λ b. bodies_at functions file b.1 ▸ λ xs. Ok (b.0 ++ xs.0, xs.1))
  unfolding bodies
  one_function =
      ap (λ r. r ▸ λ x. Ok (all_instructions x.0, x.1)) (run-then_with (function_instructions f.length f.length) (λ body. then_with (bodies functions) (λ more. done (body ∷ more))) file at)
      ∙ bind_then (body_at f.length file at) _ _
      ∙ same_bind (body_at f.length file at) _ _ (λ b.
      ap (λ r. r ▸ λ x. Ok (all_instructions x.0, x.1)) (run-then_with (bodies functions) (λ more. done (b.0 ∷ more)) file b.1)
      ∙ bind_then (run (bodies functions) file b.1) _ _
      ∙ sym (bind_then (run (bodies functions) file b.1) _ _))

  -- the instructions of one function are read
  pub function_on : (starts : List Start) (next : ℕ) → starts_behind begun (body_at f.length file at) ≡ Ok (starts, next) → starts_behind begun (bodies_at (f ∷ functions) file at) ≡ starts_behind starts (bodies_at functions file next)
  function_on starts next e = ap (starts_behind begun) one_function ∙ go (body_at f.length file at) e
    where
      behind : (code : List Spelled) (r : Result (List Spelled × ℕ) ImageFault) → starts_behind begun (r ▸ λ xs. Ok (code ++ xs.0, xs.1)) ≡ starts_behind (begun ++ instruction_starts code) r
      behind code (Ok x) = ap (λ (z : List Start). let r : Result (List Start × ℕ) ImageFault = Ok (z, x.1) in r)
          (ap (λ (z : List Start). begun ++ z) (flat_map-append (λ (s : Spelled). headed (start_of s.means) Nothing (length s.text)) code x.0) ∙ sym (append_assoc begun (instruction_starts code) (instruction_starts x.0)))
      behind code (Err h) = refl

      go : (r : Result (List Spelled × ℕ) ImageFault) → starts_behind begun r ≡ Ok (starts, next) → starts_behind begun (r ▸ λ b. bodies_at functions file b.1 ▸ λ xs. Ok (b.0 ++ xs.0, xs.1)) ≡ starts_behind starts (bodies_at functions file next)
      go (Ok b) d =
          let k = ok_are (begun ++ instruction_starts b.0) starts b.1 next d in
          behind b.0 (bodies_at functions file b.1) ∙ ap (λ (z : List Start). starts_behind z (bodies_at functions file b.1)) k.0 ∙ ap (λ (n : ℕ). starts_behind starts (bodies_at functions file n)) k.1
      go (Err h) d = absurd cc

  -- or they are not
  pub function_fails : (h : ImageFault) → starts_behind begun (body_at f.length file at) ≡ Err h → starts_behind begun (bodies_at (f ∷ functions) file at) ≡ Err h
  function_fails h e = ap (starts_behind begun) one_function ∙ go (body_at f.length file at) e
    where
      go : (r : Result (List Spelled × ℕ) ImageFault) → starts_behind begun r ≡ Err h → starts_behind begun (r ▸ λ b. bodies_at functions file b.1 ▸ λ xs. Ok (b.0 ++ xs.0, xs.1)) ≡ Err h
      go (Ok b) d = absurd cc
      go (Err g) d = d

-- no function is left
pub functions_done : (begun : List Start) (file : List ℕ) (at : ℕ) → starts_behind begun (bodies_at [] file at) ≡ Ok (begun, at)
unfolding bodies
functions_done begun file at = ap (λ (z : List Start). let r : Result (List Start × ℕ) ImageFault = Ok (z, at) in r) (append-nil begun)
