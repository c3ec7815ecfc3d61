-- The functions of an image, from the first: each has its part of the code.
use Rattle.std.proofs.Common.{◌≡◌, ℕ, zero, suc, ◌+◌, ◌-◌, ◌<◌, ◌≤◌, Some, None, List, [], ◌∷◌, ◌++◌, length, take, drop, refl, sym, ap, subst, ◌∙◌, arith, append_assoc, append-nil}
use Rattle.std.specs.Prelude.{slice_get}
use Rattle.std.proofs.lemmas.Bool.Decides.{nat_tests}
use Rattle.std.proofs.lemmas.List.{length-append}
use Rattle.std.proofs.lemmas.List.Concat.{flat_map-append}
use Rattle.std.proofs.lemmas.Option.{same_Some}
use Rattle.object_layout.specs.Areas.{code_start}
use Rattle.tal_types.specs.declared.views.Span.{Span}
use Rattle.tal_image.specs.declared.parts.FunctionPart.{FunctionPart}
use Rattle.tal_image.specs.Conditions.{Spelled}
use Rattle.tal_image.specs.Fields.{all_instructions, code_bytes}
use Rattle.tal_image.specs.Formed.{IsBody, AreBodies, Formed}
use Rattle.tal_image.specs.Image.{ImageParts}
use Rattle.tal_image.specs.Shown.{spans, function_in}
use Rattle.tal_listing.specs.Lines.{code_text}
use Rattle.tal_listing.specs.Listing.{function_head_text, size, functions_text}

-- code of so many bytes has room for these functions, one after another
abbrev pub HasFunctions : ℕ → List Span → Type 0
HasFunctions left [] = Unit {0}
HasFunctions left (s ∷ later) = (s.start ≤ s.end) × (size s ≤ left) × HasFunctions (left - size s) later

-- The instructions of a function have as many bytes as it says.
pub body_length : (room : ℕ) (body : List Spelled) → IsBody room body → length (code_bytes body) ≡ room
body_length room [] h = sym h
body_length room (s ∷ more) h = omega (arith, length-append s.text (code_bytes more), body_length (room - length s.text) more h.3, h.2)

-- The functions of a file's rows have room in their code.
rows_have_room : (address : ℕ) (fs : List FunctionPart) (bodies : List (List Spelled)) → AreBodies fs bodies
    → HasFunctions (length (code_bytes (all_instructions bodies))) (spans address fs)
unfolding spans
rows_have_room address [] bodies h = tt
rows_have_room address (f ∷ fs) [] h = absurd h
rows_have_room address (f ∷ fs) (body ∷ bodies) h =
    let own = body_length f.length body h.0 in
    let all : length (code_bytes (body ++ all_instructions bodies)) ≡ length (code_bytes body) + length (code_bytes (all_instructions bodies)) =
    ap length (flat_map-append (λ (s : Spelled). s.text) body (all_instructions bodies)) ∙ length-append (code_bytes body) (code_bytes (all_instructions bodies)) in
    let rest : length (code_bytes (body ++ all_instructions bodies)) - ((address + f.length) - address) ≡ length (code_bytes (all_instructions bodies)) = omega arith in
    (omega arith, omega arith, subst (λ (n : ℕ). HasFunctions n (spans (address + f.length) fs)) (sym rest) (rows_have_room (address + f.length) fs bodies h.1))

-- So have those of an image.
pub image_has_functions : (i : ImageParts) → Formed i → HasFunctions (length i.code) (spans code_start i.functions)
image_has_functions i f = subst (λ (n : ℕ). HasFunctions n (spans code_start i.functions)) (sym (ap length f.code)) (rows_have_room code_start i.functions f.bodies f.condition_23)

-- There is a span for each function.
length-spans : (address : ℕ) (fs : List FunctionPart) → length (spans address fs) ≡ length fs
unfolding spans
length-spans address [] = refl
length-spans address (f ∷ fs) = ap suc (length-spans (address + f.length) fs)

-- An image has few functions.
pub few_functions : (i : ImageParts) → Formed i → length (spans code_start i.functions) ≤ 16384
few_functions i f = let limit = f.condition_4 in let e = length-spans code_start i.functions in let few : length i.functions ≤ 16384 = grind (arith, nat_tests) in omega arith

-- A function that is there is the first of those from its number on.
drop-there : (ss : List Span) (n : ℕ) (s : Span) → Some s ≡ slice_get ss n → (drop n ss ≡ s ∷ drop (n + 1) ss) × (n < length ss)
drop-there [] n s e = absurd cc
drop-there (x ∷ ss) zero s e = (ap (λ (y : Span). y ∷ ss) (sym (same_Some s x e)), omega arith)
drop-there (x ∷ ss) (suc n) s e =
    let h = drop-there ss n s e in
    let k : suc n + 1 ≡ suc (n + 1) = omega arith in
    (rw k h.0, omega (arith, h.1))

-- Where there is none, there are no more.
drop-none : (ss : List Span) (n : ℕ) → None ≡ slice_get ss n → drop n ss ≡ []
drop-none [] zero e = refl
drop-none [] (suc n) e = refl
drop-none (x ∷ ss) zero e = absurd cc
drop-none (x ∷ ss) (suc n) e = drop-none ss n e

-- what is known of the function with this number, where so many bytes of the code are left
pub record IsNext (i : ImageParts) (n left : ℕ) (s : Span) : Type 0 where
  pub first : drop n (spans code_start i.functions) ≡ s ∷ drop (n + 1) (spans code_start i.functions)
  pub inside : n < length (spans code_start i.functions)
  pub forward : s.start ≤ s.end
  pub fits : size s ≤ left
  pub room : HasFunctions (left - size s) (drop (n + 1) (spans code_start i.functions))

-- This is known of a function that is there.
pub next_function : (i : ImageParts) (n left : ℕ) (s : Span) → HasFunctions left (drop n (spans code_start i.functions)) → Some s ≡ function_in i n → IsNext i n left s
unfolding function_in
next_function i n left s room e =
    let there = drop-there (spans code_start i.functions) n s e in
    let h = subst (HasFunctions left) there.0 room in
    record { first = there.0; inside = there.1; forward = h.0; fits = h.1; room = h.2 }

-- Past the last function there are no more.
pub past_functions : (i : ImageParts) (n : ℕ) → None ≡ function_in i n → drop n (spans code_start i.functions) ≡ []
unfolding function_in
past_functions i n e = drop-none (spans code_start i.functions) n e

-- A function that was written is one less to write.
pub function_is_written : (whole out new : List ℕ) (n : ℕ) (s : Span) (later : List Span) (code first rest : List ℕ) → first ≡ take (size s) code → rest ≡ drop (size s) code
    → new ≡ out ++ (function_head_text n s.sig ++ code_text s.start first) → out ++ functions_text n code (s ∷ later) ≡ whole → new ++ functions_text (n + 1) rest later ≡ whole
unfolding functions_text
function_is_written whole out new n s later code first rest is_first is_rest is_new done =
    rw (is_new, is_first, is_rest) (append_assoc out (function_head_text n s.sig ++ code_text s.start (take (size s) code)) (functions_text (n + 1) (drop (size s) code) later) ∙ done)

-- Where there are no more functions, all is written.
pub functions_are_written : (whole out : List ℕ) (n : ℕ) (code : List ℕ) → out ++ functions_text n code [] ≡ whole → out ≡ whole
unfolding functions_text
functions_are_written whole out n code done = sym (append-nil out) ∙ done
