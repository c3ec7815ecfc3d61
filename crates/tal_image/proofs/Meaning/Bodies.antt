-- What the instructions of an image file stand for.
use Rattle.std.proofs.Common.{◌≡◌, ℕ, zero, suc, ◌-◌, ◌<◌, ◌≤◌, List, [], ◌∷◌, ◌++◌, length, refl, sym, ap, subst, ◌∙◌, arith}
use Rattle.std.proofs.lemmas.Bool.Decides.{nat_tests}
use Rattle.std.proofs.lemmas.List.{append-nil, length-append}
use Rattle.std.proofs.lemmas.Grind.{flat_map-append}
use Rattle.ia32_code.specs.declared.instruction.Inst.{Inst}
use Rattle.ia32_code.specs.Spells.{Spells}
use Rattle.tal_image.specs.declared.parts.FunctionPart.{FunctionPart}
use Rattle.tal_image.specs.Conditions.{Tables, Spelled}
use Rattle.file_fields.specs.Grammar.{Grammar, done, then_with, Field, Chunk, Instruction, fields_text, Sound}
use Rattle.file_fields.specs.Parts.{Means}
use Rattle.file_fields.specs.Composed.{at_end, split, join, texts}
use Rattle.tal_image.specs.Fields.{function_instructions, bodies, all_instructions, code_bytes, after_function}
use Rattle.tal_image.specs.Formed.{IsBody, AreBodies, EachAfter, IsFunction}

-- the bytes of the instructions of functions
pub joined_bytes : (body : List Spelled) (more : List (List Spelled)) → code_bytes (all_instructions (body ∷ more)) ≡ code_bytes body ++ code_bytes (all_instructions more)
joined_bytes body more = flat_map-append (λ (s : Spelled). s.text) body (all_instructions more)

-- no spelling is empty
abbrev pub SomeText : Type 0
SomeText = (text : List ℕ) (i : Inst) → Spells text i → 0 < length text

module _ (some : SomeText) where
  -- the instructions of one function are sound fields
  body_whole : (n room : ℕ) → room ≤ n → (xs : List Spelled) → IsBody room xs → (fs : List Field) × Sound (function_instructions n room) fs (done xs) × (fields_text fs ≡ code_bytes xs)
  unfolding function_instructions
  body_whole zero room le [] h = ([], refl, refl)
  body_whole zero room le (x ∷ xs) h = let pos = h.0 in absurd (omega arith)
  body_whole (suc n) zero le [] h = ([], refl, refl)
  body_whole (suc n) zero le (x ∷ xs) h = let pos = h.0 in absurd (omega arith)
  body_whole (suc n) (suc r) le [] h = absurd (omega arith)
  body_whole (suc n) (suc r) le (x ∷ xs) h =
      let pos = some x.text x.means h.1 in
      let k = body_whole n (suc r - length x.text) (omega arith) xs h.3 in
      let rest = join (function_instructions n (suc r - length x.text)) (λ more. done (x ∷ more)) k.0 [] xs (done (x ∷ xs)) k.1 refl in (
        Instruction x.text x.means ∷ (k.0 ++ []),
        (then_with (function_instructions n (suc r - length x.text)) (λ more. done (x ∷ more)), (h.1, h.2, refl), rest),
        ap (λ (t : List ℕ). x.text ++ t) (ap fields_text (append-nil k.0) ∙ k.2),
      )

  -- sound fields are the instructions of one function
  body_back : (n room : ℕ) → room ≤ n → (fs : List Field) (xs : List Spelled) → Sound (function_instructions n room) fs (done xs) → IsBody room xs × (fields_text fs ≡ code_bytes xs)
  unfolding function_instructions
  body_back zero room le fs xs s =
      let k = at_end [] xs fs s in
      let none : room ≡ 0 = omega arith in
      subst (λ (z : List Spelled). IsBody room z × (fields_text fs ≡ code_bytes z)) k.1 (none, ap fields_text k.0)
  body_back (suc n) zero le fs xs s =
      let k = at_end [] xs fs s in
      subst (λ (z : List Spelled). IsBody zero z × (fields_text fs ≡ code_bytes z)) k.1 (refl, ap fields_text k.0)
  body_back (suc n) (suc r) le [] xs s = absurd cc
  body_back (suc n) (suc r) le (Chunk t ∷ fs) xs s = absurd s.1
  body_back (suc n) (suc r) le (Instruction text i ∷ fs) xs s =
      let x : Spelled = record { text = text; means = i } in
      let pos = some text i s.1.0 in
      let g = function_instructions n (suc r - length text) in
      let a = split g (λ more. done (x ∷ more)) fs xs (subst (λ (z : Grammar (List Spelled)). Sound z fs (done xs)) s.1.2 s.2) in
      let k = at_end (x ∷ a.value) xs a.second a.more in
      let more = body_back n (suc r - length text) (omega arith) a.first a.value a.one in
      let rest : fields_text fs ≡ code_bytes a.value = ap fields_text (a.parts ∙ ap (λ (t : List Field). a.first ++ t) k.0 ∙ append-nil a.first) ∙ more.1 in
      subst (λ (z : List Spelled). IsBody (suc r) z × (fields_text (Instruction text i ∷ fs) ≡ code_bytes z)) k.1
      ((omega arith, s.1.0, s.1.1, more.0), ap (λ (t : List ℕ). text ++ t) rest)

  -- those of all functions are sound fields
  bodies_whole : (functions : List FunctionPart) (xs : List (List Spelled)) → AreBodies functions xs → (fs : List Field) × Sound (bodies functions) fs (done xs) × (fields_text fs ≡ code_bytes (all_instructions xs))
  unfolding bodies
  bodies_whole [] [] h = ([], refl, refl)
  bodies_whole [] (x ∷ xs) h = absurd h
  bodies_whole (f ∷ functions) [] h = absurd h
  bodies_whole (f ∷ functions) (x ∷ xs) h =
      let one = body_whole f.length f.length (omega arith) x h.0 in
      let more = bodies_whole functions xs h.1 in
      let rest = join (bodies functions) (λ ys. done (x ∷ ys)) more.0 [] xs (done (x ∷ xs)) more.1 refl in
      let all = join (function_instructions f.length f.length) (λ z. then_with (bodies functions) (λ ys. done (z ∷ ys))) one.0 (more.0 ++ []) x (done (x ∷ xs)) one.1 rest in
      (one.0 ++ (more.0 ++ []), all, texts one.0 (more.0 ++ []) (code_bytes x) (code_bytes (all_instructions xs)) one.2 (ap fields_text (append-nil more.0) ∙ more.2) ∙ sym (joined_bytes x xs))

  -- sound fields are those of all functions
  bodies_back : (functions : List FunctionPart) (fs : List Field) (xs : List (List Spelled)) → Sound (bodies functions) fs (done xs) → AreBodies functions xs × (fields_text fs ≡ code_bytes (all_instructions xs))
  unfolding bodies
  bodies_back [] fs xs s =
      let k = at_end [] xs fs s in
      subst (λ (z : List (List Spelled)). AreBodies [] z × (fields_text fs ≡ code_bytes (all_instructions z))) k.1 (tt, ap fields_text k.0)
  bodies_back (f ∷ functions) fs xs s =
      let a = split (function_instructions f.length f.length) (λ z. then_with (bodies functions) (λ ys. done (z ∷ ys))) fs xs s in
      let b = split (bodies functions) (λ ys. done (a.value ∷ ys)) a.second xs a.more in
      let k = at_end (a.value ∷ b.value) xs b.second b.more in
      let one = body_back f.length f.length (omega arith) a.first a.value a.one in
      let more = bodies_back functions b.first b.value b.one in
      let second : fields_text a.second ≡ code_bytes (all_instructions b.value) = ap fields_text (b.parts ∙ ap (λ (t : List Field). b.first ++ t) k.0 ∙ append-nil b.first) ∙ more.1 in
      let all : fields_text fs ≡ code_bytes (all_instructions (a.value ∷ b.value)) = ap fields_text a.parts ∙ texts a.first a.second (code_bytes a.value) (code_bytes (all_instructions b.value)) one.1 second ∙ sym (joined_bytes a.value b.value) in
      subst (λ (z : List (List Spelled)). AreBodies (f ∷ functions) z × (fields_text fs ≡ code_bytes (all_instructions z))) k.1 ((one.0, more.0), all)

  -- the instructions of functions in a file
  pub bodies_means : (functions : List FunctionPart) → Means (bodies functions) (AreBodies functions) (λ xs. code_bytes (all_instructions xs))
  bodies_means functions = record { whole = bodies_whole functions; back = bodies_back functions }

-- ---- how many bytes the instructions have

-- the instructions of a function have all of its bytes
pub body_length : (room : ℕ) (xs : List Spelled) → IsBody room xs → length (code_bytes xs) ≡ room
body_length room [] h = sym h
body_length room (x ∷ xs) h =
    let k = body_length (room - length x.text) xs h.3 in
    let fits = h.2 in
    let l = length-append x.text (code_bytes xs) in
    omega arith

-- the instructions of functions fill the code
pub code_length : (t : Tables) (left : ℕ) (f : FunctionPart) (functions : List FunctionPart) (xs : List (List Spelled)) → EachAfter after_function (λ later room g. IsFunction t later room g) left (f ∷ functions) → AreBodies (f ∷ functions) xs → length (code_bytes (all_instructions xs)) ≡ left
code_length t left f functions [] h b = absurd b
code_length t left f [] (x ∷ []) h b =
    let one = body_length f.length x b.0 in
    let c = h.0.condition_13 in
    let fits : f.length ≡ left = grind (arith, nat_tests) in
    let l = ap length (joined_bytes x []) ∙ length-append (code_bytes x) [] in
    omega arith
code_length t left f [] (x ∷ y ∷ xs) h b = absurd b.1
code_length t left f (g ∷ functions) (x ∷ xs) h b =
    let one = body_length f.length x b.0 in
    let more = code_length t (left - f.length) g functions xs h.1 b.1 in
    let c = h.0.condition_13 in
    let fits : f.length ≤ left = grind (arith, nat_tests) in
    let l = ap length (joined_bytes x xs) ∙ length-append (code_bytes x) (code_bytes (all_instructions xs)) in
    omega arith
