-- The instructions of functions, one after another.
use Rattle.std.proofs.Common.{◌≡◌, ℕ, ◌+◌, ◌-◌, ◌<◌, List, [], ◌∷◌, ◌++◌, length, refl, sym, ap, ◌∙◌, arith}
use Rattle.std.proofs.lemmas.List.{length-append, append-nil}
use Rattle.std.proofs.lemmas.Grind.{flat_map-append}
use Rattle.ia32_code.specs.Spells.{Spells}
use Rattle.file_fields.specs.Parts.{Each}
use Rattle.tal_image.specs.declared.parts.FunctionPart.{FunctionPart}
use Rattle.tal_image.specs.Conditions.{Spelled}
use Rattle.tal_image.specs.Fields.{all_instructions, code_bytes}
use Rattle.tal_image.specs.Formed.{IsBody, AreBodies}
use Rattle.tal_code.proofs.Places.{all_bytes, length_bytes}

-- an instruction that its bytes spell, which are some
abbrev pub IsSpelled : Spelled → Type 0
IsSpelled s = (0 < length s.text) × Spells s.text s.means

-- Each instruction has some bytes.
pub each_some : (code : List Spelled) → Each IsSpelled code → Each (λ (s : Spelled). 0 < length s.text) code
each_some [] all = tt
each_some (s ∷ code) (is, all) = (is.0, each_some code all)

-- Instructions are a body of as many bytes as they have.
pub as_body : (code : List Spelled) (room : ℕ) → Each IsSpelled code → room ≡ length (code_bytes code) → IsBody room code
as_body [] room all is = is
as_body (s ∷ code) room (first, all) is =
    let n : room ≡ length s.text + length (code_bytes code) = is ∙ length_bytes s code in
    (omega (arith, n, first.0), first.1, omega (arith, n), as_body code (room - length s.text) all (omega (arith, n)))

-- A body has as many bytes as it has room, and each instruction of it is spelled.
pub body_bytes : (code : List Spelled) (room : ℕ) → ((s : Spelled) → Spells s.text s.means → 0 < length s.text) → IsBody room code
    → (length (code_bytes code) ≡ room) × Each IsSpelled code
body_bytes [] room some is = (sym is, tt)
body_bytes (s ∷ code) room some (more, spells, le, rest) =
    let b = body_bytes code (room - length s.text) some rest in
    (length_bytes s code ∙ (let n = b.0 in omega (arith, n, le)), ((some s spells, spells), b.1))

-- All instructions of several functions are those of the first, and those of the others.
pub all_of : (body : List Spelled) (bodies : List (List Spelled)) → all_instructions (body ∷ bodies) ≡ body ++ all_instructions bodies
all_of body bodies = refl

-- The bytes of instructions one after another.
pub bytes_joined : (xs ys : List Spelled) → code_bytes (xs ++ ys) ≡ code_bytes xs ++ code_bytes ys
bytes_joined xs ys = flat_map-append (λ (s : Spelled). s.text) xs ys

all_joined : (xs ys : List Spelled) → Each IsSpelled xs → Each IsSpelled ys → Each IsSpelled (xs ++ ys)
all_joined [] ys a b = b
all_joined (x ∷ xs) ys (is, a) b = (is, all_joined xs ys a b)

-- Functions have as many bytes together as their instructions, each of which is spelled.
pub bodies_bytes : (own : List FunctionPart) (bodies : List (List Spelled)) → ((s : Spelled) → Spells s.text s.means → 0 < length s.text) → AreBodies own bodies
    → (length (code_bytes (all_instructions bodies)) ≡ all_bytes own) × Each IsSpelled (all_instructions bodies)
bodies_bytes [] [] some are = (refl, tt)
bodies_bytes [] (body ∷ bodies) some are = absurd are
bodies_bytes (f ∷ own) [] some are = absurd are
bodies_bytes (f ∷ own) (body ∷ bodies) some (is, are) =
    let b = body_bytes body f.length some is in
    let c = bodies_bytes own bodies some are in
    (ap length (bytes_joined body (all_instructions bodies)) ∙ length-append (code_bytes body) (code_bytes (all_instructions bodies)) ∙ (let x = b.0 in let y = c.0 in omega (arith, x, y)), all_joined body (all_instructions bodies) b.1 c.1)

-- One function more has its instructions.
pub one_more : (own : List FunctionPart) (bodies : List (List Spelled)) (f : FunctionPart) (body : List Spelled) → AreBodies own bodies → IsBody f.length body
    → AreBodies (own ++ f ∷ []) (bodies ++ body ∷ [])
one_more [] [] f body are is = (is, tt)
one_more [] (b ∷ bodies) f body are is = absurd are
one_more (g ∷ own) [] f body are is = absurd are
one_more (g ∷ own) (b ∷ bodies) f body (first, are) is = (first, one_more own bodies f body are is)

-- Its instructions stand behind all others.
pub all_more : (bodies : List (List Spelled)) (body : List Spelled) → all_instructions (bodies ++ body ∷ []) ≡ all_instructions bodies ++ body
all_more bodies body = flat_map-append (λ (b : List Spelled). b) bodies (body ∷ []) ∙ ap (λ x. all_instructions bodies ++ x) (append-nil body)
