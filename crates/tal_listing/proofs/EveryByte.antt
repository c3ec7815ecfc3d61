-- Every byte of an image's code stands in a line.
use Rattle.std.proofs.Common.{◌≡◌, ℕ, ◌+◌, ◌-◌, ◌<◌, ◌≤◌, List, [], ◌∷◌, ◌++◌, length, take, drop, refl, sym, ap, subst, ◌∙◌, arith}
use Rattle.std.proofs.lemmas.List.{length-append, take-append-le, drop-append-le, take_all, drop_all}
use Rattle.std.proofs.lemmas.List.Concat.{flat_map-append}
use Rattle.std.proofs.lemmas.List.Elements.{All-nil, All-cons, All-append}
use Rattle.ia32_code.specs.declared.instruction.Inst.{Inst}
use Rattle.ia32_code.specs.Decoding.{FrontLaw}
use Rattle.ia32_code.specs.Spells.{Spells}
use Rattle.object_layout.specs.Areas.{code_start}
use Rattle.tal_image.specs.declared.parts.FunctionPart.{FunctionPart}
use Rattle.tal_image.specs.Conditions.{Spelled}
use Rattle.tal_image.specs.Fields.{all_instructions, code_bytes}
use Rattle.tal_image.specs.Formed.{IsBody, AreBodies, Formed}
use Rattle.tal_image.specs.Image.{ImageParts}
use Rattle.tal_image.specs.Shown.{spans}
use Rattle.tal_listing.specs.Lines.{CodeLine, lines_from}
use Rattle.tal_listing.specs.Listing.{functions_lines}
use Rattle.tal_listing.specs.Laws.{HaveBytes}
use Rattle.tal_listing.proofs.CodeLines.{lines_from-front}
use Rattle.tal_listing.proofs.FunctionLines.{body_length}

-- the front of a list that was put before another, and what is behind it
take-front : (xs ys : List ℕ) (n : ℕ) → n ≡ length xs → take n (xs ++ ys) ≡ xs
take-front xs ys n e = take-append-le n xs ys (omega arith) ∙ take_all n xs (omega arith)

drop-front : (xs ys : List ℕ) (n : ℕ) → n ≡ length xs → drop n (xs ++ ys) ≡ ys
drop-front xs ys n e = drop-append-le n xs ys (omega arith) ∙ ap (λ (t : List ℕ). t ++ ys) (drop_all n xs (omega arith))

-- No lines have no bytes.
none_have : HaveBytes [] []
none_have = record { whole = refl; spelled = All-nil (λ (l : CodeLine). Spells l.bytes l.inst) }

-- A line before others has its bytes before theirs.
one_more_has : (l : CodeLine) (bytes : List ℕ) (lines : List CodeLine) → Spells l.bytes l.inst → HaveBytes bytes lines → HaveBytes (l.bytes ++ bytes) (l ∷ lines)
one_more_has l bytes lines spells h = record {
  whole = ap (λ (t : List ℕ). l.bytes ++ t) h.whole;
  spelled = All-cons (λ (k : CodeLine). Spells k.bytes k.inst) l lines spells h.spelled;
}

-- Lines before others have their bytes before theirs.
both_have : (a b : List ℕ) (first later : List CodeLine) → HaveBytes a first → HaveBytes b later → HaveBytes (a ++ b) (first ++ later)
both_have a b first later h k = record {
  whole = rw (flat_map-append (λ (l : CodeLine). l.bytes) first later, h.whole, k.whole) refl;
  spelled = All-append (λ (l : CodeLine). Spells l.bytes l.inst) first later h.spelled k.spelled;
}

module _ (front : FrontLaw) (long : (text : List ℕ) (i : Inst) → Spells text i → (0 < length text) × (length text ≤ 11)) where
  -- Bytes that begin with a spelling have the line of its instruction first.
  first_line : (address : ℕ) (text more : List ℕ) (i : Inst) → Spells text i
      → lines_from 0 address (text ++ more) ≡ record { address = address; bytes = text; inst = i } ∷ lines_from 0 (address + length text) more
  first_line address text more i spells =
      let own = take-front text more (length text) refl in
      let fits : length text ≤ length (text ++ more) = omega (arith, length-append text more) in
      lines_from-front address (text ++ more) i (length text) (front text more i spells) (long text i spells).0 fits
      ∙ rw (own, drop-front text more (length text) refl) refl

  -- The lines of a function have its bytes.
  body_lines : (address room : ℕ) (body : List Spelled) → IsBody room body → HaveBytes (code_bytes body) (lines_from 0 address (code_bytes body))
  unfolding lines_from
  body_lines address room [] h = none_have
  body_lines address room (s ∷ more) h =
      subst (HaveBytes (s.text ++ code_bytes more)) (sym (first_line address s.text (code_bytes more) s.means h.1))
      (one_more_has (record { address = address; bytes = s.text; inst = s.means }) (code_bytes more) (lines_from 0 (address + length s.text) (code_bytes more)) h.1
      (body_lines (address + length s.text) (room - length s.text) more h.3))

  -- The lines of functions have theirs.
  functions_have : (address : ℕ) (fs : List FunctionPart) (bodies : List (List Spelled)) → AreBodies fs bodies
      → HaveBytes (code_bytes (all_instructions bodies)) (functions_lines (code_bytes (all_instructions bodies)) (spans address fs))
  unfolding spans functions_lines
  functions_have address [] [] h = none_have
  functions_have address [] (body ∷ bodies) h = absurd h
  functions_have address (f ∷ fs) [] h = absurd h
  functions_have address (f ∷ fs) (body ∷ bodies) h =
      let own = body_length f.length body h.0 in
      let n : (address + f.length) - address ≡ length (code_bytes body) = omega arith in
      let parts = flat_map-append (λ (s : Spelled). s.text) body (all_instructions bodies) in
      let t = take-front (code_bytes body) (code_bytes (all_instructions bodies)) _ n in
      let d = drop-front (code_bytes body) (code_bytes (all_instructions bodies)) _ n in
      rw (parts, t, d) (both_have (code_bytes body) (code_bytes (all_instructions bodies)) _ _ (body_lines address f.length body h.0)
      (functions_have (address + f.length) fs bodies h.1))

  -- So the lines of an image have all its code.
  pub every_byte : (i : ImageParts) → Formed i → HaveBytes i.code (functions_lines i.code (spans code_start i.functions))
  every_byte i f =
      subst (λ (code : List ℕ). HaveBytes code (functions_lines code (spans code_start i.functions))) (sym f.code) (functions_have code_start i.functions f.bodies f.condition_23)
