-- What the code takes, one after another.
use Rattle.std.proofs.Common.{◌≡◌, ◌<◌, ◌+◌, ℕ, Bool, false, List, ◌∷◌, [], ◌++◌, length, take, get_or, Some, None, slice_get, sym, ap, ◌∙◌}
use Rattle.std.proofs.lemmas.List.{take_more}
use Rattle.std.proofs.lemmas.Option.{get_or_from_slice_get, none-some, slice_get-get_or}
use Rattle.tal_syntax.specs.declared.form.Form.{Form}
use Rattle.tal_syntax.specs.declared.form.Form.TheVariants as form
use Rattle.tal_syntax.specs.declared.module.TextLine.{TextLine}
use Rattle.tal_names.specs.Declarations.{Names}
use Rattle.tal_rows.specs.Lines.{function_line}
use Rattle.asm_faults.specs.Answers.{at_line}
use Rattle.tal_tables.specs.Rows.{make, then_make, name_number}
use Rattle.tal_code.specs.Functions.{has_code, function_code}
use Rattle.tal_asm.specs.Lines.{MadeSoFar, with_code, take_line}

-- the names with the next one
pub next_name : (xs list new : List (List ℕ)) (i : ℕ) (x : List ℕ) → list ≡ take i xs → i < length xs → slice_get xs i ≡ Some x → new ≡ list ++ x ∷ [] → new ≡ take (i + 1) xs
next_name xs list new i x before lt at push =
    push ∙ ap (λ ys. ys ++ x ∷ []) before ∙ ap (λ y. take i xs ++ y ∷ []) (sym (get_or_from_slice_get xs i x x at)) ∙ sym (take_more xs i x lt)

-- there is a next one
pub no_next : (xs : List (List ℕ)) (i : ℕ) → slice_get xs i ≡ None → i < length xs → ⊥
no_next xs i none lt = none-some (get_or xs i []) (sym none ∙ slice_get-get_or xs i [] lt)

-- a function that is not extern is taken with its code
pub function_taken : (m : Names) (names : List (List ℕ)) (u : MadeSoFar) (line : ℕ) (f : Form) (behind : List TextLine) (ext : Bool) (n s : List ℕ) → f ≡ form.Func ext n s → ext ≡ false
    → take_line m names u line f behind
    ≡ then_make (at_line line (function_line m n s (has_code behind) (length u.tables.functions))) (λ sig. make (with_code u (name_number names n) sig) (function_code m u.code behind))
unfolding take_line
function_taken m names u line f behind ext n s is own =
    let here : f ≡ form.Func false n s = is ∙ ap (λ b. form.Func b n s) own in
    ap (λ g. take_line m names u line g behind) here
