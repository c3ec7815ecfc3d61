-- Lines of a report, one after another.
use Rattle.std.specs.Prelude.{suc, codes, decimal}
use Rattle.std.proofs.Common.{◌≡◌, ℕ, ◌+◌, ◌<◌, List, [], ◌∷◌, ◌++◌, length, drop, take, get_or, refl, sym, ◌∙◌, add-one, append_assoc, append-nil, drop-cons}
use Rattle.stack_states.specs.declared.stack_state.StackState.TheVariants.{Empty}
use Rattle.run_report.specs.Shown.{ShownWords, ShownStack}
use Rattle.run_report.specs.Report.{cell_rows, stacks_text, state_text}

-- a line of cells more
pub rows_step : (text : List ℕ → List ℕ) (out new whole rest next : List ℕ) (n k : ℕ) → out ++ cell_rows text n rest ≡ whole → n ≡ k + 1
    → new ≡ out ++ text (take 80 rest) ++ 10 ∷ [] → next ≡ drop 80 rest → new ++ cell_rows text k next ≡ whole
unfolding cell_rows
rows_step text out new whole rest next n k before is made left =
    let more : n ≡ suc k = is ∙ add-one k in
    let front : out ++ (text (take 80 rest) ++ 10 ∷ cell_rows text k (drop 80 rest)) ≡ whole = rw more at before in
    rw (made, left, append_assoc, append_assoc) front

-- no line of cells is left
pub rows_end : (text : List ℕ → List ℕ) (out whole rest : List ℕ) (n : ℕ) → out ++ cell_rows text n rest ≡ whole → n ≡ 0 → out ≡ whole
unfolding cell_rows
rows_end text out whole rest n before is = sym (append-nil out) ∙ (rw is at before)

-- what stands for a stack that is missing
abbrev pub no_stack : ShownStack
no_stack = record { state = Empty; words = [] }

-- the lines of a stack more
pub stacks_step : (shown : ShownWords) (ts : List ShownStack) (k : ℕ) (out new whole : List ℕ) → k < length ts → out ++ stacks_text shown k (drop k ts) ≡ whole
    → new ≡ ((out ++ codes "stack ") ++ decimal k) ++ state_text shown (get_or ts k no_stack).words (get_or ts k no_stack).state
    → new ++ stacks_text shown (k + 1) (drop (k + 1) ts) ≡ whole
stacks_step shown ts k out new whole inside before made =
    let here : drop k ts ≡ get_or ts k no_stack ∷ drop (k + 1) ts = rw (add-one, drop-cons ts k no_stack inside) refl in
    let front : out ++ stacks_text shown k (get_or ts k no_stack ∷ drop (k + 1) ts) ≡ whole = rw here at before in
    rw made (simp append_assoc (simp append_assoc at front))

-- seven texts appended one after another
pub seven_appended : (o a b c d e f g p q r s t u v : List ℕ) → p ≡ o ++ a → q ≡ p ++ b → r ≡ q ++ c → s ≡ r ++ d → t ≡ s ++ e → u ≡ t ++ f → v ≡ u ++ g
    → v ≡ o ++ (a ++ b ++ c ++ d ++ e ++ f ++ g)
seven_appended o a b c d e f g p q r s t u v hp hq hr hs ht hu hv = rw (hv, hu, ht, hs, hr, hq, hp) (simp append_assoc refl)
