-- The lines of a function, one after another.
use Rattle.std.proofs.Common.{◌≡◌, ◌≤◌, ℕ, ℤ, pos, List, get_or, ◌∷◌, length, Option, Some, None, Result, Ok, Err, sym, ap, ◌∙◌}
use Rattle.std.specs.Option.{option_map_or}
use Rattle.std.specs.List.{between}
use Rattle.std.proofs.lemmas.Slice.{first_rest}
use Rattle.asm_faults.specs.Answers.{at_line}
use Rattle.code_words.specs.declared.words.Mnemonic.{Mnemonic}
use Rattle.tal_syntax.specs.declared.form.Arg.{Arg}
use Rattle.tal_syntax.specs.declared.form.Form.TheVariants as form
use Rattle.tal_syntax.specs.declared.form.RegType.{RegType}
use Rattle.tal_syntax.specs.declared.form.TypeText.{TypeText}
use Rattle.tal_syntax.specs.declared.module.TextLine.{TextLine}
use Rattle.tal_names.specs.Declarations.{Names}
use Rattle.asm_faults.specs.declared.AsmFault.{AsmFault}
use Rattle.tal_code.specs.Labels.{LabelsView, distance_at}
use Rattle.tal_code.specs.Functions.{UnitCodeView, inst_line, is_placed, block_line, code_line, on_line, with_lines}

-- The lines that are left are a first one, and those behind it.
pub first_line : (left : List TextLine) (l : TextLine) → 1 ≤ length left → l ≡ get_or left 0 l → left ≡ l ∷ between 1 (length left) left
first_line left l some is = first_rest left l some ∙ ap (λ x. x ∷ between 1 (length left) left) (sym is)

-- What is made is one thing.
ok_is_one : {A B : Type 0} (x y : A) → ◌≡◌ {A = Result A B} (Ok x) (Ok y) → x ≡ y
ok_is_one x y e = cc

-- What a line made goes on to the lines behind it.
made_on : (number : ℕ) (r : Result UnitCodeView ℕ) (v : UnitCodeView) (more : UnitCodeView → Result UnitCodeView AsmFault)
    → at_line number r ≡ Ok v → on_line number r more ≡ more v
made_on number (Ok u) v more e = ap more (ok_is_one u v e)
made_on number (Err code) v more e = cc

-- The lines behind a label go on with its block.
pub label_goes_on : (m : Names) (ls : LabelsView) (before u v : UnitCodeView) (left more : List TextLine) (l : TextLine) (n : List ℕ) (rs : List RegType) (slots : Option (List TypeText))
    → left ≡ l ∷ more → l.form ≡ form.Label n rs slots → at_line l.number (block_line m u rs slots (is_placed ls before u n more)) ≡ Ok v
    → with_lines m ls before v more ≡ with_lines m ls before u left
unfolding with_lines code_line
label_goes_on m ls before u v left more l n rs slots is_left is_label made =
    sym (ap (with_lines m ls before u) is_left
    ∙ ap (λ f. option_map_or (λ r. on_line l.number r (λ w. with_lines m ls before w more)) (code_line m ls before u f more) (Ok u)) is_label
    ∙ made_on l.number _ v (λ w. with_lines m ls before w more) made)

-- The lines behind an instruction go on with it.
pub inst_goes_on : (m : Names) (ls : LabelsView) (before u v : UnitCodeView) (left more : List TextLine) (l : TextLine) (mnemonic : Mnemonic) (args : List Arg)
    → left ≡ l ∷ more → l.form ≡ form.Inst mnemonic args → at_line l.number (inst_line m u mnemonic args (distance_at m ls (length u.code) mnemonic args)) ≡ Ok v
    → with_lines m ls before v more ≡ with_lines m ls before u left
unfolding with_lines code_line
inst_goes_on m ls before u v left more l mnemonic args is_left is_inst made =
    sym (ap (with_lines m ls before u) is_left
    ∙ ap (λ f. option_map_or (λ r. on_line l.number r (λ w. with_lines m ls before w more)) (code_line m ls before u f more) (Ok u)) is_inst
    ∙ made_on l.number _ v (λ w. with_lines m ls before w more) made)
