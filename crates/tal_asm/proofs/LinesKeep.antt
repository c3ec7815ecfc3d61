-- The lines of a module keep what tables and code keep.
use Rattle.std.proofs.Common.{◌≡◌, ℕ, ◌+◌, ◌-◌, ◌≤◌, Bool, true, false, not, List, [], ◌∷◌, ◌++◌, length, Result, Ok, Err, Option, Some, None, refl, sym, ap, subst, ◌∙◌, arith}
use Rattle.std.specs.Prelude.{nat_le}
use Rattle.asm_faults.specs.declared.AsmFault.{AsmFault}
use Rattle.file_fields.specs.Parts.{Each}
use Rattle.tal_image.specs.declared.parts.FunctionPart.{FunctionPart}
use Rattle.tal_image.specs.Conditions.{most_code}
use Rattle.tal_syntax.specs.declared.form.Form.{Form}
use Rattle.tal_syntax.specs.declared.form.Form.TheVariants as form
use Rattle.tal_syntax.specs.declared.module.TextLine.{TextLine}
use Rattle.unit_files.specs.declared.parts.UnitFun.{UnitFun}
use Rattle.unit_files.specs.Unit.{function_part, own_functions}
use Rattle.tal_names.specs.Declarations.{Names, no_names, declare, declared_with}
use Rattle.tal_names.specs.NameSets.{number_of_name}
use Rattle.tal_rows.specs.Trials.{need_value, unless}
use Rattle.tal_rows.specs.Lines.{is_twice, function_line, class_line}
use Rattle.tal_classes.specs.Members.{class_row}
use Rattle.asm_faults.specs.Answers.{at_line}
use Rattle.tal_tables.specs.Rows.{ModuleTablesView, no_tables, name_number, make, then_make, and_class, and_function, take_row}
use Rattle.tal_code.specs.Functions.{UnitCodeView, no_code, has_code, function_code}
use Rattle.tal_code.specs.Formed.{NumbersFit, CodeFormed, LeadsOn, Grows}
use Rattle.tal_tables.specs.Formed.{DeclaredBefore, AreMentioned, MakesRow, TablesKeep}
use Rattle.tal_asm.specs.Lines.{MadeSoFar, nothing, with_tables, with_code, take_line, take_lines}

-- what is known of the tables and of the code
pub record RowLaws : Type 0 where
  pub begins : (first m : Names) (lines : List TextLine) → declared_with first lines ≡ m → DeclaredBefore first m
  pub empty : (m : Names) (names : ℕ) → TablesKeep m no_names names no_tables
  pub rows : (m first : Names) (names : List (List ℕ)) (u v : ModuleTablesView) (line : ℕ) (f : Form) (behind : List TextLine)
      → MakesRow f → DeclaredBefore (declare first f behind) m → AreMentioned m names f → TablesKeep m first (length names) u
      → take_row m names u line f behind ≡ Ok v → TablesKeep m (declare first f behind) (length names) v
  pub function : (m first : Names) (names : List (List ℕ)) (u : ModuleTablesView) (n s : List ℕ) (behind : List TextLine) (has_code : Bool) (size sig : ℕ)
      → DeclaredBefore (declare first (form.Func false n s) behind) m → AreMentioned m names (form.Func false n s) → TablesKeep m first (length names) u
      → function_line m n s has_code (length u.functions) ≡ Ok sig → 1 ≤ size
      → TablesKeep m (declare first (form.Func false n s) behind) (length names) (and_function u (name_number names n) false size sig)
  pub no_code : (m : Names) → CodeFormed m [] no_code
  pub leads : (m : Names) (own : List FunctionPart) (sig : ℕ) (u d : UnitCodeView) (lines : List TextLine) → LeadsOn m own sig u lines d
  pub grows : (m : Names) (u d : UnitCodeView) (lines : List TextLine) → Grows m u lines d

-- how many bytes functions have together
unfoldable pub function_bytes : List UnitFun → ℕ
function_bytes [] = 0
function_bytes (f ∷ fs) = f.length + function_bytes fs

-- The tables and the code keep what they keep, and the functions have as many bytes as there are.
pub record LinesKept (m first : Names) (names : List (List ℕ)) (u : MadeSoFar) : Type 0 where
  pub tables : TablesKeep m first (length names) u.tables
  pub few : length u.code.code ≤ most_code
  pub code : NumbersFit m → CodeFormed m (own_functions u.tables.functions) u.code
  pub bytes : function_bytes u.tables.functions ≡ length u.code.code

-- ---- one function more

own_more : (fs : List UnitFun) (f : UnitFun) → f.ext ≡ false → own_functions (fs ++ f ∷ []) ≡ own_functions fs ++ function_part f ∷ []
unfolding own_functions
own_more [] f own = rw own refl
own_more (g ∷ fs) f own = by_ext g.ext (own_more fs f own)
  where
    by_ext : (b : Bool) → own_functions (fs ++ f ∷ []) ≡ own_functions fs ++ function_part f ∷ []
        → (elim b as (λ _. List FunctionPart) [ true ↦ own_functions (fs ++ f ∷ []) | false ↦ function_part g ∷ own_functions (fs ++ f ∷ []) ])
        ≡ (elim b as (λ _. List FunctionPart) [ true ↦ own_functions fs | false ↦ function_part g ∷ own_functions fs ]) ++ function_part f ∷ []
    by_ext true e = e
    by_ext false e = ap (λ x. function_part g ∷ x) e

own_same : (fs : List UnitFun) (f : UnitFun) → f.ext ≡ true → own_functions (fs ++ f ∷ []) ≡ own_functions fs
unfolding own_functions
own_same [] f ext = rw ext refl
own_same (g ∷ fs) f ext = by_ext g.ext (own_same fs f ext)
  where
    by_ext : (b : Bool) → own_functions (fs ++ f ∷ []) ≡ own_functions fs
        → (elim b as (λ _. List FunctionPart) [ true ↦ own_functions (fs ++ f ∷ []) | false ↦ function_part g ∷ own_functions (fs ++ f ∷ []) ])
        ≡ (elim b as (λ _. List FunctionPart) [ true ↦ own_functions fs | false ↦ function_part g ∷ own_functions fs ])
    by_ext true e = e
    by_ext false e = ap (λ x. function_part g ∷ x) e

bytes_more : (fs : List UnitFun) (f : UnitFun) → function_bytes (fs ++ f ∷ []) ≡ function_bytes fs + f.length
unfolding function_bytes
bytes_more [] f = omega arith
bytes_more (g ∷ fs) f = (let e = bytes_more fs f in omega (arith, e))

-- ---- rows

-- What was made was made of something.
made_of : {A B : Type 0} (of : A → B) (r : Result A AsmFault) (y : B) → make of r ≡ Ok y → (x : A) × (r ≡ Ok x) × (y ≡ of x)
made_of of (Ok x) y e = (x, refl, one (of x) y e)
  where
    one : {X : Type 0} (a b : X) → ◌≡◌ {A = Result X AsmFault} (Ok a) (Ok b) → b ≡ a
    one a b e = cc
made_of of (Err f) y e = cc

then_made : {A B : Type 0} (r : Result A AsmFault) (more : A → Result B AsmFault) (y : B) → then_make r more ≡ Ok y → (x : A) × (r ≡ Ok x) × (more x ≡ Ok y)
then_made (Ok x) more y e = (x, refl, e)
then_made (Err f) more y e = cc

-- the functions stay as they are, or there is an extern one more
abbrev pub SameOwn : ModuleTablesView → ModuleTablesView → Type 0
SameOwn u v = (own_functions v.functions ≡ own_functions u.functions) × (function_bytes v.functions ≡ function_bytes u.functions)

same_if : {A : Type 0} (of : A → ModuleTablesView) (r : Result A AsmFault) (u v : ModuleTablesView) → ((x : A) → SameOwn u (of x)) → make of r ≡ Ok v → SameOwn u v
same_if of r u v same e =
    let (x, made, is) = made_of of r v e in
    subst (SameOwn u) (sym is) (same x)

same_row : (m : Names) (names : List (List ℕ)) (u v : ModuleTablesView) (line : ℕ) (f : Form) (behind : List TextLine) → MakesRow f → take_row m names u line f behind ≡ Ok v → SameOwn u v
unfolding take_row
same_row m names u v line (form.Heap n) behind is e = same_if _ _ u v (λ x. (refl, refl)) e
same_row m names u v line (form.Stacks n) behind is e = same_if _ _ u v (λ x. (refl, refl)) e
same_row m names u v line (form.Entry s f) behind is e = same_if _ _ u v (λ x. (refl, refl)) e
same_row m names u v line (form.Sig ext n ps r) behind is e = same_if _ _ u v (λ x. (refl, refl)) e
same_row m names u v line (form.Kind ext n t) behind is e = same_if _ _ u v (λ x. (refl, refl)) e
same_row m names u v line (form.Static ext n t) behind is e = same_if _ _ u v (λ x. (refl, refl)) e
same_row m names u v line (form.DataArray ext n k size ns) behind is e = same_if _ _ u v (λ x. (refl, refl)) e
same_row m names u v line (form.Class ext n p) behind is e =
    let (above, made, rest) = then_made (at_line line (class_line m n p (length u.classes))) (λ above. make (and_class u (name_number names n) ext) (class_row m u.classes above behind)) v e in
    same_if (and_class u (name_number names n) ext) (class_row m u.classes above behind) u v (λ x. (refl, refl)) rest
same_row m names u v line (form.Func true n s) behind is e =
    same_if _ _ u v (λ sig. (own_same u.functions _ refl, bytes_more u.functions _ ∙ (omega arith))) e
same_row m names u v line (form.Func false n s) behind is e = absurd is
same_row m names u v line _ behind is e = subst (SameOwn u) (one u v e) (refl, refl)
  where
    one : (a b : ModuleTablesView) → ◌≡◌ {A = Result ModuleTablesView AsmFault} (Ok a) (Ok b) → a ≡ b
    one a b e = cc

-- ---- a line

-- A function's line that is not refused has code behind it.
with_code_behind : (m : Names) (n s : List ℕ) (b : Bool) (rows sig : ℕ) → function_line m n s b rows ≡ Ok sig → b ≡ true
unfolding function_line
with_code_behind m n s b rows sig e = by_sig (number_of_name m.sigs s) e
  where
    by_code : (b : Bool) (r : Result ℕ ℕ) → unless (not b) 15 r ≡ Ok sig → b ≡ true
    by_code true r e = refl
    by_code false r e = cc

    by_twice : (t : Bool) (r : Result ℕ ℕ) → unless t 12 r ≡ Ok sig → r ≡ Ok sig
    by_twice true r e = cc
    by_twice false r e = e

    by_sig : (o : Option ℕ) → need_value o 11 (λ sig. unless (is_twice m.functions n rows) 12 (unless (not b) 15 (unless (nat_le 16384 rows) 16 (Ok sig)))) ≡ Ok sig → b ≡ true
    by_sig None e = cc
    by_sig (Some k) e = by_code b _ (by_twice (is_twice m.functions n rows) _ e)

at_line_is : {A : Type 0} (line : ℕ) (r : Result A ℕ) (x : A) → at_line line r ≡ Ok x → r ≡ Ok x
at_line_is line (Ok y) x e = one y x e
  where
    one : {X : Type 0} (a b : X) → ◌≡◌ {A = Result X AsmFault} (Ok a) (Ok b) → ◌≡◌ {A = Result X ℕ} (Ok a) (Ok b)
    one a b e = cc
at_line_is line (Err code) x e = cc

-- A line that makes a row.
row_kept : (laws : RowLaws) (m first : Names) (names : List (List ℕ)) (u d : MadeSoFar) (line : ℕ) (f : Form) (behind : List TextLine)
    → MakesRow f → DeclaredBefore (declare first f behind) m → AreMentioned m names f → LinesKept m first names u
    → make (with_tables u) (take_row m names u.tables line f behind) ≡ Ok d → LinesKept m (declare first f behind) names d
row_kept laws m first names u d line f behind makes begins mentioned kept e =
    let (v, made, is) = made_of (with_tables u) (take_row m names u.tables line f behind) d e in
    let same = same_row m names u.tables v line f behind makes made in
    subst (LinesKept m (declare first f behind) names) (sym is) (record {
      tables = laws.rows m first names u.tables v line f behind makes begins mentioned kept.tables made;
      few = kept.few;
      code = λ fit. subst (λ own. CodeFormed m own u.code) (sym same.0) (kept.code fit);
      bytes = same.1 ∙ kept.bytes;
    })

-- A line with those of a function.
function_kept : (laws : RowLaws) (m first : Names) (names : List (List ℕ)) (u d : MadeSoFar) (line : ℕ) (n s : List ℕ) (behind : List TextLine)
    → DeclaredBefore (declare first (form.Func false n s) behind) m → AreMentioned m names (form.Func false n s) → LinesKept m first names u
    → take_line m names u line (form.Func false n s) behind ≡ Ok d → LinesKept m (declare first (form.Func false n s) behind) names d
unfolding take_line
function_kept laws m first names u d line n s behind begins mentioned kept e =
    let (sig, at, rest) = then_made _ _ d e in
    let (code, made, is) = made_of (with_code u (name_number names n) sig) (function_code m u.code behind) d rest in
    let row = at_line_is line (function_line m n s (has_code behind) (length u.tables.functions)) sig at in
    let grown = laws.grows m u.code code behind kept.few made in
    let more = grown.2 (with_code_behind m n s (has_code behind) _ sig row) in
    let le = grown.0 in
    let bytes = kept.bytes in
    subst (LinesKept m (declare first (form.Func false n s) behind) names) (sym is) (record {
      tables = laws.function m first names u.tables n s behind (has_code behind) (length code.code - length u.code.code) sig begins mentioned kept.tables row (omega (arith, more));
      few = grown.1;
      code = λ fit. subst (λ own. CodeFormed m own code) (sym (own_more u.tables.functions _ refl)) (laws.leads m (own_functions u.tables.functions) sig u.code code behind fit (kept.code fit) made);
      bytes = bytes_more u.tables.functions _ ∙ (omega (arith, le, bytes));
    })

-- Any line.
line_kept : (laws : RowLaws) (m first : Names) (names : List (List ℕ)) (u d : MadeSoFar) (line : ℕ) (f : Form) (behind : List TextLine)
    → DeclaredBefore (declare first f behind) m → AreMentioned m names f → LinesKept m first names u → take_line m names u line f behind ≡ Ok d → LinesKept m (declare first f behind) names d
unfolding take_line
line_kept laws m first names u d line (form.Func false n s) behind begins mentioned kept e = function_kept laws m first names u d line n s behind begins mentioned kept e
line_kept laws m first names u d line (form.Func true n s) behind begins mentioned kept e = row_kept laws m first names u d line (form.Func true n s) behind tt begins mentioned kept e
line_kept laws m first names u d line (form.Heap n) behind begins mentioned kept e = row_kept laws m first names u d line (form.Heap n) behind tt begins mentioned kept e
line_kept laws m first names u d line (form.Stacks n) behind begins mentioned kept e = row_kept laws m first names u d line (form.Stacks n) behind tt begins mentioned kept e
line_kept laws m first names u d line (form.Entry s f) behind begins mentioned kept e = row_kept laws m first names u d line (form.Entry s f) behind tt begins mentioned kept e
line_kept laws m first names u d line (form.Sig ext n ps r) behind begins mentioned kept e = row_kept laws m first names u d line (form.Sig ext n ps r) behind tt begins mentioned kept e
line_kept laws m first names u d line (form.Kind ext n t) behind begins mentioned kept e = row_kept laws m first names u d line (form.Kind ext n t) behind tt begins mentioned kept e
line_kept laws m first names u d line (form.Static ext n t) behind begins mentioned kept e = row_kept laws m first names u d line (form.Static ext n t) behind tt begins mentioned kept e
line_kept laws m first names u d line (form.DataArray ext n k size ns) behind begins mentioned kept e = row_kept laws m first names u d line (form.DataArray ext n k size ns) behind tt begins mentioned kept e
line_kept laws m first names u d line (form.Class ext n p) behind begins mentioned kept e = row_kept laws m first names u d line (form.Class ext n p) behind tt begins mentioned kept e
line_kept laws m first names u d line (form.Field n t) behind begins mentioned kept e = row_kept laws m first names u d line (form.Field n t) behind tt begins mentioned kept e
line_kept laws m first names u d line (form.Method n s f) behind begins mentioned kept e = row_kept laws m first names u d line (form.Method n s f) behind tt begins mentioned kept e
line_kept laws m first names u d line form.End behind begins mentioned kept e = row_kept laws m first names u d line form.End behind tt begins mentioned kept e
line_kept laws m first names u d line (form.Label n rs slots) behind begins mentioned kept e = row_kept laws m first names u d line (form.Label n rs slots) behind tt begins mentioned kept e
line_kept laws m first names u d line (form.Inst mnemonic args) behind begins mentioned kept e = row_kept laws m first names u d line (form.Inst mnemonic args) behind tt begins mentioned kept e

-- All lines.
pub lines_keep : (laws : RowLaws) (m first : Names) (names : List (List ℕ)) (u d : MadeSoFar) (lines : List TextLine) → declared_with first lines ≡ m
    → Each (λ (l : TextLine). AreMentioned m names l.form) lines → LinesKept m first names u → take_lines m names u lines ≡ Ok d → LinesKept m m names d
unfolding take_lines declared_with
lines_keep laws m first names u d [] is mentioned kept e = subst (λ first. LinesKept m first names d) is (subst (LinesKept m first names) (one u d e) kept)
  where
    one : (a b : MadeSoFar) → ◌≡◌ {A = Result MadeSoFar AsmFault} (Ok a) (Ok b) → a ≡ b
    one a b e = cc
lines_keep laws m first names u d (l ∷ lines) is (mention, mentioned) kept e =
    let (v, made, rest) = then_made _ _ d e in
    lines_keep laws m (declare first l.form lines) names v d lines is mentioned
    (line_kept laws m first names u v l.number l.form lines (laws.begins (declare first l.form lines) m lines is) mention kept made) rest

-- No lines keep it.
pub nothing_kept : (laws : RowLaws) (m : Names) (names : List (List ℕ)) → LinesKept m no_names names nothing
unfolding own_functions function_bytes
nothing_kept laws m names = record { tables = laws.empty m (length names); few = omega arith; code = λ fit. laws.no_code m; bytes = refl }
