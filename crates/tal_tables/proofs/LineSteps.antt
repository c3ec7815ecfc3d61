-- What is known where all trials of a line passed.
use Rattle.std.proofs.Common.{◌≡◌, ◌==◌, not, nat_lt, nat_le, ℕ, ℤ, Bool, true, false, List, [], length, Option, Some, None, Result, Ok, Err, refl, sym, ap, subst}
use Rattle.asm_faults.specs.declared.AsmFault.{AsmFault}
use Rattle.object_layout.specs.declared.rows.FieldTy.{FieldTy}
use Rattle.tal_types.specs.declared.types.Ty.{Ty}
use Rattle.tal_types.specs.declared.signatures.Sig.{Sig}
use Rattle.tal_syntax.specs.declared.form.RegType.{RegType}
use Rattle.tal_syntax.specs.declared.form.TypeText.{TypeText}
use Rattle.tal_names.specs.Declarations.{Names}
use Rattle.tal_names.specs.NameSets.{number_of_name}
use Rattle.tal_names.specs.LookUps.{type_of}
use Rattle.tal_image.specs.Conditions.{heap_fits, stacks_fit}
use Rattle.tal_rows.specs.declared.lines.DataLine.{DataLine}
use Rattle.tal_rows.specs.declared.lines.EntryLine.{EntryLine}
use Rattle.tal_rows.specs.Trials.{need_value, unless}
use Rattle.tal_rows.specs.Lines.{is_twice, field_type, natural, all_known, repeats, types_in, parent_row_fits, is_too_long, numbers_fit, sig_line, kind_line, static_line, data_line, function_line, class_line, entry_line}
use Rattle.asm_faults.specs.Answers.{at_line}
use Rattle.tal_tables.specs.Rows.{heap_line, stacks_line, make, then_make}

abbrev value : {A : Type 0} → A → Result A ℕ → A
value x (Ok y) = y
value x (Err code) = x

-- what a line makes is made of what its trial gives
pub made : {A B : Type 0} (line : ℕ) (of : A → B) (r : Result A ℕ) (y : B) → make of (at_line line r) ≡ Ok y → (x : A) × (r ≡ Ok x) × (of x ≡ y)
made {A} {B} line of (Ok x) y h = (x, refl, ap got h)
  where
    got : Result B AsmFault → B
    got (Ok z) = z
    got (Err f) = y
made line of (Err code) y h = absurd (cc)

-- the same where more is made of it
pub then_made : {A B : Type 0} (line : ℕ) (more : A → Result B AsmFault) (r : Result A ℕ) (y : B) → then_make (at_line line r) more ≡ Ok y → (x : A) × (r ≡ Ok x) × (more x ≡ Ok y)
then_made line more (Ok x) y h = (x, refl, h)
then_made line more (Err code) y h = absurd (cc)

-- what is made of what another step gives
pub made_of : {A B : Type 0} (of : A → B) (r : Result A AsmFault) (y : B) → make of r ≡ Ok y → (x : A) × (r ≡ Ok x) × (of x ≡ y)
made_of {A} {B} of (Ok x) y h = (x, refl, ap got h)
  where
    got : Result B AsmFault → B
    got (Ok z) = z
    got (Err f) = y
made_of of (Err f) y h = absurd (cc)

-- a number that is tried
number_steps : (given : Bool) (o : Option ℕ) (fits : ℕ → Bool) (x : ℕ) → unless given 12 (need_value o 17 (λ n. unless (not (fits n)) 17 (Ok n))) ≡ Ok x → fits x ≡ true
number_steps true o fits x h = absurd (cc)
number_steps false None fits x h = absurd (cc)
number_steps false (Some n) fits x h = last (fits n) refl h
  where
    last : (b : Bool) → fits n ≡ b → unless (not b) 17 (Ok n) ≡ Ok x → fits x ≡ true
    last true is g = subst (λ k. fits k ≡ true) (ap (value n) g) is
    last false is g = absurd (cc)

pub heap_steps : (given : ℕ) (n : ℤ) (x : ℕ) → heap_line given n ≡ Ok x → heap_fits x ≡ true
unfolding heap_line
heap_steps given n x h = number_steps (not (given == 0)) (natural n) heap_fits x h

pub stacks_steps : (given : ℕ) (n : ℤ) (x : ℕ) → stacks_line given n ≡ Ok x → stacks_fit x ≡ true
unfolding stacks_line
stacks_steps given n x h = number_steps (not (given == 0)) (natural n) stacks_fit x h

sig_trials : (unknown : Bool) (o : Option Ty) (repeated twice full : Bool) (of : Ty → Sig) (s : Sig)
    → unless unknown 11 (need_value o 11 (λ r. unless repeated 12 (unless twice 12 (unless full 16 (Ok (of r)))))) ≡ Ok s → (r : Ty) × (o ≡ Some r) × (twice ≡ false) × (of r ≡ s)
sig_trials true o repeated twice full of s h = absurd (cc)
sig_trials false None repeated twice full of s h = absurd (cc)
sig_trials false (Some r) true twice full of s h = absurd (cc)
sig_trials false (Some r) false true full of s h = absurd (cc)
sig_trials false (Some r) false false true of s h = absurd (cc)
sig_trials false (Some r) false false false of s h = (r, refl, refl, ap (value (of r)) h)

-- a signature's types are those that are written
pub sig_steps : (m : Names) (n : List ℕ) (ps : List RegType) (r : TypeText) (rows : ℕ) (s : Sig) → sig_line m n ps r rows ≡ Ok s
    → (ty : Ty) × (type_of m r ≡ Some ty) × (is_twice m.sigs n rows ≡ false) × (record { params = types_in m ps; result = ty } ≡ s)
unfolding sig_line
sig_steps m n ps r rows s h =
    sig_trials (not (all_known m ps)) (type_of m r) (repeats [] ps) (is_twice m.sigs n rows) (nat_le 4096 rows) (λ result. record { params = types_in m ps; result = result }) s h

field_trials : {A : Type 0} (o : Option A) (twice full : Bool) (of : A → Option FieldTy) (held : FieldTy)
    → need_value o 11 (λ x. unless twice 12 (unless full 16 (need_value (of x) 18 (λ h. Ok h)))) ≡ Ok held → (x : A) × (o ≡ Some x) × (twice ≡ false) × (of x ≡ Some held)
field_trials None twice full of held h = absurd (cc)
field_trials (Some x) true full of held h = absurd (cc)
field_trials (Some x) false true of held h = absurd (cc)
field_trials (Some x) false false of held h = (x, refl, refl, last (of x) h)
  where
    last : (o : Option FieldTy) → need_value o 18 (λ y. Ok y) ≡ Ok held → o ≡ Some held
    last None g = absurd (cc)
    last (Some y) g = ap (λ r. Some (value y r)) g

-- the type of an array kind's elements is the written one
pub kind_steps : (m : Names) (n : List ℕ) (t : TypeText) (rows : ℕ) (held : FieldTy) → kind_line m n t rows ≡ Ok held
    → (ty : Ty) × (type_of m t ≡ Some ty) × (is_twice m.kinds n rows ≡ false) × (field_type ty ≡ Some held)
unfolding kind_line
kind_steps m n t rows held h = field_trials (type_of m t) (is_twice m.kinds n rows) (nat_le 256 rows) field_type held h

-- and that of a static
pub static_steps : (m : Names) (n : List ℕ) (t : TypeText) (rows words : ℕ) (held : FieldTy) → static_line m n t rows words ≡ Ok held
    → (ty : Ty) × (type_of m t ≡ Some ty) × (is_twice m.statics n rows ≡ false) × (field_type ty ≡ Some held)
unfolding static_line
static_steps m n t rows words held h = field_trials (type_of m t) (is_twice m.statics n rows) (nat_le 65536 words) field_type held h

data_trials : (k : Option ℕ) (twice long : Bool) (size : Option ℕ) (fits : ℕ → ℕ → Bool) (l : DataLine)
    → need_value k 11 (λ kind. unless twice 12 (unless long 16 (need_value size 17 (λ n. unless (not (fits kind n)) 17 (Ok (record { kind = kind; length = n })))))) ≡ Ok l
    → (k ≡ Some l.kind) × (twice ≡ false) × (fits l.kind l.length ≡ true)
data_trials None twice long size fits l h = absurd (cc)
data_trials (Some kind) true long size fits l h = absurd (cc)
data_trials (Some kind) false true size fits l h = absurd (cc)
data_trials (Some kind) false false None fits l h = absurd (cc)
data_trials (Some kind) false false (Some n) fits l h = last (fits kind n) refl h
  where
    last : (b : Bool) → fits kind n ≡ b → unless (not b) 17 (Ok (record { kind = kind; length = n })) ≡ Ok l → (Some kind ≡ Some l.kind) × (false ≡ false) × (fits l.kind l.length ≡ true)
    last true is g =
        let same : record { kind = kind; length = n } ≡ l = ap (value l) g in
        (ap (λ (x : DataLine). Some x.kind) same, refl, subst (λ (x : DataLine). fits x.kind x.length ≡ true) same is)
    last false is g = absurd (cc)

-- a data array's kind is declared, and its numbers fit
pub data_steps : (m : Names) (n k : List ℕ) (size : ℤ) (ns : Option (List ℤ)) (rows words : ℕ) (l : DataLine) → data_line m n k size ns rows words ≡ Ok l
    → (number_of_name m.kinds k ≡ Some l.kind) × (is_twice m.arrays n rows ≡ false) × (numbers_fit m l.kind l.length ns ≡ true)
unfolding data_line
data_steps m n k size ns rows words l h = data_trials (number_of_name m.kinds k) (is_twice m.arrays n rows) (is_too_long size words) (natural size) (λ kind found. numbers_fit m kind found ns) l h

function_trials : (o : Option ℕ) (twice unfit full : Bool) (sig : ℕ) → need_value o 11 (λ x. unless twice 12 (unless unfit 15 (unless full 16 (Ok x)))) ≡ Ok sig → (o ≡ Some sig) × (twice ≡ false)
function_trials None twice unfit full sig h = absurd (cc)
function_trials (Some x) true unfit full sig h = absurd (cc)
function_trials (Some x) false true full sig h = absurd (cc)
function_trials (Some x) false false true sig h = absurd (cc)
function_trials (Some x) false false false sig h = (ap (λ r. Some (value x r)) h, refl)

-- a function's signature is declared
pub function_steps : (m : Names) (n s : List ℕ) (has_code : Bool) (rows sig : ℕ) → function_line m n s has_code rows ≡ Ok sig → (number_of_name m.sigs s ≡ Some sig) × (is_twice m.functions n rows ≡ false)
unfolding function_line
function_steps m n s has_code rows sig h = function_trials (number_of_name m.sigs s) (is_twice m.functions n rows) (not has_code) (nat_le 16384 rows) sig h

root_trials : (twice full : Bool) (above : Option ℕ) → unless twice 12 (unless full 16 (Ok None)) ≡ Ok above → (twice ≡ false) × (above ≡ None)
root_trials true full above h = absurd (cc)
root_trials false true above h = absurd (cc)
root_trials false false above h = (refl, sym (ap (value None) h))

below_trials : (o : Option ℕ) (twice : Bool) (fits : ℕ → Bool) (full : Bool) (above : Option ℕ)
    → need_value o 11 (λ p. unless twice 12 (unless (not (fits p)) 14 (unless full 16 (Ok (Some p))))) ≡ Ok above → (p : ℕ) × (o ≡ Some p) × (twice ≡ false) × (fits p ≡ true) × (above ≡ Some p)
below_trials None twice fits full above h = absurd (cc)
below_trials (Some p) true fits full above h = absurd (cc)
below_trials (Some p) false fits full above h = last (fits p) full refl h
  where
    last : (b full : Bool) → fits p ≡ b → unless (not b) 14 (unless full 16 (Ok (Some p))) ≡ Ok above → (q : ℕ) × (Some p ≡ Some q) × (false ≡ false) × (fits q ≡ true) × (above ≡ Some q)
    last false full is g = absurd (cc)
    last true true is g = absurd (cc)
    last true false is g = (p, refl, refl, is, sym (ap (value None) g))

-- a class without one above it
pub root_steps : (m : Names) (n : List ℕ) (rows : ℕ) (above : Option ℕ) → class_line m n None rows ≡ Ok above → (is_twice m.classes n rows ≡ false) × (above ≡ None)
unfolding class_line
root_steps m n rows above h = root_trials (is_twice m.classes n rows) (nat_le 1024 rows) above h

-- a class below another one, which fits there
pub below_steps : (m : Names) (n a : List ℕ) (rows : ℕ) (above : Option ℕ) → class_line m n (Some a) rows ≡ Ok above
    → (p : ℕ) × (number_of_name m.classes a ≡ Some p) × (is_twice m.classes n rows ≡ false) × (parent_row_fits m rows p ≡ true) × (above ≡ Some p)
unfolding class_line
below_steps m n a rows above h = below_trials (number_of_name m.classes a) (is_twice m.classes n rows) (parent_row_fits m rows) (nat_le 1024 rows) above h

entry_trials : (f : Option ℕ) (given : Bool) (o : Option ℕ) (l : EntryLine)
    → need_value f 11 (λ function. unless given 12 (need_value o 17 (λ s. unless (nat_lt 63 s) 17 (Ok (record { stack = s; function = function }))))) ≡ Ok l
    → (f ≡ Some l.function) × (given ≡ false) × (o ≡ Some l.stack)
entry_trials None given o l h = absurd (cc)
entry_trials (Some f) true o l h = absurd (cc)
entry_trials (Some f) false None l h = absurd (cc)
entry_trials (Some f) false (Some s) l h = last (nat_lt 63 s) h
  where
    last : (b : Bool) → unless b 17 (Ok (record { stack = s; function = f })) ≡ Ok l → (Some f ≡ Some l.function) × (false ≡ false) × (Some s ≡ Some l.stack)
    last true g = absurd (cc)
    last false g = let same : record { stack = s; function = f } ≡ l = ap (value l) g in (ap (λ (x : EntryLine). Some x.function) same, refl, ap (λ (x : EntryLine). Some x.stack) same)

-- an entry's function is declared, and its stack is new
pub entry_steps : (m : Names) (stack : ℤ) (f : List ℕ) (given : Bool) (l : EntryLine) → entry_line m stack f given ≡ Ok l → (number_of_name m.functions f ≡ Some l.function) × (given ≡ false) × (natural stack ≡ Some l.stack)
unfolding entry_line
entry_steps m stack f given l h = entry_trials (number_of_name m.functions f) given (natural stack) l h
