-- The lines outside classes and functions are read exactly.
use Rattle.std.proofs.Common.{◌≡◌, ◌≢◌, ℕ, ℤ, pos, true, false, List, [], ◌∷◌, ◌++◌, Option, Some, None, refl, sym, ap, subst, ◌∙◌}
use lib.Dec.{eqb}
use Rattle.ia32_code.specs.declared.instruction.Reg.{Reg}
use Rattle.ia32_code.specs.declared.instruction.Reg.TheVariants.{Eax, Esp}
use Rattle.text_tokens.specs.Token.{Lexeme, Key, Register, Name, Number, Mark, EndOfLine}
use Rattle.text_tokens.specs.declared.token.Keyword.{Keyword}
use Rattle.text_tokens.specs.declared.token.Keyword.TheVariants as key
use Rattle.tal_syntax.specs.declared.form.RegType.{RegType}
use Rattle.tal_syntax.specs.declared.form.Form.{Form}
use Rattle.tal_syntax.specs.declared.form.Form.TheVariants as form
use Rattle.tal_syntax.specs.Sentences.{token, ◌⊕◌}
use Rattle.tal_syntax.specs.Grammar.{name, number_lexeme, type_says, typed_says, reg_type_says, list_says, numbers_says, parent_says, outside_says}
use Rattle.tal_syntax.specs.Reading.{Read, both, reads, by_key, is_mark, number_at, rows_at, typed_at, of_typed, typed}
use Rattle.tal_syntax.specs.Rows.{type_at, reg_type, reg_type_at}
use Rattle.tal_syntax.specs.Forms.{numbers_of, numbers_at, parent_behind, parent_at, extern_key, extern_at, outside_key, outside_at, heap_at, stacks_at, entry_at, sig_at, kind_at, static_at, data_at, outer_data_at, class_at, func_at}
use Rattle.tal_syntax.proofs.Lawful.{Lawful, Made, Both, Nothing, nothing, Lawful-done, Lawful-both, Lawful-reads, Lawful-same}
use Rattle.tal_syntax.proofs.LawfulChoices.{Chosen, Lawful-choose, Lawful-one, Opened, opened_law, behind_key, each_key, key_there, law_of, led, led_by_mark, lead}
use Rattle.tal_syntax.proofs.TokenLaws.{Lawful-name, Lawful-number_lexeme, Lawful-mark, Lawful-end, marked, ended, some_is}
use Rattle.tal_syntax.proofs.TypeLaws.{Lawful-type}
use Rattle.tal_syntax.proofs.ListLaws.{Lawful-rows, Starts}

-- ---- registers with their types

typed_is : (r x : Reg) → typed r ≡ Some x → (r ≡ x) × (x ≢ Esp)
typed_is Esp x e = absurd cc
typed_is r x e = (some_is r x e, λ h. let k = some_is r x e in absurd cc)

typed_there : (x : Reg) (t : Lexeme) → of_typed t ≡ Some x → typed_says x (t ∷ [])
typed_there x (Register r) e = let k = typed_is r x e in (ap (λ (q : Reg). Register q ∷ []) k.0, k.1)
typed_there x t e = absurd cc

typed_some : (x : Reg) → x ≢ Esp → of_typed (Register x) ≡ Some x
typed_some Esp h = absurd (h refl)
typed_some x h = refl

Lawful-typed : Lawful typed_at typed_says
unfolding typed_at
Lawful-typed = Lawful-one of_typed typed_says typed_there (λ x ts s. (Register x, s.0, typed_some x s.1)) (record { value = Eax; text = Register Eax ∷ []; says = (refl, λ h. absurd cc) })

pub Lawful-reg_type : Lawful reg_type_at reg_type_says
unfolding reg_type_at
Lawful-reg_type =
    Lawful-same (reads reg_type (both typed_at type_at)) (Made reg_type (Both typed_says type_says)) reg_type_says (Lawful-reads reg_type (Lawful-both Lawful-typed Lawful-type))
    (λ x ts s. subst (λ (y : RegType). reg_type_says y ts) (sym s.value) s.says)
    (λ x ts s. record { of = (x.reg, x.ty); value = refl; says = s })

reg_type_starts : (x : RegType) (ts : List Lexeme) → reg_type_says x ts → Starts (is_mark 41) ts
reg_type_starts x ts s = record { token = Register x.reg; back = s.back; parts = s.parts ∙ ap (λ (l : List Lexeme). l ++ s.back) s.one.0; is = refl }

pub Lawful-params : Lawful (rows_at 41 reg_type_at) (list_says 41 reg_type_says)
Lawful-params = Lawful-rows 41 reg_type_at reg_type_says Lawful-reg_type refl reg_type_starts

-- ---- numbers of arrays

Lawful-list : Lawful (rows_at 125 number_at) (list_says 125 number_lexeme)
Lawful-list = Lawful-rows 125 number_at number_lexeme Lawful-number_lexeme refl (λ x ts s. record { token = Number x; back = []; parts = s; is = refl })

-- a list behind its opening mark, and the line's end
abbrev listed : Option (List ℤ) → List Lexeme → Type 0
listed = Made (λ x. Some x.0) (Both (list_says 125 number_lexeme) ended)

abbrev numbers_rest : Lexeme → Option (List ℤ) → List Lexeme → Type 0
numbers_rest EndOfLine = Nothing None
numbers_rest (Mark b) = Opened 123 listed b
numbers_rest _ = λ x ts. ⊥

numbers_laws : (t : Lexeme) (p : Read (Option (List ℤ))) → numbers_of t ≡ Some p → Lawful p (numbers_rest t)
numbers_laws EndOfLine p e = law_of (Lawful-done None) e
numbers_laws (Mark b) p e = opened_law 123 b (eqb b 123) (Lawful-reads (λ x. Some x.0) (Lawful-both Lawful-list Lawful-end)) refl e
numbers_laws _ p e = absurd cc

numbers_there : (t : Lexeme) (x : Option (List ℤ)) (ts : List Lexeme) → numbers_rest t x ts → numbers_says x (t ∷ ts)
numbers_there EndOfLine x ts s = rw (s.none, s.value) refl
numbers_there (Mark b) x ts s = led_by_mark numbers_says 123 b x ts s (λ y us j. j)
numbers_there _ x ts s = absurd s

numbers_back : (x : Option (List ℤ)) (ts : List Lexeme) → numbers_says x ts → Chosen numbers_of numbers_rest x ts
numbers_back None ts s = record { token = EndOfLine; back = []; parts = s; way = _; picks = refl; two = nothing None }
numbers_back (Some ns) ts s = record { token = Mark 123; back = s.back; parts = lead (Mark 123) ts s; way = _; picks = refl; two = record { is = refl; two = record { of = (ns, tt); value = refl; says = s.two } } }

Lawful-numbers : Lawful numbers_at numbers_says
unfolding numbers_at
Lawful-numbers = Lawful-choose numbers_of numbers_rest numbers_says numbers_laws numbers_there numbers_back (record { value = None; text = EndOfLine ∷ []; says = refl })

-- ---- parents

abbrev parent_rest : Lexeme → Option (List ℕ) → List Lexeme → Type 0
parent_rest EndOfLine = Nothing None
parent_rest (Key key.Below) = Made (λ x. Some x.0) (Both name ended)
parent_rest _ = λ x ts. ⊥

parent_laws : (t : Lexeme) (p : Read (Option (List ℕ))) → parent_behind t ≡ Some p → Lawful p (parent_rest t)
parent_laws EndOfLine p e = law_of (Lawful-done None) e
parent_laws (Key key.Below) p e = law_of (Lawful-reads (λ x. Some x.0) (Lawful-both Lawful-name Lawful-end)) e
parent_laws _ p e = absurd cc

parent_there : (t : Lexeme) (x : Option (List ℕ)) (ts : List Lexeme) → parent_rest t x ts → parent_says x (t ∷ ts)
parent_there EndOfLine x ts s = rw (s.none, s.value) refl
parent_there (Key key.Below) x ts s = led parent_says (Key key.Below) x ts s (λ y us j. j)
parent_there _ x ts s = absurd s

parent_back : (x : Option (List ℕ)) (ts : List Lexeme) → parent_says x ts → Chosen parent_behind parent_rest x ts
parent_back None ts s = record { token = EndOfLine; back = []; parts = s; way = _; picks = refl; two = nothing None }
parent_back (Some p) ts s = record { token = Key key.Below; back = s.back; parts = lead (Key key.Below) ts s; way = _; picks = refl; two = record { of = (p, tt); value = refl; says = s.two } }

Lawful-parent : Lawful parent_at parent_says
unfolding parent_at
Lawful-parent = Lawful-choose parent_behind parent_rest parent_says parent_laws parent_there parent_back (record { value = None; text = EndOfLine ∷ []; says = refl })

-- ---- behind `extern`

-- the sentences behind `extern`
abbrev outer_says : Form → List Lexeme → Type 0
outer_says x ts = outside_says x (Key key.Extern ∷ ts)

abbrev outer_rest : Keyword → Form → List Lexeme → Type 0
outer_rest key.Sig = Made (λ x. form.Sig true x.0 x.1.1.0 x.1.1.1.0) (Both name (Both (marked 40) (Both (list_says 41 reg_type_says) (Both type_says ended))))
outer_rest key.Kind = Made (λ x. form.Kind true x.0 x.1.0) (Both name (Both type_says ended))
outer_rest key.Static = Made (λ x. form.Static true x.0 x.1.0) (Both name (Both type_says ended))
outer_rest key.Data = Made (λ x. form.DataArray true x.0 x.1.0 x.1.1.0 None) (Both name (Both name (Both number_lexeme ended)))
outer_rest key.Class = Made (λ x. form.Class true x.0 x.1) (Both name parent_says)
outer_rest key.Func = Made (λ x. form.Func true x.0 x.1.0) (Both name (Both name ended))
outer_rest _ = λ x ts. ⊥

outer_laws : (k : Keyword) (p : Read Form) → extern_key k ≡ Some p → Lawful p (outer_rest k)
unfolding sig_at kind_at static_at outer_data_at class_at func_at
outer_laws key.Sig p e = law_of (Lawful-reads (λ x. form.Sig true x.0 x.1.1.0 x.1.1.1.0) (Lawful-both Lawful-name (Lawful-both (Lawful-mark 40) (Lawful-both Lawful-params (Lawful-both Lawful-type Lawful-end))))) e
outer_laws key.Kind p e = law_of (Lawful-reads (λ x. form.Kind true x.0 x.1.0) (Lawful-both Lawful-name (Lawful-both Lawful-type Lawful-end))) e
outer_laws key.Static p e = law_of (Lawful-reads (λ x. form.Static true x.0 x.1.0) (Lawful-both Lawful-name (Lawful-both Lawful-type Lawful-end))) e
outer_laws key.Data p e = law_of (Lawful-reads (λ x. form.DataArray true x.0 x.1.0 x.1.1.0 None) (Lawful-both Lawful-name (Lawful-both Lawful-name (Lawful-both Lawful-number_lexeme Lawful-end)))) e
outer_laws key.Class p e = law_of (Lawful-reads (λ x. form.Class true x.0 x.1) (Lawful-both Lawful-name Lawful-parent)) e
outer_laws key.Func p e = law_of (Lawful-reads (λ x. form.Func true x.0 x.1.0) (Lawful-both Lawful-name (Lawful-both Lawful-name Lawful-end))) e
outer_laws _ p e = absurd cc

-- a sentence with `extern` before it
outer : {L : List Lexeme → Type 0} (us : List Lexeme) → L us → (token (Key key.Extern) ⊕ L) (Key key.Extern ∷ us)
outer us j = record { front = Key key.Extern ∷ []; back = us; parts = refl; one = refl; two = j }

outer_there : (k : Keyword) (x : Form) (ts : List Lexeme) → outer_rest k x ts → outer_says x (Key k ∷ ts)
outer_there key.Sig x ts s = led outer_says (Key key.Sig) x ts s (λ y us j. outer us j)
outer_there key.Kind x ts s = led outer_says (Key key.Kind) x ts s (λ y us j. outer us j)
outer_there key.Static x ts s = led outer_says (Key key.Static) x ts s (λ y us j. outer us j)
outer_there key.Data x ts s = led outer_says (Key key.Data) x ts s (λ y us j. outer us j)
outer_there key.Class x ts s = led outer_says (Key key.Class) x ts s (λ y us j. outer us j)
outer_there key.Func x ts s = led outer_says (Key key.Func) x ts s (λ y us j. outer us j)
outer_there _ x ts s = absurd s

-- what stands behind `extern`
inner : {L : List Lexeme → Type 0} (ts : List Lexeme) → (token (Key key.Extern) ⊕ L) (Key key.Extern ∷ ts) → L ts
inner {L} ts s =
    let e = lead (Key key.Extern) (Key key.Extern ∷ ts) s in
    let same : s.back ≡ ts = cc in
    subst L same s.two

-- no other word stands where `extern` does
clash : {L : List Lexeme → Type 0} (k : Keyword) (ts : List Lexeme) → (token (Key k) ⊕ L) (Key key.Extern ∷ ts) → k ≡ key.Extern
clash k ts s = let e = lead (Key k) (Key key.Extern ∷ ts) s in cc

outer_back : (x : Form) (ts : List Lexeme) → outer_says x ts → Chosen (by_key extern_key) (behind_key outer_rest) x ts
outer_back (form.Sig true n rs t) ts s = let j = inner ts s in record { token = Key key.Sig; back = j.back; parts = lead (Key key.Sig) ts j; way = _; picks = refl; two = record { of = (n, (tt, (rs, (t, tt)))); value = refl; says = j.two } }
outer_back (form.Sig false n rs t) ts s = absurd (let e = clash key.Sig ts s in cc)
outer_back (form.Kind true n t) ts s = let j = inner ts s in record { token = Key key.Kind; back = j.back; parts = lead (Key key.Kind) ts j; way = _; picks = refl; two = record { of = (n, (t, tt)); value = refl; says = j.two } }
outer_back (form.Kind false n t) ts s = absurd (let e = clash key.Kind ts s in cc)
outer_back (form.Static true n t) ts s = let j = inner ts s in record { token = Key key.Static; back = j.back; parts = lead (Key key.Static) ts j; way = _; picks = refl; two = record { of = (n, (t, tt)); value = refl; says = j.two } }
outer_back (form.Static false n t) ts s = absurd (let e = clash key.Static ts s in cc)
outer_back (form.DataArray true n k l None) ts s = let j = inner ts s in record { token = Key key.Data; back = j.back; parts = lead (Key key.Data) ts j; way = _; picks = refl; two = record { of = (n, (k, (l, tt))); value = refl; says = j.two } }
outer_back (form.DataArray true n k l (Some ns)) ts s = absurd s
outer_back (form.DataArray false n k l ns) ts s = absurd (let e = clash key.Data ts s in cc)
outer_back (form.Class true n p) ts s = let j = inner ts s in record { token = Key key.Class; back = j.back; parts = lead (Key key.Class) ts j; way = _; picks = refl; two = record { of = (n, p); value = refl; says = j.two } }
outer_back (form.Class false n p) ts s = absurd (let e = clash key.Class ts s in cc)
outer_back (form.Func true n f) ts s = let j = inner ts s in record { token = Key key.Func; back = j.back; parts = lead (Key key.Func) ts j; way = _; picks = refl; two = record { of = (n, (f, tt)); value = refl; says = j.two } }
outer_back (form.Func false n f) ts s = absurd (let e = clash key.Func ts s in cc)
outer_back (form.Heap n) ts s = absurd (let e = clash key.Heap ts s in cc)
outer_back (form.Stacks n) ts s = absurd (let e = clash key.Stacks ts s in cc)
outer_back (form.Entry stack f) ts s = absurd (let e = clash key.Entry ts s in cc)
outer_back _ ts s = absurd s

Lawful-extern : Lawful extern_at outer_says
unfolding extern_at
Lawful-extern =
    Lawful-choose (by_key extern_key) (behind_key outer_rest) outer_says (each_key extern_key outer_rest outer_laws) (key_there outer_rest outer_says outer_there) outer_back
    (record { value = form.Func true [] []; text = _; says = outer _ (record { front = Key key.Func ∷ []; back = Name [] ∷ Name [] ∷ EndOfLine ∷ []; parts = refl; one = refl; two = record { front = Name [] ∷ []; back = Name [] ∷ EndOfLine ∷ []; parts = refl; one = refl; two = record { front = Name [] ∷ []; back = EndOfLine ∷ []; parts = refl; one = refl; two = refl } } }) })

-- ---- all of them

abbrev rest : Keyword → Form → List Lexeme → Type 0
rest key.Heap = Made (λ x. form.Heap x.0) (Both number_lexeme ended)
rest key.Stacks = Made (λ x. form.Stacks x.0) (Both number_lexeme ended)
rest key.Entry = Made (λ x. form.Entry x.0 x.1.0) (Both number_lexeme (Both name ended))
rest key.Sig = Made (λ x. form.Sig false x.0 x.1.1.0 x.1.1.1.0) (Both name (Both (marked 40) (Both (list_says 41 reg_type_says) (Both type_says ended))))
rest key.Kind = Made (λ x. form.Kind false x.0 x.1.0) (Both name (Both type_says ended))
rest key.Static = Made (λ x. form.Static false x.0 x.1.0) (Both name (Both type_says ended))
rest key.Data = Made (λ x. form.DataArray false x.0 x.1.0 x.1.1.0 x.1.1.1) (Both name (Both name (Both number_lexeme numbers_says)))
rest key.Class = Made (λ x. form.Class false x.0 x.1) (Both name parent_says)
rest key.Func = Made (λ x. form.Func false x.0 x.1.0) (Both name (Both name ended))
rest key.Extern = outer_says
rest _ = λ x ts. ⊥

laws : (k : Keyword) (p : Read Form) → outside_key k ≡ Some p → Lawful p (rest k)
unfolding heap_at stacks_at entry_at sig_at kind_at static_at data_at class_at func_at
laws key.Heap p e = law_of (Lawful-reads (λ x. form.Heap x.0) (Lawful-both Lawful-number_lexeme Lawful-end)) e
laws key.Stacks p e = law_of (Lawful-reads (λ x. form.Stacks x.0) (Lawful-both Lawful-number_lexeme Lawful-end)) e
laws key.Entry p e = law_of (Lawful-reads (λ x. form.Entry x.0 x.1.0) (Lawful-both Lawful-number_lexeme (Lawful-both Lawful-name Lawful-end))) e
laws key.Sig p e = law_of (Lawful-reads (λ x. form.Sig false x.0 x.1.1.0 x.1.1.1.0) (Lawful-both Lawful-name (Lawful-both (Lawful-mark 40) (Lawful-both Lawful-params (Lawful-both Lawful-type Lawful-end))))) e
laws key.Kind p e = law_of (Lawful-reads (λ x. form.Kind false x.0 x.1.0) (Lawful-both Lawful-name (Lawful-both Lawful-type Lawful-end))) e
laws key.Static p e = law_of (Lawful-reads (λ x. form.Static false x.0 x.1.0) (Lawful-both Lawful-name (Lawful-both Lawful-type Lawful-end))) e
laws key.Data p e = law_of (Lawful-reads (λ x. form.DataArray false x.0 x.1.0 x.1.1.0 x.1.1.1) (Lawful-both Lawful-name (Lawful-both Lawful-name (Lawful-both Lawful-number_lexeme Lawful-numbers)))) e
laws key.Class p e = law_of (Lawful-reads (λ x. form.Class false x.0 x.1) (Lawful-both Lawful-name Lawful-parent)) e
laws key.Func p e = law_of (Lawful-reads (λ x. form.Func false x.0 x.1.0) (Lawful-both Lawful-name (Lawful-both Lawful-name Lawful-end))) e
laws key.Extern p e = law_of Lawful-extern e
laws _ p e = absurd cc

there : (k : Keyword) (x : Form) (ts : List Lexeme) → rest k x ts → outside_says x (Key k ∷ ts)
there key.Heap x ts s = led outside_says (Key key.Heap) x ts s (λ y us j. j)
there key.Stacks x ts s = led outside_says (Key key.Stacks) x ts s (λ y us j. j)
there key.Entry x ts s = led outside_says (Key key.Entry) x ts s (λ y us j. j)
there key.Sig x ts s = led outside_says (Key key.Sig) x ts s (λ y us j. j)
there key.Kind x ts s = led outside_says (Key key.Kind) x ts s (λ y us j. j)
there key.Static x ts s = led outside_says (Key key.Static) x ts s (λ y us j. j)
there key.Data x ts s = led outside_says (Key key.Data) x ts s (λ y us j. j)
there key.Class x ts s = led outside_says (Key key.Class) x ts s (λ y us j. j)
there key.Func x ts s = led outside_says (Key key.Func) x ts s (λ y us j. j)
there key.Extern x ts s = s
there _ x ts s = absurd s

-- a sentence with `extern`, cut behind it
parted : (x : Form) (ts : List Lexeme) {L : List Lexeme → Type 0} → (s : (token (Key key.Extern) ⊕ L) ts) → outside_says x ts → Chosen (by_key outside_key) (behind_key rest) x ts
parted x ts s says = record { token = Key key.Extern; back = s.back; parts = lead (Key key.Extern) ts s; way = _; picks = refl; two = subst (λ (l : List Lexeme). outside_says x l) (lead (Key key.Extern) ts s) says }

back : (x : Form) (ts : List Lexeme) → outside_says x ts → Chosen (by_key outside_key) (behind_key rest) x ts
back (form.Heap n) ts s = record { token = Key key.Heap; back = s.back; parts = lead (Key key.Heap) ts s; way = _; picks = refl; two = record { of = (n, tt); value = refl; says = s.two } }
back (form.Stacks n) ts s = record { token = Key key.Stacks; back = s.back; parts = lead (Key key.Stacks) ts s; way = _; picks = refl; two = record { of = (n, tt); value = refl; says = s.two } }
back (form.Entry stack f) ts s = record { token = Key key.Entry; back = s.back; parts = lead (Key key.Entry) ts s; way = _; picks = refl; two = record { of = (stack, (f, tt)); value = refl; says = s.two } }
back (form.Sig false n rs t) ts s = record { token = Key key.Sig; back = s.back; parts = lead (Key key.Sig) ts s; way = _; picks = refl; two = record { of = (n, (tt, (rs, (t, tt)))); value = refl; says = s.two } }
back (form.Sig true n rs t) ts s = parted (form.Sig true n rs t) ts s s
back (form.Kind false n t) ts s = record { token = Key key.Kind; back = s.back; parts = lead (Key key.Kind) ts s; way = _; picks = refl; two = record { of = (n, (t, tt)); value = refl; says = s.two } }
back (form.Kind true n t) ts s = parted (form.Kind true n t) ts s s
back (form.Static false n t) ts s = record { token = Key key.Static; back = s.back; parts = lead (Key key.Static) ts s; way = _; picks = refl; two = record { of = (n, (t, tt)); value = refl; says = s.two } }
back (form.Static true n t) ts s = parted (form.Static true n t) ts s s
back (form.DataArray false n k l ns) ts s = record { token = Key key.Data; back = s.back; parts = lead (Key key.Data) ts s; way = _; picks = refl; two = record { of = (n, (k, (l, ns))); value = refl; says = s.two } }
back (form.DataArray true n k l None) ts s = parted (form.DataArray true n k l None) ts s s
back (form.DataArray true n k l (Some ns)) ts s = absurd s
back (form.Class false n p) ts s = record { token = Key key.Class; back = s.back; parts = lead (Key key.Class) ts s; way = _; picks = refl; two = record { of = (n, p); value = refl; says = s.two } }
back (form.Class true n p) ts s = parted (form.Class true n p) ts s s
back (form.Func false n f) ts s = record { token = Key key.Func; back = s.back; parts = lead (Key key.Func) ts s; way = _; picks = refl; two = record { of = (n, (f, tt)); value = refl; says = s.two } }
back (form.Func true n f) ts s = parted (form.Func true n f) ts s s
back _ ts s = absurd s

pub Lawful-outside : Lawful outside_at outside_says
unfolding outside_at
Lawful-outside =
    Lawful-choose (by_key outside_key) (behind_key rest) outside_says (each_key outside_key rest laws) (key_there rest outside_says there) back
    (record { value = form.Heap (pos 0); text = Key key.Heap ∷ Number (pos 0) ∷ EndOfLine ∷ []; says = record { front = Key key.Heap ∷ []; back = Number (pos 0) ∷ EndOfLine ∷ []; parts = refl; one = refl; two = record { front = Number (pos 0) ∷ []; back = EndOfLine ∷ []; parts = refl; one = refl; two = refl } } })
