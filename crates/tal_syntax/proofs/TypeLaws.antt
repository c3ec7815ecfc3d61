-- Types are read exactly.
use Rattle.std.proofs.Common.{◌≡◌, List, [], ◌∷◌, Some, refl}
use Rattle.text_tokens.specs.Token.{Lexeme, Key}
use Rattle.text_tokens.specs.declared.token.Keyword.{Keyword}
use Rattle.text_tokens.specs.declared.token.Keyword.TheVariants as key
use Rattle.tal_syntax.specs.declared.form.TypeText.{TypeText}
use Rattle.tal_syntax.specs.declared.form.TypeText.TheVariants as ty
use Rattle.tal_syntax.specs.Grammar.{name, type_says}
use Rattle.tal_syntax.specs.Reading.{Read, by_key, is_mark}
use Rattle.tal_syntax.specs.Rows.{type_key, type_at}
use Rattle.tal_syntax.proofs.Lawful.{Lawful, Made, Nothing, nothing, Lawful-done, Lawful-reads}
use Rattle.tal_syntax.proofs.LawfulChoices.{Chosen, Lawful-choose, behind_key, each_key, key_there, law_of, led, lead}
use Rattle.tal_syntax.proofs.TokenLaws.{Lawful-name}
use Rattle.tal_syntax.proofs.ListLaws.{Starts}

-- what stands behind a type's first word
abbrev rest : Keyword → TypeText → List Lexeme → Type 0
rest key.Num = Nothing ty.Num
rest key.Junk = Nothing ty.Junk
rest key.Ref = Made (λ n. ty.Ref n) name
rest key.Obj = Made (λ n. ty.Obj n) name
rest key.ArrRef = Made (λ n. ty.ArrRef n) name
rest key.Arr = Made (λ n. ty.Arr n) name
rest key.Fun = Made (λ n. ty.Fun n) name
rest key.Code = Made (λ n. ty.Code n) name
rest key.Tab = Made (λ n. ty.Tab n) name
rest key.Desc = Made (λ n. ty.Desc n) name
rest _ = λ x ts. ⊥

laws : (k : Keyword) (p : Read TypeText) → type_key k ≡ Some p → Lawful p (rest k)
laws key.Num p e = law_of (Lawful-done ty.Num) e
laws key.Junk p e = law_of (Lawful-done ty.Junk) e
laws key.Ref p e = law_of (Lawful-reads (λ n. ty.Ref n) Lawful-name) e
laws key.Obj p e = law_of (Lawful-reads (λ n. ty.Obj n) Lawful-name) e
laws key.ArrRef p e = law_of (Lawful-reads (λ n. ty.ArrRef n) Lawful-name) e
laws key.Arr p e = law_of (Lawful-reads (λ n. ty.Arr n) Lawful-name) e
laws key.Fun p e = law_of (Lawful-reads (λ n. ty.Fun n) Lawful-name) e
laws key.Code p e = law_of (Lawful-reads (λ n. ty.Code n) Lawful-name) e
laws key.Tab p e = law_of (Lawful-reads (λ n. ty.Tab n) Lawful-name) e
laws key.Desc p e = law_of (Lawful-reads (λ n. ty.Desc n) Lawful-name) e
laws _ p e = absurd cc

there : (k : Keyword) (x : TypeText) (ts : List Lexeme) → rest k x ts → type_says x (Key k ∷ ts)
there key.Num x ts s = rw (s.none, s.value) refl
there key.Junk x ts s = rw (s.none, s.value) refl
there key.Ref x ts s = led type_says (Key key.Ref) x ts s (λ y us j. j)
there key.Obj x ts s = led type_says (Key key.Obj) x ts s (λ y us j. j)
there key.ArrRef x ts s = led type_says (Key key.ArrRef) x ts s (λ y us j. j)
there key.Arr x ts s = led type_says (Key key.Arr) x ts s (λ y us j. j)
there key.Fun x ts s = led type_says (Key key.Fun) x ts s (λ y us j. j)
there key.Code x ts s = led type_says (Key key.Code) x ts s (λ y us j. j)
there key.Tab x ts s = led type_says (Key key.Tab) x ts s (λ y us j. j)
there key.Desc x ts s = led type_says (Key key.Desc) x ts s (λ y us j. j)
there _ x ts s = absurd s

back : (x : TypeText) (ts : List Lexeme) → type_says x ts → Chosen (by_key type_key) (behind_key rest) x ts
back ty.Num ts s = record { token = Key key.Num; back = []; parts = s; way = _; picks = refl; two = nothing ty.Num }
back ty.Junk ts s = record { token = Key key.Junk; back = []; parts = s; way = _; picks = refl; two = nothing ty.Junk }
back (ty.Ref n) ts s = record { token = Key key.Ref; back = s.back; parts = lead (Key key.Ref) ts s; way = _; picks = refl; two = record { of = n; value = refl; says = s.two } }
back (ty.Obj n) ts s = record { token = Key key.Obj; back = s.back; parts = lead (Key key.Obj) ts s; way = _; picks = refl; two = record { of = n; value = refl; says = s.two } }
back (ty.ArrRef n) ts s = record { token = Key key.ArrRef; back = s.back; parts = lead (Key key.ArrRef) ts s; way = _; picks = refl; two = record { of = n; value = refl; says = s.two } }
back (ty.Arr n) ts s = record { token = Key key.Arr; back = s.back; parts = lead (Key key.Arr) ts s; way = _; picks = refl; two = record { of = n; value = refl; says = s.two } }
back (ty.Fun n) ts s = record { token = Key key.Fun; back = s.back; parts = lead (Key key.Fun) ts s; way = _; picks = refl; two = record { of = n; value = refl; says = s.two } }
back (ty.Code n) ts s = record { token = Key key.Code; back = s.back; parts = lead (Key key.Code) ts s; way = _; picks = refl; two = record { of = n; value = refl; says = s.two } }
back (ty.Tab n) ts s = record { token = Key key.Tab; back = s.back; parts = lead (Key key.Tab) ts s; way = _; picks = refl; two = record { of = n; value = refl; says = s.two } }
back (ty.Desc n) ts s = record { token = Key key.Desc; back = s.back; parts = lead (Key key.Desc) ts s; way = _; picks = refl; two = record { of = n; value = refl; says = s.two } }

pub Lawful-type : Lawful type_at type_says
unfolding type_at
Lawful-type = Lawful-choose (by_key type_key) (behind_key rest) type_says (each_key type_key rest laws) (key_there rest type_says there) back (record { value = ty.Num; text = Key key.Num ∷ []; says = refl })

-- a type begins with a word
pub type_starts : (x : TypeText) (ts : List Lexeme) → type_says x ts → Starts (is_mark 93) ts
type_starts ty.Num ts s = record { token = Key key.Num; back = []; parts = s; is = refl }
type_starts ty.Junk ts s = record { token = Key key.Junk; back = []; parts = s; is = refl }
type_starts (ty.Ref n) ts s = record { token = Key key.Ref; back = s.back; parts = lead (Key key.Ref) ts s; is = refl }
type_starts (ty.Obj n) ts s = record { token = Key key.Obj; back = s.back; parts = lead (Key key.Obj) ts s; is = refl }
type_starts (ty.ArrRef n) ts s = record { token = Key key.ArrRef; back = s.back; parts = lead (Key key.ArrRef) ts s; is = refl }
type_starts (ty.Arr n) ts s = record { token = Key key.Arr; back = s.back; parts = lead (Key key.Arr) ts s; is = refl }
type_starts (ty.Fun n) ts s = record { token = Key key.Fun; back = s.back; parts = lead (Key key.Fun) ts s; is = refl }
type_starts (ty.Code n) ts s = record { token = Key key.Code; back = s.back; parts = lead (Key key.Code) ts s; is = refl }
type_starts (ty.Tab n) ts s = record { token = Key key.Tab; back = s.back; parts = lead (Key key.Tab) ts s; is = refl }
type_starts (ty.Desc n) ts s = record { token = Key key.Desc; back = s.back; parts = lead (Key key.Desc) ts s; is = refl }
