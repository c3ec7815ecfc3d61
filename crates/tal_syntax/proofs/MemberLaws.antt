-- The lines of a class are read exactly.
use Rattle.std.proofs.Common.{◌≡◌, List, [], ◌∷◌, Some, refl}
use Rattle.text_tokens.specs.Token.{Lexeme, Key, EndOfLine}
use Rattle.text_tokens.specs.declared.token.Keyword.{Keyword}
use Rattle.text_tokens.specs.declared.token.Keyword.TheVariants as key
use Rattle.tal_syntax.specs.declared.form.Form.{Form}
use Rattle.tal_syntax.specs.declared.form.Form.TheVariants as form
use Rattle.tal_syntax.specs.Grammar.{name, type_says, member_says}
use Rattle.tal_syntax.specs.Reading.{Read, by_key}
use Rattle.tal_syntax.specs.Forms.{class_key, member_at, field_line_at, method_at, block_end_at}
use Rattle.tal_syntax.proofs.Lawful.{Lawful, Made, Both, Lawful-both, Lawful-reads}
use Rattle.tal_syntax.proofs.LawfulChoices.{Chosen, Lawful-choose, behind_key, each_key, key_there, law_of, led, lead}
use Rattle.tal_syntax.proofs.TokenLaws.{Lawful-name, Lawful-end, ended}
use Rattle.tal_syntax.proofs.TypeLaws.{Lawful-type}

-- what stands behind a line's first word
abbrev rest : Keyword → Form → List Lexeme → Type 0
rest key.Field = Made (λ x. form.Field x.0 x.1.0) (Both name (Both type_says ended))
rest key.Method = Made (λ x. form.Method x.0 x.1.0 x.1.1.0) (Both name (Both name (Both name ended)))
rest key.End = Made (λ u. form.End) ended
rest _ = λ x ts. ⊥

laws : (k : Keyword) (p : Read Form) → class_key k ≡ Some p → Lawful p (rest k)
unfolding field_line_at method_at block_end_at
laws key.Field p e = law_of (Lawful-reads (λ x. form.Field x.0 x.1.0) (Lawful-both Lawful-name (Lawful-both Lawful-type Lawful-end))) e
laws key.Method p e = law_of (Lawful-reads (λ x. form.Method x.0 x.1.0 x.1.1.0) (Lawful-both Lawful-name (Lawful-both Lawful-name (Lawful-both Lawful-name Lawful-end)))) e
laws key.End p e = law_of (Lawful-reads (λ u. form.End) Lawful-end) e
laws _ p e = absurd cc

there : (k : Keyword) (x : Form) (ts : List Lexeme) → rest k x ts → member_says x (Key k ∷ ts)
there key.Field x ts s = led member_says (Key key.Field) x ts s (λ y us j. j)
there key.Method x ts s = led member_says (Key key.Method) x ts s (λ y us j. j)
there key.End x ts s = led member_says (Key key.End) x ts s (λ y us j. j)
there _ x ts s = absurd s

back : (x : Form) (ts : List Lexeme) → member_says x ts → Chosen (by_key class_key) (behind_key rest) x ts
back (form.Field n t) ts s = record { token = Key key.Field; back = s.back; parts = lead (Key key.Field) ts s; way = _; picks = refl; two = record { of = (n, (t, tt)); value = refl; says = s.two } }
back (form.Method n m f) ts s = record { token = Key key.Method; back = s.back; parts = lead (Key key.Method) ts s; way = _; picks = refl; two = record { of = (n, (m, (f, tt))); value = refl; says = s.two } }
back form.End ts s = record { token = Key key.End; back = s.back; parts = lead (Key key.End) ts s; way = _; picks = refl; two = record { of = tt; value = refl; says = s.two } }
back _ ts s = absurd s

pub Lawful-member : Lawful member_at member_says
unfolding member_at
Lawful-member =
    Lawful-choose (by_key class_key) (behind_key rest) member_says (each_key class_key rest laws) (key_there rest member_says there) back
    (record { value = form.End; text = Key key.End ∷ EndOfLine ∷ []; says = record { front = Key key.End ∷ []; back = EndOfLine ∷ []; parts = refl; one = refl; two = refl } })
