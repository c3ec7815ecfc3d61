-- Marks, names, numbers and the line's end are read exactly.
use Rattle.std.proofs.Common.{◌≡◌, ℕ, ℤ, pos, Bool, true, false, cond, List, [], ◌∷◌, Option, Some, None, refl, ap, arith}
use Rattle.std.proofs.lemmas.Bool.{eqb-true}
use Rattle.std.proofs.lemmas.Bool.Decides.{nat_tests}
use lib.Dec.{eqb}
use Rattle.text_tokens.specs.Token.{Lexeme, Name, Number, Mark, EndOfLine}
use Rattle.tal_syntax.specs.Grammar.{mark, name, number_lexeme, end_lexeme}
use Rattle.tal_syntax.specs.Reading.{mark_at, of_mark, name_at, of_name, line_end_at, of_end, number_at, of_number}
use Rattle.tal_syntax.proofs.Lawful.{Lawful}
use Rattle.tal_syntax.proofs.LawfulChoices.{Lawful-one}

pub some_is : {A : Type 0} (x y : A) → (let l : Option A = Some x in l) ≡ Some y → x ≡ y
some_is x y e = cc

-- ---- names

name_there : (x : List ℕ) (t : Lexeme) → of_name t ≡ Some x → name x (t ∷ [])
name_there x (Name w) e = ap (λ (n : List ℕ). Name n ∷ []) (some_is w x e)
name_there x t e = absurd cc

pub Lawful-name : Lawful name_at name
unfolding name_at
Lawful-name = Lawful-one of_name name name_there (λ x ts s. (Name x, s, refl)) (record { value = []; text = Name [] ∷ []; says = refl })

-- ---- numbers

number_there : (x : ℤ) (t : Lexeme) → of_number t ≡ Some x → number_lexeme x (t ∷ [])
number_there x (Number n) e = ap (λ (m : ℤ). Number m ∷ []) (some_is n x e)
number_there x t e = absurd cc

pub Lawful-number_lexeme : Lawful number_at number_lexeme
unfolding number_at
Lawful-number_lexeme = Lawful-one of_number number_lexeme number_there (λ x ts s. (Number x, s, refl)) (record { value = pos 0; text = Number (pos 0) ∷ []; says = refl })

-- ---- marks

-- the sentence of a mark
abbrev pub marked : ℕ → Unit {0} → List Lexeme → Type 0
marked m u = mark m

mark_case : (b m : ℕ) (r : Bool) (x : Unit {0}) → eqb b m ≡ r → cond r (Some tt) None ≡ Some x → marked m x (Mark b ∷ [])
mark_case b m true x h e = ap (λ (n : ℕ). Mark n ∷ []) (eqb-true b m h)
mark_case b m false x h e = absurd cc

mark_there : (m : ℕ) (x : Unit {0}) (t : Lexeme) → of_mark m t ≡ Some x → marked m x (t ∷ [])
mark_there m x (Mark b) e = mark_case b m (eqb b m) x refl e
mark_there m x t e = absurd cc

eqb-refl : (n : ℕ) → eqb n n ≡ true
eqb-refl n = grind (arith, nat_tests)

mark_is : (m : ℕ) → of_mark m (Mark m) ≡ Some tt
mark_is m = ap (λ (r : Bool). let o : Option (Unit {0}) = cond r (Some tt) None in o) (eqb-refl m)

pub Lawful-mark : (m : ℕ) → Lawful (mark_at m) (marked m)
unfolding mark_at
Lawful-mark m = Lawful-one (of_mark m) (marked m) (mark_there m) (λ x ts s. (Mark m, s, mark_is m)) (record { value = tt; text = Mark m ∷ []; says = refl })

-- ---- the line's end

-- the sentence of the line's end
abbrev pub ended : Unit {0} → List Lexeme → Type 0
ended u = end_lexeme

end_there : (x : Unit {0}) (t : Lexeme) → of_end t ≡ Some x → ended x (t ∷ [])
end_there x EndOfLine e = refl
end_there x t e = absurd cc

pub Lawful-end : Lawful line_end_at ended
unfolding line_end_at
Lawful-end = Lawful-one of_end ended end_there (λ x ts s. (EndOfLine, s, refl)) (record { value = tt; text = EndOfLine ∷ []; says = refl })
