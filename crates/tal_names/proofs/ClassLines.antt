-- The lines of a class, one after another.
use Rattle.std.proofs.Common.{◌≡◌, ◌<◌, ◌+◌, ℕ, suc, List, ◌∷◌, Option, Some, None, true, false, is_some, length, drop, get_or, add-one, drop-cons, refl, sym, ap, ◌∙◌}
use Rattle.std.specs.Option.{option_map_or, unwrap_or}
use Rattle.tal_syntax.specs.declared.module.TextLine.{TextLine}
use Rattle.tal_names.specs.declared.names.ClassNames.{ClassNames}
use Rattle.tal_names.specs.Declarations.{with_member, with_members}

taken : (f : ClassNames → ClassNames) (o : Option ClassNames) (k : ClassNames) → is_some o ≡ true → option_map_or f o k ≡ f (unwrap_or o k)
taken f None k h = absurd (cc)
taken f (Some more) k h = refl

stopped : (f : ClassNames → ClassNames) (o : Option ClassNames) (k : ClassNames) → is_some o ≡ false → option_map_or f o k ≡ unwrap_or o k
stopped f None k h = refl
stopped f (Some more) k h = absurd (cc)

here : (ls : List TextLine) (i : ℕ) (l : TextLine) → i < length ls → l ≡ get_or ls i l → drop i ls ≡ l ∷ drop (i + 1) ls
here ls i l lt is = drop-cons ls i l lt ∙ ap (λ x. x ∷ drop (suc i) ls) (sym is) ∙ ap (λ n. l ∷ drop n ls) (sym (add-one i))

-- a line of the class is taken, and those behind it follow
pub member_taken : (above : List ClassNames) (k : ClassNames) (ls : List TextLine) (i : ℕ) (l : TextLine) → i < length ls → l ≡ get_or ls i l
    → is_some (with_member above k l.form) ≡ true → with_members above k (drop i ls) ≡ with_members above (unwrap_or (with_member above k l.form) k) (drop (i + 1) ls)
unfolding with_members
member_taken above k ls i l lt is h = ap (with_members above k) (here ls i l lt is) ∙ taken _ (with_member above k l.form) k h

-- the class ends before another line
pub members_end : (above : List ClassNames) (k : ClassNames) (ls : List TextLine) (i : ℕ) (l : TextLine) → i < length ls → l ≡ get_or ls i l
    → is_some (with_member above k l.form) ≡ false → with_members above k (drop i ls) ≡ unwrap_or (with_member above k l.form) k
unfolding with_members
members_end above k ls i l lt is h = ap (with_members above k) (here ls i l lt is) ∙ stopped _ (with_member above k l.form) k h
