-- What mentions a name, part by part.
use Rattle.std.proofs.Common.{◌≡◌, ◌<◌, ◌+◌, ◌||◌, suc, ℕ, Bool, true, false, List, ◌∷◌, ◌++◌, length, drop, get_or, add-one, drop-cons, sym, ap, ◌∙◌, if◌then◌else◌}
use Rattle.std.proofs.lemmas.List.Folds.{list_any-append}
use Rattle.std.specs.List.{flat_map}
use Rattle.std.specs.Str.{bytes_eq}
use Rattle.tal_syntax.specs.declared.module.TextLine.{TextLine}
use Rattle.tal_names.specs.NameSets.{is_named}
use Rattle.tal_names.specs.Mentions.{line_names}
use Rattle.tal_asm.specs.UnitFor.{first_mention}

-- one of the two mentions it
pub joined_mention : (n : List ℕ) (xs ys : List (List ℕ)) → is_named (xs ++ ys) n ≡ (is_named xs n || is_named ys n)
joined_mention n xs ys = list_any-append (bytes_eq n) xs ys

-- what is left from an item on
here : {X : Type 0} (xs : List X) (i : ℕ) (x : X) → i < length xs → x ≡ get_or xs i x → drop i xs ≡ x ∷ drop (i + 1) xs
here xs i x lt is = drop-cons xs i x lt ∙ ap (λ y. y ∷ drop (suc i) xs) (sym is) ∙ ap (λ n. x ∷ drop n xs) (sym (add-one i))

-- the item mentions it, or those behind it do
pub next_mentions : {X : Type 0} (f : X → List (List ℕ)) (n : List ℕ) (xs : List X) (i : ℕ) (x : X) → i < length xs → x ≡ get_or xs i x
    → is_named (flat_map f (drop i xs)) n ≡ (is_named (f x) n || is_named (flat_map f (drop (i + 1) xs)) n)
next_mentions f n xs i x lt is = ap (λ ys. is_named (flat_map f ys) n) (here xs i x lt is) ∙ joined_mention n (f x) (flat_map f (drop (i + 1) xs))

first_of_two : (n : List ℕ) (l : TextLine) (ls : List TextLine) (b : Bool) → is_named (line_names l) n ≡ b → first_mention n (l ∷ ls) ≡ (if b then l.number else first_mention n ls)
unfolding first_mention
first_of_two n l ls b is = ap (λ c. if c then l.number else first_mention n ls) is

-- the line is the first that mentions it
pub first_here : (n : List ℕ) (ls : List TextLine) (i : ℕ) (l : TextLine) → i < length ls → l ≡ get_or ls i l → is_named (line_names l) n ≡ true → first_mention n (drop i ls) ≡ l.number
first_here n ls i l lt is h = ap (first_mention n) (here ls i l lt is) ∙ first_of_two n l (drop (i + 1) ls) true h

-- one behind it is
pub first_behind : (n : List ℕ) (ls : List TextLine) (i : ℕ) (l : TextLine) → i < length ls → l ≡ get_or ls i l → is_named (line_names l) n ≡ false → first_mention n (drop i ls) ≡ first_mention n (drop (i + 1) ls)
first_behind n ls i l lt is h = ap (first_mention n) (here ls i l lt is) ∙ first_of_two n l (drop (i + 1) ls) false h
