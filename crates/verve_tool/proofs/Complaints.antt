-- What a stream gained that was given nothing, or pieces one after another.
use Rattle.std.specs.Prelude.{Option, Some, None, option_map}
use Rattle.std.proofs.Common.{◌≡◌, ◌≤◌, ◌<◌, List, ℕ, suc, [], ◌∷◌, ◌++◌, length, take, drop, get_or, Bor}
use Rattle.std.proofs.Common.{refl, sym, ap, ◌∙◌, subst, append_assoc, inl, inr, arith}
use Rattle.std.proofs.Math.Seq.{split_at}
use Rattle.std.proofs.lemmas.List.{append-nil}
use Rattle.std.proofs.lemmas.Grind.{flat_map-append}
use Rattle.std.specs.List.{flat_map}
use Rattle.outside.specs.Faults.{Faulted, Quiet}
use Rattle.outside.specs.Sinks.{Gained, GainedFront}

-- a stream that nothing was put into
pub gained_nothing : (told : Option (List ℕ)) → Gained told told []
gained_nothing None = refl
gained_nothing (Some bytes) = ap (λ (b : List ℕ). Some b) (sym (append-nil bytes))

-- what was gained whole was gained as a front
pub front_of_whole : (before after : Option (List ℕ)) (bytes : List ℕ) → Gained before after bytes → GainedFront before after bytes
front_of_whole before after bytes g = (bytes, ([], sym (append-nil bytes)), g)

-- bytes that were gained one after another
gained_then : (a b c : Option (List ℕ)) (xs ys : List ℕ) → Gained a b xs → Gained b c ys → Gained a c (xs ++ ys)
gained_then None b c xs ys g h = h ∙ ap (λ o. option_map (λ told. told ++ ys) o) g
gained_then (Some t) b c xs ys g h = h ∙ ap (λ o. option_map (λ told. told ++ ys) o) g ∙ ap (λ (l : List ℕ). Some l) (append_assoc t xs ys)

-- behind bytes that were gained, a front of others is a front of all, whatever follows
front_then : (a b c : Option (List ℕ)) (xs ys zs : List ℕ) → Gained a b xs → GainedFront b c ys → GainedFront a c (xs ++ (ys ++ zs))
front_then a b c xs ys zs g (front, (rest, split), h) =
    let all : xs ++ (ys ++ zs) ≡ (xs ++ front) ++ (rest ++ zs) =
    ap (λ (l : List ℕ). xs ++ (l ++ zs)) split ∙ ap (λ (l : List ℕ). xs ++ l) (append_assoc front rest zs) ∙ sym (append_assoc xs front (rest ++ zs)) in
    (xs ++ front, (rest ++ zs, all), gained_then a b c xs front g h)

-- the bytes of pieces are those before one, its own, and those behind it
split_pieces : (pieces : List (Bor (List ℕ))) (i : ℕ) (d : Bor (List ℕ)) → i < length pieces
    → flat_map (λ p. p.now) pieces ≡ flat_map (λ p. p.now) (take i pieces) ++ ((get_or pieces i d).now ++ flat_map (λ p. p.now) (drop (suc i) pieces))
split_pieces pieces i d low =
    ap (λ (l : List (Bor (List ℕ))). flat_map (λ p. p.now) l) (split_at pieces i d low) ∙
    flat_map-append (λ (p : Bor (List ℕ)). p.now) (take i pieces) (get_or pieces i d ∷ drop (suc i) pieces)

-- the pieces up to one were gained, and a front of that one
pub front_of_pieces : (a b c : Option (List ℕ)) (pieces : List (Bor (List ℕ))) (i : ℕ) (d : Bor (List ℕ)) → i < length pieces
    → Gained a b (flat_map (λ p. p.now) (take i pieces)) → GainedFront b c (get_or pieces i d).now → GainedFront a c (flat_map (λ p. p.now) pieces)
front_of_pieces a b c pieces i d low g h =
    subst (λ (l : List ℕ). GainedFront a c l) (sym (split_pieces pieces i d low)) (front_then a b c _ _ _ g h)

-- a count that did not rise in all had no fault on the way
pub no_fault_on_the_way : (before on after : ℕ) → before ≤ on → on ≤ after → Faulted on after → Quiet before after → ⊥
no_fault_on_the_way before on after x y (inl rose) q = omega (arith, q.0)
no_fault_on_the_way before on after x y (inr full) q = omega (arith, q.0, q.1)
