-- Causes of one part of a list are causes of the whole, and a list has one first cause.
use Rattle.std.specs.Prelude.{Option, Some}
use Rattle.std.proofs.Common.{◌≡◌, List, ℕ, [], ◌∷◌, ◌++◌, inl, inr, subst, sym, ◌∙◌}
use Rattle.outside.specs.FileMaps.{FileMap}
use Rattle.verve_tool.specs.Causes.{Cause, Missing, Holds, ComesTo, NoneHolds, OneCause}
use Rattle.verve_tool.specs.Seen.{FilesSeen}
use Rattle.verve_tool.specs.Stops.{StopsBy, StopsAt}
use Rattle.verve_tool.specs.declared.stop.Stop.{Stop}
use Rattle.verve_tool.specs.declared.stop.Stop.TheVariants.{Read}

-- more causes behind change nothing
comes_more : (told : Option FileMap) (cs ds : List Cause) (c : Cause) → ComesTo told cs c → ComesTo told (cs ++ ds) c
comes_more told [] ds c h = absurd h
comes_more told (x ∷ cs) ds c (inl is) = inl is
comes_more told (x ∷ cs) ds c (inr h) = inr (h.0, comes_more told cs ds c h.1)

-- nor do causes before, none of which holds
comes_later : (told : Option FileMap) (cs ds : List Cause) (c : Cause) → NoneHolds told cs → ComesTo told ds c → ComesTo told (cs ++ ds) c
comes_later told [] ds c none h = h
comes_later told (x ∷ cs) ds c none h = inr (none.0, comes_later told cs ds c none.1 h)

-- so what stops a command by some causes stops it by these between others
comes_between : (told : Option FileMap) (cs ds es : List Cause) (c : Cause) → NoneHolds told cs → ComesTo told ds c → ComesTo told (cs ++ (ds ++ es)) c
comes_between told cs ds es c none h = comes_later told cs (ds ++ es) c none (comes_more told ds es c h)

pub stops_between : (before after : FilesSeen) (cs ds es : List Cause) (s : Stop) → NoneHolds before.told cs → StopsAt before after ds s
    → StopsAt before after (cs ++ (ds ++ es)) s
stops_between before after cs ds es (Read n) none h = (comes_between before.told cs ds es (Missing n.now) none h.0, h.1, h.2)
stops_between before after cs ds es s none (inl want) = inl want
stops_between before after cs ds es s none (inr first) = inr (record {
  cause = first.cause;
  first = record { comes = comes_between before.told cs ds es first.cause none first.first.comes; holds = first.first.holds };
  status = first.status;
})

-- bytes that were read stop a command whose files they are
pub stops_by_bytes : (before after : FilesSeen) (cs : List Cause) (s : Stop) → StopsBy before.told cs s → StopsAt before after cs s
stops_by_bytes before after cs (Read n) h = absurd h
stops_by_bytes before after cs s h = h

-- two causes to which a command comes and which hold are one
one_coming : (files : FileMap) (cs : List Cause) (a b : Cause) (s t : List ℕ) → ComesTo (Some files) cs a → ComesTo (Some files) cs b
    → Holds (Some files) a s → Holds (Some files) b t → a ≡ b
one_coming files [] a b s t x y p q = absurd x
one_coming files (c ∷ cs) a b s t (inl x) (inl y) p q = x ∙ sym y
one_coming files (c ∷ cs) a b s t (inl x) (inr y) p q = absurd (y.0 s (subst (λ (k : Cause). Holds (Some files) k s) x p))
one_coming files (c ∷ cs) a b s t (inr x) (inl y) p q = absurd (x.0 t (subst (λ (k : Cause). Holds (Some files) k t) y q))
one_coming files (c ∷ cs) a b s t (inr x) (inr y) p q = one_coming files cs a b s t x.1 y.1 p q

-- where a cause holds to which a command comes, some cause holds
coming_holds : (files : FileMap) (cs : List Cause) (a : Cause) (s : List ℕ) → ComesTo (Some files) cs a → Holds (Some files) a s
    → NoneHolds (Some files) cs → ⊥
coming_holds files [] a s x p none = x
coming_holds files (c ∷ cs) a s (inl x) p none = none.0 s (subst (λ (k : Cause). Holds (Some files) k s) x p)
coming_holds files (c ∷ cs) a s (inr x) p none = coming_holds files cs a s x.1 p none.1

-- told files decide one thing of a list of causes
pub one_cause : (files : FileMap) (cs : List Cause) → OneCause files cs
one_cause files cs = record {
  one_first = λ a b s t x y. one_coming files cs a b s t x.comes y.comes x.holds y.holds;
  not_both = λ a s x none. coming_holds files cs a s x.comes x.holds none;
}
