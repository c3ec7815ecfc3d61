-- Whether a line is in service: item by item, and in one sentence.
use Rattle.std.proofs.Common.{◌≡◌, ℕ, zero, suc, [], ◌∷◌, ◌++◌, true, false, not, ◌&&◌, ◌||◌, refl, sym, ap, subst, ◌∙◌, inl, inr}
use Rattle.std.specs.Prelude.{IsTrue}
use Rattle.std.proofs.lemmas.Bool.{or_cases, and_parts, or_left, or_right, and_from, true≢false, not-true, not_from_false, cases_Bool}
use Rattle.device_model.specs.History.{Item, History, ends_service, grants, GrantedUntil, LowerInService, InService}
use Rattle.device_model.specs.LineBits.{any_below}
use Rattle.device_model.specs.ItemByItem.{is_served}
use Rattle.device_model.proofs.Lists.{head_of, tail_of}

-- A list with an item in it is not empty.
not_empty : (x : Item) (s t : History) → [] ≡ s ++ x ∷ t → ⊥
not_empty x [] t e = cc
not_empty x (y ∷ s) t e = cc

-- a grant begins it
granted_now : (lower : History → Type 0) (line : ℕ) (x : Item) (h : History) → grants line x ≡ true → GrantedUntil lower line (x ∷ h)
granted_now lower line x h g = record { later = []; grant = x; before = h; parts = refl; granted = g; served = λ after y between e ends. absurd (not_empty y after between e) }

-- an item that ends nothing lets it last
served_cons : (lower : History → Type 0) (x : Item) (later rest : History) → (ends_service x ≡ true → lower (later ++ rest))
    → ((after : History) (y : Item) (between : History) → later ≡ after ++ y ∷ between → IsTrue (ends_service y) → lower (between ++ rest))
    → (after : History) (y : Item) (between : History) → x ∷ later ≡ after ++ y ∷ between → IsTrue (ends_service y) → lower (between ++ rest)
served_cons lower x later rest now old [] y between e ends =
    subst (λ (t : History). lower (t ++ rest)) (tail_of x y later between e) (now (ap ends_service (head_of x y later between e) ∙ ends))
served_cons lower x later rest now old (z ∷ after) y between e ends = old after y between (tail_of x z later (after ++ y ∷ between) e) ends

-- A service lasts over an item, if it ends none or finds a lower line in service.
lasts : (lower : History → Type 0) (line : ℕ) (x : Item) (h : History) → (ends_service x ≡ true → lower h) → GrantedUntil lower line h → GrantedUntil lower line (x ∷ h)
lasts lower line x h now g = record {
  later = x ∷ g.later;
  grant = g.grant;
  before = g.before;
  parts = ap (λ t. x ∷ t) g.parts;
  granted = g.granted;
  served = served_cons lower x g.later (g.grant ∷ g.before) (λ ends. subst lower g.parts (now ends)) g.served;
}

-- ---- what is computed is so, and the other way, for a line and all below it
lower_sound : (h : History) → ((line : ℕ) → is_served h line ≡ true → InService line h) → (line : ℕ) → any_below (is_served h) line ≡ true → LowerInService line h
lower_sound h a zero e = true≢false (sym e)
lower_sound h a (suc n) e = elim (or_cases (any_below (is_served h) n) (is_served h n) e) [ inl l ↦ inl (lower_sound h a n l) | inr r ↦ inr (a n r) ]

-- The same for the lines below, the other way round.
lower_complete : (h : History) → ((line : ℕ) → InService line h → is_served h line ≡ true) → (line : ℕ) → LowerInService line h → any_below (is_served h) line ≡ true
lower_complete h a zero e = absurd e
lower_complete h a (suc n) e =
    elim e [ inl l ↦ or_left (any_below (is_served h) n) (is_served h n) (lower_complete h a n l) | inr r ↦ or_right (any_below (is_served h) n) (is_served h n) (a n r) ]

-- What is computed to be in service is.
pub served_sound : (h : History) (line : ℕ) → is_served h line ≡ true → InService line h
unfolding is_served
served_sound [] line e = absurd (true≢false (sym e))
served_sound (x ∷ h) line e =
    elim (or_cases (grants line x) (is_served h line && (not (ends_service x) || any_below (is_served h) line)) e) [
      | inl g ↦ granted_now (LowerInService line) line x h g
      | inr old ↦
          let p = and_parts (is_served h line) (not (ends_service x) || any_below (is_served h) line) old in
          lasts (LowerInService line) line x h
          (λ ends. elim (or_cases (not (ends_service x)) (any_below (is_served h) line) p.1) [
            | inl no_end ↦ absurd (true≢false (sym ends ∙ not-true (ends_service x) no_end))
            | inr lower ↦ lower_sound h (served_sound h) line lower
          ])
          (served_sound h line p.0)
    ]

-- what stands behind the latest item, where that grants nothing
record Behind (lower : History → Type 0) (line : ℕ) (x : Item) (h : History) : Type 0 where
  still : GrantedUntil lower line h
  now : ends_service x ≡ true → lower h

-- A service whose line the latest item does not grant held before that item.
behind : (lower : History → Type 0) (line : ℕ) (x : Item) (h : History) (later : History) (grant : Item) (before : History)
    → x ∷ h ≡ later ++ grant ∷ before → grants line grant ≡ true → grants line x ≡ false
    → ((after : History) (y : Item) (between : History) → later ≡ after ++ y ∷ between → IsTrue (ends_service y) → lower (between ++ grant ∷ before)) → Behind lower line x h
behind lower line x h [] grant before e g none served = absurd (true≢false (sym g ∙ (ap (grants line) (sym (head_of x grant h before e)) ∙ none)))
behind lower line x h (y ∷ later) grant before e g none served =
    let rest : h ≡ later ++ grant ∷ before = tail_of x y h (later ++ grant ∷ before) e in
    record {
      still = record {
        later = later;
        grant = grant;
        before = before;
        parts = rest;
        granted = g;
        served = λ after z between s ends. served (y ∷ after) z between (ap (λ t. y ∷ t) s) ends;
      };
      now = λ ends. subst lower (sym rest) (served [] y later refl (sym (ap ends_service (head_of x y h (later ++ grant ∷ before) e)) ∙ ends));
    }

-- What is in service is computed to be.
pub served_complete : (h : History) (line : ℕ) → InService line h → is_served h line ≡ true
unfolding is_served
served_complete [] line s = absurd (not_empty s.grant s.later s.before s.parts)
served_complete (x ∷ h) line s =
    elim (cases_Bool (grants line x)) [
      | inl g ↦ or_left (grants line x) (is_served h line && (not (ends_service x) || any_below (is_served h) line)) g
      | inr none ↦
          let b = behind (LowerInService line) line x h s.later s.grant s.before s.parts s.granted none s.served in
          or_right (grants line x) (is_served h line && (not (ends_service x) || any_below (is_served h) line))
          (and_from (is_served h line) (not (ends_service x) || any_below (is_served h) line) (served_complete h line b.still)
          (elim (cases_Bool (ends_service x)) [
            | inl ends ↦ or_right (not (ends_service x)) (any_below (is_served h) line) (lower_complete h (served_complete h) line (b.now ends))
            | inr no_end ↦ or_left (not (ends_service x)) (any_below (is_served h) line) (not_from_false (ends_service x) no_end)
          ]))
    ]
