-- A write to one of the places for files.
use Rattle.std.proofs.Common.{◌≡◌, ◌≢◌, ◌++◌, ◌∷◌, [], ◌+◌, ◌<◌, ◌≤◌, Option, Some, None, IsSomeAnd, option_map, length, take, drop, bytes_eq, ℕ, true, List, get_or, set, sym, refl, ◌∙◌, ap, inl, inr, subst, take_all, arith}
use Rattle.std.proofs.lemmas.List.{take-append-drop, take-set, drop-set, at_drop_more}
use Rattle.std.proofs.lemmas.Slice.Eq.{bytes_eq-Decides}
use Rattle.outside.specs.FileMaps.{IsFront, Writes, LeavesFront}
use Rattle.outside.specs.Shelf.{FilePlace, place_of, files_of, written, HasRoom}
use Rattle.outside.proofs.Fronts.{IsFront-take, IsFront-trans}

-- Setting one item leaves the items before it and those behind.
pub set-splits : (ps : List FilePlace) (i : ℕ) (q : FilePlace) → i < length ps → set ps i q ≡ take i ps ++ q ∷ drop (i + 1) ps
set-splits ps i q below = sym (take-append-drop i (set ps i q)) ∙ (rw (take-set ps i q) (rw (drop-set ps i q below) refl))

-- Where the place at i has the name, setting it to what a write makes of it is the write to the places from i on.
pub set-writes : (ps : List FilePlace) (i : ℕ) (d q : FilePlace) (name bytes : List ℕ) → i < length ps → bytes_eq (get_or ps i d).name name ≡ true → q ≡ record (get_or ps i d) { bytes = Some (take (get_or ps i d).room bytes) } → set ps i q ≡ take i ps ++ written (drop i ps) name bytes
set-writes ps i d q name bytes below named made =
    let here : written (drop i ps) name bytes ≡ q ∷ drop (i + 1) ps = at_drop_more (λ l. written l name bytes) ps i d below ∙ rw (named, made) refl in
    set-splits ps i q below ∙ ap (λ l. take i ps ++ l) (sym here)

-- What a write makes of a place.
abbrev pub rewritten : List ℕ → FilePlace → FilePlace
rewritten bytes p = record p { bytes = Some (take p.room bytes) }

-- The place of the name afterwards is the old one with these bytes.
pub place_of-written : (ps : List FilePlace) (name bytes : List ℕ) → place_of (written ps name bytes) name ≡ option_map (rewritten bytes) (place_of ps name)
place_of-written [] name bytes = refl
place_of-written (p ∷ ps) name bytes = grind (arith, place_of-written ps name bytes)

-- The place of another name stays.
pub place_of-written-other : (ps : List FilePlace) (name bytes other : List ℕ) → other ≢ name → place_of (written ps name bytes) other ≡ place_of ps other
place_of-written-other [] name bytes other differs = refl
place_of-written-other (p ∷ ps) name bytes other differs = grind (arith, place_of-written-other ps name bytes other differs, bytes_eq-Decides p.name name, bytes_eq-Decides p.name other)

-- Where no place has the name nothing changes.
pub written-missing : (ps : List FilePlace) (name bytes : List ℕ) → place_of ps name ≡ None → written ps name bytes ≡ ps
written-missing [] name bytes missing = refl
written-missing (p ∷ ps) name bytes missing = grind (arith, written-missing ps name bytes)

-- Where a place has the name, the write gives it of the bytes what fits.
pub writes-place : (ps : List FilePlace) (name bytes : List ℕ) (p : FilePlace) → place_of ps name ≡ Some p → Writes (Some (files_of ps)) (Some (files_of (written ps name bytes))) name (take p.room bytes)
writes-place ps name bytes p found =
    (rw (place_of-written ps name bytes, found) refl, λ other differs. rw (place_of-written-other ps name bytes other differs) refl)

-- Where all bytes pass and there is room, the file has them all afterwards.
pub writes-all : (ps new : List FilePlace) (name part bytes : List ℕ) → new ≡ written ps name part → part ≡ bytes → HasRoom ps name (length bytes) → Writes (Some (files_of ps)) (Some (files_of new)) name bytes
writes-all ps new name part bytes made all room =
    rw (made, all) (by_place (place_of ps name) refl room)
  where
    by_place : (o : Option FilePlace) → place_of ps name ≡ o → IsSomeAnd o (λ p. length bytes ≤ p.room) → Writes (Some (files_of ps)) (Some (files_of (written ps name bytes))) name bytes
    by_place None found fits = absurd fits
    by_place (Some p) found fits =
        subst (λ l. Writes (Some (files_of ps)) (Some (files_of (written ps name bytes))) name l) (take_all p.room bytes fits) (writes-place ps name bytes p found)

-- Where a front of the bytes passes, the write leaves one, or nothing where no place has the name.
pub leaves_front : (ps new : List FilePlace) (name part bytes : List ℕ) → new ≡ written ps name part → IsFront part bytes → LeavesFront (Some (files_of ps)) (Some (files_of new)) name bytes
leaves_front ps new name part bytes made is_front = rw made (by_place (place_of ps name) refl)
  where
    by_place : (o : Option FilePlace) → place_of ps name ≡ o → LeavesFront (Some (files_of ps)) (Some (files_of (written ps name part))) name bytes
    by_place None missing = inr (rw missing refl, ap (λ l. Some (files_of l)) (written-missing ps name part missing))
    by_place (Some p) found =
        inl (take p.room part, IsFront-trans _ _ _ (IsFront-take p.room part) is_front, writes-place ps name part p found)
