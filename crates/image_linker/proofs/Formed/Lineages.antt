-- Classes of two tables whose rows agree: as many ancestors, and as many fields.
use Rattle.std.specs.Option.{option_map, option_map_or, option_and_then}
use Rattle.std.proofs.Common.{◌≡◌, ℕ, zero, suc, ◌<◌, ◌≤◌, List, [], ◌∷◌, length, take, Option, Some, None, slice_get, refl, sym, ap, ◌∙◌, arith}
use Rattle.std.proofs.lemmas.List.{length-append}
use Rattle.object_layout.specs.declared.rows.ClassRow.{ClassRow}
use Rattle.object_layout.specs.Classes.{ShapesView, parent, own_fields, Methods, lineage, Fields}
use Rattle.object_layout.specs.Laws.{LineageLaws, ParentsEarlier}
use Rattle.tal_image.specs.declared.parts.FunctionPart.{FunctionPart}
use Rattle.tal_image.specs.Conditions.{class_view}
use Rattle.image_linker.proofs.Formed.Rows.{there}

-- the classes of the first table have places in the second, with the same parents there and as many fields
pub record Agree (s v : ShapesView) (link : ℕ → ℕ) : Type 0 where
  pub place : (x : ℕ) → x < length s.classes → link x < length v.classes
  pub above : (x : ℕ) → x < length s.classes → parent v (link x) ≡ option_map link (parent s x)
  pub own : (x : ℕ) → x < length s.classes → length (own_fields v (link x)) ≡ length (own_fields s x)

-- they have as many ancestors, and as many fields
pub record SameSize (s v : ShapesView) (p q : ℕ) : Type 0 where
  pub long : length (lineage v q) ≡ length (lineage s p)
  pub wide : length (Fields v q) ≡ length (Fields s p)

module _ (laws : (s : ShapesView) → LineageLaws s) (s v : ShapesView) (link : ℕ → ℕ) (earlier_s : ParentsEarlier s) (earlier_v : ParentsEarlier v) (a : Agree s v link) where
  -- the step from the parent to the class
  size_step : (n p : ℕ) → p < suc n → p < length s.classes → ((q : ℕ) → q < n → q < length s.classes → SameSize s v q (link q)) → (o : Option ℕ) → parent s p ≡ o → SameSize s v p (link p)
  size_step n p small lt later None e =
      let up = a.above p lt ∙ ap (option_map link) e in
      record {
        long = ap length ((laws v).root (link p) up) ∙ sym (ap length ((laws s).root p e));
        wide = ap length ((laws v).root_fields (link p) up) ∙ a.own p lt ∙ sym (ap length ((laws s).root_fields p e));
      }
  size_step n p small lt later (Some q) e =
      let up = a.above p lt ∙ ap (option_map link) e in
      let below = earlier_s p q lt e in
      let l = later q (omega (arith, below, small)) (omega (arith, below, lt)) in
      record {
        long = omega (arith, ap length ((laws v).under earlier_v (link p) (link q) (a.place p lt) up), ap length ((laws s).under earlier_s p q lt e), length-append (lineage v (link q)) (link p ∷ []), length-append (lineage s q) (p ∷ []), l.long);
        wide = omega (arith, ap length ((laws v).under_fields earlier_v (link p) (link q) (a.place p lt) up), ap length ((laws s).under_fields earlier_s p q lt e), length-append (Fields v (link q)) (own_fields v (link p)), length-append (Fields s q) (own_fields s p), l.wide, a.own p lt);
      }

  -- by the number of the class
  size_below : (n p : ℕ) → p < n → p < length s.classes → SameSize s v p (link p)
  size_below zero p small lt = absurd (omega arith)
  size_below (suc n) p small lt = size_step n p small lt (λ q k l. size_below n q k l) (parent s p) refl

  -- each class has as many ancestors and as many fields in both
  pub same_size : (p : ℕ) → p < length s.classes → SameSize s v p (link p)
  same_size p lt = size_below (suc p) p (omega arith) lt

-- ---- tables of rows

-- the parent of a row
pub parent_row : (fs : List FunctionPart) (cs : List ClassRow) (k : ℕ) (c : ClassRow) → slice_get cs k ≡ Some c → parent (class_view fs cs) k ≡ c.parent
unfolding parent
parent_row fs cs k c e = ap (option_and_then (λ (row : ClassRow). row.parent)) e

-- its own fields
own_row : (fs : List FunctionPart) (cs : List ClassRow) (k : ℕ) (c : ClassRow) → slice_get cs k ≡ Some c → own_fields (class_view fs cs) k ≡ c.fields
unfolding own_fields
own_row fs cs k c e = ap (λ (o : Option ClassRow). option_map_or (λ (row : ClassRow). row.fields) o []) e

-- its methods
pub methods_row : (fs : List FunctionPart) (cs : List ClassRow) (k : ℕ) (c : ClassRow) → slice_get cs k ≡ Some c → Methods (class_view fs cs) k ≡ c.methods
unfolding Methods
methods_row fs cs k c e = ap (λ (o : Option ClassRow). option_map_or (λ (row : ClassRow). row.methods) o []) e

-- parents of rows are earlier rows
pub parents_earlier : (fs : List FunctionPart) (cs : List ClassRow) → ((k p : ℕ) (c : ClassRow) → slice_get cs k ≡ Some c → c.parent ≡ Some p → p < k) → ParentsEarlier (class_view fs cs)
parents_earlier fs cs h k p lt e = let c = there cs k lt in h k p c.0 c.1 (sym (parent_row fs cs k c.0 c.1) ∙ e)

-- rows that agree
pub agree_rows : (fs gs : List FunctionPart) (cs ds : List ClassRow) (link : ℕ → ℕ)
    → ((k : ℕ) (c : ClassRow) → slice_get cs k ≡ Some c → (d : ClassRow) × (link k < length ds) × (slice_get ds (link k) ≡ Some d) × (d.parent ≡ option_map link c.parent) × (length d.fields ≡ length c.fields))
    → Agree (class_view fs cs) (class_view gs ds) link
agree_rows fs gs cs ds link h = record {
  place = λ k lt. let c = there cs k lt in (h k c.0 c.1).1;
  above = λ k lt. let c = there cs k lt in let d = h k c.0 c.1 in parent_row gs ds (link k) d.0 d.2 ∙ d.3 ∙ ap (option_map link) (sym (parent_row fs cs k c.0 c.1));
  own = λ k lt. let c = there cs k lt in let d = h k c.0 c.1 in ap length (own_row gs ds (link k) d.0 d.2) ∙ d.4 ∙ ap length (sym (own_row fs cs k c.0 c.1));
}

-- an element among the first ones
pub take_get : {A : Type 0} (n : ℕ) (xs : List A) (k : ℕ) → k < n → slice_get (take n xs) k ≡ slice_get xs k
take_get zero xs k lt = absurd (omega arith)
take_get (suc n) [] k lt = refl
take_get (suc n) (x ∷ xs) zero lt = refl
take_get (suc n) (x ∷ xs) (suc k) lt = take_get n xs k (omega arith)

-- an element among the first ones is at a place before their end
pub get_taken : {A : Type 0} (n : ℕ) (xs : List A) (k : ℕ) (x : A) → slice_get (take n xs) k ≡ Some x → k < n
get_taken zero xs k x e = absurd cc
get_taken (suc n) [] k x e = absurd cc
get_taken (suc n) (x ∷ xs) zero y e = omega arith
get_taken (suc n) (x ∷ xs) (suc k) y e = let l = get_taken n xs k y e in omega (arith, l)

-- what is mapped to itself
map_itself : (o : Option ℕ) → option_map (λ x. x) o ≡ o
map_itself None = refl
map_itself (Some x) = refl

-- the first rows of a table agree with it
pub agree_front : (fs : List FunctionPart) (cs : List ClassRow) (n : ℕ) → n ≤ length cs → Agree (class_view fs (take n cs)) (class_view fs cs) (λ x. x)
agree_front fs cs n fits = agree_rows fs fs (take n cs) cs (λ x. x) (λ k c e.
    let lt = get_taken n cs k c e in
    (c, omega (arith, lt, fits), sym (take_get n cs k lt) ∙ e, sym (map_itself c.parent), refl))

-- and their parents are earlier where those of the table are
pub earlier_front : (fs : List FunctionPart) (cs : List ClassRow) (n : ℕ) → ((k p : ℕ) (c : ClassRow) → slice_get cs k ≡ Some c → c.parent ≡ Some p → p < k) → ParentsEarlier (class_view fs (take n cs))
earlier_front fs cs n h = parents_earlier fs (take n cs) (λ k p c e is. h k p c (sym (take_get n cs k (get_taken n cs k c e)) ∙ e) is)
