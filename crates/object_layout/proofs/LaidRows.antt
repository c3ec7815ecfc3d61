use Rattle.std.proofs.Common.{◌≡◌, ℕ, zero, suc, ◌+◌, ◌<◌, ◌⊎◌, inl, inr, Option, None, Some, List, [], ◌∷◌, ◌++◌, length, map, refl, ap, sym, ◌∙◌, subst, ⊎_elim, arith, length-append}
use Rattle.std.specs.List.{slice_get}
use Rattle.std.proofs.lemmas.Option.{none-some, same_Some, slice_get-map}
use Rattle.std.proofs.lemmas.List.{length-map}
use Rattle.std.specs.Option.{option_map, option_or}
use Rattle.object_layout.specs.declared.rows.ClassRow.{ClassRow}
use Rattle.object_layout.specs.declared.look_ups.Shapes.TheInside.{Inside}
use Rattle.object_layout.specs.declared.faults.ShapeFault.{ShapeFault}
use Rattle.object_layout.specs.declared.faults.ShapeFault.TheVariants.{NoMemory}
use Rattle.object_layout.specs.declared.laying.LaidClass.{LaidClass}
use Rattle.object_layout.specs.Classes.{ShapesView}
use Rattle.object_layout.specs.Faults.{first_below, first_fault, class_fault, kind_fault}
use Rattle.object_layout.specs.Layout.{kept_rows, IsLaid, IsLaidBefore, IsLaidOut}
use Rattle.object_layout.proofs.Sound.{first_below-zero, first_below-more, first_below-found}

-- The rows that are laid out, one after another.

-- before the first row nothing is laid out
pub laid_before_none : (s : ShapesView) (laid : List LaidClass) → laid ≡ [] → IsLaidBefore s laid 0
laid_before_none s laid e = record {
  sound = first_below-zero (class_fault s);
  long = ap length e;
  each = λ k class g. absurd (none-some class (subst (λ xs. slice_get xs k ≡ Some class) e g));
}

-- an element of a list with one more at its end
slice_get-push : {X : Type 0} (xs : List X) (y x : X) (k : ℕ) → slice_get (xs ++ y ∷ []) k ≡ Some x → (slice_get xs k ≡ Some x) ⊎ ((k ≡ length xs) × (y ≡ x))
slice_get-push [] y x zero e = inr (refl, same_Some y x e)
slice_get-push [] y x (suc k) e = absurd (none-some x e)
slice_get-push (z ∷ xs) y x zero e = inl e
slice_get-push (z ∷ xs) y x (suc k) e = ⊎_elim inl (λ h. inr (ap suc h.0, h.1)) (slice_get-push xs y x k e)

-- one more row is laid out
pub laid_before_more : (s : ShapesView) (laid laid' : List LaidClass) (class : LaidClass) (c : ℕ) → IsLaidBefore s laid c → class_fault s c ≡ None
    → IsLaid s c class → laid' ≡ laid ++ class ∷ [] → IsLaidBefore s laid' (c + 1)
laid_before_more s laid laid' class c h sound placed e = record {
  sound = first_below-more c (class_fault s) h.sound sound;
  long = omega (arith, h.long, ap length e, length-append laid (class ∷ []));
  each = λ k x g. ⊎_elim
      (λ (old : slice_get laid k ≡ Some x). h.each k x old)
      (λ new. let here : c ≡ k = sym h.long ∙ sym new.0 in subst (λ j. IsLaid s j x) here (subst (λ y. IsLaid s c y) new.1 placed))
      (slice_get-push laid class x k (subst (λ xs. slice_get xs k ≡ Some x) e g));
}

-- the fault of a row is that of all rows, where the rows before it have none
pub fault_first : (n c : ℕ) (fault : ℕ → Option ShapeFault) (x : ShapeFault) → c < n → first_below c fault ≡ None → (x ≡ NoMemory) ⊎ (fault c ≡ Some x)
    → (x ≡ NoMemory) ⊎ (first_below n fault ≡ Some x)
fault_first n c fault x l none h = ⊎_elim inl (λ e. inr (first_below-found n c fault x l none e)) h

-- two lists of one length, one of which has what the other has, are equal
same_gets : {X : Type 0} (xs ys : List X) → length xs ≡ length ys → ((k : ℕ) (x : X) → slice_get xs k ≡ Some x → slice_get ys k ≡ Some x) → xs ≡ ys
same_gets [] [] l h = refl
same_gets [] (y ∷ ys) l h = absurd (omega arith)
same_gets (x ∷ xs) [] l h = absurd (omega arith)
same_gets (x ∷ xs) (y ∷ ys) l h =
    let first : y ≡ x = same_Some y x (h zero x refl) in
    let rest : xs ≡ ys = same_gets xs ys (omega arith) (λ k z e. h (suc k) z e) in
    cc

-- the rows that are laid out are those that were given
pub rows-laid : (s : ShapesView) (laid : List LaidClass) → IsLaidBefore s laid (length s.classes) → map (λ (class : LaidClass). class.row) laid ≡ s.classes
rows-laid s laid h =
    same_gets (map (λ (class : LaidClass). class.row) laid) s.classes
    (length-map laid (λ (class : LaidClass). class.row) ∙ h.long)
    (λ k row e. row-of (slice_get laid k) k refl row (sym (slice_get-map (λ (class : LaidClass). class.row) laid k) ∙ e))
  where
    row-of : (o : Option LaidClass) → (k : ℕ) → slice_get laid k ≡ o → (row : ClassRow) → option_map (λ (class : LaidClass). class.row) o ≡ Some row
        → slice_get s.classes k ≡ Some row
    row-of None k g row e = absurd (none-some row e)
    row-of (Some class) k g row e = (h.each k class g).row ∙ e

-- rows are equal part by part
same_views : (s t : ShapesView) → s.classes ≡ t.classes → s.kinds ≡ t.kinds → s.funs ≡ t.funs → s.sigs ≡ t.sigs → s ≡ t
same_views s t a b d e = λ i. record { classes = a i; kinds = b i; funs = d i; sigs = e i }

-- what is kept shows the rows that were given
pub kept_rows-kept : (s : ShapesView) (a : Inside) → IsLaidBefore s a.classes.items (length s.classes) → a.kinds.items ≡ s.kinds → a.funs.items ≡ s.funs
    → a.sigs ≡ s.sigs → kept_rows a ≡ s
kept_rows-kept s a h kinds funs sigs = same_views (kept_rows a) s (rows-laid s a.classes.items h) kinds funs sigs

-- neither classes nor kinds have a fault
pub no_fault : (s : ShapesView) → first_below (length s.classes) (class_fault s) ≡ None → None ≡ first_below (length s.kinds) (kind_fault s) → first_fault s ≡ None
unfolding first_fault
no_fault s e f = rw (e, ← f) refl

-- the first fault of the class rows is the first of all
pub classes_fault : (s : ShapesView) (x : ShapeFault) → (x ≡ NoMemory) ⊎ (first_below (length s.classes) (class_fault s) ≡ Some x) → (x ≡ NoMemory) ⊎ (first_fault s ≡ Some x)
unfolding first_fault
classes_fault s x h = ⊎_elim inl (λ e. inr (ap (λ o. option_or o (first_below (length s.kinds) (kind_fault s))) e)) h

-- behind class rows without a fault, the first fault of the kind rows is the first of all
pub kinds-fault : (s : ShapesView) (x : ShapeFault) → first_below (length s.classes) (class_fault s) ≡ None
    → Some x ≡ first_below (length s.kinds) (kind_fault s) → first_fault s ≡ Some x
unfolding first_fault
kinds-fault s x e f = rw e (sym f)

-- what is kept is a table
pub laid_out : (s : ShapesView) (a : Inside) → IsLaidBefore s a.classes.items (length s.classes) → kept_rows a ≡ s → first_fault s ≡ None → IsLaidOut a
laid_out s a h e sound = record {
  sound = subst (λ v. first_fault v ≡ None) (sym e) sound;
  each = λ c class g. subst (λ v. IsLaid v c class) (sym e) (h.each c class g);
}
