-- A class of a unit is mentioned behind its parent, so that parents are earlier classes of the image.
use Rattle.std.proofs.Common.{◌≡◌, ℕ, suc, ◌<◌, List, [], ◌∷◌, ◌++◌, map, take, Some, slice_get, ◌⊎◌, inl, inr, refl, sym, ap, ◌∙◌, subst, append_assoc, arith}
use Rattle.std.proofs.lemmas.List.{append-nil}
use Rattle.object_layout.specs.declared.rows.ClassRow.{ClassRow}
use Rattle.image_linker.specs.RowMentions.{RowMention, first_mentions, number_among}
use Rattle.image_linker.proofs.Formed.Members.{In, in_left, in_right, in_either}
use Rattle.image_linker.proofs.Formed.Names.{either_name, mentioned_before}

module _ (ns : List (List ℕ)) where
  -- the parent of a row is one of these names
  abbrev pub ParentSeen : List (List ℕ) → RowMention ClassRow → Type 0
  ParentSeen seen r = (p : ℕ) → r.row.parent ≡ Some p → (m : List ℕ) × In m seen × (p ≡ number_among ns m)

  -- the parent of each row is among the names before it
  unfoldable pub Ordered : List (List ℕ) → List (RowMention ClassRow) → Type 0
  Ordered seen [] = Unit {0}
  Ordered seen (r ∷ rows) = ParentSeen seen r × Ordered (seen ++ r.name ∷ []) rows

  -- rows in order behind rows in order
  pub ordered_both : (seen : List (List ℕ)) (xs ys : List (RowMention ClassRow)) → Ordered seen xs → Ordered (seen ++ map (λ (r : RowMention ClassRow). r.name) xs) ys → Ordered seen (xs ++ ys)
  unfolding Ordered
  ordered_both seen [] ys a b = subst (λ s. Ordered s ys) (append-nil seen) b
  ordered_both seen (x ∷ xs) ys a b =
      (a.0, ordered_both (seen ++ x.name ∷ []) xs ys a.1 (subst (λ s. Ordered s ys) (sym (append_assoc seen (x.name ∷ []) (map (λ (r : RowMention ClassRow). r.name) xs))) b))

  -- rows whose parents are earlier rows are in order, whatever comes before them
  pub ordered_from : (seen : List (List ℕ)) (xs : List (RowMention ClassRow))
      → ((k : ℕ) (r : RowMention ClassRow) → slice_get xs k ≡ Some r → (p : ℕ) → r.row.parent ≡ Some p → (m : List ℕ) × (In m seen ⊎ In m (map (λ (x : RowMention ClassRow). x.name) (take k xs))) × (p ≡ number_among ns m))
      → Ordered seen xs
  unfolding Ordered
  ordered_from seen [] h = tt
  ordered_from seen (x ∷ xs) h = (
    (λ p e. let m = h 0 x refl p e in (m.0, elim m.1 [ inl i ↦ i | inr i ↦ absurd i ], m.2)),
    ordered_from (seen ++ x.name ∷ []) xs (λ k r e p is.
        let m = h (suc k) r e p is in
        (m.0, elim m.1 [ inl i ↦ inl (in_left m.0 seen (x.name ∷ []) i) | inr i ↦ elim i [ inl same ↦ inl (in_right m.0 seen (x.name ∷ []) (inl same)) | inr j ↦ inr j ] ], m.2)),
  )

  -- the first row of a name has a parent with a lower number
  pub first_row : (seen : List (List ℕ)) (rows : List (RowMention ClassRow)) (n : List ℕ) → Ordered seen rows → ns ≡ first_mentions (seen ++ map (λ (r : RowMention ClassRow). r.name) rows)
      → In n (map (λ (r : RowMention ClassRow). r.name) rows) → (In n seen → ⊥) → (r : RowMention ClassRow) × In r rows × (r.name ≡ n) × ((p : ℕ) → r.row.parent ≡ Some p → p < number_among ns n)
  unfolding Ordered
  first_row seen [] n o is h new = absurd h
  first_row seen (r ∷ rows) n o is h new = by (either_name r.name n) h (λ i fresh.
      first_row (seen ++ r.name ∷ []) rows n o.1 (is ∙ ap first_mentions (sym (append_assoc seen (r.name ∷ []) (map (λ (x : RowMention ClassRow). x.name) rows)))) i fresh)
    where
      by : (r.name ≡ n) ⊎ (r.name ≡ n → ⊥) → In n (r.name ∷ map (λ (x : RowMention ClassRow). x.name) rows)
          → (In n (map (λ (x : RowMention ClassRow). x.name) rows) → (In n (seen ++ r.name ∷ []) → ⊥) → (q : RowMention ClassRow) × In q rows × (q.name ≡ n) × ((p : ℕ) → q.row.parent ≡ Some p → p < number_among ns n))
          → (q : RowMention ClassRow) × In q (r ∷ rows) × (q.name ≡ n) × ((p : ℕ) → q.row.parent ≡ Some p → p < number_among ns n)
      by (inl e) i later = (
        r,
        inl refl,
        e,
        λ p up.
            let m = o.0 p up in
            let lt = mentioned_before m.0 n seen (map (λ (x : RowMention ClassRow). x.name) rows) m.1 new in
            let all : ns ≡ first_mentions (seen ++ n ∷ map (λ (x : RowMention ClassRow). x.name) rows) = is ∙ ap (λ y. first_mentions (seen ++ y ∷ map (λ (x : RowMention ClassRow). x.name) rows)) e in
            let lower : number_among ns m.0 < number_among ns n = subst (λ l. number_among l m.0 < number_among l n) (sym all) lt in
            omega (arith, lower, m.2),
      )
      by (inr other) (inl e) later = absurd (other e)
      by (inr other) (inr i) later =
          let q = later i (λ k. elim (in_either n seen (r.name ∷ []) k) [ inl j ↦ new j | inr j ↦ elim j [ inl same ↦ other same | inr none ↦ none ] ]) in
          (q.0, inr q.1, q.2, q.3)
