-- The classes of the image: conditions 16 to 20.
use Rattle.std.specs.Prelude.{nat_lt, ◌&&◌}
use Rattle.std.specs.List.{flat_map}
use Rattle.std.specs.Option.{option_map}
use Rattle.std.proofs.Common.{◌≡◌, ℕ, zero, suc, ◌-◌, ◌<◌, ◌≤◌, ◌^◌, true, List, [], ◌∷◌, ◌++◌, length, map, take, drop, Option, Some, None, slice_get, inl, inr, refl, sym, ap, ◌∙◌, subst, append_assoc, arith}
use Rattle.std.proofs.lemmas.Bool.{ltb-true, lt-ltb, and_parts, and_from}
use Rattle.std.proofs.lemmas.List.{append-nil, length-map, length-take-le}
use Rattle.std.proofs.lemmas.Option.{slice_get_within, same_Some}
use Rattle.object_layout.specs.declared.rows.ClassRow.{ClassRow}
use Rattle.object_layout.specs.Classes.{ShapesView, lineage, Depth, signatures_of, signatures}
use Rattle.object_layout.specs.Laws.{LineageLaws}
use Rattle.file_fields.specs.Parts.{EachAfter}
use Rattle.tal_image.specs.Image.{class_bytes, parent_number}
use Rattle.tal_image.specs.Conditions.{class_view, parent_fits, inherited_fields, inherited_methods, fields_fit, methods_fit}
use Rattle.tal_image.specs.Fields.{with_class}
use Rattle.tal_image.specs.Formed.{IsWord, IsClass, IsMethod, IsFieldType, tables}
use Rattle.unit_files.specs.declared.parts.UnitClass.{UnitClass}
use Rattle.unit_files.specs.Unit.{UnitParts, function_part as part_of, function_parts}
use Rattle.unit_files.specs.Formed.{UnitFormed, IsUnitClass, with_unit_class, unit_tables}
use Rattle.image_linker.specs.RowMentions.{RowMention, names_in, number_among, meant_rows}
use Rattle.image_linker.specs.LinkedRows.{table_names, class_names, linked_class, linked_function, linked_sig, linked_field, linked_class_row, class_mentions, linked_tables}
use Rattle.image_linker.specs.Linked.{linked_image}
use Rattle.image_linker.proofs.Formed.Members.{In, in_get, in_map, from_flat, get_in}
use Rattle.image_linker.proofs.Formed.Names.{held, meant_row}
use Rattle.image_linker.proofs.Formed.Rows.{there, map_get, from_map_get, number_row}
use Rattle.image_linker.proofs.Formed.Clean.{Clean}
use Rattle.image_linker.proofs.Formed.Tables.{class_mention, classes_named, class_fits, function_fits, class_at, class_from}
use Rattle.image_linker.proofs.Formed.Bytes.{ClassFits, same_class}
use Rattle.image_linker.proofs.Formed.Types.{upto, each_mapped, field_stays}
use Rattle.image_linker.proofs.Formed.Functions.{methods_there, signatures_stay, methods_stay}
use Rattle.image_linker.proofs.Formed.Lineages.{Agree, SameSize, same_size, methods_row, parents_earlier, agree_rows, agree_front, earlier_front, take_get}
use Rattle.image_linker.proofs.Formed.Order.{Ordered, ordered_both, ordered_from, first_row}

-- the classes of a unit, without their names
abbrev pub class_rows : UnitParts → List ClassRow
class_rows u = map (λ (k : UnitClass). k.row) u.classes

-- the place of a class among those before it
class_place : (Is : List ClassRow → UnitClass → Type 0) (before : List ClassRow) (cs : List UnitClass) → EachAfter with_unit_class (λ later b c. Is b c) before cs → (k : ℕ) (r : UnitClass) → slice_get cs k ≡ Some r
    → Is (before ++ take k (map (λ (c : UnitClass). c.row) cs)) r
class_place Is before [] e k r is = absurd cc
class_place Is before (c ∷ cs) e zero r is = let same : c ≡ r = cc in subst (λ b. Is b r) (sym (append-nil before)) (subst (Is before) same e.0)
class_place Is before (c ∷ cs) e (suc k) r is =
    subst (λ b. Is b r) (append_assoc before (c.row ∷ []) (take k (map (λ (x : UnitClass). x.row) cs))) (class_place Is (with_unit_class before c) cs e.1 k r is)

-- each class after those before it
classes_after : (Is : List ClassRow → ClassRow → Type 0) (before cs : List ClassRow) → ((k : ℕ) (x : ClassRow) → slice_get cs k ≡ Some x → Is (before ++ take k cs) x) → EachAfter with_class (λ later b c. Is b c) before cs
classes_after Is before [] h = tt
classes_after Is before (c ∷ cs) h = (
  subst (λ b. Is b c) (append-nil before) (h 0 c refl),
  classes_after Is (with_class before c) cs (λ k x e. subst (λ b. Is b x) (sym (append_assoc before (c ∷ []) (take k cs))) (h (suc k) x e)),
)

-- a parent that fits is an earlier class
fit_parent : (s : ShapesView) (o : Option ℕ) (p : ℕ) → o ≡ Some p → parent_fits s (parent_number o) ≡ true → (p < length s.classes) × (Depth s p < 7)
unfolding parent_fits parent_number
fit_parent s o p e h =
    let both : (nat_lt p (length s.classes) && nat_lt (Depth s p) 7) ≡ true = subst (λ (q : Option ℕ). parent_fits s (parent_number q) ≡ true) e h in
    let parts = and_parts (nat_lt p (length s.classes)) (nat_lt (Depth s p) 7) both in
    (ltb-true p (length s.classes) parts.0, ltb-true (Depth s p) 7 parts.1)

-- what a mapped option holds is the image of what it held
map_some : {A B : Type 0} (f : A → B) (o : Option A) (y : B) → option_map f o ≡ Some y → (x : A) × (o ≡ Some x) × (f x ≡ y)
map_some f None y e = absurd cc
map_some f (Some x) y e = (x, refl, cc)

-- no more than so many are taken
taken_length : {A : Type 0} (n : ℕ) (xs : List A) → length (take n xs) ≤ n
taken_length zero xs = omega arith
taken_length (suc n) [] = omega arith
taken_length (suc n) (x ∷ xs) = let l = taken_length n xs in omega arith

module _ (units : List UnitParts) (formed : (u : UnitParts) → In u units → UnitFormed u) (c : Clean units) where
  -- what a unit says of a class
  unit_class : (u : UnitParts) (i : ℕ) (r : UnitClass) → In u units → slice_get u.classes i ≡ Some r → IsClass (unit_tables u) (function_parts u.functions) (take i (class_rows u)) r.row
  unit_class u i r h e =
      (class_place (λ b k. IsUnitClass (length u.names) (unit_tables u) (function_parts u.functions) b k) [] u.classes (formed u h).classes i r e).row

  -- a parent is an earlier class of its unit
  unit_parent : (u : UnitParts) (i : ℕ) (r : UnitClass) (p : ℕ) → In u units → slice_get u.classes i ≡ Some r → r.row.parent ≡ Some p → p < i
  unit_parent u i r p h e up =
      let fits = fit_parent (class_view (function_parts u.functions) (take i (class_rows u))) r.row.parent p up (unit_class u i r h e).condition_16 in
      omega (arith, fits.0, taken_length i (class_rows u))

  -- the same, of rows without names
  row_parent : (u : UnitParts) → In u units → (i p : ℕ) (a : ClassRow) → slice_get (class_rows u) i ≡ Some a → a.parent ≡ Some p → p < i
  row_parent u h i p a e up = let r = from_map_get (λ (k : UnitClass). k.row) u.classes i a e in unit_parent u i r.0 p h r.1 (ap (λ (k : ClassRow). k.parent) r.2 ∙ up)

  -- the numbers of a class have 32 bits
  row_fits : (u : UnitParts) (i : ℕ) (r : UnitClass) → In u units → slice_get u.classes i ≡ Some r → ClassFits (linked_class_row (table_names units) u r.row)
  unfolding parent_number
  row_fits u i r h e =
      let is = unit_class u i r h e in
      let few = upto 0 1024 (length (linked_image units).classes) c.few_classes in
      let few_functions = upto 1 16384 (length (linked_image units).functions) c.few_functions in
      let above = methods_there (function_parts u.functions) (inherited_methods (class_view (function_parts u.functions) (take i (class_rows u))) (parent_number r.row.parent)) r.row.methods is.methods in
      record {
        parent = of r.row.parent (λ p up.
            let low = unit_parent u i r p h e up in
            let inside = slice_get_within u.classes i r e in
            let linked = class_fits units c u p h (omega (arith, low, inside)) in
            omega (arith, linked, few));
        fields = omega (arith, is.fields_word, length-map r.row.fields (linked_field (table_names units) u));
        count = omega (arith, is.methods_word, length-map r.row.methods (linked_function (table_names units) u));
        methods = each_mapped (λ f. f < length (function_parts u.functions)) IsWord (linked_function (table_names units) u) r.row.methods
            (λ f lt. let linked = function_fits units c u f h (omega (arith, lt, length-map u.functions part_of)) in omega (arith, linked, few_functions)) above;
      }
    where
      of : (o : Option ℕ) → ((p : ℕ) → o ≡ Some p → suc (linked_class (table_names units) u p) < 2 ^ 32) → parent_number (option_map (linked_class (table_names units) u) o) < 2 ^ 32
      of None k = omega arith
      of (Some p) k = k p refl

  -- so have those of a class of the image
  image_fits : (k : ℕ) (x : ClassRow) → slice_get (linked_image units).classes k ≡ Some x → ClassFits x
  image_fits k x e = let o = class_from units c k x e in subst ClassFits o.6 (row_fits o.0 o.1 o.2 o.3 o.4)

  -- the image's class has the parent, as many fields, and the methods of the unit's
  class_stays : (u : UnitParts) (i : ℕ) (r : UnitClass) → In u units → slice_get u.classes i ≡ Some r
      → (x : ClassRow) × (slice_get (linked_image units).classes (linked_class (table_names units) u i) ≡ Some x) × (x.parent ≡ option_map (linked_class (table_names units) u) r.row.parent)
      × (length x.fields ≡ length r.row.fields) × (x.methods ≡ map (linked_function (table_names units) u) r.row.methods)
  class_stays u i r h e =
      let x = class_at units c u i r h e in
      let same = same_class (linked_class_row (table_names units) u r.row) x.0 (row_fits u i r h e) (image_fits (linked_class (table_names units) u i) x.0 x.1) x.2 in
      (x.0, x.1, sym same.0, sym same.1 ∙ length-map r.row.fields (linked_field (table_names units) u), sym same.2)

  -- ---- parents are earlier classes of the image

  -- the classes of a unit are in order
  unit_ordered : (seen : List (List ℕ)) (u : UnitParts) → In u units → Ordered (names_in (flat_map (class_mentions (table_names units)) units)) seen (class_mentions (table_names units) u)
  unit_ordered seen u h = ordered_from (names_in (flat_map (class_mentions (table_names units)) units)) seen (class_mentions (table_names units) u) (λ k r e p up.
      let k_row = from_map_get (class_mention (table_names units) u) u.classes k r e in
      let above : option_map (linked_class (table_names units) u) k_row.0.row.parent ≡ Some p = ap (λ (m : RowMention ClassRow). m.row.parent) k_row.2 ∙ up in
      let q = map_some (linked_class (table_names units) u) k_row.0.row.parent p above in
      let lt = unit_parent u k k_row.0 q.0 h k_row.1 q.1 in
      let q_row = there u.classes q.0 (let inside = slice_get_within u.classes k k_row.0 k_row.1 in omega (arith, lt, inside)) in
      let m : RowMention ClassRow = class_mention (table_names units) u q_row.0 in
      let at_q = map_get (class_mention (table_names units) u) u.classes q.0 q_row.0 q_row.1 in
      let early : In m (take k (class_mentions (table_names units) u)) = in_get (take k (class_mentions (table_names units) u)) q.0 m (take_get k (class_mentions (table_names units) u) q.0 lt ∙ at_q) in (
        m.name,
        inr (in_map (λ (x : RowMention ClassRow). x.name) m (take k (class_mentions (table_names units) u)) early),
        sym q.2 ∙ number_row units (class_mentions (table_names units)) class_names (classes_named (table_names units)) u q.0 m at_q,
      ))

  -- so are those of all units
  all_ordered : (seen : List (List ℕ)) (us : List UnitParts) → ((u : UnitParts) → In u us → In u units) → Ordered (names_in (flat_map (class_mentions (table_names units)) units)) seen (flat_map (class_mentions (table_names units)) us)
  unfolding Ordered
  all_ordered seen [] h = tt
  all_ordered seen (u ∷ us) h =
      ordered_both (names_in (flat_map (class_mentions (table_names units)) units)) seen (class_mentions (table_names units) u) (flat_map (class_mentions (table_names units)) us) (unit_ordered seen u (h u (inl refl)))
      (all_ordered (seen ++ map (λ (r : RowMention ClassRow). r.name) (class_mentions (table_names units) u)) us (λ v i. h v (inr i)))

  -- the numbers of each mentioned class have 32 bits
  mention_fits : (r : RowMention ClassRow) → In r (flat_map (class_mentions (table_names units)) units) → ClassFits r.row
  mention_fits r i =
      let u = from_flat (class_mentions (table_names units)) r units i in
      let k = get_in (class_mentions (table_names units) u.0) r u.2 in
      let row = from_map_get (class_mention (table_names units) u.0) u.0.classes k.0 r k.1 in
      subst (λ (m : RowMention ClassRow). ClassFits m.row) row.2 (row_fits u.0 k.0 row.0 u.1 row.1)

  -- the parent of a class of the image is an earlier one
  pub image_parent : (k p : ℕ) (x : ClassRow) → slice_get (linked_image units).classes k ≡ Some x → x.parent ≡ Some p → p < k
  unfolding linked_image linked_tables names_in
  image_parent k p x e up =
      let rows = flat_map (class_mentions (table_names units)) units in
      let o = meant_row class_bytes rows c.classes k x e in
      let r = first_row (names_in rows) [] rows o.0.name (all_ordered [] units (λ u i. i)) refl (in_map (λ (m : RowMention ClassRow). m.name) o.0 rows o.1) (λ none. none) in
      let y = held class_bytes rows c.classes r.0 r.1 in
      let at_k : slice_get (meant_rows rows) k ≡ Some y.0 = ap (slice_get (meant_rows rows)) (sym o.4 ∙ ap (number_among (names_in rows)) (sym r.2)) ∙ y.1 in
      let same : y.0 ≡ x = same_Some y.0 x (sym at_k ∙ e) in
      let equal = same_class r.0.row x (mention_fits r.0 r.1) (image_fits k x e) (y.2 ∙ ap class_bytes same) in
      let lower = r.3 p (equal.0 ∙ up) in
      omega (arith, lower, o.4)

  -- ---- what a class takes over from its parent

  module _ (laws : (s : ShapesView) → LineageLaws s) where
    -- ancestors and fields of a class in its unit, among the classes before another one, and in the image before that one
    sizes : (u : UnitParts) (i q : ℕ) → In u units → i ≤ length (class_rows u) → q < i → (k : ℕ) → k ≤ length (linked_image units).classes → linked_class (table_names units) u q < k
        → SameSize (class_view (function_parts u.functions) (take i (class_rows u))) (class_view (linked_image units).functions (take k (linked_image units).classes)) q (linked_class (table_names units) u q)
    sizes u i q h inside lt k within low =
        let unit_view = class_view (function_parts u.functions) (class_rows u) in
        let image_view = class_view (linked_image units).functions (linked_image units).classes in
        let unit_earlier = parents_earlier (function_parts u.functions) (class_rows u) (row_parent u h) in
        let image_earlier = parents_earlier (linked_image units).functions (linked_image units).classes image_parent in
        let front_length = length-take-le i (class_rows u) inside in
        let in_unit = same_size laws (class_view (function_parts u.functions) (take i (class_rows u))) unit_view (λ x. x)
        (earlier_front (function_parts u.functions) (class_rows u) i (row_parent u h)) unit_earlier (agree_front (function_parts u.functions) (class_rows u) i inside) q (omega (arith, lt, front_length)) in
        let linked = same_size laws unit_view image_view (linked_class (table_names units) u) unit_earlier image_earlier (agree_image u h) q (omega (arith, lt, inside)) in
        let image_length = length-take-le k (linked_image units).classes within in
        let in_image = same_size laws (class_view (linked_image units).functions (take k (linked_image units).classes)) image_view (λ x. x)
        (earlier_front (linked_image units).functions (linked_image units).classes k image_parent) image_earlier (agree_front (linked_image units).functions (linked_image units).classes k within)
        (linked_class (table_names units) u q) (omega (arith, low, image_length)) in
        record { long = sym in_image.long ∙ linked.long ∙ in_unit.long; wide = sym in_image.wide ∙ linked.wide ∙ in_unit.wide }
      where
        agree_image : (w : UnitParts) → In w units → Agree (class_view (function_parts w.functions) (class_rows w)) (class_view (linked_image units).functions (linked_image units).classes) (linked_class (table_names units) w)
        agree_image w l = agree_rows (function_parts w.functions) (linked_image units).functions (class_rows w) (linked_image units).classes (linked_class (table_names units) w) (λ j a e.
            let r = from_map_get (λ (y : UnitClass). y.row) w.classes j a e in
            let x = class_stays w j r.0 l r.1 in (
              x.0,
              slice_get_within (linked_image units).classes (linked_class (table_names units) w j) x.0 x.1,
              x.1,
              x.2 ∙ ap (λ (y : ClassRow). option_map (linked_class (table_names units) w) y.parent) r.2,
              x.3 ∙ ap (λ (y : ClassRow). length y.fields) r.2,
            ))

    -- the signatures of the methods of a class
    slots_stay : (u : UnitParts) (i q : ℕ) (h : In u units) → i ≤ length (class_rows u) → q < i → (k : ℕ) → linked_class (table_names units) u q < k
        → signatures (class_view (linked_image units).functions (take k (linked_image units).classes)) (linked_class (table_names units) u q)
        ≡ map (linked_sig (table_names units) u) (signatures (class_view (function_parts u.functions) (take i (class_rows u))) q)
    unfolding signatures
    slots_stay u i q h inside lt k low =
        let unit_view = class_view (function_parts u.functions) (take i (class_rows u)) in
        let image_view = class_view (linked_image units).functions (take k (linked_image units).classes) in
        let r = there u.classes q (omega (arith, lt, inside, length-map u.classes (λ (y : UnitClass). y.row))) in
        let x = class_stays u q r.0 h r.1 in
        let above = methods_there (function_parts u.functions) (inherited_methods (class_view (function_parts u.functions) (take q (class_rows u))) (parent_number r.0.row.parent)) r.0.row.methods (unit_class u q r.0 h r.1).methods in
        let in_image = methods_row (linked_image units).functions (take k (linked_image units).classes) (linked_class (table_names units) u q) x.0 (take_get k (linked_image units).classes (linked_class (table_names units) u q) low ∙ x.1) in
        let in_unit = methods_row (function_parts u.functions) (take i (class_rows u)) q r.0.row (take_get i (class_rows u) q lt ∙ map_get (λ (y : UnitClass). y.row) u.classes q r.0 r.1) in
        ap (signatures_of image_view) (in_image ∙ x.4) ∙ signatures_stay units formed c u h unit_view image_view refl refl r.0.row.methods above
        ∙ ap (λ ms. map (linked_sig (table_names units) u) (signatures_of unit_view ms)) (sym in_unit)

    -- what is taken over is the same in the image
    inherits : (u : UnitParts) (i : ℕ) (h : In u units) → i ≤ length (class_rows u) → (k : ℕ) → k ≤ length (linked_image units).classes → (o : Option ℕ)
        → ((q : ℕ) → o ≡ Some q → (q < i) × (linked_class (table_names units) u q < k))
        → (parent_fits (class_view (function_parts u.functions) (take i (class_rows u))) (parent_number o) ≡ true
        → parent_fits (class_view (linked_image units).functions (take k (linked_image units).classes)) (parent_number (option_map (linked_class (table_names units) u) o)) ≡ true)
        × (inherited_fields (class_view (linked_image units).functions (take k (linked_image units).classes)) (parent_number (option_map (linked_class (table_names units) u) o))
        ≡ inherited_fields (class_view (function_parts u.functions) (take i (class_rows u))) (parent_number o))
        × (inherited_methods (class_view (linked_image units).functions (take k (linked_image units).classes)) (parent_number (option_map (linked_class (table_names units) u) o))
        ≡ map (linked_sig (table_names units) u) (inherited_methods (class_view (function_parts u.functions) (take i (class_rows u))) (parent_number o)))
    unfolding parent_number parent_fits inherited_fields inherited_methods Depth
    inherits u i h inside k within None low = ((λ fits. refl), refl, refl)
    inherits u i h inside k within (Some q) low =
        let before = low q refl in
        let size = sizes u i q h inside before.0 k within before.1 in (
          (λ fits.
              let deep = (and_parts (nat_lt q (length (take i (class_rows u)))) (nat_lt (length (lineage (class_view (function_parts u.functions) (take i (class_rows u))) q) - 1) 7) fits).1 in
              and_from (nat_lt (linked_class (table_names units) u q) (length (take k (linked_image units).classes)))
              (nat_lt (length (lineage (class_view (linked_image units).functions (take k (linked_image units).classes)) (linked_class (table_names units) u q)) - 1) 7)
              (lt-ltb (linked_class (table_names units) u q) (length (take k (linked_image units).classes)) (omega (arith, before.1, length-take-le k (linked_image units).classes within)))
              (ap (λ n. nat_lt (n - 1) 7) size.long ∙ deep)),
          size.wide,
          slots_stay u i q h inside before.0 k before.1,
        )

    -- a class of a unit, at its place in the image
    class_formed : (u : UnitParts) (i : ℕ) (r : UnitClass) → In u units → slice_get u.classes i ≡ Some r → slice_get (linked_image units).classes (linked_class (table_names units) u i) ≡ Some (linked_class_row (table_names units) u r.row)
        → IsClass (tables (linked_image units)) (linked_image units).functions (take (linked_class (table_names units) u i) (linked_image units).classes) (linked_class_row (table_names units) u r.row)
    class_formed u i r h e there_is =
        let is = unit_class u i r h e in
        let fits = row_fits u i r h e in
        let k = linked_class (table_names units) u i in
        let inside = slice_get_within u.classes i r e in
        let within = slice_get_within (linked_image units).classes k (linked_class_row (table_names units) u r.row) there_is in
        let over = inherits u i h (omega (arith, inside, length-map u.classes (λ (y : UnitClass). y.row))) k (omega (arith, within)) r.row.parent
        (λ q up. (unit_parent u i r q h e up, image_parent k (linked_class (table_names units) u q) (linked_class_row (table_names units) u r.row) there_is (ap (option_map (linked_class (table_names units) u)) up))) in
        let unit_view = class_view (function_parts u.functions) (take i (class_rows u)) in
        record {
          parent_word = fits.parent;
          condition_16 = over.0 is.condition_16;
          fields_word = fits.fields;
          condition_17 = ap (λ n. fields_fit n (length (map (linked_field (table_names units) u) r.row.fields))) over.1
              ∙ ap (fields_fit (inherited_fields unit_view (parent_number r.row.parent))) (length-map r.row.fields (linked_field (table_names units) u)) ∙ is.condition_17;
          fields = each_mapped (IsFieldType (unit_tables u)) (IsFieldType (tables (linked_image units))) (linked_field (table_names units) u) r.row.fields (λ f p. field_stays units formed c u h f p) is.fields;
          methods_word = fits.count;
          condition_19 = ap (λ (ms : List ℕ). methods_fit (length ms) (length (map (linked_function (table_names units) u) r.row.methods))) over.2
              ∙ ap (λ n. methods_fit n (length (map (linked_function (table_names units) u) r.row.methods))) (length-map (inherited_methods unit_view (parent_number r.row.parent)) (linked_sig (table_names units) u))
              ∙ ap (methods_fit (length (inherited_methods unit_view (parent_number r.row.parent)))) (length-map r.row.methods (linked_function (table_names units) u)) ∙ is.condition_19;
          methods = subst (λ slots. EachAfter (λ (kept : List ℕ) f. drop 1 kept) (λ later kept f. IsMethod (linked_image units).functions kept f) slots (map (linked_function (table_names units) u) r.row.methods)) (sym over.2)
              (methods_stay units formed c u h (inherited_methods unit_view (parent_number r.row.parent)) r.row.methods is.methods);
        }

    pub classes_formed : EachAfter with_class (λ later classes k. IsClass (tables (linked_image units)) (linked_image units).functions classes k) [] (linked_image units).classes
    classes_formed = classes_after (λ before k. IsClass (tables (linked_image units)) (linked_image units).functions before k) [] (linked_image units).classes (λ k x e.
        let o = class_from units c k x e in
        let is = class_formed o.0 o.1 o.2 o.3 o.4 (ap (slice_get (linked_image units).classes) o.7 ∙ e ∙ ap Some (sym o.6)) in
        subst (λ j. IsClass (tables (linked_image units)) (linked_image units).functions (take j (linked_image units).classes) x) o.7
        (subst (λ y. IsClass (tables (linked_image units)) (linked_image units).functions (take (linked_class (table_names units) o.0 o.1) (linked_image units).classes) y) o.6 is))
