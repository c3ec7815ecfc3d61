-- Instructions one after another: what begins where, in lists that are joined.
use Rattle.std.specs.Prelude.{is_some, ◌==◌, nat_lt, if◌then◌else◌}
use Rattle.std.specs.Option.{option_map, option_map_or}
use Rattle.std.proofs.Common.{◌≡◌, ℕ, ◌+◌, ◌-◌, ◌<◌, ◌≤◌, false, cond, eqb, ltb, List, [], ◌∷◌, ◌++◌, length, drop, Option, Some, None, ◌⊎◌, inl, inr, refl, sym, ap, ◌∙◌, arith}
use Rattle.std.proofs.lemmas.Bool.{cases_eq, cases_lt, eq-eqb, ne_eqb, lt-ltb, le-ltb}
use Rattle.std.proofs.lemmas.List.{length-append, drop-drop, drop_at}
use Rattle.std.proofs.lemmas.Option.{same_Some}
use Rattle.std.proofs.lemmas.List.Concat.{flat_map-append}
use Rattle.file_fields.specs.Parts.{Each}
use Rattle.tal_image.specs.Conditions.{Spelled, begins_at}
use Rattle.tal_image.specs.Fields.{code_bytes}
use Rattle.unit_files.specs.Conditions.{words_in_text, hole_in, hole_at, wide_at}
use Rattle.image_linker.proofs.Formed.Members.{In}

-- each instruction has a byte
abbrev pub HaveBytes : List Spelled → Type 0
HaveBytes code = Each (λ (s : Spelled). 0 < length s.text) code

-- the instruction that begins at an offset, with its bytes
unfoldable pub spelled_at : ℕ → List Spelled → Option Spelled
spelled_at offset [] = None
spelled_at offset (s ∷ more) = if offset == 0 then Some s else if nat_lt offset (length s.text) then None else spelled_at (offset - length s.text) more

-- how many bytes instructions have
abbrev pub size : List Spelled → ℕ
size code = length (code_bytes code)

-- one instruction more
pub size_cons : (s : Spelled) (more : List Spelled) → size (s ∷ more) ≡ length s.text + size more
size_cons s more = length-append s.text (code_bytes more)

-- how many bytes two lists have
pub size_both : (xs ys : List Spelled) → size (xs ++ ys) ≡ size xs + size ys
size_both xs ys = ap length (flat_map-append (λ (s : Spelled). s.text) xs ys) ∙ length-append (code_bytes xs) (code_bytes ys)

-- ---- a look-up by an offset: at the front, inside an instruction, behind it

-- at the first byte
pub at_front : {A : Type 0} (o : ℕ) (n : ℕ) (a b c : A) → o ≡ 0 → cond (eqb o 0) a (cond (ltb o n) b c) ≡ a
at_front o n a b c e = rw (eq-eqb o 0 e) refl

-- within the first instruction
pub inside : {A : Type 0} (o : ℕ) (n : ℕ) (a b c : A) → 0 < o → o < n → cond (eqb o 0) a (cond (ltb o n) b c) ≡ b
inside o n a b c some lt = rw (ne_eqb o 0 (λ e. omega arith), lt-ltb o n lt) refl

-- behind it
pub behind : {A : Type 0} (o : ℕ) (n : ℕ) (a b c : A) → 0 < o → n ≤ o → cond (eqb o 0) a (cond (ltb o n) b c) ≡ c
behind o n a b c some ge = rw (ne_eqb o 0 (λ e. omega arith), le-ltb o n ge) refl

-- instructions behind others
pub skip_begins : (pre xs : List Spelled) (o : ℕ) → HaveBytes pre → begins_at (size pre + o) (pre ++ xs) ≡ begins_at o xs
unfolding begins_at
skip_begins [] xs o h = ap (λ k. begins_at k xs) (omega arith)
skip_begins (s ∷ pre) xs o h =
    let n = size_cons s pre in
    let at : size (s ∷ pre) + o - length s.text ≡ size pre + o = omega (arith, n) in
    behind (size (s ∷ pre) + o) (length s.text) (Some s.means) None (begins_at (size (s ∷ pre) + o - length s.text) (pre ++ xs)) (omega (arith, n, h.0)) (omega (arith, n))
    ∙ ap (λ k. begins_at k (pre ++ xs)) at ∙ skip_begins pre xs o h.1

-- the same of what ends with a whole word
pub skip_wide : (pre xs : List Spelled) (o : ℕ) → HaveBytes pre → wide_at (size pre + o) (pre ++ xs) ≡ wide_at o xs
unfolding wide_at
skip_wide [] xs o h = ap (λ k. wide_at k xs) (omega arith)
skip_wide (s ∷ pre) xs o h =
    let n = size_cons s pre in
    let at : size (s ∷ pre) + o - length s.text ≡ size pre + o = omega (arith, n) in
    behind (size (s ∷ pre) + o) (length s.text) (is_some (words_in_text s.text).at_end) false (wide_at (size (s ∷ pre) + o - length s.text) (pre ++ xs)) (omega (arith, n, h.0)) (omega (arith, n))
    ∙ ap (λ k. wide_at k (pre ++ xs)) at ∙ skip_wide pre xs o h.1

-- and of holes
pub skip_hole : (pre xs : List Spelled) (o : ℕ) → hole_at (size pre + o) (pre ++ xs) ≡ hole_at o xs
unfolding hole_at
skip_hole [] xs o = ap (λ k. hole_at k xs) (omega arith)
skip_hole (s ∷ pre) xs o =
    let n = size_cons s pre in
    let at : size (s ∷ pre) + o - length s.text ≡ size pre + o = omega (arith, n) in
    ap (λ b. cond b (hole_in s.text (size (s ∷ pre) + o)) (hole_at (size (s ∷ pre) + o - length s.text) (pre ++ xs))) (le-ltb (size (s ∷ pre) + o) (length s.text) (omega (arith, n)))
    ∙ ap (λ k. hole_at k (pre ++ xs)) at ∙ skip_hole pre xs o

-- instructions before others
pub front_begins : (xs post : List Spelled) (o : ℕ) → HaveBytes xs → o < size xs → begins_at o (xs ++ post) ≡ begins_at o xs
unfolding begins_at
front_begins [] post o h lt = absurd (omega arith)
front_begins (s ∷ xs) post o h lt = by (cases_lt o (length s.text)) (λ ge. front_begins xs post (o - length s.text) h.1 (omega (arith, lt, size_cons s xs, ge)))
  where
    by : (o < length s.text) ⊎ (length s.text ≤ o) → (length s.text ≤ o → begins_at (o - length s.text) (xs ++ post) ≡ begins_at (o - length s.text) xs)
        → cond (eqb o 0) (Some s.means) (cond (ltb o (length s.text)) None (begins_at (o - length s.text) (xs ++ post))) ≡ cond (eqb o 0) (Some s.means) (cond (ltb o (length s.text)) None (begins_at (o - length s.text) xs))
    by (inl l) later = rw (lt-ltb o (length s.text) l) refl
    by (inr ge) later = ap (λ x. cond (eqb o 0) (Some s.means) (cond (ltb o (length s.text)) None x)) (later ge)

-- the same of what ends with a whole word
pub front_wide : (xs post : List Spelled) (o : ℕ) → HaveBytes xs → o < size xs → wide_at o (xs ++ post) ≡ wide_at o xs
unfolding wide_at
front_wide [] post o h lt = absurd (omega arith)
front_wide (s ∷ xs) post o h lt = by (cases_lt o (length s.text)) (λ ge. front_wide xs post (o - length s.text) h.1 (omega (arith, lt, size_cons s xs, ge)))
  where
    by : (o < length s.text) ⊎ (length s.text ≤ o) → (length s.text ≤ o → wide_at (o - length s.text) (xs ++ post) ≡ wide_at (o - length s.text) xs)
        → cond (eqb o 0) (is_some (words_in_text s.text).at_end) (cond (ltb o (length s.text)) false (wide_at (o - length s.text) (xs ++ post))) ≡ cond (eqb o 0) (is_some (words_in_text s.text).at_end) (cond (ltb o (length s.text)) false (wide_at (o - length s.text) xs))
    by (inl l) later = rw (lt-ltb o (length s.text) l) refl
    by (inr ge) later = ap (λ x. cond (eqb o 0) (is_some (words_in_text s.text).at_end) (cond (ltb o (length s.text)) false x)) (later ge)

-- and of holes
pub front_hole : (xs post : List Spelled) (o : ℕ) → o < size xs → hole_at o (xs ++ post) ≡ hole_at o xs
unfolding hole_at
front_hole [] post o lt = absurd (omega arith)
front_hole (s ∷ xs) post o lt = by (cases_lt o (length s.text)) (λ ge. front_hole xs post (o - length s.text) (omega (arith, lt, size_cons s xs, ge)))
  where
    by : (o < length s.text) ⊎ (length s.text ≤ o) → (length s.text ≤ o → hole_at (o - length s.text) (xs ++ post) ≡ hole_at (o - length s.text) xs)
        → cond (ltb o (length s.text)) (hole_in s.text o) (hole_at (o - length s.text) (xs ++ post)) ≡ cond (ltb o (length s.text)) (hole_in s.text o) (hole_at (o - length s.text) xs)
    by (inl l) later = rw (lt-ltb o (length s.text) l) refl
    by (inr ge) later = ap (λ x. cond (ltb o (length s.text)) (hole_in s.text o) x) (later ge)

-- the instruction that begins at an offset
pub begun : (code : List Spelled) (o : ℕ) → begins_at o code ≡ option_map (λ (s : Spelled). s.means) (spelled_at o code)
unfolding begins_at spelled_at
begun [] o = refl
begun (s ∷ code) o = by (cases_eq o 0) (cases_lt o (length s.text)) (begun code (o - length s.text))
  where
    by : (o ≡ 0) ⊎ (o ≡ 0 → ⊥) → (o < length s.text) ⊎ (length s.text ≤ o) → begins_at (o - length s.text) code ≡ option_map (λ (x : Spelled). x.means) (spelled_at (o - length s.text) code)
        → cond (eqb o 0) (Some s.means) (cond (ltb o (length s.text)) None (begins_at (o - length s.text) code)) ≡ option_map (λ (x : Spelled). x.means) (cond (eqb o 0) (Some s) (cond (ltb o (length s.text)) None (spelled_at (o - length s.text) code)))
    by (inl e) l later = rw (eq-eqb o 0 e) refl
    by (inr ne) (inl l) later = rw (ne_eqb o 0 ne, lt-ltb o (length s.text) l) refl
    by (inr ne) (inr ge) later = rw (ne_eqb o 0 ne, le-ltb o (length s.text) ge) later

-- what ends with a whole word is the instruction that begins there
pub wide_is : (code : List Spelled) (o : ℕ) → wide_at o code ≡ option_map_or (λ (s : Spelled). is_some (words_in_text s.text).at_end) (spelled_at o code) false
unfolding wide_at spelled_at
wide_is [] o = refl
wide_is (s ∷ code) o = by (cases_eq o 0) (cases_lt o (length s.text)) (wide_is code (o - length s.text))
  where
    by : (o ≡ 0) ⊎ (o ≡ 0 → ⊥) → (o < length s.text) ⊎ (length s.text ≤ o) → wide_at (o - length s.text) code ≡ option_map_or (λ (x : Spelled). is_some (words_in_text x.text).at_end) (spelled_at (o - length s.text) code) false
        → cond (eqb o 0) (is_some (words_in_text s.text).at_end) (cond (ltb o (length s.text)) false (wide_at (o - length s.text) code))
        ≡ option_map_or (λ (x : Spelled). is_some (words_in_text x.text).at_end) (cond (eqb o 0) (Some s) (cond (ltb o (length s.text)) None (spelled_at (o - length s.text) code))) false
    by (inl e) l later = rw (eq-eqb o 0 e) refl
    by (inr ne) (inl l) later = rw (ne_eqb o 0 ne, lt-ltb o (length s.text) l) refl
    by (inr ne) (inr ge) later = rw (ne_eqb o 0 ne, le-ltb o (length s.text) ge) later

-- an instruction behind others
pub skip_spelled : (pre xs : List Spelled) (o : ℕ) → HaveBytes pre → spelled_at (size pre + o) (pre ++ xs) ≡ spelled_at o xs
unfolding spelled_at
skip_spelled [] xs o h = ap (λ k. spelled_at k xs) (omega arith)
skip_spelled (s ∷ pre) xs o h =
    let n = size_cons s pre in
    let at : size (s ∷ pre) + o - length s.text ≡ size pre + o = omega (arith, n) in
    behind (size (s ∷ pre) + o) (length s.text) (Some s) None (spelled_at (size (s ∷ pre) + o - length s.text) (pre ++ xs)) (omega (arith, n, h.0)) (omega (arith, n))
    ∙ ap (λ k. spelled_at k (pre ++ xs)) at ∙ skip_spelled pre xs o h.1

-- an instruction before others
pub front_spelled : (xs post : List Spelled) (o : ℕ) (s : Spelled) → spelled_at o xs ≡ Some s → spelled_at o (xs ++ post) ≡ Some s
unfolding spelled_at
front_spelled [] post o s e = absurd cc
front_spelled (x ∷ xs) post o s e = by (cases_eq o 0) (cases_lt o (length x.text)) (λ is. front_spelled xs post (o - length x.text) s is)
  where
    by : (o ≡ 0) ⊎ (o ≡ 0 → ⊥) → (o < length x.text) ⊎ (length x.text ≤ o) → (spelled_at (o - length x.text) xs ≡ Some s → spelled_at (o - length x.text) (xs ++ post) ≡ Some s)
        → cond (eqb o 0) (Some x) (cond (ltb o (length x.text)) None (spelled_at (o - length x.text) (xs ++ post))) ≡ Some s
    by (inl z) l later = at_front o (length x.text) (Some x) None (spelled_at (o - length x.text) (xs ++ post)) z ∙ sym (at_front o (length x.text) (Some x) None (spelled_at (o - length x.text) xs) z) ∙ e
    by (inr ne) (inl l) later =
        let some : 0 < o = omega (arith, ne) in
        inside o (length x.text) (Some x) None (spelled_at (o - length x.text) (xs ++ post)) some l ∙ sym (inside o (length x.text) (Some x) None (spelled_at (o - length x.text) xs) some l) ∙ e
    by (inr ne) (inr ge) later =
        let some : 0 < o = omega (arith, ne) in
        behind o (length x.text) (Some x) None (spelled_at (o - length x.text) (xs ++ post)) some ge
        ∙ later (sym (behind o (length x.text) (Some x) None (spelled_at (o - length x.text) xs) some ge) ∙ e)

-- no byte is dropped
drop_at_front : (o : ℕ) (xs : List ℕ) → o ≡ 0 → drop o xs ≡ xs
drop_at_front o xs e = ap (λ n. drop n xs) e

-- the bytes from an instruction on
pub drop_spelled : (code : List Spelled) (o : ℕ) (s : Spelled) → spelled_at o code ≡ Some s → (more : List ℕ) × (drop o (code_bytes code) ≡ s.text ++ more) × In s code
unfolding spelled_at
drop_spelled [] o s e = absurd cc
drop_spelled (x ∷ code) o s e = by (cases_eq o 0) (cases_lt o (length x.text)) (λ is. drop_spelled code (o - length x.text) s is)
  where
    by : (o ≡ 0) ⊎ (o ≡ 0 → ⊥) → (o < length x.text) ⊎ (length x.text ≤ o) → (spelled_at (o - length x.text) code ≡ Some s → (more : List ℕ) × (drop (o - length x.text) (code_bytes code) ≡ s.text ++ more) × In s code)
        → (more : List ℕ) × (drop o (x.text ++ code_bytes code) ≡ s.text ++ more) × In s (x ∷ code)
    by (inl z) l later =
        let same : x ≡ s = same_Some x s (sym (at_front o (length x.text) (Some x) None (spelled_at (o - length x.text) code) z) ∙ e) in
        (code_bytes code, drop_at_front o (x.text ++ code_bytes code) z ∙ ap (λ (y : Spelled). y.text ++ code_bytes code) same, inl same)
    by (inr ne) (inl l) later =
        let some : 0 < o = omega (arith, ne) in
        absurd (let none : ◌≡◌ {A = Option Spelled} None (Some s) = sym (inside o (length x.text) (Some x) None (spelled_at (o - length x.text) code) some l) ∙ e in cc)
    by (inr ne) (inr ge) later =
        let some : 0 < o = omega (arith, ne) in
        let r = later (sym (behind o (length x.text) (Some x) None (spelled_at (o - length x.text) code) some ge) ∙ e) in
        let n : length x.text + (o - length x.text) ≡ o = omega (arith, ge) in
        (r.0, ap (λ k. drop k (x.text ++ code_bytes code)) (sym n) ∙ sym (drop-drop (o - length x.text) (length x.text) (x.text ++ code_bytes code)) ∙ ap (drop (o - length x.text)) (drop_at x.text (code_bytes code) (length x.text) refl) ∙ r.1, inr r.2)
