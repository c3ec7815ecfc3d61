-- Names that are declared line by line, and their numbers.
use Rattle.std.proofs.Common.{◌≡◌, ◌<◌, ◌+◌, ◌||◌, not, cond, nat_lt, ℕ, suc, Bool, true, false, List, [], ◌∷◌, ◌++◌, length, Option, Some, None, is_some, bytes_eq, refl, sym, ap, ◌∙◌, subst, arith, append_assoc, append-nil, length-append, if◌then◌else◌}
use Rattle.std.proofs.lemmas.Bool.Decides.{nat_tests}
use Rattle.std.proofs.lemmas.Option.{none-some}
use Rattle.std.proofs.lemmas.List.Folds.{list_any-append}
use Rattle.std.proofs.lemmas.List.Quantifiers.{position-Some}
use Rattle.std.proofs.lemmas.Slice.Eq.{bytes_eq-Decides}
use Rattle.std.specs.List.{list_any, position_or_len}
use Rattle.std.specs.Option.{option_map_or, unwrap_or}
use Rattle.tal_syntax.specs.declared.form.Form.{Form}
use Rattle.tal_syntax.specs.declared.form.Form.TheVariants as form
use Rattle.tal_syntax.specs.declared.module.TextLine.{TextLine}
use Rattle.tal_names.specs.declared.names.ClassNames.{ClassNames}
use Rattle.tal_names.specs.declared.names.MemberSort.TheVariants as sort
use Rattle.tal_names.specs.Declarations.{Names, declare, declared_with, with_named_kind, with_named_class, with_named_function, with_member, with_members, member_number, class_of, named_parent, ancestry, is_number_type}
use Rattle.tal_names.specs.NameSets.{is_named, with_name, number_of_name}
use Rattle.tal_rows.specs.Lines.{is_twice}
use Rattle.tal_tables.specs.Formed.{StartsWith, DeclaredBefore}
use Rattle.tal_tables.specs.Rows.{name_number}

-- ---- the front stays

starts : {A : Type 0} (xs : List A) → StartsWith xs xs
starts xs = ([], sym (append-nil xs))

pub starts-then : {A : Type 0} (xs ys zs : List A) → StartsWith ys xs → StartsWith zs ys → StartsWith zs xs
starts-then xs ys zs a b = (a.0 ++ b.0, b.1 ∙ ap (λ ws. ws ++ b.0) a.1 ∙ append_assoc xs a.0 b.0)

named_starts : (xs : List (List ℕ)) (n : List ℕ) (b : Bool) → StartsWith (if b then xs else xs ++ n ∷ []) xs
named_starts xs n true = starts xs
named_starts xs n false = (n ∷ [], refl)

begins-self : (m : Names) → DeclaredBefore m m
begins-self m = record { sigs = starts m.sigs; classes = starts m.classes; kinds = starts m.kinds; statics = starts m.statics; arrays = starts m.arrays; functions = starts m.functions; members = starts m.members }

begins-then : (a b c : Names) → DeclaredBefore a b → DeclaredBefore b c → DeclaredBefore a c
begins-then a b c x y = record {
  sigs = starts-then a.sigs b.sigs c.sigs x.sigs y.sigs;
  classes = starts-then a.classes b.classes c.classes x.classes y.classes;
  kinds = starts-then a.kinds b.kinds c.kinds x.kinds y.kinds;
  statics = starts-then a.statics b.statics c.statics x.statics y.statics;
  arrays = starts-then a.arrays b.arrays c.arrays x.arrays y.arrays;
  functions = starts-then a.functions b.functions c.functions x.functions y.functions;
  members = starts-then a.members b.members c.members x.members y.members;
}

if_begins : (m more : Names) (b : Bool) → DeclaredBefore m more → DeclaredBefore m (if b then m else more)
if_begins m more true h = begins-self m
if_begins m more false h = h

-- a line declares behind what is declared
declares_behind : (m : Names) (f : Form) (behind : List TextLine) → DeclaredBefore m (declare m f behind)
unfolding declare with_named_kind with_named_class with_named_function
declares_behind m (form.Heap n) behind = begins-self m
declares_behind m (form.Stacks n) behind = begins-self m
declares_behind m (form.Entry s f) behind = begins-self m
declares_behind m (form.Sig ext n ps r) behind = record { sigs = named_starts m.sigs n (is_named m.sigs n); classes = starts m.classes; kinds = starts m.kinds; statics = starts m.statics; arrays = starts m.arrays; functions = starts m.functions; members = starts m.members }
declares_behind m (form.Kind ext n t) behind = if_begins m (record m { kinds = m.kinds ++ n ∷ []; number_kinds = m.number_kinds ++ is_number_type t ∷ [] }) (is_named m.kinds n) (record { sigs = starts m.sigs; classes = starts m.classes; kinds = (n ∷ [], refl); statics = starts m.statics; arrays = starts m.arrays; functions = starts m.functions; members = starts m.members })
declares_behind m (form.Static ext n t) behind = record { sigs = starts m.sigs; classes = starts m.classes; kinds = starts m.kinds; statics = named_starts m.statics n (is_named m.statics n); arrays = starts m.arrays; functions = starts m.functions; members = starts m.members }
declares_behind m (form.DataArray ext n k size ns) behind = record { sigs = starts m.sigs; classes = starts m.classes; kinds = starts m.kinds; statics = starts m.statics; arrays = named_starts m.arrays n (is_named m.arrays n); functions = starts m.functions; members = starts m.members }
declares_behind m (form.Class ext n p) behind = if_begins m (record m { classes = m.classes ++ n ∷ []; members = m.members ++ class_of m.members (named_parent m p) behind ∷ [] }) (is_named m.classes n) (record { sigs = starts m.sigs; classes = (n ∷ [], refl); kinds = starts m.kinds; statics = starts m.statics; arrays = starts m.arrays; functions = starts m.functions; members = (class_of m.members (named_parent m p) behind ∷ [], refl) })
declares_behind m (form.Field n t) behind = begins-self m
declares_behind m (form.Method n s f) behind = begins-self m
declares_behind m (form.Func ext n s) behind = if_begins m (record m { functions = m.functions ++ n ∷ []; function_sigs = m.function_sigs ++ s ∷ [] }) (is_named m.functions n) (record { sigs = starts m.sigs; classes = starts m.classes; kinds = starts m.kinds; statics = starts m.statics; arrays = starts m.arrays; functions = (n ∷ [], refl); members = starts m.members })
declares_behind m form.End behind = begins-self m
declares_behind m (form.Label n rs ss) behind = begins-self m
declares_behind m (form.Inst mnemonic args) behind = begins-self m

-- so do lines
pub lines_declare : (lines : List TextLine) (first m : Names) → declared_with first lines ≡ m → DeclaredBefore first m
unfolding declared_with
lines_declare [] first m h = subst (DeclaredBefore first) h (begins-self first)
lines_declare (l ∷ ls) first m h = begins-then first (declare first l.form ls) m (declares_behind first l.form ls) (lines_declare ls (declare first l.form ls) m h)

-- ---- numbers of names

-- a name that is among some has its place there, whatever follows
place_front : (n : List ℕ) (xs ys : List (List ℕ)) → list_any (bytes_eq n) xs ≡ true
    → (position_or_len (bytes_eq n) (xs ++ ys) ≡ position_or_len (bytes_eq n) xs) × (position_or_len (bytes_eq n) xs < length xs)
place_front n [] ys h = absurd (cc)
place_front n (x ∷ xs) ys h = go (bytes_eq n x) (λ g. place_front n xs ys g) h
  where
    go : (b : Bool) → (list_any (bytes_eq n) xs ≡ true → (position_or_len (bytes_eq n) (xs ++ ys) ≡ position_or_len (bytes_eq n) xs) × (position_or_len (bytes_eq n) xs < length xs)) → (b || list_any (bytes_eq n) xs) ≡ true
        → (cond (not b) (1 + position_or_len (bytes_eq n) (xs ++ ys)) 0 ≡ cond (not b) (1 + position_or_len (bytes_eq n) xs) 0) × (cond (not b) (1 + position_or_len (bytes_eq n) xs) 0 < suc (length xs))
    go true ih g = (refl, omega arith)
    go false ih g = let a = ih g in (ap (λ k. 1 + k) a.0, omega (arith, a.1))

-- a name that is among some has a number
pub numbered : (xs : List (List ℕ)) (n : List ℕ) → is_named xs n ≡ true → (number_of_name xs n ≡ Some (position_or_len (bytes_eq n) xs)) × (position_or_len (bytes_eq n) xs < length xs)
numbered xs n h =
    let lt = (place_front n xs [] h).1 in
    (ap (λ b. cond b (Some (position_or_len (bytes_eq n) xs)) None) (let e : nat_lt (position_or_len (bytes_eq n) xs) (length xs) ≡ true = grind (arith, nat_tests, lt) in e), lt)

-- the number of a name that is there
pub name_below : (xs : List (List ℕ)) (n : List ℕ) → is_named xs n ≡ true → name_number xs n < length xs
name_below xs n h = let a = numbered xs n h in omega (arith, a.1, ap (λ o. unwrap_or o 0) a.0)

-- a name that has a number is below the count
pub number_below : (xs : List (List ℕ)) (n : List ℕ) (k : ℕ) → number_of_name xs n ≡ Some k → k < length xs
number_below xs n k h = (position-Some (bytes_eq n) xs k [] h).0

-- a name that was declared before has the number of an earlier row
early : (xs ys : List (List ℕ)) (n : List ℕ) → is_named xs n ≡ true → is_twice (xs ++ ys) n (length xs) ≡ true
unfolding is_twice
early xs ys n h =
    let a = place_front n xs ys h in
    let all = length-append xs ys in
    let within : nat_lt (position_or_len (bytes_eq n) (xs ++ ys)) (length (xs ++ ys)) ≡ true = grind (arith, nat_tests, a.0, a.1, all) in
    ap (λ b. option_map_or (λ k. nat_lt k (length xs)) (cond b (Some (position_or_len (bytes_eq n) (xs ++ ys))) None) false) within
    ∙ (let e : nat_lt (position_or_len (bytes_eq n) (xs ++ ys)) (length xs) ≡ true = grind (arith, nat_tests, a.0, a.1) in e)

or_new : (xs all : List (List ℕ)) (n : List ℕ) (b : Bool) → is_named xs n ≡ b → StartsWith all (if b then xs else xs ++ n ∷ []) → is_twice all n (length xs) ≡ false → b ≡ false
or_new xs all n false is front once = refl
or_new xs all n true is front once = absurd (cc (sym once ∙ ap (λ ys. is_twice ys n (length xs)) front.1 ∙ early xs front.0 n is))

-- a name that is not twice is new
pub is_new : (xs all : List (List ℕ)) (n : List ℕ) (rows : ℕ) → StartsWith all (with_name xs n) → rows ≡ length xs → is_twice all n rows ≡ false → is_named xs n ≡ false
is_new xs all n rows front long once = or_new xs all n (is_named xs n) refl front (sym (ap (is_twice all n) long) ∙ once)

-- a name that is declared is among all
pub is_declared : (xs all : List (List ℕ)) (n : List ℕ) → StartsWith all (xs ++ n ∷ []) → is_named all n ≡ true
is_declared xs all n front =
    ap (list_any (bytes_eq n)) (front.1 ∙ append_assoc xs (n ∷ []) front.0) ∙ list_any-append (bytes_eq n) xs (n ∷ front.0)
    ∙ ap (λ b. list_any (bytes_eq n) xs || (b || list_any (bytes_eq n) front.0)) ((bytes_eq-Decides n n).1 refl) ∙ or_true (list_any (bytes_eq n) xs)
  where
    or_true : (b : Bool) → (b || true) ≡ true
    or_true true = refl
    or_true false = refl

-- ---- the class above

place_early : (n : List ℕ) (xs ys : List (List ℕ)) → position_or_len (bytes_eq n) (xs ++ ys) < length xs → position_or_len (bytes_eq n) xs ≡ position_or_len (bytes_eq n) (xs ++ ys)
place_early n [] ys lt = absurd (omega (arith, lt))
place_early n (x ∷ xs) ys lt = go (bytes_eq n x) (λ g. place_early n xs ys g) lt
  where
    go : (b : Bool) → (position_or_len (bytes_eq n) (xs ++ ys) < length xs → position_or_len (bytes_eq n) xs ≡ position_or_len (bytes_eq n) (xs ++ ys)) → cond (not b) (1 + position_or_len (bytes_eq n) (xs ++ ys)) 0 < suc (length xs)
        → cond (not b) (1 + position_or_len (bytes_eq n) xs) 0 ≡ cond (not b) (1 + position_or_len (bytes_eq n) (xs ++ ys)) 0
    go true ih g = refl
    go false ih g = ap (λ k. 1 + k) (ih (omega (arith, g)))

place_of : (n : List ℕ) (xs : List (List ℕ)) (k : ℕ) → number_of_name xs n ≡ Some k → position_or_len (bytes_eq n) xs ≡ k
place_of n xs k h = go (nat_lt (position_or_len (bytes_eq n) xs) (length xs)) h
  where
    go : (b : Bool) → cond b (Some (position_or_len (bytes_eq n) xs)) None ≡ Some k → position_or_len (bytes_eq n) xs ≡ k
    go true g = ap (λ o. unwrap_or o k) g
    go false g = absurd (cc)

-- a number below a front's length is the name's number in the front
pub same_early : (xs ys : List (List ℕ)) (n : List ℕ) (k : ℕ) → number_of_name (xs ++ ys) n ≡ Some k → k < length xs → number_of_name xs n ≡ Some k
same_early xs ys n k h lt =
    let at = place_of n (xs ++ ys) k h in
    let here : position_or_len (bytes_eq n) xs ≡ k = place_early n xs ys (omega (arith, at, lt)) ∙ at in
    let within : nat_lt (position_or_len (bytes_eq n) xs) (length xs) ≡ true = grind (arith, nat_tests, here, lt) in
    ap (λ b. cond b (Some (position_or_len (bytes_eq n) xs)) None) within ∙ ap (λ i. Some i) here

member_parent : (above : List ClassNames) (k : ClassNames) (f : Form) (d : ClassNames) → with_member above k f ≡ Some d → d.parent ≡ k.parent
unfolding with_member
member_parent above k (form.Field n t) d h = sym (ap (λ (o : Option ClassNames). (unwrap_or o k).parent) h)
member_parent above k (form.Method n s f) d h = sym (ap (λ (o : Option ClassNames). (unwrap_or o k).parent) h) ∙ kept (is_some (member_number sort.Method above n))
  where
    kept : (b : Bool) → (if b then k else record k { methods = with_name k.methods n }).parent ≡ k.parent
    kept true = refl
    kept false = refl
member_parent above k f d h = absurd (none-some _ h)

members_parent : (above : List ClassNames) (ls : List TextLine) (k : ClassNames) → (with_members above k ls).parent ≡ k.parent
unfolding with_members
members_parent above [] k = refl
members_parent above (l ∷ ls) k = go (λ d. members_parent above ls d) (with_member above k l.form) refl
  where
    go : ((d : ClassNames) → (with_members above d ls).parent ≡ d.parent) → (o : Option ClassNames) → with_member above k l.form ≡ o → (option_map_or (λ (more : ClassNames). with_members above more ls) o k).parent ≡ k.parent
    go ih None is = refl
    go ih (Some d) is = ih d ∙ member_parent above k l.form d is

-- the names of a class have the class above it
pub class_parent : (classes : List ClassNames) (parent : Option ℕ) (behind : List TextLine) → (class_of classes parent behind).parent ≡ parent
class_parent classes parent behind = members_parent (ancestry classes parent) behind (record { parent = parent; fields = []; methods = [] })
