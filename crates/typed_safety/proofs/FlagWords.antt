-- The words that comparisons look at, and what their flags tell.
use Rattle.std.proofs.Common.{◌≡◌, ◌∙◌, sym, ap, ◌≤◌, ◌<◌, ◌+◌, ◌^◌, ◌==◌, ℕ, Bool, true, false, nat_lt, nat_eq, zero, suc, Option, Some, None, is_some, IsSome, refl, arith, ⊎_elim, List, [], ◌∷◌, length, map, get_or, slice_get, slice_index, bit_and}
use Rattle.std.specs.Option.{option_map, option_and_then, option_map_or}
use Rattle.std.specs.List.{list_any}
use Rattle.std.specs.Int.Bits.{and_self}
use Rattle.std.proofs.lemmas.Bool.{cases_lt}
use Rattle.std.proofs.lemmas.Bool.Decides.{nat_tests}
use Rattle.std.proofs.lemmas.List.{get_or-map, get_or_past, length-map}
use Rattle.std.proofs.lemmas.Option.{slice_get-map, get_or_from_slice_get}
use Rattle.ia32_code.specs.declared.instruction.Reg.{Reg}
use Rattle.ia32_code.specs.declared.instruction.Reg.TheVariants.{Esp}
use Rattle.ia32_code.specs.declared.instruction.Mem.{Mem}
use Rattle.ia32_code.specs.declared.instruction.Operand.TheVariants.{R, M}
use Rattle.ia32_step.specs.Operands.{read_word}
use Rattle.ia32_step.specs.Sums.{sub_of, and_of}
use Rattle.object_layout.specs.Areas.{table_address}
use Rattle.object_layout.specs.Classes.{ShapesView, lineage, Depth, Below, table_word}
use Rattle.object_layout.specs.Laws.{ClassLaws}
use Rattle.tal_types.specs.declared.types.Ty.{Ty}
use Rattle.tal_types.specs.declared.signatures.Sig.{Sig}
use Rattle.tal_types.specs.Contexts.{same}
use Rattle.tal_types.specs.Shown.{ShownImage}
use Rattle.tal_flow.specs.Rows.{family, has_null}
use Rattle.tal_image.specs.Image.{ImageParts}
use Rattle.tal_image.specs.Shown.{shown}
use Rattle.tal_checker.specs.Running.{RunsOn}
use Rattle.typed_machine.specs.Values.{Value, Null, Ref, Code, ObjectShape, Word, fits_among}
use Rattle.typed_machine.specs.Stores.{Object}
use Rattle.typed_machine.specs.States.{State, places_of}
use Rattle.typed_machine.specs.Operands.{Spot, AtDisplay, read_spot, spot_word, spot_of, operand_value, word_named}
use Rattle.typed_machine.specs.Words.{words_of}
use Rattle.typed_machine.specs.Effects.{may_be_null}
use Rattle.typed_machine.specs.Frames.{Scope, fits_in}
use Rattle.typed_machine.specs.Typing.{StoreFits, is_null}

-- ---- words of operands

-- the word in a register other than ESP
pub register-word : (s : State) (r : Reg) (n : ℕ) → same r Esp ≡ false → read_word (R r) (words_of s n) ≡ Word (places_of s) (s.thread.regs r)
unfolding words_of same
register-word s Esp n e = absurd (grind arith)
register-word s r n e = refl

-- a display has no value
display-unread : (v : ShapesView) (s : State) (c d : ℕ) → read_spot v s (AtDisplay c d) ≡ None
unfolding read_spot
display-unread v s c d = refl

-- the word at a spot that has a value
spot-word : (v : ShapesView) (s : State) (q : Spot) (w : Value) → read_spot v s q ≡ Some w → spot_word v s q ≡ Some (Word (places_of s) w)
unfolding spot_word
spot-word v s (AtDisplay c d) w e = absurd (let x = sym (display-unread v s c d) ∙ e in cc)
spot-word v s q w e = rw e refl

-- the word that an operand in memory names, where it has a value
pub memory-word : (v : ShownImage) (s : State) (m : Mem) (w : Value) → operand_value v s (M m) ≡ Some w → word_named v s (M m) ≡ Word (places_of s) w
unfolding operand_value
memory-word v s m w e = go (spot_of v.shapes s m) e
  where
    go : (q : Option Spot) → option_and_then (read_spot v.shapes s) q ≡ Some w → option_map_or (λ n. n) (option_and_then (spot_word v.shapes s) q) 0 ≡ Word (places_of s) w
    go None e = absurd (cc)
    go (Some q) e = rw (spot-word v.shapes s q w e) refl

-- ---- null, and what is not

-- null is the word 0
null-word : (places : List ℕ) (w : Value) → is_null w ≡ true → Word places w ≡ 0
unfolding Word
null-word places Null e = refl
null-word places w e = absurd (grind arith)

-- a comparison of 0 with 0
zero-of_zero : (sub_of 0 0).flags.zero ≡ true
unfolding sub_of
zero-of_zero = refl

-- an address is its own word
address-word : (s : State) (a : ℕ) → (0 < a) × (a < 2 ^ 32) → (0 < Word (places_of s) (Code a)) × (Word (places_of s) (Code a) < 2 ^ 32)
unfolding Word
address-word s a h = h

-- an object that a typed store has stands at a word that is not 0
object_word : (l : Scope) (s : State) → StoreFits l s.store → (i : ℕ) (shape : ObjectShape) → slice_get l.shapes i ≡ Some shape
    → (0 < Word (places_of s) (Ref i)) × (Word (places_of s) (Ref i) < 2 ^ 32)
unfolding Word
object_word l s h i shape e = go (slice_get s.store i) refl (sym (slice_get-map (λ (o : Object). o.shape) s.store i) ∙ (ap (λ os. slice_get os i) (sym h.shapes) ∙ e))
  where
    go : (o : Option Object) → slice_get s.store i ≡ o → option_map (λ (x : Object). x.shape) o ≡ Some shape → (0 < slice_index (places_of s) i) × (slice_index (places_of s) i < 2 ^ 32)
    go None a b = absurd (cc)
    go (Some o) a b =
        let place : slice_get (places_of s) i ≡ Some o.place = slice_get-map (λ (x : Object). x.place) s.store i ∙ ap (option_map (λ (x : Object). x.place)) a in
        rw (get_or_from_slice_get (places_of s) i o.place 0 place) (h.placed i o a)

-- a function's address is a word that is not 0
code-word : (image : ImageParts) → RunsOn image → (a g : ℕ) → (shown image).function_at a ≡ Some g → (0 < a) × (a < 2 ^ 32)
code-word image runs a g e = go ((shown image).sig g) refl (runs.signatures a g e)
  where
    go : (o : Option Sig) → (shown image).sig g ≡ o → IsSome o → (0 < a) × (a < 2 ^ 32)
    go None f h = absurd (grind arith)
    go (Some sig) f h =
        let begins = runs.calls a g sig e f in
        let at = runs.spelled a begins.placed begins.here in
        let low = at.after_start in
        let some = at.some_bytes in
        let high = at.before_end in
        let room = runs.room in
        (omega arith, omega arith)

-- a reference that has a type names an object that there is
reference_there : (l : Scope) (i : ℕ) (t : Ty) → fits_in l (Ref i) t ≡ true → is_some (slice_get l.shapes i) ≡ true
unfolding fits_among
reference_there l i t f = grind arith

-- an address that has a type of routines is a function's
routine-there : (l : Scope) (a : ℕ) (t : Ty) → fits_in l (Code a) t ≡ true → has_null (family t) ≡ true → is_some ((shown l.image).function_at a) ≡ true
unfolding fits_among
routine-there l a t f e = grind arith

-- no other value than null, a reference or an address has a type that has null
other-fits : (l : Scope) (w : Value) (t : Ty) → fits_in l w t ≡ true → has_null (family t) ≡ true → may_be_null w ≡ true
unfolding fits_among
other-fits l w t f e = grind arith

-- the word of a value that is no null, of a type that has null
pub pointer-word : (l : Scope) (s : State) → RunsOn l.image → StoreFits l s.store → (w : Value) (t : Ty) → fits_in l w t ≡ true → has_null (family t) ≡ true → is_null w ≡ false
    → (0 < Word (places_of s) w) × (Word (places_of s) w < 2 ^ 32)
pointer-word l s runs h (Ref i) t f e n = go (slice_get l.shapes i) refl (reference_there l i t f)
  where
    go : (o : Option ObjectShape) → slice_get l.shapes i ≡ o → is_some o ≡ true → (0 < Word (places_of s) (Ref i)) × (Word (places_of s) (Ref i) < 2 ^ 32)
    go None a b = absurd (grind arith)
    go (Some shape) a b = object_word l s h i shape a
pointer-word l s runs h (Code a) t f e n = go ((shown l.image).function_at a) refl (routine-there l a t f e)
  where
    go : (o : Option ℕ) → (shown l.image).function_at a ≡ o → is_some o ≡ true → (0 < Word (places_of s) (Code a)) × (Word (places_of s) (Code a) < 2 ^ 32)
    go None x y = absurd (grind arith)
    go (Some g) x y = address-word s a (code-word l.image runs a g x)
pointer-word l s runs h w t f e n = absurd (let x = other-fits l w t f e in grind arith)

-- a comparison of a word with 0
zero-of_word : (w : ℕ) → 0 < w → w < 2 ^ 32 → (sub_of w 0).flags.zero ≡ false
unfolding sub_of
zero-of_word w h k = grind (arith, nat_tests)

-- ZF after a comparison with 0
pub zero-of_null : (l : Scope) (s : State) → RunsOn l.image → StoreFits l s.store → (w : Value) (t : Ty) → fits_in l w t ≡ true → has_null (family t) ≡ true
    → (sub_of (Word (places_of s) w) 0).flags.zero ≡ is_null w
zero-of_null l s runs h w t f e = go (is_null w) refl
  where
    go : (b : Bool) → is_null w ≡ b → (sub_of (Word (places_of s) w) 0).flags.zero ≡ b
    go true n = rw (null-word (places_of s) w n) zero-of_zero
    go false n = let p = pointer-word l s runs h w t f e n in zero-of_word (Word (places_of s) w) p.0 p.1

-- ZF after a test of a value with itself
pub zero-of_test : (l : Scope) (s : State) → RunsOn l.image → StoreFits l s.store → (w : Value) (t : Ty) → fits_in l w t ≡ true → has_null (family t) ≡ true
    → (and_of (Word (places_of s) w) (Word (places_of s) w)).flags.zero ≡ is_null w
unfolding and_of
zero-of_test l s runs h w t f e = go (is_null w) refl
  where
    go : (b : Bool) → is_null w ≡ b → (bit_and (Word (places_of s) w) (Word (places_of s) w) == 0) ≡ b
    go true n = rw (and_self (Word (places_of s) w), null-word (places_of s) w n) refl
    go false n = rw (and_self (Word (places_of s) w)) (let p = pointer-word l s runs h w t f e n in grind (arith, nat_tests))

-- ZF after a comparison of two words
pub zero-of_equal : (a b : ℕ) → a < 2 ^ 32 → b < 2 ^ 32 → (sub_of a b).flags.zero ≡ (a == b)
unfolding sub_of
zero-of_equal a b h k = grind (arith, nat_tests)

-- CF after a comparison of two words
pub carry-of_below : (a b : ℕ) → (sub_of a b).flags.carry ≡ nat_lt a b
unfolding sub_of
carry-of_below a b = refl

-- ---- displays

-- what stands in a list is among it
among : (ds : List ℕ) (k : ℕ) → k < length ds → list_any (nat_eq (get_or ds k 0)) ds ≡ true
among [] k h = absurd (omega arith)
among (d ∷ ds) zero h = grind (arith, nat_tests)
among (d ∷ ds) (suc k) h = let rest = among ds k (omega arith) in grind arith

-- the address of a class's table is a word
table-small : (s : ShapesView) → ClassLaws s → (c k : ℕ) → c < length s.classes → k < length (lineage s c) → table_address (get_or (lineage s c) k 0) < 2 ^ 32
unfolding table_address Below
table-small s laws c k there h =
    let above = among (lineage s c) k h in
    let class = (laws.is_there c (get_or (lineage s c) k 0) (grind (arith, nat_tests))).1 in
    let few = laws.few_classes in
    omega arith

-- a display has a word at each depth
pub display-there : (s : ShapesView) → ClassLaws s → (c k : ℕ) → c < length s.classes → k ≤ 7 → (w : ℕ) × (table_word s c (3 + k) ≡ Some w) × (w < 2 ^ 32)
unfolding Depth
display-there s laws c k there h = (get_or (map table_address (lineage s c)) k 0, read, small)
  where
    read : table_word s c (3 + k) ≡ Some (get_or (map table_address (lineage s c)) k 0)
    read = laws.display_words c k there (omega arith)

    small : get_or (map table_address (lineage s c)) k 0 < 2 ^ 32
    small = ⊎_elim
        (λ (inside : k < length (lineage s c)). rw (get_or-map table_address (lineage s c) k 0 0 inside) (table-small s laws c k there inside))
        (λ (past : length (lineage s c) ≤ k). rw (get_or_past (map table_address (lineage s c)) k 0 (omega (arith, length-map (lineage s c) table_address))) (omega arith))
        (cases_lt k (length (lineage s c)))

-- a class's table stands at a word
pub class-small : (s : ShapesView) → ClassLaws s → (e : ℕ) → e < length s.classes → table_address e < 2 ^ 32
unfolding table_address
class-small s laws e h = let few = laws.few_classes in omega arith

-- ZF after a comparison of a display with a class's table tells whether the display's class is below it
pub zero-of_display : (s : ShapesView) → ClassLaws s → (c e w : ℕ) → c < length s.classes → e < length s.classes → table_word s c (3 + Depth s e) ≡ Some w → w < 2 ^ 32
    → (sub_of w (table_address e)).flags.zero ≡ Below s c e
zero-of_display s laws c e w there also read small = zero-of_equal w (table_address e) small (class-small s laws e also) ∙ go (Below s c e) refl (w == table_address e) refl
  where
    go : (b : Bool) → Below s c e ≡ b → (d : Bool) → (w == table_address e) ≡ d → d ≡ b
    go true f true g = refl
    go false f false g = refl
    go true f false g = absurd (let same : Some w ≡ Some (table_address e) = sym read ∙ laws.display c e f in grind (arith, nat_tests))
    go false f true g = absurd (let same : w ≡ table_address e = grind (arith, nat_tests) in let below = laws.displayed c e there also (read ∙ ap (λ n. Some n) same) in grind arith)
