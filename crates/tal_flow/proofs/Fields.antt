use Rattle.std.proofs.Common.{◌≡◌, ◌≢◌, ℕ, zero, suc, ◌+◌, ◌-◌, ◌*◌, ◌^◌, ◌%◌, ◌<◌, ◌≤◌, Bool, true, false, not, ◌&&◌, ◌||◌, nat_eq, nat_lt, List, [], ◌∷◌, length, get_or, set, take, drop, refl, ap, sym, ◌∙◌, add-one, arith, bit_and, bit_or, if◌then◌else◌, unwrap_or, slice_get}
use Rattle.std.specs.Int.{bit_at, w64}
use Rattle.std.proofs.lemmas.Grind.{common_steps}
use Rattle.std.proofs.lemmas.Bool.Decides.{nat_tests}
use Rattle.std.proofs.lemmas.Nat.Bits.{bit_at_and, bit_at-lt, bit_at_set_same, bit_at_set_other}
use Rattle.ia32_code.specs.OperandForms.{number}
use Rattle.ia32_code.specs.declared.instruction.Reg.{Reg}
use Rattle.ia32_code.specs.declared.instruction.Reg.TheVariants.{Eax, Ecx, Edx, Ebx, Esp, Ebp, Esi, Edi}
use Rattle.tal_types.specs.declared.types.Ty.{Ty}
use Rattle.tal_types.specs.declared.types.Ty.TheVariants.{Junk}
use Rattle.tal_types.specs.Contexts.{LiveContext, same, every}
use Rattle.tal_types.specs.declared.contexts.Context.{Context}
use Rattle.tal_types.specs.Kept.{kept_type, pair_in, live_of}
use Rattle.tal_types.specs.Laws.{TypeLaws}
use Rattle.tal_flow.specs.declared.known.TheConstants.{KEPT}
use Rattle.tal_flow.specs.Afterwards.{without}

-- What the fields of a context mean when some of them are written.

-- two live contexts that read alike are equal
pub same_live : (a b : LiveContext) → ((r : Reg) → a.regs r ≡ b.regs r) → a.slots ≡ b.slots → a.kind ≡ b.kind → ((i r : Reg) → a.pairs i r ≡ b.pairs i r)
    → ((t r : Reg) → a.heads t r ≡ b.heads t r) → a ≡ b
same_live a b f g h k l = λ i. record { regs = λ r. f r i; slots = g i; kind = h i; pairs = λ x y. k x y i; heads = λ x y. l x y i }

-- the type of each register when one is written
pub kept_type-set : (xs : List Ty) (r q : Reg) (t : Ty) → length xs ≡ 8 → kept_type (set xs (number r) t) q ≡ (if same q r then t else kept_type xs q)
unfolding same
kept_type-set xs r q t h = grind (arith, common_steps)

-- ESP's type, when another register is written
pub esp_kept : (xs : List Ty) (r : Reg) (t : Ty) → length xs ≡ 8 → (r ≡ Esp → t ≡ Junk) → get_or xs 4 Junk ≡ Junk → get_or (set xs (number r) t) 4 Junk ≡ Junk
esp_kept xs r t h f e = grind (arith, common_steps)

-- the two tests say the same
abbrev pub agrees : Bool → Bool → Bool
agrees true b = b
agrees false b = not b

-- tests that agree are equal
agree-equal : (p q : Bool) → agrees p q ≡ true → p ≡ q
agree-equal true q e = sym e
agree-equal false true e = e
agree-equal false false e = refl

-- each register's mask agrees with the relation at each pair
masks : every (λ r. every (λ i. every (λ a. agrees (pair_in (get_or KEPT (number r) 0) i a) (not (same i r) && not (same a r))))) ≡ true
unfolding pair_in same
masks = refl

-- the mask of a register has the bits of the pairs that do not name it
kept-mask : (types : TypeLaws) (r i a : Reg) → pair_in (get_or KEPT (number r) 0) i a ≡ (not (same i r) && not (same a r))
kept-mask types r i a =
    agree-equal _ _ (types.every_told (λ a. agrees (pair_in (get_or KEPT (number r) 0) i a) (not (same i r) && not (same a r))) a
    (types.every_told (λ i. every (λ a. agrees (pair_in (get_or KEPT (number r) 0) i a) (not (same i r) && not (same a r)))) i
    (types.every_told (λ r. every (λ i. every (λ a. agrees (pair_in (get_or KEPT (number r) 0) i a) (not (same i r) && not (same a r))))) r masks)))

-- a pair is in what two sets share where it is in both
pair_in-and : (m n : ℕ) (i a : Reg) → pair_in (bit_and m n) i a ≡ (pair_in m i a && pair_in n i a)
unfolding pair_in
pair_in-and m n i a =
    let k = 8 * number i + number a in
    let both = bit_at_and m n k in
    let low = bit_at-lt m k in
    let high = bit_at-lt n k in
    grind (arith, nat_tests)

-- three tests in another order
both-in-order : (p x y : Bool) → (p && (x && y)) ≡ (x && (y && p))
both-in-order p x y = grind arith

-- the pairs that do not name a register
pub pairs-without : (types : TypeLaws) (bits : ℕ) (r i a : Reg) → pair_in (bit_and bits (get_or KEPT (number r) 0)) i a ≡ without r (pair_in bits) i a
pairs-without types bits r i a =
    pair_in-and bits (get_or KEPT (number r) 0) i a
    ∙ ap (λ b. pair_in bits i a && b) (kept-mask types r i a)
    ∙ both-in-order (pair_in bits i a) (not (same i r)) (not (same a r))

-- a number below 64 is one pair of numbers below 8
same_place : (x y z w : ℕ) → y < 8 → w < 8 → 8 * x + y ≡ 8 * z + w → (x ≡ z) × (y ≡ w)
same_place x y z w h k e = (omega arith, omega arith)

-- one more pair
pub pairs-with : (types : TypeLaws) (bits : ℕ) (r q i a : Reg) → pair_in (bit_or bits (1 * 2 ^ (8 * number r + number q) % 2 ^ 64)) i a ≡ (same i r && same a q || pair_in bits i a)
unfolding pair_in same
pairs-with types bits r q i a = go (nat_eq (8 * number i + number a) (8 * number r + number q)) refl
  where
    within : 8 * number r + number q < 64
    within = let x = types.register_below_8 r in let y = types.register_below_8 q in omega arith

    go : (t : Bool) → nat_eq (8 * number i + number a) (8 * number r + number q) ≡ t
        → nat_eq (bit_at (bit_or bits (1 * 2 ^ (8 * number r + number q) % 2 ^ 64)) (8 * number i + number a)) 1 ≡ (nat_eq (number i) (number r) && nat_eq (number a) (number q) || nat_eq (bit_at bits (8 * number i + number a)) 1)
    go true e =
        let f : 8 * number i + number a ≡ 8 * number r + number q = grind (arith, nat_tests) in
        let one = bit_at_set_same w64 bits (8 * number r + number q) within in
        let parts = same_place (number i) (number a) (number r) (number q) (types.register_below_8 a) (types.register_below_8 q) f in
        let x = parts.0 in
        let y = parts.1 in
        rw (f, one) (grind (arith, nat_tests))
    go false e =
        let apart : 8 * number i + number a ≢ 8 * number r + number q = grind (arith, nat_tests) in
        let other = bit_at_set_other w64 bits (8 * number r + number q) within (8 * number i + number a) apart in
        rw other (grind (arith, nat_tests))

-- Slots.

-- a write to a list is a write to its front
pub take-set : (d : ℕ) (xs : List Ty) (i : ℕ) (t : Ty) → take d (set xs i t) ≡ set (take d xs) i t
take-set zero xs i t = refl
take-set (suc d) [] i t = refl
take-set (suc d) (x ∷ xs) zero t = refl
take-set (suc d) (x ∷ xs) (suc i) t = ap (λ ys. x ∷ ys) (take-set d xs i t)

-- fronts that read alike are equal
pub take-alike : (d : ℕ) (xs ys : List Ty) → d ≤ length xs → d ≤ length ys → ((k : ℕ) → k < d → get_or xs k Junk ≡ get_or ys k Junk) → take d xs ≡ take d ys
take-alike zero xs ys l m h = refl
take-alike (suc d) [] ys l m h = absurd (omega arith)
take-alike (suc d) (x ∷ xs) [] l m h = absurd (omega arith)
take-alike (suc d) (x ∷ xs) (y ∷ ys) l m h =
    let first : x ≡ y = h 0 (omega arith) in
    let rest = take-alike d xs ys (omega arith) (omega arith) (λ k i. h (suc k) (omega arith)) in
    ap (λ z. z ∷ take d xs) first ∙ ap (λ zs. y ∷ zs) rest

-- the front of a list that is long enough is as long as asked
pub length-within : (d : ℕ) (xs : List Ty) → d ≤ length xs → length (take d xs) ≡ d
length-within zero xs h = refl
length-within (suc d) [] h = absurd (omega arith)
length-within (suc d) (x ∷ xs) h = let l = length-within d xs (omega arith) in omega arith

-- behind its end a list reads as Junk
pub past : (xs : List Ty) (k : ℕ) → length xs ≤ k → get_or xs k Junk ≡ Junk
past [] k h = refl
past (x ∷ xs) zero h = absurd (omega arith)
past (x ∷ xs) (suc k) h = past xs k (omega arith)

-- what stands behind one more element
next_of_front : (ys : List Ty) (y : Ty) (k : ℕ) → get_or ys k Junk ≡ get_or (y ∷ ys) (k + 1) Junk
next_of_front ys y k = rw (add-one k) refl

-- the slots with one more before them
pub take-pushed : (ys xs : List Ty) (d : ℕ) (t : Ty) → length ys ≡ 64 → length xs ≡ 64 → d < 64 → get_or ys 0 Junk ≡ t
    → ((k : ℕ) → k < 63 → get_or ys (k + 1) Junk ≡ get_or xs k Junk) → take (d + 1) ys ≡ t ∷ take d xs
take-pushed [] xs d t l m h e f = absurd (omega arith)
take-pushed (y ∷ ys) xs d t l m h e f =
    rw (add-one d) (ap (λ z. z ∷ take d ys) e ∙ ap (λ zs. t ∷ zs) (take-alike d ys xs (omega arith) (omega arith) (λ k i. next_of_front ys y k ∙ f k (omega arith))))

-- the places behind them are Junk
pub junk_pushed : (ys xs : List Ty) (d k : ℕ) → length ys ≡ 64 → length xs ≡ 64 → ((k : ℕ) → k < 63 → get_or ys (k + 1) Junk ≡ get_or xs k Junk)
    → ((k : ℕ) → d ≤ k → get_or xs k Junk ≡ Junk) → d + 1 ≤ k → get_or ys k Junk ≡ Junk
junk_pushed ys xs d zero l m f j h = absurd (omega arith)
junk_pushed ys xs d (suc k) l m f j h = go (nat_lt k 63) refl
  where
    go : (t : Bool) → nat_lt k 63 ≡ t → get_or ys (suc k) Junk ≡ Junk
    go true e = let low : k < 63 = grind (arith, nat_tests) in (rw (add-one k) at (f k low)) ∙ j k (omega arith)
    go false e = let high : 63 ≤ k = grind (arith, nat_tests) in past ys (suc k) (omega arith)

-- a place in a list is one further in the list with one more element
plus-suc : (k n : ℕ) (ys : List Ty) (x : Ty) (xs : List Ty) → ys ≡ x ∷ xs → get_or xs (k + n) Junk ≡ get_or ys (k + suc n) Junk
plus-suc k n ys x xs e =
    let f : k + suc n ≡ suc (k + n) = omega arith in
    rw (e, f) refl

-- what stands at a place behind those dropped
get-drop : (n : ℕ) (xs : List Ty) (k : ℕ) → get_or (drop n xs) k Junk ≡ get_or xs (k + n) Junk
get-drop zero xs k = ap (λ m. get_or xs m Junk) {x = k} {y = k + 0} (omega arith)
get-drop (suc n) [] k = refl
get-drop (suc n) (x ∷ xs) k = get-drop n xs k ∙ plus-suc k n (x ∷ xs) x xs refl

-- no front of an empty list
take-none : (d : ℕ) (xs : List Ty) → xs ≡ [] → take d xs ≡ []
take-none zero xs e = refl
take-none (suc d) xs e = rw e refl

-- dropping from a front is a front of what is dropped from
drop-within : (n d : ℕ) (xs : List Ty) → drop n (take d xs) ≡ take (d - n) (drop n xs)
drop-within zero d xs = ap (λ m. take m xs) {x = d} {y = d - 0} (omega arith)
drop-within (suc n) zero xs = sym (ap (λ m. take m (drop (suc n) xs)) {x = 0 - suc n} {y = 0} (omega arith))
drop-within (suc n) (suc d) [] = sym (take-none (suc d - suc n) [] refl)
drop-within (suc n) (suc d) (x ∷ xs) = drop-within n d xs ∙ ap (λ m. take m (drop n xs)) {x = d - n} {y = suc d - suc n} (omega arith)

-- how long the rest is
length-dropped : (n : ℕ) (xs : List Ty) → length (drop n xs) ≡ length xs - n
length-dropped zero xs = omega arith
length-dropped (suc n) [] = omega arith
length-dropped (suc n) (x ∷ xs) = let l = length-dropped n xs in omega arith

-- the slots without the first n
pub take-dropped : (ys xs : List Ty) (d n : ℕ) → length ys ≡ 64 → length xs ≡ 64 → d ≤ 64 → n ≤ d → ((k : ℕ) → get_or ys k Junk ≡ get_or xs (k + n) Junk)
    → take (d - n) ys ≡ drop n (take d xs)
take-dropped ys xs d n l m h e f =
    take-alike (d - n) ys (drop n xs) (omega arith) (let g = length-dropped n xs in omega arith) (λ k i. f k ∙ sym (get-drop n xs k))
    ∙ sym (drop-within n d xs)

-- a call leaves EAX alone
pub kept_type-first : (t : Ty) (r : Reg) → kept_type (t ∷ Junk ∷ Junk ∷ Junk ∷ Junk ∷ Junk ∷ Junk ∷ Junk ∷ []) r ≡ (if same r Eax then t else Junk)
unfolding same
kept_type-first t Eax = refl
kept_type-first t Ecx = refl
kept_type-first t Edx = refl
kept_type-first t Ebx = refl
kept_type-first t Esp = refl
kept_type-first t Ebp = refl
kept_type-first t Esi = refl
kept_type-first t Edi = refl

-- ESP's type, when a register other than ESP is written
pub esp_other : (xs : List Ty) (r : Reg) (t : Ty) → length xs ≡ 8 → same r Esp ≡ false → get_or xs 4 Junk ≡ Junk → get_or (set xs (number r) t) 4 Junk ≡ Junk
unfolding same
esp_other xs r t h f e = grind (arith, common_steps)

-- the depth of a context is the number of its slots
pub depth-of : (c : Context) → length c.slots ≡ 64 → length (live_of c).slots ≡ c.depth
depth-of c l = length-within c.depth c.slots (let s = c.shallow in omega arith)

-- a slot of the frame is below the depth
pub slot-depth : (c : Context) (i : ℕ) → length c.slots ≡ 64 → i < length (live_of c).slots → i < c.depth
slot-depth c i l h = let d = depth-of c l in omega arith

-- the slots from n on, copied as far as the last
pub dropped-whole : (ys xs : List Ty) (n i k : ℕ) → length xs ≡ 64 → 64 ≤ i → ((k : ℕ) → k + n < i → get_or ys k Junk ≡ get_or xs (k + n) Junk)
    → ((k : ℕ) → i ≤ k + n → get_or ys k Junk ≡ Junk) → get_or ys k Junk ≡ get_or xs (k + n) Junk
dropped-whole ys xs n i k l h f j = go (nat_lt (k + n) i) refl
  where
    go : (t : Bool) → nat_lt (k + n) i ≡ t → get_or ys k Junk ≡ get_or xs (k + n) Junk
    go true e = f k (grind (arith, nat_tests))
    go false e = let high : i ≤ k + n = grind (arith, nat_tests) in j k high ∙ sym (past xs (k + n) (omega arith))

-- a front is no longer than asked
pub length-most : (d : ℕ) (xs : List Ty) → length (take d xs) ≤ d
length-most zero xs = omega arith
length-most (suc d) [] = omega arith
length-most (suc d) (x ∷ xs) = let l = length-most d xs in omega arith

-- there are at most as many slots as the depth says
pub depth-most : (c : Context) → length (live_of c).slots ≤ c.depth
depth-most c = length-most c.depth c.slots

-- what stands in slot 0
pub popped : (d : ℕ) (xs : List Ty) (e : Ty) → 1 ≤ length (take d xs) → get_or xs 0 e ≡ unwrap_or (slice_get (take d xs) 0) Junk
popped zero xs e h = absurd (omega arith)
popped (suc d) [] e h = absurd (omega arith)
popped (suc d) (x ∷ xs) e h = refl
