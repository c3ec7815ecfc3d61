-- The bits of a frame's row.
use Rattle.std.specs.Prelude.{if◌then◌else◌}
use Rattle.std.proofs.Common.{◌≡◌, ℕ, zero, suc, ◌+◌, ◌-◌, ◌*◌, ◌^◌, ◌<◌, ◌≤◌, Bool, true, false, List, [], ◌∷◌, length, get_or, drop, refl, ◌∙◌, arith}
use Rattle.std.proofs.Math.Nat.{pow-succ'}
use Rattle.std.proofs.Math.Seq.{drop-cons}
use Rattle.std.proofs.lemmas.List.{length-drop}
use Rattle.std.proofs.Math.Pow.{pow_mono}
use Rattle.ia32_code.specs.declared.instruction.Reg.TheVariants.{Eax, Ecx, Edx, Ebx, Esp, Ebp, Esi, Edi}
use Rattle.tal_types.specs.declared.types.Ty.{Ty}
use Rattle.tal_types.specs.declared.types.Ty.TheVariants.{Num}
use Rattle.tal_types.specs.declared.contexts.Context.{Context}
use Rattle.tal_types.specs.Kept.{kept_type, live_of, context_of}
use Rattle.tal_checker.specs.Frames.{may_refer, reference_bits, row_in}

-- so many bits make no larger number
pub bits-small : (ts : List Ty) → reference_bits ts < 2 ^ length ts
unfolding reference_bits
bits-small [] = omega arith
bits-small (t ∷ ts) = go (may_refer t) (bits-small ts)
  where
    go : (b : Bool) → reference_bits ts < 2 ^ length ts → (if b then 1 else 0) + 2 * reference_bits ts < 2 ^ suc (length ts)
    go true h = let e = pow-succ' 2 (length ts) in omega arith
    go false h = let e = pow-succ' 2 (length ts) in omega arith

-- 64 bits make a number of 64 bits, and eight a byte
pub bits-word : (ts : List Ty) (n : ℕ) → length ts ≤ n → reference_bits ts < 2 ^ n
bits-word ts n h = let a = bits-small ts in let b : 2 ^ length ts ≤ 2 ^ n = pow_mono h in omega arith

-- the bits from one type on are one bit and those of the rest
pub bits-more : (ts : List Ty) (at : ℕ) → 0 < at → at ≤ length ts
    → (if may_refer (get_or ts (at - 1) Num) then 1 else 0) + 2 * reference_bits (drop at ts) ≡ reference_bits (drop (at - 1) ts)
unfolding reference_bits
bits-more ts zero some h = absurd (omega arith)
bits-more ts (suc at) some h =
    let e : suc at - 1 ≡ at = omega arith in
    let d = drop-cons ts at Num (omega arith) in
    rw (e, d) refl

-- one bit more
pub bits-longer : (ts : List Ty) (at bits bit : ℕ) → 0 < at → at ≤ length ts → bits ≡ reference_bits (drop at ts)
    → bit ≡ (if may_refer (get_or ts (at - 1) Num) then 1 else 0) → 2 * bits + bit ≡ reference_bits (drop (at - 1) ts)
bits-longer ts at bits bit some h e f = let m = bits-more ts at some h in rw (e, f) (let s : 2 * reference_bits (drop at ts) + (if may_refer (get_or ts (at - 1) Num) then 1 else 0) ≡ (if may_refer (get_or ts (at - 1) Num) then 1 else 0) + 2 * reference_bits (drop at ts) = omega arith in s ∙ m)

-- two of 64 bits fit one word
pub bits-fit : (ts : List Ty) (at bits bit : ℕ) → 0 < at → at ≤ length ts → length ts ≤ 64 → bits ≡ reference_bits (drop at ts)
    → bit ≡ (if may_refer (get_or ts (at - 1) Num) then 1 else 0) → 2 * bits + bit < 2 ^ 64
bits-fit ts at bits bit some h l e f =
    let a = bits-longer ts at bits bit some h e f in
    let b = bits-word (drop (at - 1) ts) 64 (omega (arith, length-drop (at - 1) ts)) in
    omega arith

-- no types, no bits
pub bits-none : (ts : List Ty) → 0 ≡ reference_bits (drop (length ts) ts)
unfolding reference_bits
bits-none [] = refl
bits-none (t ∷ ts) = bits-none ts

-- the row of the dead context
pub dead-row : (c : Context) → c.dead ≡ true → record { regs = 0; slots = 0; refs = 0 } ≡ row_in (context_of c)
unfolding row_in context_of
dead-row c e = rw e refl

-- eight types are those of the eight registers
eight : (ts : List Ty) → length ts ≡ 8
    → kept_type ts Eax ∷ kept_type ts Ecx ∷ kept_type ts Edx ∷ kept_type ts Ebx ∷ kept_type ts Esp ∷ kept_type ts Ebp ∷ kept_type ts Esi ∷ kept_type ts Edi ∷ [] ≡ ts
eight [] l = absurd (omega arith)
eight (a ∷ []) l = absurd (omega arith)
eight (a ∷ b ∷ []) l = absurd (omega arith)
eight (a ∷ b ∷ c ∷ []) l = absurd (omega arith)
eight (a ∷ b ∷ c ∷ d ∷ []) l = absurd (omega arith)
eight (a ∷ b ∷ c ∷ d ∷ e ∷ []) l = absurd (omega arith)
eight (a ∷ b ∷ c ∷ d ∷ e ∷ f ∷ []) l = absurd (omega arith)
eight (a ∷ b ∷ c ∷ d ∷ e ∷ f ∷ g ∷ []) l = absurd (omega arith)
eight (a ∷ b ∷ c ∷ d ∷ e ∷ f ∷ g ∷ h ∷ []) l = refl
eight (a ∷ b ∷ c ∷ d ∷ e ∷ f ∷ g ∷ h ∷ i ∷ more) l = absurd (omega arith)

-- the row of a context that is not dead
pub live-row : (c : Context) (regs slots refs : ℕ) → c.dead ≡ false → length c.regs ≡ 8 → regs ≡ reference_bits c.regs → slots ≡ length (live_of c).slots
    → refs ≡ reference_bits (live_of c).slots → record { regs = regs; slots = slots; refs = refs } ≡ row_in (context_of c)
unfolding row_in context_of
live-row c regs slots refs e long r s f = rw (e, r, s, f, eight c.regs long) refl
