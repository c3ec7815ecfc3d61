use Rattle.std.proofs.Common.{◌≡◌, ℕ, zero, suc, ◌+◌, ◌<◌, false, List, [], ◌∷◌, length, ◌++◌, get_or, set, take, replicate, refl, ap, sym, ◌∙◌, arith, if◌then◌else◌}
use Rattle.std.proofs.lemmas.Bool.Decides.{nat_tests}
use Rattle.std.proofs.lemmas.List.{get_or_default, take_more, take_more_set}
use Rattle.std.proofs.lemmas.Nat.Bits.{bit_at-zero}
use Rattle.ia32_code.specs.declared.instruction.Reg.{Reg}
use Rattle.ia32_code.specs.declared.instruction.Reg.TheVariants.{Eax, Ecx, Edx, Ebx, Esp, Ebp, Esi, Edi}
use Rattle.tal_types.specs.declared.types.Ty.{Ty}
use Rattle.tal_types.specs.declared.types.Ty.TheVariants.{Num, Junk}
use Rattle.tal_types.specs.declared.types.FlagKind.TheVariants.{Lost}
use Rattle.tal_types.specs.declared.contexts.Context.{Context}
use Rattle.tal_types.specs.Contexts.{Dead, Live, register_type, plain}
use Rattle.tal_types.specs.Kept.{kept_type, pair_in, live_of, context_of}

-- What a context that is kept means.

-- what stands at each place of copies of one value
pub get_or-replicate_same : {X : Type 0} (n k : ℕ) (x : X) → get_or (replicate n x) k x ≡ x
get_or-replicate_same zero k x = refl
get_or-replicate_same (suc n) zero x = refl
get_or-replicate_same (suc n) (suc k) x = get_or-replicate_same n k x

-- the eight types of seven registers, with Junk for ESP
abbrev pub eight : List Ty → List Ty
eight types = get_or types 0 Num ∷ get_or types 1 Num ∷ get_or types 2 Num ∷ get_or types 3 Num ∷ Junk ∷ get_or types 4 Num ∷ get_or types 5 Num ∷ get_or types 6 Num ∷ []

-- the type of a register among the eight is that among the seven
kept_type-eight : (types : List Ty) → length types ≡ 7 → (r : Reg) → kept_type (eight types) r ≡ register_type types r
unfolding kept_type register_type
kept_type-eight types l Eax = get_or_default types 0 Num Junk (omega arith)
kept_type-eight types l Ecx = get_or_default types 1 Num Junk (omega arith)
kept_type-eight types l Edx = get_or_default types 2 Num Junk (omega arith)
kept_type-eight types l Ebx = get_or_default types 3 Num Junk (omega arith)
kept_type-eight types l Esp = refl
kept_type-eight types l Ebp = get_or_default types 4 Num Junk (omega arith)
kept_type-eight types l Esi = get_or_default types 5 Num Junk (omega arith)
kept_type-eight types l Edi = get_or_default types 6 Num Junk (omega arith)

-- the number 0 has no pair
pub pair_in-zero : (r q : Reg) → pair_in 0 r q ≡ false
unfolding pair_in
pair_in-zero r q = grind (arith, nat_tests, bit_at-zero)

-- types alone
pub context_of-plain : (c : Context) (types slots : List Ty) → c.dead ≡ false → length types ≡ 7 → c.regs ≡ eight types → take c.depth c.slots ≡ slots → c.kind ≡ Lost
    → c.pairs ≡ 0 → c.heads ≡ 0 → context_of c ≡ plain types slots
unfolding context_of live_of plain
context_of-plain c types slots alive seven regs slots_are kind pairs heads =
    ap (λ b. if b then Dead else Live (live_of c)) alive
    ∙ ap Live (λ i. record {
      regs = λ r. (ap (λ xs. kept_type xs r) regs ∙ kept_type-eight types seven r) i;
      slots = slots_are i;
      kind = kind i;
      pairs = λ r q. (ap (λ n. pair_in n r q) pairs ∙ pair_in-zero r q) i;
      heads = λ t r. (ap (λ n. pair_in n t r) heads ∙ pair_in-zero t r) i;
    })

-- one more slot is filled in
pub filled-more : (all slots : List Ty) (i : ℕ) → length all ≡ 64 → i < 64 → i < length slots → take i all ≡ take i slots
    → take (i + 1) (set all i (get_or slots i Num)) ≡ take (i + 1) slots
filled-more all slots i long l m same =
    take_more_set all i (get_or slots i Num) (omega arith)
    ∙ ap (λ xs. xs ++ get_or slots i Num ∷ []) same
    ∙ sym (take_more slots i Num m)
