-- Instructions that lie one after another, with their texts.
use Rattle.std.specs.Prelude.{if◌then◌else◌, ◌==◌, nat_lt, is_some}
use Rattle.std.proofs.Common.{◌≡◌, ℕ, ◌+◌, ◌-◌, ◌<◌, ◌≤◌, ◌^◌, inl, inr, Bool, true, false, Some, None, List, [], ◌∷◌, ◌++◌, length, drop, refl, sym, ap, subst, ◌∙◌, arith}
use Rattle.std.proofs.lemmas.Bool.{eqb-true}
use Rattle.std.proofs.lemmas.Option.{none-some}
use Rattle.std.proofs.lemmas.Bool.Decides.{nat_tests}
use Rattle.std.proofs.lemmas.List.{length-append, drop_at, drop-drop}
use Rattle.ia32_code.specs.declared.instruction.Inst.{Inst}
use Rattle.ia32_code.specs.declared.decoding.Decoded.TheVariants.{One}
use Rattle.ia32_code.specs.Decoding.{decoded, FrontLaw}
use Rattle.ia32_code.specs.Spells.{Spells}
use Rattle.tal_flow.specs.Rules.{next_address}
use Rattle.tal_flow.specs.Strongest.{PlacedInst, placed_at, Chained}
use Rattle.tal_image.specs.Conditions.{Spelled, begins_at}
use Rattle.tal_image.specs.Fields.{code_bytes}
use Rattle.tal_checker.specs.Instructions.{placed_from}
use Rattle.tal_checker.proofs.PlacedLists.{there-first, there-later, there-cases}
use Rattle.tal_checker.proofs.CodeInstructions.{placed-step}

-- each text has a byte at least, and the bytes from it on begin with what it means
pub record IsText (s : Spelled) : Type 0 where
  pub some : 0 < length s.text
  pub front : (rest : List ℕ) → decoded (s.text ++ rest) ≡ One s.means (length s.text)

-- each is spelled by its text
abbrev pub AreTexts : List Spelled → Type 0
AreTexts [] = Unit {0}
AreTexts (s ∷ more) = IsText s × AreTexts more

-- a spelling is such a text
abbrev pub SpellingLength : Type 0
SpellingLength = (text : List ℕ) (inst : Inst) → Spells text inst → (0 < length text) × (length text ≤ 11)

-- what spells an instruction is its text
pub spelled-text : FrontLaw → SpellingLength → (s : Spelled) → Spells s.text s.means → IsText s
spelled-text front long s h = record { some = (long s.text s.means h).0; front = λ rest. front s.text rest s.means h }

-- the instructions by their addresses, from an address on
abbrev pub placed_spelled : ℕ → List Spelled → List PlacedInst
placed_spelled pc [] = []
placed_spelled pc (s ∷ more) = record { pc = pc; inst = s.means; len = length s.text } ∷ placed_spelled (pc + length s.text) more

-- they are what their bytes spell
pub placed-code : (code : List Spelled) (pc : ℕ) → AreTexts code → placed_from 0 pc (code_bytes code) ≡ placed_spelled pc code
unfolding placed_from
placed-code [] pc h = refl
placed-code (s ∷ more) pc h =
    let x : PlacedInst = record { pc = pc; inst = s.means; len = length s.text } in
    let k = h.0 in
    placed-step pc (s.text ++ code_bytes more) s.means (length s.text) (k.front (code_bytes more)) k.some (omega (arith, length-append s.text (code_bytes more)))
    ∙ ap (λ (t : List ℕ). x ∷ placed_from 0 (pc + length s.text) t) (drop_at s.text (code_bytes more) (length s.text) refl)
    ∙ ap (λ (t : List PlacedInst). x ∷ t) (placed-code more (pc + length s.text) h.1)

-- none stands before where they begin
pub spelled-above : (code : List Spelled) (pc at : ℕ) (x : PlacedInst) → placed_at (placed_spelled pc code) at ≡ Some x → pc ≤ at
unfolding placed_at
spelled-above [] pc at x e = absurd (none-some x e)
spelled-above (s ∷ more) pc at x e =
    elim (there-cases (record { pc = pc; inst = s.means; len = length s.text }) (placed_spelled (pc + length s.text) more) at x e) [
      | inl k ↦ (let a = k.0 in omega arith)
      | inr k ↦ (let a = spelled-above more (pc + length s.text) at x k in omega arith)
    ]

-- an instruction at an address, in bytes that begin at another
pub record Spot (pc : ℕ) (bytes : List ℕ) (at : ℕ) (x : PlacedInst) : Type 0 where
  pub address : x.pc ≡ at
  pub front : decoded (drop (at - pc) bytes) ≡ One x.inst x.len
  pub some : 0 < x.len
  pub after_start : pc ≤ at
  pub before_end : at + x.len ≤ pc + length bytes

-- two steps forward are one
dropped_on : (pc n at : ℕ) (bytes : List ℕ) → pc + n ≤ at → drop (at - (pc + n)) (drop n bytes) ≡ drop (at - pc) bytes
dropped_on pc n at bytes l = let e : n + (at - (pc + n)) ≡ at - pc = omega arith in drop-drop (at - (pc + n)) n bytes ∙ ap (λ (m : ℕ). drop m bytes) e

-- each instruction stands at its place
pub spot : (code : List Spelled) (pc at : ℕ) (x : PlacedInst) → AreTexts code → placed_at (placed_spelled pc code) at ≡ Some x → Spot pc (code_bytes code) at x
unfolding placed_at
spot [] pc at x h e = absurd (none-some x e)
spot (s ∷ more) pc at x h e =
    let y : PlacedInst = record { pc = pc; inst = s.means; len = length s.text } in
    let rest = code_bytes more in
    let k = h.0 in
    let long = length-append s.text rest in
    let some = k.some in
    elim (there-cases y (placed_spelled (pc + length s.text) more) at x e) [
      | inl q ↦ (
          let nothing : pc - pc ≡ 0 = omega arith in
          let first : Spot pc (s.text ++ rest) pc y = record {
            address = refl;
            front = ap (λ (n : ℕ). decoded (drop n (s.text ++ rest))) nothing ∙ k.front rest;
            some = some;
            after_start = omega arith;
            before_end = omega arith;
          } in
          subst (λ (n : ℕ). Spot pc (s.text ++ rest) n x) q.0 (subst (λ (z : PlacedInst). Spot pc (s.text ++ rest) pc z) q.1 first)
          )
      | inr q ↦ (
          let t = spot more (pc + length s.text) at x h.1 q in
          let after = t.after_start in
          let before = t.before_end in
          let dropped : drop (length s.text) (s.text ++ rest) ≡ rest = drop_at s.text rest (length s.text) refl in
          record {
            address = t.address;
            front = ap decoded (sym (dropped_on pc (length s.text) at (s.text ++ rest) after) ∙ ap (λ (b : List ℕ). drop (at - (pc + length s.text)) b) dropped) ∙ t.front;
            some = t.some;
            after_start = omega arith;
            before_end = omega arith;
          }
          )
    ]

-- some bytes have a first instruction
pub first_there : (code : List Spelled) (pc : ℕ) → 0 < length (code_bytes code) → (x : PlacedInst) × (placed_at (placed_spelled pc code) pc ≡ Some x)
first_there [] pc some = absurd (omega arith)
first_there (s ∷ more) pc some = (record { pc = pc; inst = s.means; len = length s.text }, there-first (record { pc = pc; inst = s.means; len = length s.text }) (placed_spelled (pc + length s.text) more) pc refl)

-- the instruction after one that does not end the code
pub next_there : (code : List Spelled) (pc at : ℕ) (x : PlacedInst) → AreTexts code → placed_at (placed_spelled pc code) at ≡ Some x
    → at + x.len < pc + length (code_bytes code) → (y : PlacedInst) × (placed_at (placed_spelled pc code) (at + x.len) ≡ Some y)
unfolding placed_at
next_there [] pc at x h e l = absurd (none-some x e)
next_there (s ∷ more) pc at x h e l =
    let y : PlacedInst = record { pc = pc; inst = s.means; len = length s.text } in
    let k = h.0 in
    let some = k.some in
    let long = length-append s.text (code_bytes more) in
    elim (there-cases y (placed_spelled (pc + length s.text) more) at x e) [
      | inl q ↦ (
          let at-is : pc ≡ at = q.0 in
          let len-is : length s.text ≡ x.len = ap (λ (z : PlacedInst). z.len) q.1 in
          let next : pc + length s.text ≡ at + x.len = omega arith in
          let f = first_there more (pc + length s.text) (omega arith) in
          (f.0, there-later y (placed_spelled (pc + length s.text) more) (at + x.len) (omega arith) ∙ ap (λ (n : ℕ). placed_at (placed_spelled (pc + length s.text) more) n) (sym next) ∙ f.1)
          )
      | inr q ↦ (
          let t = next_there more (pc + length s.text) at x h.1 q (omega arith) in
          let a = spelled-above more (pc + length s.text) at x q in
          (t.0, there-later y (placed_spelled (pc + length s.text) more) (at + x.len) (omega arith) ∙ t.1)
          )
    ]

-- where addresses do not wrap each begins where the one before ends
pub next-is : (pc n : ℕ) → pc + n < 2 ^ 32 → next_address pc n ≡ pc + n
unfolding next_address
next-is pc n h = omega arith

-- spelled instructions lie one after another
pub chained : (code : List Spelled) (pc : ℕ) → AreTexts code → pc + length (code_bytes code) < 2 ^ 32 → Chained pc (placed_spelled pc code)
chained [] pc h room = tt
chained (s ∷ more) pc h room =
    let k = h.0 in
    let some = k.some in
    let long = length-append s.text (code_bytes more) in
    let e = next-is pc (length s.text) (omega arith) in
    (refl, omega arith, subst (λ (n : ℕ). Chained n (placed_spelled (pc + length s.text) more)) (sym e) (chained more (pc + length s.text) h.1 (omega arith)))

-- an instruction that begins at an offset stands at its address
pub begun_there : (code : List Spelled) (pc offset : ℕ) → AreTexts code → is_some (begins_at offset code) ≡ true
    → (x : PlacedInst) × (placed_at (placed_spelled pc code) (pc + offset) ≡ Some x)
unfolding begins_at
begun_there [] pc offset h e = absurd cc
begun_there (s ∷ more) pc offset h e = go (offset == 0) (nat_lt offset (length s.text)) refl refl e (λ k. begun_there more (pc + length s.text) (offset - length s.text) h.1 k)
  where
    go : (a b : Bool) → offset == 0 ≡ a → nat_lt offset (length s.text) ≡ b
        → is_some (if a then Some s.means else if b then None else begins_at (offset - length s.text) more) ≡ true
        → (is_some (begins_at (offset - length s.text) more) ≡ true → (x : PlacedInst) × (placed_at (placed_spelled (pc + length s.text) more) (pc + length s.text + (offset - length s.text)) ≡ Some x))
        → (x : PlacedInst) × (placed_at (record { pc = pc; inst = s.means; len = length s.text } ∷ placed_spelled (pc + length s.text) more) (pc + offset) ≡ Some x)
    go true b p q e later = let z = eqb-true offset 0 p in (record { pc = pc; inst = s.means; len = length s.text }, there-first (record { pc = pc; inst = s.means; len = length s.text }) (placed_spelled (pc + length s.text) more) (pc + offset) (omega arith))
    go false true p q e later = absurd cc
    go false false p q e later =
        let t = later e in
        let l : length s.text ≤ offset = grind (arith, nat_tests) in
        let k = h.0 in
        let some = k.some in
        let on : pc + length s.text + (offset - length s.text) ≡ pc + offset = omega arith in
        (t.0, there-later (record { pc = pc; inst = s.means; len = length s.text }) (placed_spelled (pc + length s.text) more) (pc + offset) (omega arith) ∙ ap (λ (n : ℕ). placed_at (placed_spelled (pc + length s.text) more) n) (sym on) ∙ t.1)

-- the instruction that begins at an offset of the code is the one at its address
pub begun-inst : (code : List Spelled) (pc offset : ℕ) (x : PlacedInst) (i : Inst) → AreTexts code → begins_at offset code ≡ Some i → placed_at (placed_spelled pc code) (pc + offset) ≡ Some x → x.inst ≡ i
unfolding begins_at placed_at
begun-inst [] pc offset x i h e f = absurd (cc)
begun-inst (t ∷ more) pc offset x i h e f =
    go (offset == 0) refl (nat_lt offset (length t.text)) refl e (pc == (pc + offset)) refl f
    (λ k m. begun-inst more (pc + length t.text) (offset - length t.text) x i h.1 k m)
  where
    go : (a : Bool) → (offset == 0) ≡ a → (b : Bool) → nat_lt offset (length t.text) ≡ b → (if a then Some t.means else if b then None else begins_at (offset - length t.text) more) ≡ Some i
        → (d : Bool) → (pc == (pc + offset)) ≡ d
        → (if d then Some (record { pc = pc; inst = t.means; len = length t.text }) else placed_at (placed_spelled (pc + length t.text) more) (pc + offset)) ≡ Some x
        → (begins_at (offset - length t.text) more ≡ Some i → placed_at (placed_spelled (pc + length t.text) more) (pc + length t.text + (offset - length t.text)) ≡ Some x → x.inst ≡ i)
        → x.inst ≡ i
    go true p b q k true r m later = let same : record { pc = pc; inst = t.means; len = length t.text } ≡ x = cc in let means : t.means ≡ i = cc in ap (λ (y : PlacedInst). y.inst) (sym same) ∙ means
    go true p b q k false r m later = absurd (grind (arith, nat_tests))
    go false p true q k d r m later = absurd (cc)
    go false p false q k true r m later = absurd (grind (arith, nat_tests))
    go false p false q k false r m later =
        let on : pc + length t.text + (offset - length t.text) ≡ pc + offset = let far : length t.text ≤ offset = grind (arith, nat_tests) in omega arith in
        later k (rw on m)

-- instructions after others stand where they stand by themselves
pub there-after : (before code : List Spelled) (pc at : ℕ) (x : PlacedInst) → AreTexts before → placed_at (placed_spelled (pc + length (code_bytes before)) code) at ≡ Some x
    → placed_at (placed_spelled pc (before ++ code)) at ≡ Some x
there-after [] code pc at x h e = let z : pc + 0 ≡ pc = omega arith in subst (λ (n : ℕ). placed_at (placed_spelled n code) at ≡ Some x) z e
there-after (s ∷ before) code pc at x h e =
    let long = length-append s.text (code_bytes before) in
    let on : pc + length (s.text ++ code_bytes before) ≡ pc + length s.text + length (code_bytes before) = omega arith in
    let a = spelled-above code (pc + length (s.text ++ code_bytes before)) at x e in
    let k = h.0 in
    let some = k.some in
    there-later (record { pc = pc; inst = s.means; len = length s.text }) (placed_spelled (pc + length s.text) (before ++ code)) at (omega arith)
    ∙ there-after before code (pc + length s.text) at x h.1 (subst (λ (n : ℕ). placed_at (placed_spelled n code) at ≡ Some x) on e)
