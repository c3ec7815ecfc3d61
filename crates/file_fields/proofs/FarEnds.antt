-- How many bytes a file has that ends inside a field.
use Rattle.std.proofs.Common.{◌≡◌, ℕ, ◌+◌, ◌≤◌, List, [], ◌∷◌, ◌++◌, length, sym, subst, arith}
use Rattle.std.proofs.lemmas.List.{length-append}
use Rattle.ia32_code.specs.declared.instruction.Inst.{Inst}
use Rattle.ia32_code.specs.Spells.{Spells}
use Rattle.file_fields.specs.Grammar.{Grammar, done, chunk, instruction, Field, Chunk, Instruction, fields_text, Sound, EndsInside}
use Rattle.file_fields.specs.Reach.{Most}

-- no spelling has more than eleven bytes
abbrev pub FewBytes : Type 0
FewBytes = (text : List ℕ) (i : Inst) → Spells text i → length text ≤ 11

-- what is left where a file ends inside the field that comes next
ends_here : {A : Type 0} (few : FewBytes) (Is : A → Type 0) (g : Grammar A) (n : ℕ) (bytes : List ℕ) → Most Is g n → EndsInside g bytes → length bytes ≤ n + 11
ends_here few Is (done x) n bytes m h = absurd h
ends_here few Is (chunk k ok fault next) n bytes m h = let enough = m.1 in omega arith
ends_here few Is (instruction room next) n bytes m h = let l = length-append bytes h.1 in let f = few (bytes ++ h.1) h.0 h.3 in omega arith

-- a field is no longer than what comes reaches
pub ends_inside : {A : Type 0} (few : FewBytes) (Is : A → Type 0) (g : Grammar A) (n : ℕ) (fs : List Field) (after : Grammar A) (bytes : List ℕ)
    → Most Is g n → Sound g fs after → EndsInside after bytes → length (fields_text fs ++ bytes) ≤ n + 11
ends_inside {A} few Is g n [] after bytes m s h = ends_here few Is g n bytes m (subst (λ (z : Grammar A). EndsInside z bytes) (sym s) h)
ends_inside {A} few Is (chunk k ok fault next) n (Chunk t ∷ fs) after bytes m s h =
    let more = ends_inside few Is (next t) m.0 fs after bytes (m.2 t s.1.2) (subst (λ (z : Grammar A). Sound z fs after) s.1.3 s.2) h in
    let l = length-append t (fields_text fs) in
    let l2 = length-append (t ++ fields_text fs) bytes in
    let l3 = length-append (fields_text fs) bytes in
    let long = s.1.0 in
    let enough = m.1 in
    omega arith
ends_inside {A} few Is (instruction room next) n (Instruction text i ∷ fs) after bytes m s h =
    let one = m text i s.1.1 in
    let more = ends_inside few Is (next text i) one.0 fs after bytes one.2 (subst (λ (z : Grammar A). Sound z fs after) s.1.2 s.2) h in
    let l = length-append text (fields_text fs) in
    let l2 = length-append (text ++ fields_text fs) bytes in
    let l3 = length-append (fields_text fs) bytes in
    let enough = one.1 in
    omega arith
ends_inside few Is (done x) n (f ∷ fs) after bytes m s h = absurd s.1
ends_inside few Is (chunk k ok fault next) n (Instruction text i ∷ fs) after bytes m s h = absurd s.1
ends_inside few Is (instruction room next) n (Chunk t ∷ fs) after bytes m s h = absurd s.1
