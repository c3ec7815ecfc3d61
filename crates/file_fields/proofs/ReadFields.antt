-- Reading fields from left to right gives what the sound fields stand for, or the fault of the first field that is not sound.
use Rattle.std.proofs.Common.{◌≡◌, ℕ, zero, suc, ◌+◌, ◌<◌, ◌≤◌, ◌⊎◌, inl, inr, Bool, true, false, cond, List, [], ◌∷◌, ◌++◌, length, take, drop, Result, Ok, Err, refl, sym, ap, subst, ◌∙◌, append_assoc, arith, lit<}
use Rattle.std.specs.Prelude.{nat_lt, nat_le}
use Rattle.std.proofs.lemmas.Bool.Decides.{nat_tests}
use Rattle.std.proofs.lemmas.List.{length-take-le, length-append, length-drop, drop-drop, take-append-drop}
use Rattle.ia32_code.specs.declared.instruction.Inst.{Inst}
use Rattle.ia32_code.specs.declared.decoding.Decoded.{Decoded}
use Rattle.ia32_code.specs.declared.decoding.Decoded.TheVariants as answer
use Rattle.ia32_code.specs.Spells.{Spells}
use Rattle.ia32_code.specs.Decoding.{Answers, IsCut, HasFront, PrefixLaw, DecodedLaw, decoded}
use Rattle.file_fields.specs.declared.fault.ImageFault.{ImageFault}
use Rattle.file_fields.specs.declared.fault.ImageFault.TheVariants.{Short, Bad}
use Rattle.file_fields.specs.Grammar.{Grammar, done, chunk, instruction, Field, Chunk, Instruction, field_text, fields_text, AreBytes, Meets, Sound, EndsInside, Breaks}
use Rattle.file_fields.specs.Reading.{◌▸◌, chunk_at, after_decoding, run}
use Rattle.file_fields.proofs.OneEnd.{same_text, not_cut, take_front}

pub bytes_after : (n : ℕ) (bytes : List ℕ) → AreBytes bytes → AreBytes (drop n bytes)
bytes_after zero bytes fits = fits
bytes_after (suc n) [] fits = fits
bytes_after (suc n) (b ∷ bytes) fits = bytes_after n bytes (λ i. fits (suc i))

bytes_before : (n : ℕ) (bytes : List ℕ) → AreBytes bytes → AreBytes (take n bytes)
bytes_before zero bytes fits i = lit< tt
bytes_before (suc n) [] fits i = lit< tt
bytes_before (suc n) (b ∷ bytes) fits zero = fits 0
bytes_before (suc n) (b ∷ bytes) fits (suc i) = bytes_before n bytes (λ j. fits (suc j)) i

-- so many bytes were read
record ChunkRead (n : ℕ) (file : List ℕ) (at : ℕ) : Type 0 where
  read : chunk_at n file at ≡ Ok (take n (drop at file), at + n)
  long : length (take n (drop at file)) ≡ n
  parts : drop at file ≡ take n (drop at file) ++ drop (at + n) file
  within : at + n ≤ length file

chunk_cases : (n : ℕ) (file : List ℕ) (at : ℕ) → at ≤ length file → ((chunk_at n file at ≡ Err (Short (length file))) × (length (drop at file) < n)) ⊎ ChunkRead n file at
chunk_cases n file at le = go (nat_lt (length (drop at file)) n) refl
  where
    go : (b : Bool) → nat_lt (length (drop at file)) n ≡ b → ((chunk_at n file at ≡ Err (Short (length file))) × (length (drop at file) < n)) ⊎ ChunkRead n file at
    go true e = inl (rw e refl, grind (arith, nat_tests))
    go false e =
        let enough : n ≤ length (drop at file) = grind (arith, nat_tests) in
        let l = length-drop at file in
        inr (record {
          read = rw e refl;
          long = length-take-le n (drop at file) enough;
          parts = sym (take-append-drop n (drop at file)) ∙ ap (λ (z : List ℕ). take n (drop at file) ++ z) (drop-drop n at file);
          within = omega arith;
        })

-- the fields from a place to another are sound and stand for x
pub record Took {A : Type 0} (g : Grammar A) (file : List ℕ) (at : ℕ) (x : A) (end : ℕ) : Type 0 where
  pub fields : List Field
  pub sound : Sound g fields (done x)
  pub parts : drop at file ≡ fields_text fields ++ drop end file
  pub place : end ≡ at + length (fields_text fields)
  pub within : end ≤ length file

-- after sound fields from a place on, the next one fails
pub record Failed {A : Type 0} (g : Grammar A) (file : List ℕ) (at : ℕ) (f : ImageFault) : Type 0 where
  pub fields : List Field
  pub bytes : List ℕ
  pub after : Grammar A
  pub sound : Sound g fields after
  pub parts : drop at file ≡ fields_text fields ++ bytes
  pub fails : (EndsInside after bytes × (f ≡ Short (length file))) ⊎ Breaks after (at + length (fields_text fields)) bytes f

-- one field more in front
cons_took : {A : Type 0} (g : Grammar A) (file : List ℕ) (at next : ℕ) (f : Field) (mid : Grammar A) (x : A) (end : ℕ) → Meets g f mid → drop at file ≡ field_text f ++ drop next file → next ≡ at + length (field_text f) → Took mid file next x end → Took g file at x end
cons_took g file at next f mid x end m e p t = record {
  fields = f ∷ t.fields;
  sound = (mid, m, t.sound);
  parts = e ∙ ap (λ (z : List ℕ). field_text f ++ z) t.parts ∙ sym (append_assoc (field_text f) (fields_text t.fields) (drop end file));
  place = let a = t.place in let b = length-append (field_text f) (fields_text t.fields) in omega arith;
  within = t.within;
}

-- a field that was read before the one that failed
cons_failed : {A : Type 0} (g : Grammar A) (file : List ℕ) (at next : ℕ) (f : Field) (mid : Grammar A) (h : ImageFault) → Meets g f mid → drop at file ≡ field_text f ++ drop next file → next ≡ at + length (field_text f) → Failed mid file next h → Failed g file at h
cons_failed g file at next f mid h m e p t = record {
  fields = f ∷ t.fields;
  bytes = t.bytes;
  after = t.after;
  sound = (mid, m, t.sound);
  parts = e ∙ ap (λ (z : List ℕ). field_text f ++ z) t.parts ∙ sym (append_assoc (field_text f) (fields_text t.fields) t.bytes);
  fails =
      let place : next + length (fields_text t.fields) ≡ at + length (fields_text (f ∷ t.fields)) = let b = length-append (field_text f) (fields_text t.fields) in omega arith in
      subst (λ (z : ℕ). (EndsInside t.after t.bytes × (h ≡ Short (length file))) ⊎ Breaks t.after z t.bytes h) place t.fails;
}

-- the first field fails
first_failed : {A : Type 0} (g : Grammar A) (file : List ℕ) (at : ℕ) (h : ImageFault) → (EndsInside g (drop at file) × (h ≡ Short (length file))) ⊎ Breaks g at (drop at file) h → Failed g file at h
first_failed g file at h k = record {
  fields = [];
  bytes = drop at file;
  after = g;
  sound = refl;
  parts = refl;
  fails = subst (λ (z : ℕ). (EndsInside g (drop at file) × (h ≡ Short (length file))) ⊎ Breaks g z (drop at file) h) (omega arith) k;
}

-- what a test lets through
let_through : {A : Type 0} (b : Bool) (r : Result A ImageFault) (f : ImageFault) (x : A) → cond b r (Err f) ≡ Ok x → (b ≡ true) × (r ≡ Ok x)
let_through true r f x e = (refl, e)
let_through false r f x e = absurd cc

-- a reading under a test fails by itself or by the test
held_back : {A : Type 0} (b : Bool) (r : Result A ImageFault) (f h : ImageFault) → cond b r (Err f) ≡ Err h → ((b ≡ true) × (r ≡ Err h)) ⊎ ((b ≡ false) × (h ≡ f))
held_back true r f h e = inl (refl, e)
held_back {A} false r f h e = inr (refl, fault_is {B = A} h f (sym e))
  where
    fault_is : {B : Type 0} (x y : ImageFault) → (let l : Result B ImageFault = Err x in l) ≡ Err y → x ≡ y
    fault_is x y d = cc

-- two readings that are the same read the same
ok_is : {A : Type 0} (x y : A) (n m : ℕ) → (let l : Result (A × ℕ) ImageFault = Ok (x, n) in l) ≡ Ok (y, m) → (x ≡ y) × (n ≡ m)
ok_is {A} x y n m e = let k = pair_is (x, n) (y, m) e in (ap (λ (z : A × ℕ). z.0) k, ap (λ (z : A × ℕ). z.1) k)
  where
    pair_is : (p q : A × ℕ) → (let l : Result (A × ℕ) ImageFault = Ok p in l) ≡ Ok q → p ≡ q
    pair_is p q d = cc

-- and fail by the same fault
err_is : {B : Type 0} (x y : ImageFault) → (let l : Result B ImageFault = Err x in l) ≡ Err y → x ≡ y
err_is x y e = cc

-- ---- an instruction

take-append : (s t : List ℕ) → take (length s) (s ++ t) ≡ s
take-append s t = take_front s t (length s) refl

-- an instruction in a file, and its bytes
record InstructionRead (file : List ℕ) (at len : ℕ) (i : Inst) : Type 0 where
  spells : Spells (take len (drop at file)) i
  long : length (take len (drop at file)) ≡ len
  parts : drop at file ≡ take len (drop at file) ++ drop (at + len) file
  within : at + len ≤ length file

-- an instruction was read
instruction_read : (file : List ℕ) (at len : ℕ) (i : Inst) → at ≤ length file → Answers (drop at file) (answer.One i len) → InstructionRead file at len i
instruction_read file at len i le a =
    let b = length-drop at file in
    let long = a.1 in
    record {
      spells = a.2;
      long = length-take-le len (drop at file) a.1;
      parts = sym (take-append-drop len (drop at file)) ∙ ap (λ (z : List ℕ). take len (drop at file) ++ z) (drop-drop len at file);
      within = omega arith;
    }

-- what comes after the bytes of an instruction
abbrev after_read : {A : Type 0} → (List ℕ → Inst → Grammar A) → List ℕ → ℕ → ℕ → Inst → Result (A × ℕ) ImageFault
after_read next file at len i = run (next (take len (drop at file)) i) file (at + len)

-- a front that spells an instruction of so many bytes has no other length
one_front : (law : PrefixLaw) (bytes text rest : List ℕ) (i j : Inst) (len : ℕ) → len ≤ length bytes → Spells (take len bytes) i → Spells text j → bytes ≡ text ++ rest → length text ≡ len
one_front law bytes text rest i j len le s t e =
    let k = length-take-le len bytes le in
    let both : take len bytes ++ drop len bytes ≡ text ++ rest = take-append-drop len bytes ∙ e in
    let same = same_text law (take len bytes) text (drop len bytes) rest i j s t both in
    ap length (sym same.0) ∙ k

-- bytes with no instruction at the front begin with no spelling
no_spelling : (bytes text rest : List ℕ) (i : Inst) → (HasFront bytes → ⊥) → Spells text i → bytes ≡ text ++ rest → ⊥
no_spelling bytes text rest i none s e =
    none (i, length text, subst (λ (z : List ℕ). Spells z i) (sym (ap (take (length text)) e ∙ take-append text rest)) s)

-- what a reading from an instruction on took
instruction_took : {A : Type 0} (law : DecodedLaw) (room : ℕ) (next : List ℕ → Inst → Grammar A) (file : List ℕ) (at : ℕ) (x : A) (end : ℕ) → AreBytes file → at ≤ length file → run (instruction room next) file at ≡ Ok (x, end)
    → ((len : ℕ) (i : Inst) → at + len ≤ length file → after_read next file at len i ≡ Ok (x, end) → Took (next (take len (drop at file)) i) file (at + len) x end)
    → Took (instruction room next) file at x end
instruction_took {A} law room next file at x end fits le e more = go (decoded (drop at file)) (law (drop at file) (bytes_after at file fits)) e
  where
    go : (d : Decoded) → Answers (drop at file) d → after_decoding d (after_read next file at) room at (length file) ≡ Ok (x, end) → Took (instruction room next) file at x end
    go answer.Short a d = absurd cc
    go answer.Unknown a d = absurd cc
    go (answer.One i len) a d =
        let k = let_through (nat_le len room) (after_read next file at len i) (Bad at 23) (x, end) d in
        let r = instruction_read file at len i le a in
        let room_is : len ≤ room = let t = k.0 in grind (arith, nat_tests) in
        let long = r.long in
        cons_took (instruction room next) file at (at + len) (Instruction (take len (drop at file)) i) (next (take len (drop at file)) i) x end (r.spells, omega arith, refl) r.parts (omega arith) (more len i r.within k.1)

-- and where it failed
instruction_failed : {A : Type 0} (law : DecodedLaw) (prefix : PrefixLaw) (room : ℕ) (next : List ℕ → Inst → Grammar A) (file : List ℕ) (at : ℕ) (f : ImageFault) → AreBytes file → at ≤ length file → run (instruction room next) file at ≡ Err f
    → ((len : ℕ) (i : Inst) → at + len ≤ length file → after_read next file at len i ≡ Err f → Failed (next (take len (drop at file)) i) file (at + len) f)
    → Failed (instruction room next) file at f
instruction_failed {A} law prefix room next file at f fits le e more = go (decoded (drop at file)) (law (drop at file) (bytes_after at file fits)) e
  where
    go : (d : Decoded) → Answers (drop at file) d → after_decoding d (after_read next file at) room at (length file) ≡ Err f → Failed (instruction room next) file at f
    go answer.Short a d = first_failed (instruction room next) file at f (inl (a.0, sym (err_is {B = A × ℕ} (Short (length file)) f d)))
    go answer.Unknown a d =
        first_failed (instruction room next) file at f (inr ((λ text i rest s q within. no_spelling (drop at file) text rest i a.0 s q), a.1, sym (err_is {B = A × ℕ} (Bad at 23) f d)))
    go (answer.One i len) a d =
        let r = instruction_read file at len i le a in
        elim (held_back (nat_le len room) (after_read next file at len i) (Bad at 23) f d) [
          | inl k ↦ (
              let room_is : len ≤ room = let t = k.0 in grind (arith, nat_tests) in
              let long = r.long in
              cons_failed (instruction room next) file at (at + len) (Instruction (take len (drop at file)) i) (next (take len (drop at file)) i) f (r.spells, omega arith, refl) r.parts (omega arith) (more len i r.within k.1))
          | inr k ↦ (
              let past : room < len = let t = k.0 in grind (arith, nat_tests) in
              let uncut : IsCut (drop at file) → ⊥ = λ cut. not_cut prefix (drop at file) i len a.2 cut in
              first_failed (instruction room next) file at f (inr ((λ text j rest s q within. let same = one_front prefix (drop at file) text rest i j len a.1 a.2 s q in absurd (omega arith)), uncut, k.1)))
        ]

module _ (law : DecodedLaw) (prefix : PrefixLaw) where
  -- reading to the end takes sound fields
  pub took : {A : Type 0} (g : Grammar A) (file : List ℕ) (at : ℕ) (x : A) (end : ℕ) → AreBytes file → at ≤ length file → run g file at ≡ Ok (x, end) → Took g file at x end
  took {A} (done y) file at x end fits le e =
      let k = ok_is y x at end e in
      record { fields = []; sound = ap (λ (z : A). done z) k.0; parts = ap (λ (z : ℕ). drop z file) k.1; place = let a = k.1 in omega arith; within = let a = k.1 in omega arith }
  took {A} (chunk n ok fault next) file at x end fits le e =
      let then : List ℕ × ℕ → Result (A × ℕ) ImageFault = λ t. cond (ok t.0) (run (next t.0) file t.1) (Err (fault t.0 at)) in
      elim (chunk_cases n file at le) [
        | inl h ↦ (let d : (let r : Result (List ℕ × ℕ) ImageFault = Err (Short (length file)) in r ▸ then) ≡ Ok (x, end) = ap (λ (z : Result (List ℕ × ℕ) ImageFault). z ▸ then) (sym h.0) ∙ e in absurd cc)
        | inr h ↦ (
            let t = take n (drop at file) in
            let d : cond (ok t) (run (next t) file (at + n)) (Err (fault t at)) ≡ Ok (x, end) = ap (λ (z : Result (List ℕ × ℕ) ImageFault). z ▸ then) (sym h.read) ∙ e in
            let k = let_through (ok t) (run (next t) file (at + n)) (fault t at) (x, end) d in
            cons_took (chunk n ok fault next) file at (at + n) (Chunk t) (next t) x end (h.long, bytes_before n (drop at file) (bytes_after at file fits), k.0, refl) h.parts (let l = h.long in omega arith) (took (next t) file (at + n) x end fits h.within k.1))
      ]
  took {A} (instruction room next) file at x end fits le e =
      instruction_took law room next file at x end fits le e (λ len i within h. took (next (take len (drop at file)) i) file (at + len) x end fits within h)

  -- reading that does not come to the end meets the fault of the first field that is not sound
  pub failed : {A : Type 0} (g : Grammar A) (file : List ℕ) (at : ℕ) (f : ImageFault) → AreBytes file → at ≤ length file → run g file at ≡ Err f → Failed g file at f
  failed {A} (done y) file at f fits le e = absurd cc
  failed {A} (chunk n ok fault next) file at f fits le e =
      let then : List ℕ × ℕ → Result (A × ℕ) ImageFault = λ t. cond (ok t.0) (run (next t.0) file t.1) (Err (fault t.0 at)) in
      elim (chunk_cases n file at le) [
        | inl h ↦ (
            let d : (let r : Result (A × ℕ) ImageFault = Err (Short (length file)) in r) ≡ Err f = ap (λ (z : Result (List ℕ × ℕ) ImageFault). z ▸ then) (sym h.0) ∙ e in
            first_failed (chunk n ok fault next) file at f (inl (h.1, sym (err_is {B = A × ℕ} (Short (length file)) f d))))
        | inr h ↦ (
            let t = take n (drop at file) in
            let d : cond (ok t) (run (next t) file (at + n)) (Err (fault t at)) ≡ Err f = ap (λ (z : Result (List ℕ × ℕ) ImageFault). z ▸ then) (sym h.read) ∙ e in
            let l = length-drop at file in
            let w = h.within in
            elim (held_back (ok t) (run (next t) file (at + n)) (fault t at) f d) [
              | inl k ↦ cons_failed (chunk n ok fault next) file at (at + n) (Chunk t) (next t) f (h.long, bytes_before n (drop at file) (bytes_after at file fits), k.0, refl) h.parts (let m = h.long in omega arith) (failed (next t) file (at + n) f fits h.within k.1)
              | inr k ↦ first_failed (chunk n ok fault next) file at f (inr (omega arith, k.0, k.1))
            ])
      ]
  failed {A} (instruction room next) file at f fits le e =
      instruction_failed law prefix room next file at f fits le e (λ len i within h. failed (next (take len (drop at file)) i) file (at + len) f fits within h)
