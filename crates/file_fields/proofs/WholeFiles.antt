-- What is read of a file, or of its front, is what the file stands for.
use Rattle.std.proofs.Common.{◌≡◌, ◌≢◌, ℕ, zero, suc, ◌+◌, ◌<◌, ◌≤◌, ◌^◌, ◌⊎◌, inl, inr, Bool, true, false, List, [], ◌∷◌, ◌++◌, length, take, drop, Result, Ok, Err, refl, sym, ap, subst, ◌∙◌, append_assoc, arith, lit<, ⊎_elim}
use Rattle.std.specs.Prelude.{nat_lt}
use Rattle.std.proofs.lemmas.Bool.Decides.{nat_tests}
use Rattle.std.proofs.lemmas.List.{append-nil, length-append, length-drop}
use Rattle.ia32_code.specs.declared.instruction.Inst.{Inst}
use Rattle.ia32_code.specs.Spells.{Spells}
use Rattle.ia32_code.specs.Decoding.{PrefixLaw, DecodedLaw, IsCut}
use Rattle.file_fields.specs.declared.fault.ImageFault.{ImageFault}
use Rattle.file_fields.specs.declared.fault.ImageFault.TheVariants.{Magic, Version, Short, Rest, Bad, NoMemory}
use Rattle.file_fields.specs.Grammar.{Grammar, done, chunk, instruction, fields_text, AreBytes, EndsInside, Breaks, FaultOf, SoundFile}
use Rattle.file_fields.specs.Laws.{EachIsOne, EndsBy, IsFrontOf}
use Rattle.file_fields.specs.Reading.{Fails, run}
use Rattle.file_fields.proofs.OneEnd.{front_of_other}
use Rattle.file_fields.proofs.ReadFields.{Took, Failed, took, failed}

-- a list of no length is empty
none_left : (bytes : List ℕ) → length bytes ≡ 0 → bytes ≡ []
none_left [] e = refl
none_left (b ∷ bytes) e = absurd (omega arith)

-- a list with a length is not empty
some_left : (bytes : List ℕ) → 0 < length bytes → bytes ≢ []
some_left [] h = absurd (omega arith)
some_left (b ∷ bytes) h = λ e. absurd cc

-- ---- a whole file

module _ {A : Type 0} (g : Grammar A) (file : List ℕ) where
  -- fields that are read to the end of the file
  to_end : (x : A) (end : ℕ) → Took g file 0 x end → length file ≤ end → SoundFile g file x
  to_end x end t le =
      let l = length-drop end file in
      record { fields = t.fields; parts = t.parts ∙ ap (λ (z : List ℕ). fields_text t.fields ++ z) (none_left (drop end file) (omega arith)) ∙ append-nil (fields_text t.fields); sound = t.sound }

  -- fields that are read to a place before it, with more bytes behind
  before_end : (more : List ℕ) (x : A) (end : ℕ) → Took g file 0 x end → end < length (file ++ more) → FaultOf g (file ++ more) (Rest end)
  before_end more x end t lt =
      let l = length-drop end file in
      let l2 = length-append file more in
      let l3 = length-append (drop end file) more in
      let within = t.within in
      let place : end ≡ length (fields_text t.fields) = let a = t.place in omega arith in
      record {
        fields = t.fields;
        bytes = drop end file ++ more;
        after = done x;
        parts = ap (λ (z : List ℕ). z ++ more) t.parts ∙ append_assoc (fields_text t.fields) (drop end file) more;
        sound = t.sound;
        fails = inr (some_left (drop end file ++ more) (omega arith), ap (λ (z : ℕ). Rest z) place);
      }

  -- fields that are read to one that is not sound
  at_field : (f : ImageFault) → Failed g file 0 f → FaultOf g file f
  at_field f t = record {
    fields = t.fields;
    bytes = t.bytes;
    after = t.after;
    parts = t.parts;
    sound = t.sound;
    fails = subst (λ (z : ℕ). (EndsInside t.after t.bytes × (f ≡ Short (length file))) ⊎ Breaks t.after z t.bytes f) (omega arith) t.fails;
  }

module _ (law : DecodedLaw) (prefix : PrefixLaw) {A : Type 0} (g : Grammar A) where
  -- each file stands for something, or has a first fault
  pub each_is_one : EachIsOne g
  each_is_one file fits = what_it_is (run g file 0) refl
    where
      what_it_is : (r : Result (A × ℕ) ImageFault) → run g file 0 ≡ r → ((x : A) × SoundFile g file x) ⊎ ((f : ImageFault) × FaultOf g file f)
      what_it_is (Err f) e = inr (f, at_field g file f (failed law prefix g file 0 f fits (omega arith) e))
      what_it_is (Ok x) e = go (nat_lt x.1 (length file)) refl
        where
          t : Took g file 0 x.0 x.1
          t = took law prefix g file 0 x.0 x.1 fits (omega arith) e

          go : (b : Bool) → nat_lt x.1 (length file) ≡ b → ((x : A) × SoundFile g file x) ⊎ ((f : ImageFault) × FaultOf g file f)
          go true b =
              let less : x.1 < length file = grind (arith, nat_tests) in
              inr (Rest x.1, subst (λ (z : List ℕ). FaultOf g z (Rest x.1)) (append-nil file) (before_end g file [] x.0 x.1 t (subst (λ (z : List ℕ). x.1 < length z) (sym (append-nil file)) less)))
          go false b = inl (x.0, to_end g file x.0 x.1 t (grind (arith, nat_tests)))

-- ---- the front of a file

-- a longer list is not empty
longer : (bytes more : List ℕ) → bytes ≢ [] → bytes ++ more ≢ []
longer [] more h = λ e. h refl
longer (b ∷ bytes) more h = λ e. absurd cc

-- bytes before some leave some
longer_behind : (more bytes : List ℕ) → bytes ≢ [] → more ++ bytes ≢ []
longer_behind [] bytes h = h
longer_behind (b ∷ more) bytes h = λ e. absurd cc

-- bytes are none or some
empty_or : (bytes : List ℕ) → (bytes ≡ []) ⊎ (bytes ≢ [])
empty_or [] = inl refl
empty_or (b ∷ bytes) = inr (λ e. absurd cc)

-- the first bytes of a front are those of the whole
take_more : (n : ℕ) (bytes more : List ℕ) → n ≤ length bytes → take n (bytes ++ more) ≡ take n bytes
take_more zero bytes more le = refl
take_more (suc n) [] more le = absurd (omega arith)
take_more (suc n) (b ∷ bytes) more le = ap (λ (z : List ℕ). b ∷ z) (take_more n bytes more (omega arith))

-- bytes in which no instruction begins that may stand there, and that no more bytes make one
no_text : (bytes more text rest : List ℕ) (i : Inst) (room : ℕ) → ((text : List ℕ) (i : Inst) (rest : List ℕ) → Spells text i → bytes ≡ text ++ rest → length text ≤ room → ⊥) → (IsCut bytes → ⊥) → Spells text i
    → bytes ++ more ≡ text ++ rest → length text ≤ room → ⊥
no_text bytes more text rest i room none uncut s e fit =
    ⊎_elim
    (λ k. ⊎_elim
    (λ (z : k.0 ≡ []). none text i [] s (sym (append-nil bytes) ∙ ap (λ (m : List ℕ). bytes ++ m) (sym z) ∙ k.1 ∙ sym (append-nil text)) fit)
    (λ (some : k.0 ≢ []). uncut (i, k.0, some, subst (λ (t : List ℕ). Spells t i) (sym k.1) s))
    (empty_or k.0))
    (λ k. none text i k.0 s (sym k.1) fit)
    (front_of_other bytes text more rest e)

-- a field that breaks its condition breaks it with more bytes behind it
breaks_more : {A : Type 0} (g : Grammar A) (at : ℕ) (bytes more : List ℕ) (f : ImageFault) → Breaks g at bytes f → Breaks g at (bytes ++ more) f
breaks_more (done x) at bytes more f h = (longer bytes more h.0, h.1)
breaks_more (chunk n ok fault next) at bytes more f h =
    let e = sym (take_more n bytes more h.0) in
    let l = length-append bytes more in
    let le = h.0 in
    (omega arith, ap ok (sym e) ∙ h.1, h.2 ∙ ap (λ (t : List ℕ). fault t at) e)
breaks_more (instruction room next) at bytes more f h = (
  λ text i rest s e fit. no_text bytes more text rest i room h.0 h.1 s e fit,
  λ cut. h.1 (cut.0, more ++ cut.1, longer_behind more cut.1 cut.2, subst (λ (t : List ℕ). Spells t cut.0) (append_assoc bytes more cut.1) cut.3),
  h.2,
)

-- the bytes of a front are bytes
bytes_front : (front rest : List ℕ) → AreBytes (front ++ rest) → AreBytes front
bytes_front [] rest fits i = lit< tt
bytes_front (b ∷ front) rest fits zero = fits zero
bytes_front (b ∷ front) rest fits (suc i) = bytes_front front rest (λ k. fits (suc k)) i

module _ (law : DecodedLaw) (prefix : PrefixLaw) {A : Type 0} (g : Grammar A) (ends : EndsBy g (2 ^ 31)) (file front : List ℕ) (fits : AreBytes file) (is : IsFrontOf file front) where
  -- what the front has are bytes
  front_fits : AreBytes front
  front_fits = bytes_front front is.rest (subst AreBytes is.parts fits)

  -- a whole part was read
  pub reads_value : (x : A) (end : ℕ) → run g front 0 ≡ Ok (x, end) → length file ≤ end → SoundFile g file x
  reads_value x end e le =
      let t = took law prefix g front 0 x end front_fits (omega arith) e in
      let l = ap (λ (z : List ℕ). length z) is.parts in
      let l2 = length-append front is.rest in
      let within = t.within in
      let none : length is.rest ≡ 0 = omega arith in
      let same : file ≡ front = is.parts ∙ ap (λ (z : List ℕ). front ++ z) (none_left is.rest none) ∙ append-nil front in
      subst (λ (z : List ℕ). SoundFile g z x) (sym same) (to_end g front x end t (omega arith))

  -- a part was read, and more follows
  pub reads_rest : (x : A) (end : ℕ) → run g front 0 ≡ Ok (x, end) → end < length file → FaultOf g file (Rest end)
  reads_rest x end e lt =
      let t = took law prefix g front 0 x end front_fits (omega arith) e in
      let l = ap (λ (z : List ℕ). length z) is.parts in
      subst (λ (z : List ℕ). FaultOf g z (Rest end)) (sym is.parts) (before_end g front is.rest x end t (omega arith))

  -- a front that long does not end inside a field
  too_long : length front ≤ 2147483648 → length front ≡ 4294967295 → ⊥
  too_long a b = omega arith

  -- a fault was met
  fault_met : (f : ImageFault) → run g front 0 ≡ Err f → FaultOf g file f
  fault_met f e =
      let t = failed law prefix g front 0 f front_fits (omega arith) e in
      ⊎_elim
      (λ (none : is.rest ≡ []). subst (λ (z : List ℕ). FaultOf g z f) (sym (is.parts ∙ ap (λ (z : List ℕ). front ++ z) none ∙ append-nil front)) (at_field g front f t))
      (λ (long : length front ≡ 4294967295). record {
        fields = t.fields;
        bytes = t.bytes ++ is.rest;
        after = t.after;
        parts = is.parts ∙ ap (λ (z : List ℕ). z ++ is.rest) t.parts ∙ append_assoc (fields_text t.fields) t.bytes is.rest;
        sound = t.sound;
        fails = ⊎_elim
            (λ (k : EndsInside t.after t.bytes × (f ≡ Short (length front))).
            absurd (too_long (subst (λ (z : List ℕ). length z ≤ 2147483648) (sym t.parts) (ends t.fields t.after t.bytes t.sound k.0)) long))
            (λ (k : Breaks t.after (0 + length (fields_text t.fields)) t.bytes f). inr (breaks_more t.after (length (fields_text t.fields)) t.bytes is.rest f (subst (λ (z : ℕ). Breaks t.after z t.bytes f) (omega arith) k)))
            t.fails;
      })
      is.long

  -- a fault was met, or memory was wanting
  pub reads_fault : (f : ImageFault) → Fails f (run g front 0) → (f ≡ NoMemory) ⊎ FaultOf g file f
  reads_fault NoMemory h = inl refl
  reads_fault Magic h = inr (fault_met Magic h)
  reads_fault Version h = inr (fault_met Version h)
  reads_fault (Short at) h = inr (fault_met (Short at) h)
  reads_fault (Rest at) h = inr (fault_met (Rest at) h)
  reads_fault (Bad at field) h = inr (fault_met (Bad at field) h)
