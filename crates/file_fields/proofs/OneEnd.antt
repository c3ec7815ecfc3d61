-- A file has one list of sound fields that can't go on, and so one first fault at most, and stands for one thing at most.
use Rattle.std.proofs.Common.{◌≡◌, ℕ, zero, suc, ◌<◌, ◌⊎◌, inl, inr, Bool, true, false, List, [], ◌∷◌, ◌++◌, length, take, drop, refl, sym, ap, subst, ◌∙◌, append_assoc, arith}
use Rattle.std.proofs.lemmas.List.{length-append, append-nil, take-append-drop}
use Rattle.ia32_code.specs.declared.instruction.Inst.{Inst}
use Rattle.ia32_code.specs.Spells.{Spells}
use Rattle.ia32_code.specs.Decoding.{PrefixLaw, IsCut}
use Rattle.file_fields.specs.declared.fault.ImageFault.{ImageFault}
use Rattle.file_fields.specs.declared.fault.ImageFault.TheVariants.{Short}
use Rattle.file_fields.specs.Grammar.{Grammar, done, chunk, instruction, Field, Chunk, Instruction, field_text, fields_text, Meets, Sound, EndsInside, Breaks, FaultOf, SoundFile}
use Rattle.file_fields.specs.Laws.{OneMeaning}

first_is : (b c : ℕ) (s t : List ℕ) → b ∷ s ≡ c ∷ t → b ≡ c
first_is b c s t e = cc

rest_is : (b c : ℕ) (s t : List ℕ) → b ∷ s ≡ c ∷ t → s ≡ t
rest_is b c s t e = cc

-- of two fronts of one list one begins the other
pub front_of_other : (s t x y : List ℕ) → s ++ x ≡ t ++ y → ((m : List ℕ) × (s ++ m ≡ t)) ⊎ ((m : List ℕ) × (t ++ m ≡ s))
front_of_other [] t x y e = inl (t, refl)
front_of_other (b ∷ s) [] x y e = inr (b ∷ s, refl)
front_of_other (b ∷ s) (c ∷ t) x y e =
    let h = first_is b c (s ++ x) (t ++ y) e in
    elim (front_of_other s t x y (rest_is b c (s ++ x) (t ++ y) e)) [
      | inl k ↦ inl (k.0, ap (λ (z : List ℕ). b ∷ z) k.1 ∙ ap (λ (z : ℕ). z ∷ t) h)
      | inr k ↦ inr (k.0, ap (λ (z : List ℕ). c ∷ z) k.1 ∙ ap (λ (z : ℕ). z ∷ s) (sym h))
    ]

-- fronts of one length are one
same_front : (s t x y : List ℕ) → length s ≡ length t → s ++ x ≡ t ++ y → s ≡ t
same_front [] [] x y l e = refl
same_front [] (c ∷ t) x y l e = absurd (omega arith)
same_front (b ∷ s) [] x y l e = absurd (omega arith)
same_front (b ∷ s) (c ∷ t) x y l e =
    let h = first_is b c (s ++ x) (t ++ y) e in
    let k = same_front s t x y (omega arith) (rest_is b c (s ++ x) (t ++ y) e) in
    ap (λ (z : ℕ). z ∷ s) h ∙ ap (λ (z : List ℕ). c ∷ z) k

right_is : (s x y : List ℕ) → s ++ x ≡ s ++ y → x ≡ y
right_is [] x y e = e
right_is (b ∷ s) x y e = right_is s x y (rest_is b b (s ++ x) (s ++ y) e)

pub take_front : (s t : List ℕ) (n : ℕ) → length s ≡ n → take n (s ++ t) ≡ s
take_front [] t zero l = refl
take_front [] t (suc n) l = absurd (omega arith)
take_front (b ∷ s) t zero l = absurd (omega arith)
take_front (b ∷ s) t (suc n) l = ap (λ (z : List ℕ). b ∷ z) (take_front s t n (omega arith))

done_is : {A : Type 0} (x y : A) → done x ≡ done y → x ≡ y
done_is x y e = cc

-- where no field is sound
abbrev Stuck : {A : Type 0} → Grammar A → List ℕ → Type 0
Stuck {A} g bytes = (f : Field) (after : Grammar A) (rest : List ℕ) → Meets g f after → bytes ≡ field_text f ++ rest → ⊥

record SameField {A : Type 0} (f h : Field) (a b : Grammar A) (x y : List ℕ) : Type 0 where
  field : f ≡ h
  after : a ≡ b
  rest : x ≡ y

record SameEnd {A : Type 0} (fs gs : List Field) (a b : Grammar A) (x y : List ℕ) : Type 0 where
  fields : fs ≡ gs
  after : a ≡ b
  rest : x ≡ y

right_empty : (s t : List ℕ) → s ++ t ≡ [] → t ≡ []
right_empty [] t e = e
right_empty (b ∷ s) t e = absurd cc

too_short : (a b bytes : List ℕ) → length bytes < length a → bytes ≡ a ++ b → ⊥
too_short a b bytes h e = let l = ap length e ∙ length-append a b in absurd (omega arith)

no_test : (b : Bool) → b ≡ true → b ≡ false → ⊥
no_test b t f = cc

-- bytes that begin with a spelling are not cut off inside one
pub not_cut : (law : PrefixLaw) (bytes : List ℕ) (i : Inst) (len : ℕ) → Spells (take len bytes) i → IsCut bytes → ⊥
not_cut law bytes i len s h =
    let whole : take len bytes ++ (drop len bytes ++ h.1) ≡ bytes ++ h.1 = sym (append_assoc (take len bytes) (drop len bytes) h.1) ∙ ap (λ (t : List ℕ). t ++ h.1) (take-append-drop len bytes) in
    h.2 (right_empty (drop len bytes) h.1 (law (take len bytes) (bytes ++ h.1) (drop len bytes ++ h.1) i h.0 s h.3 whole).0)

-- the field after a list of sound ones fails
abbrev Fails : {A : Type 0} → List ℕ → List Field → List ℕ → Grammar A → ImageFault → Type 0
Fails file fields bytes after f = (EndsInside after bytes × (f ≡ Short (length file))) ⊎ Breaks after (length (fields_text fields)) bytes f

stuck_done : {A : Type 0} (x : A) (bytes : List ℕ) → Stuck (done x) bytes
stuck_done x bytes f after rest m e = m

module _ (law : PrefixLaw) where
  pub same_text : (s t x y : List ℕ) (i j : Inst) → Spells s i → Spells t j → s ++ x ≡ t ++ y → (s ≡ t) × (i ≡ j)
  same_text s t x y i j a b e = elim (front_of_other s t x y e) [
    | inl k ↦ (let l = law s t k.0 i j a b k.1 in (sym (append-nil s) ∙ ap (λ (z : List ℕ). s ++ z) (sym l.0) ∙ k.1, l.1))
    | inr k ↦ (let l = law t s k.0 j i b a k.1 in (sym (sym (append-nil t) ∙ ap (λ (z : List ℕ). t ++ z) (sym l.0) ∙ k.1), sym l.1))
  ]

  same_field : {A : Type 0} (g : Grammar A) (f h : Field) (a b : Grammar A) (x y : List ℕ) → Meets g f a → Meets g h b → field_text f ++ x ≡ field_text h ++ y → SameField f h a b x y
  same_field (chunk n ok fault next) (Chunk s) (Chunk t) a b x y p q e =
      let k = same_front s t x y (p.0 ∙ sym q.0) e in
      record { field = ap Chunk k; after = p.3 ∙ ap next k ∙ sym q.3; rest = right_is s x y (e ∙ ap (λ (z : List ℕ). z ++ y) (sym k)) }
  same_field (instruction room next) (Instruction s i) (Instruction t j) a b x y p q e =
      let k = same_text s t x y i j p.0 q.0 e in
      record {
        field = ap (λ (z : List ℕ). Instruction z i) k.0 ∙ ap (λ (z : Inst). Instruction t z) k.1;
        after = p.2 ∙ ap (λ (z : List ℕ). next z i) k.0 ∙ ap (next t) k.1 ∙ sym q.2;
        rest = right_is s x y (e ∙ ap (λ (z : List ℕ). z ++ y) (sym k.0));
      }
  same_field (done v) f h a b x y p q e = absurd p
  same_field (chunk n ok fault next) (Chunk s) (Instruction t j) a b x y p q e = absurd q
  same_field (chunk n ok fault next) (Instruction s i) h a b x y p q e = absurd p
  same_field (instruction room next) (Instruction s i) (Chunk t) a b x y p q e = absurd q
  same_field (instruction room next) (Chunk s) h a b x y p q e = absurd p

  -- two lists of sound fields that can't go on are one
  same_end : {A : Type 0} (g : Grammar A) (fs gs : List Field) (a b : Grammar A) (x y : List ℕ) → Sound g fs a → Sound g gs b → fields_text fs ++ x ≡ fields_text gs ++ y → Stuck a x → Stuck b y → SameEnd fs gs a b x y
  same_end g [] [] a b x y p q e u v = record { fields = refl; after = sym p ∙ q; rest = e }
  same_end {A} g [] (h ∷ gs) a b x y p q e u v =
      absurd (u h q.0 (fields_text gs ++ y) (subst (λ (z : Grammar A). Meets z h q.0) p q.1) (e ∙ append_assoc (field_text h) (fields_text gs) y))
  same_end {A} g (f ∷ fs) [] a b x y p q e u v =
      absurd (v f p.0 (fields_text fs ++ x) (subst (λ (z : Grammar A). Meets z f p.0) q p.1) (sym e ∙ append_assoc (field_text f) (fields_text fs) x))
  same_end {A} g (f ∷ fs) (h ∷ gs) a b x y p q e u v =
      let e1 = sym (append_assoc (field_text f) (fields_text fs) x) ∙ e ∙ append_assoc (field_text h) (fields_text gs) y in
      let k = same_field g f h p.0 q.0 (fields_text fs ++ x) (fields_text gs ++ y) p.1 q.1 e1 in
      let s = subst (λ (z : Grammar A). Sound z fs a) k.after p.2 in
      let r = same_end q.0 fs gs a b x y s q.2 k.rest u v in
      record { fields = ap (λ (z : Field). z ∷ fs) k.field ∙ ap (λ (z : List Field). h ∷ z) r.fields; after = r.after; rest = r.rest }

  -- no field is sound where one fails
  stuck : {A : Type 0} (file : List ℕ) (fields : List Field) (bytes : List ℕ) (g : Grammar A) (f : ImageFault) → Fails file fields bytes g f → Stuck g bytes
  stuck file fields bytes (chunk n ok fault next) f (inl p) (Chunk t) after rest m e = too_short t rest bytes (let a = p.0 in let b = m.0 in omega arith) e
  stuck file fields bytes (chunk n ok fault next) f (inr p) (Chunk t) after rest m e =
      no_test (ok t) m.2 (ap ok (sym (ap (take n) e ∙ take_front t rest n m.0)) ∙ p.1)
  stuck file fields bytes (instruction room next) f (inl p) (Instruction t i) after rest m e =
      let h = p.0 in
      let whole : t ++ (rest ++ h.1) ≡ bytes ++ h.1 = sym (append_assoc t rest h.1) ∙ ap (λ (z : List ℕ). z ++ h.1) (sym e) in
      h.2 (right_empty rest h.1 (law t (bytes ++ h.1) (rest ++ h.1) i h.0 m.0 h.3 whole).0)
  stuck file fields bytes (instruction room next) f (inr p) (Instruction t i) after rest m e = p.0 t i rest m.0 e m.1
  stuck file fields bytes (done x) f p h after rest m e = m
  stuck file fields bytes (chunk n ok fault next) f p (Instruction t i) after rest m e = m
  stuck file fields bytes (instruction room next) f p (Chunk t) after rest m e = m

-- one field has one fault
one_fails : {A : Type 0} (file : List ℕ) (fields : List Field) (bytes : List ℕ) (g : Grammar A) (f h : ImageFault) → Fails file fields bytes g f → Fails file fields bytes g h → f ≡ h
one_fails file fields bytes g f h (inl p) (inl q) = p.1 ∙ sym q.1
one_fails file fields bytes (done x) f h (inr p) (inr q) = p.1 ∙ sym q.1
one_fails file fields bytes (chunk n ok fault next) f h (inr p) (inr q) = p.2 ∙ sym q.2
one_fails file fields bytes (instruction room next) f h (inr p) (inr q) = p.2 ∙ sym q.2
one_fails file fields bytes (done x) f h (inl p) (inr q) = absurd p.0
one_fails file fields bytes (chunk n ok fault next) f h (inl p) (inr q) = let a = p.0 in let b = q.0 in absurd (omega arith)
one_fails file fields bytes (instruction room next) f h (inl p) (inr q) = absurd (q.1 p.0)
one_fails file fields bytes (done x) f h (inr p) (inl q) = absurd q.0
one_fails file fields bytes (chunk n ok fault next) f h (inr p) (inl q) = let a = p.0 in let b = q.0 in absurd (omega arith)
one_fails file fields bytes (instruction room next) f h (inr p) (inl q) = absurd (p.1 q.0)

no_end : {A : Type 0} (x : A) (fields : List Field) (file : List ℕ) (f : ImageFault) → Fails file fields [] (done x) f → ⊥
no_end x fields file f (inl p) = p.0
no_end x fields file f (inr p) = p.0 refl

-- Every grammar has one meaning.
pub one_meaning : {A : Type 0} (law : PrefixLaw) (g : Grammar A) → OneMeaning g
one_meaning {A} law g = record { one_fault = one_fault; not_both = not_both; one_value = one_value }
  where
    one_fault : (file : List ℕ) (f h : ImageFault) → FaultOf g file f → FaultOf g file h → f ≡ h
    one_fault file f h a b =
        let k = same_end law g a.fields b.fields a.after b.after a.bytes b.bytes a.sound b.sound (sym a.parts ∙ b.parts) (stuck law file a.fields a.bytes a.after f a.fails) (stuck law file b.fields b.bytes b.after h b.fails) in
        let a1 = subst (λ (x : List Field). Fails file x a.bytes a.after f) k.fields a.fails in
        let a2 = subst (λ (x : Grammar A). Fails file b.fields a.bytes x f) k.after a1 in
        let a3 = subst (λ (x : List ℕ). Fails file b.fields x b.after f) k.rest a2 in
        one_fails file b.fields b.bytes b.after f h a3 b.fails

    not_both : (file : List ℕ) (x : A) (f : ImageFault) → SoundFile g file x → FaultOf g file f → ⊥
    not_both file x f s a =
        let e = sym a.parts ∙ s.parts ∙ sym (append-nil (fields_text s.fields)) in
        let k = same_end law g a.fields s.fields a.after (done x) a.bytes [] a.sound s.sound e (stuck law file a.fields a.bytes a.after f a.fails) (stuck_done x []) in
        let a2 = subst (λ (z : Grammar A). Fails file a.fields a.bytes z f) k.after a.fails in
        let a3 = subst (λ (z : List ℕ). Fails file a.fields z (done x) f) k.rest a2 in
        no_end x a.fields file f a3

    one_value : (file : List ℕ) (x y : A) → SoundFile g file x → SoundFile g file y → x ≡ y
    one_value file x y s t =
        let e = append-nil (fields_text s.fields) ∙ sym s.parts ∙ t.parts ∙ sym (append-nil (fields_text t.fields)) in
        done_is x y (same_end law g s.fields t.fields (done x) (done y) [] [] s.sound t.sound e (stuck_done x []) (stuck_done y [])).after
