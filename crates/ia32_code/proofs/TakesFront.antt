-- Readers that go from left to right, and what of them stays so when one follows the other.
use Rattle.std.proofs.Common.{◌≡◌, ℕ, ◌<◌, Bool, true, false, cond, List, [], ◌∷◌, ◌++◌, Result, Ok, Err, refl, sym, ap, subst, ◌∙◌, append_assoc, lit<}
use Rattle.ia32_code.specs.declared.reading.Stop.{Stop}
use Rattle.ia32_code.specs.declared.reading.Stop.TheVariants.{Short, Unknown}
use Rattle.ia32_code.specs.Reading.{CodeReader, onward, given, none, seq, byte_at}

-- numbers below 256
abbrev pub IsBytes : List ℕ → Type 0
IsBytes [] = Unit {0}
IsBytes (b ∷ bs) = (b < 256) × IsBytes bs

-- bytes after bytes
pub IsBytes-append : (s t : List ℕ) → IsBytes s → IsBytes t → IsBytes (s ++ t)
IsBytes-append [] t p q = q
IsBytes-append (b ∷ s) t p q = (p.0, IsBytes-append s t p.1 q)

-- some bytes are read
pub record Readable {A : Type 0} (p : CodeReader A) : Type 0 where
  pub text : List ℕ
  pub value : A
  pub fits : IsBytes text
  pub reads : (more : List ℕ) → p (text ++ more) ≡ Ok (value, more)

-- the bytes that were read
pub record Took {A : Type 0} (p : CodeReader A) (bytes : List ℕ) (a : A) (rest : List ℕ) : Type 0 where
  pub text : List ℕ
  pub parts : bytes ≡ text ++ rest
  pub reads : (more : List ℕ) → p (text ++ more) ≡ Ok (a, more)

-- bytes that complete those that end too early
pub record Ends {A : Type 0} (p : CodeReader A) (bytes : List ℕ) : Type 0 where
  pub text : List ℕ
  pub value : A
  pub fits : IsBytes text
  pub reads : (more : List ℕ) → p (bytes ++ (text ++ more)) ≡ Ok (value, more)

-- what is taken is taken again whatever follows, Unknown stays Unknown, Short can be completed
pub record TakesFront {A : Type 0} (p : CodeReader A) : Type 0 where
  pub took : (bytes : List ℕ) (a : A) (rest : List ℕ) → p bytes ≡ Ok (a, rest) → Took p bytes a rest
  pub unknown : (bytes more : List ℕ) → p bytes ≡ Err Unknown → p (bytes ++ more) ≡ Err Unknown
  pub short : (bytes : List ℕ) → p bytes ≡ Err Short → Ends p bytes

-- a value
abbrev fine : {A : Type 0} → A → Result A Stop
fine x = Ok x

-- equal answers have equal values
pub ok_is : {A : Type 0} (x y : A) → fine x ≡ fine y → x ≡ y
ok_is x y e = cc

-- ---- the smallest readers

-- a byte that was taken
byte_took : (bytes : List ℕ) (a : ℕ) (rest : List ℕ) → byte_at bytes ≡ Ok (a, rest) → Took byte_at bytes a rest
byte_took [] a rest e = absurd cc
byte_took (b ∷ bs) a rest e =
    let h : (b, bs) ≡ (a, rest) = ok_is (b, bs) (a, rest) e in
    subst (λ (x : ℕ × List ℕ). Took byte_at (b ∷ bs) x.0 x.1) h (record { text = b ∷ []; parts = refl; reads = λ more. refl })

-- a byte is never unknown
byte_unknown : (bytes more : List ℕ) → byte_at bytes ≡ Err Unknown → byte_at (bytes ++ more) ≡ Err Unknown
byte_unknown [] more e = absurd cc
byte_unknown (b ∷ bs) more e = absurd cc

-- no byte is completed by one
byte_short : (bytes : List ℕ) → byte_at bytes ≡ Err Short → Ends byte_at bytes
byte_short [] e = record { text = 0 ∷ []; value = 0; fits = (lit< tt, tt); reads = λ more. refl }
byte_short (b ∷ bs) e = absurd cc

-- the reader of a byte
pub TakesFront_byte_at : TakesFront byte_at
TakesFront_byte_at = record { took = byte_took; unknown = byte_unknown; short = byte_short }

-- some byte is read
pub Readable_byte_at : Readable byte_at
Readable_byte_at = record { text = 0 ∷ []; value = 0; fits = (lit< tt, tt); reads = λ more. refl }

-- nothing is taken
done_took : {A : Type 0} (v : A) (bytes : List ℕ) (a : A) (rest : List ℕ) → given v bytes ≡ Ok (a, rest) → Took (given v) bytes a rest
done_took {A} v bytes a rest e =
    let h : (v, bytes) ≡ (a, rest) = ok_is (v, bytes) (a, rest) e in
    subst (λ (x : A × List ℕ). Took (given v) bytes x.0 x.1) h (record { text = []; parts = refl; reads = λ more. refl })

-- the reader that takes nothing
pub TakesFront_given : {A : Type 0} (v : A) → TakesFront (given v)
TakesFront_given v = record { took = done_took v; unknown = λ bytes more e. absurd cc; short = λ bytes e. absurd cc }

-- it reads no bytes
pub Readable_given : {A : Type 0} (v : A) → Readable (given v)
Readable_given v = record { text = []; value = v; fits = tt; reads = λ more. refl }

-- the reader that refuses all
pub TakesFront_none : {A : Type 0} → TakesFront (none {A = A})
TakesFront_none = record { took = λ bytes a rest e. absurd cc; unknown = λ bytes more e. refl; short = λ bytes e. absurd cc }

-- ---- one after the other

module _ {A B : Type 0} (p : CodeReader A) (f : A → CodeReader B) (steady_p : TakesFront p) (steady_f : (a : A) → TakesFront (f a)) where
  seq_took : (bytes : List ℕ) (b : B) (rest : List ℕ) (r : Result (A × List ℕ) Stop) → p bytes ≡ r → onward r (λ x. f x.0 x.1) ≡ Ok (b, rest) → Took (seq p f) bytes b rest
  seq_took bytes b rest (Ok x) e h =
      let one = steady_p.took bytes x.0 x.1 e in
      let two = (steady_f x.0).took x.1 b rest h in
      record {
        text = one.text ++ two.text;
        parts = one.parts ∙ ap (λ (t : List ℕ). one.text ++ t) two.parts ∙ sym (append_assoc one.text two.text rest);
        reads = λ more. rw (append_assoc one.text two.text more, one.reads (two.text ++ more)) (two.reads more);
      }
  seq_took bytes b rest (Err s) e h = absurd cc

  seq_unknown : (bytes more : List ℕ) (r : Result (A × List ℕ) Stop) → p bytes ≡ r → onward r (λ x. f x.0 x.1) ≡ Err Unknown → seq p f (bytes ++ more) ≡ Err Unknown
  seq_unknown bytes more (Ok x) e h =
      let one = steady_p.took bytes x.0 x.1 e in
      let again : p (bytes ++ more) ≡ Ok (x.0, x.1 ++ more) = ap (λ (t : List ℕ). p (t ++ more)) one.parts ∙ ap p (append_assoc one.text x.1 more) ∙ one.reads (x.1 ++ more) in
      rw again ((steady_f x.0).unknown x.1 more h)
  seq_unknown bytes more (Err Unknown) e h = rw (steady_p.unknown bytes more e) refl
  seq_unknown bytes more (Err Short) e h = absurd cc

  -- completes the first part so that the second can follow
  seq_short : ((bytes : List ℕ) → p bytes ≡ Err Short → (ends : Ends p bytes) × Readable (f ends.value))
      → (bytes : List ℕ) (r : Result (A × List ℕ) Stop) → p bytes ≡ r → onward r (λ x. f x.0 x.1) ≡ Err Short → Ends (seq p f) bytes
  seq_short live bytes (Ok x) e h =
      let one = steady_p.took bytes x.0 x.1 e in
      let two = (steady_f x.0).short x.1 h in
      record {
        text = two.text;
        value = two.value;
        fits = two.fits;
        reads = λ more.
            let again : p (bytes ++ (two.text ++ more)) ≡ Ok (x.0, x.1 ++ (two.text ++ more)) =
            ap (λ (t : List ℕ). p (t ++ (two.text ++ more))) one.parts ∙ ap p (append_assoc one.text x.1 (two.text ++ more)) ∙ one.reads (x.1 ++ (two.text ++ more)) in
            rw again (two.reads more);
      }
  seq_short live bytes (Err Short) e h =
      let both = live bytes e in
      let one = both.0 in
      let two = both.1 in
      record {
        text = one.text ++ two.text;
        value = two.value;
        fits = IsBytes-append one.text two.text one.fits two.fits;
        reads = λ more. rw (append_assoc one.text two.text more, one.reads (two.text ++ more)) (two.reads more);
      }
  seq_short live bytes (Err Unknown) e h = absurd cc

  pub TakesFront_seq : ((a : A) → Readable (f a)) → TakesFront (seq p f)
  TakesFront_seq live = record {
    took = λ bytes b rest h. seq_took bytes b rest (p bytes) refl h;
    unknown = λ bytes more h. seq_unknown bytes more (p bytes) refl h;
    short = λ bytes h. seq_short (λ cut e. let ends = steady_p.short cut e in (ends, live ends.value)) bytes (p bytes) refl h;
  }

  pub Readable_seq : (live : Readable p) → Readable (f live.value) → Readable (seq p f)
  Readable_seq one two = record {
    text = one.text ++ two.text;
    value = two.value;
    fits = IsBytes-append one.text two.text one.fits two.fits;
    reads = λ more. rw (append_assoc one.text two.text more, one.reads (two.text ++ more)) (two.reads more);
  }

-- a byte that completes a reader of a byte and more
byte_ends : {B : Type 0} (f : ℕ → CodeReader B) (b : ℕ) → b < 256 → Readable (f b) → (bytes : List ℕ) → byte_at bytes ≡ Err Short → (ends : Ends byte_at bytes) × Readable (f ends.value)
byte_ends f b lt live [] e = (record { text = b ∷ []; value = b; fits = (lt, tt); reads = λ more. refl }, live)
byte_ends f b lt live (c ∷ bs) e = absurd cc

-- a byte, and then what reads something after some byte alone
pub TakesFront_byte : {B : Type 0} (f : ℕ → CodeReader B) → ((b : ℕ) → TakesFront (f b)) → (b : ℕ) → b < 256 → Readable (f b) → TakesFront (seq byte_at f)
TakesFront_byte f steady b lt live = record {
  took = λ bytes c rest h. seq_took byte_at f TakesFront_byte_at steady bytes c rest (byte_at bytes) refl h;
  unknown = λ bytes more h. seq_unknown byte_at f TakesFront_byte_at steady bytes more (byte_at bytes) refl h;
  short = λ bytes h. seq_short byte_at f TakesFront_byte_at steady (byte_ends f b lt live) bytes (byte_at bytes) refl h;
}

-- one or the other
pub TakesFront_cond : {A : Type 0} (b : Bool) (p q : CodeReader A) → TakesFront p → TakesFront q → TakesFront (cond b p q)
TakesFront_cond true p q x y = x
TakesFront_cond false p q x y = y
