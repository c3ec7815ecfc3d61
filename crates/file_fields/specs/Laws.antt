-- What holds of every grammar and every file.
use Rattle.std.specs.Prelude.{◌≡◌, ℕ, ◌+◌, ◌≤◌, Bool, ◌⊎◌, List, [], ◌++◌, length}
use Rattle.file_fields.specs.declared.fault.ImageFault.{ImageFault}
use Rattle.file_fields.specs.Grammar.{Grammar, done, pair, field, number_bytes, Field, fields_text, AreBytes, Sound, EndsInside, FaultOf, SoundFile}
use Rattle.file_fields.specs.Reach.{MostAny}
use Rattle.file_fields.specs.Parts.{Means, Checked, CheckedPair, pair_bytes}

-- a file has one first fault, or stands for one thing
pub record OneMeaning {A : Type 0} (g : Grammar A) : Type 0 where
  pub one_fault : (file : List ℕ) (f h : ImageFault) → FaultOf g file f → FaultOf g file h → f ≡ h
  pub not_both : (file : List ℕ) (x : A) (f : ImageFault) → SoundFile g file x → FaultOf g file f → ⊥
  pub one_value : (file : List ℕ) (x y : A) → SoundFile g file x → SoundFile g file y → x ≡ y

-- each file of bytes stands for something, or has a first fault
abbrev pub EachIsOne : {A : Type 0} → Grammar A → Type 0
EachIsOne {A} g = (file : List ℕ) → AreBytes file → ((x : A) × SoundFile g file x) ⊎ ((f : ImageFault) × FaultOf g file f)

-- a file that ends inside a field has no more than so many bytes
abbrev pub EndsBy : {A : Type 0} → Grammar A → ℕ → Type 0
EndsBy {A} g most = (fs : List Field) (after : Grammar A) (bytes : List ℕ) → Sound g fs after → EndsInside after bytes → length (fields_text fs ++ bytes) ≤ most

-- fields that have no more than so many bytes end a file inside one of them within eleven bytes more, the most of an instruction
abbrev pub EndsByMost : {A : Type 0} → Grammar A → Type 0
EndsByMost {A} g = (n : ℕ) → MostAny g n → EndsBy g (n + 11)

-- the bytes are the front of a file: all of it, or as many as 32 bits count
pub record IsFrontOf (file front : List ℕ) : Type 0 where
  pub rest : List ℕ
  pub parts : file ≡ front ++ rest
  pub long : (rest ≡ []) ⊎ (length front ≡ 4294967295)

-- a number under a condition, and two as one field, stand for numbers of 32 bits that meet it, and their bytes are the numbers'
pub record NumberMeanings : Type 0 where
  pub one : (ok : ℕ → Bool) (fault : ℕ → ImageFault) → Means (field ok fault) (Checked ok) number_bytes
  pub two : (ok : ℕ → ℕ → Bool) (fault : ℕ → ℕ → ℕ → ImageFault) → Means (pair ok fault (λ n m. done (n, m))) (CheckedPair ok) pair_bytes
