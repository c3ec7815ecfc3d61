-- The words of operands that have values: they are mapped, and each is the word of the operand's value.
use Rattle.std.specs.Prelude.{slice_set, is_some, if◌then◌else◌}
use Rattle.std.specs.Option.{option_map, option_and_then, option_map_or}
use Rattle.std.proofs.Common.{◌≡◌, ℕ, Bool, true, false, List, [], ◌∷◌, Option, Some, None, refl, sym, ap, subst, ◌∙◌}
use Rattle.ia32_code.specs.declared.instruction.Reg.{Reg}
use Rattle.ia32_code.specs.declared.instruction.Reg.TheVariants.{Esp}
use Rattle.ia32_code.specs.declared.instruction.Mem.{Mem}
use Rattle.ia32_code.specs.declared.instruction.Operand.{Operand}
use Rattle.ia32_code.specs.declared.instruction.Operand.TheVariants.{R, M, I}
use Rattle.ia32_code.specs.declared.instruction.Inst.{Inst}
use Rattle.ia32_code.specs.OperandForms.{number}
use Rattle.ia32_step.specs.declared.cpu.Cpu.{Cpu}
use Rattle.ia32_step.specs.Operands.{address_of, read_word}
use Rattle.ia32_step.specs.Reaches.{IsReached}
use Rattle.object_layout.specs.Classes.{ShapesView}
use Rattle.tal_types.specs.declared.views.Mark.{Mark}
use Rattle.tal_types.specs.Contexts.{same}
use Rattle.tal_types.specs.Shown.{ShownImage}
use Rattle.tal_image.specs.Image.{ImageParts}
use Rattle.tal_image.specs.Conditions.{marked_number}
use Rattle.tal_image.specs.Shown.{shown}
use Rattle.typed_machine.specs.Values.{Value, Number, Word}
use Rattle.typed_machine.specs.States.{State, places_of, with_register}
use Rattle.typed_machine.specs.Operands.{Spot, AtStatic, AtSlot, AtValue, AtLength, AtHead, AtMethod, AtDisplay, spot_of, read_spot, spot_word, marked_value, immediate_value, operand_value, word_named, is_memory, word_among, number_in, is_number}
use Rattle.typed_machine.specs.Words.{register_words, esp_of, words_of}
use Rattle.word_machine.specs.Memory.{MemoryView, word_of, is_mapped, memory_word}
use Rattle.word_machine.proofs.Spots.{register-word}
use Rattle.word_machine.proofs.Spelled.{MayUse}
use Rattle.word_machine.proofs.Operating.{Agrees, AllReached}
use Rattle.word_machine.proofs.Telling.{there}
use Rattle.word_machine.proofs.Grounding.{words_over, Begins}

-- ---- registers

-- a write of a value's word is a write of the value
pub register-written : (s : State) (places : List ℕ) (esp : ℕ) (r : Reg) (v : Value) → same r Esp ≡ false
    → slice_set (register_words places s.thread.regs esp) (number r) (Word places v) ≡ register_words places (with_register r v s).thread.regs esp
unfolding same
register-written s places esp Esp v h = absurd (cc)
register-written s places esp r v h = refl

-- ---- spots

-- the word at a spot that has a value is the value's
pub spot-value_word : (v : ShapesView) (s : State) (spot : Spot) (w : Value) → read_spot v s spot ≡ Some w → spot_word v s spot ≡ Some (Word (places_of s) w)
unfolding spot_word read_spot
spot-value_word v s (AtDisplay c d) w e = absurd (cc)
spot-value_word v s (AtStatic j) w e = ap (option_map (Word (places_of s))) e
spot-value_word v s (AtSlot i) w e = ap (option_map (Word (places_of s))) e
spot-value_word v s (AtValue i j) w e = ap (option_map (Word (places_of s))) e
spot-value_word v s (AtLength i) w e = ap (option_map (Word (places_of s))) e
spot-value_word v s (AtHead i) w e = ap (option_map (Word (places_of s))) e
spot-value_word v s (AtMethod c m) w e = ap (option_map (Word (places_of s))) e

-- ---- operands in memory

-- an operand in memory comes first among operands, and any other is passed over
pub first-among : (v : ShownImage) (s : State) (x : Operand) (xs : List Operand) → is_memory x ≡ true → word_among v s (x ∷ xs) ≡ word_named v s x
unfolding word_among
first-among v s x xs h = rw h refl

pub later-among : (v : ShownImage) (s : State) (x : Operand) (xs : List Operand) → is_memory x ≡ false → word_among v s (x ∷ xs) ≡ word_among v s xs
unfolding word_among
later-among v s x xs h = rw h refl

-- an operand whose word is mapped, and is the one that the state's values name
pub record OperandThere (image : ImageParts) (s : State) (m : MemoryView) (x : Operand) : Type 0 where
  pub reached : IsReached x (words_over s m) (is_mapped m)
  pub agrees : Agrees (memory_word m) (word_named (shown image) s x) (words_over s m).regs x

-- and so for each of several operands
abbrev pub AllThere : ImageParts → State → MemoryView → List Operand → Type 0
AllThere image s m [] = Unit {0}
AllThere image s m (x ∷ xs) = OperandThere image s m x × AllThere image s m xs

-- then the words of all are mapped
pub all-reached : (image : ImageParts) (s : State) (m : MemoryView) (xs : List Operand) → AllThere image s m xs → AllReached (words_over s m) (is_mapped m) xs
all-reached image s m [] h = tt
all-reached image s m (x ∷ xs) h = (h.0.reached, all-reached image s m xs h.1)

module _ {image : ImageParts} {live : ℕ → Bool} {s : State} {cpu : Cpu} {m : MemoryView} {i : Inst} {len : ℕ} (b : Begins image live s cpu m i len) where
  -- the word at an operand's spot stands at its address, which is mapped
  pub spot-read : (x : Mem) → MayUse image live s (M x) → (spot : Spot) (w : ℕ) → spot_of (shown image).shapes s x ≡ Some spot → spot_word (shown image).shapes s spot ≡ Some w
      → (is_mapped m (address_of x (words_over s m).regs) ≡ true) × (word_of m (address_of x (words_over s m).regs) ≡ Some w)
  unfolding words_of
  spot-read x spares spot w e f =
      subst (λ regs. (is_mapped m (address_of x regs) ≡ true) × (word_of m (address_of x regs) ≡ Some w)) b.grounds.stand.processor.regs
      (b.laws.reads image live s cpu m b.grounds x spares.0 spot w e (spares.1 spot e) f)

  -- so an operand with a spot that has a word is there
  pub spot-there : (x : Mem) → MayUse image live s (M x) → (spot : Spot) (w : ℕ) → spot_of (shown image).shapes s x ≡ Some spot → spot_word (shown image).shapes s spot ≡ Some w
      → OperandThere image s m (M x)
  spot-there x spares spot w e f =
      let at = spot-read x spares spot w e f in
      let named : word_named (shown image) s (M x) ≡ w = rw (e, f) refl in
      record { reached = at.0; agrees = there m (address_of x (words_over s m).regs) w at.1 ∙ sym named }

  -- an operand with a value is there
  pub value-there : (x : Operand) (v : Value) → MayUse image live s x → operand_value (shown image) s x ≡ Some v → OperandThere image s m x
  unfolding operand_value
  value-there (R r) v spares e = record { reached = tt; agrees = tt }
  value-there (I n) v spares e = record { reached = tt; agrees = tt }
  value-there (M x) v spares e = go (spot_of (shown image).shapes s x) refl e
    where
      go : (o : Option Spot) → spot_of (shown image).shapes s x ≡ o → option_and_then (read_spot (shown image).shapes s) o ≡ Some v → OperandThere image s m (M x)
      go None f g = absurd (cc)
      go (Some spot) f g = spot-there x spares spot (Word (places_of s) v) f (spot-value_word (shown image).shapes s spot v g)

  -- an operand in memory has the word of its value
  memory-word : (x : Mem) (v : Value) → MayUse image live s (M x) → operand_value (shown image) s (M x) ≡ Some v → read_word (M x) (words_over s m) ≡ Word (places_of s) v
  unfolding operand_value
  memory-word x v spares e = go (spot_of (shown image).shapes s x) refl e
    where
      go : (o : Option Spot) → spot_of (shown image).shapes s x ≡ o → option_and_then (read_spot (shown image).shapes s) o ≡ Some v
          → memory_word m (address_of x (words_over s m).regs) ≡ Word (places_of s) v
      go None f g = absurd (cc)
      go (Some spot) f g =
          there m (address_of x (words_over s m).regs) (Word (places_of s) v)
          (spot-read x spares spot (Word (places_of s) v) f (spot-value_word (shown image).shapes s spot v g)).1

  -- the number of an immediate is the word of its value, marked or not
  immediate-word : (n : ℕ) → marked_number i ≡ Some n → Word (places_of s) (immediate_value (shown image) s.thread.place n) ≡ n
  unfolding immediate_value Word
  immediate-word n e = go ((shown image).mark_at s.thread.place) refl
    where
      go : (o : Option Mark) → (shown image).mark_at s.thread.place ≡ o → Word (places_of s) (option_map_or (marked_value n) o (Number n)) ≡ n
      go None f = refl
      go (Some mark) f =
          (b.laws.tells image b.grounds.well_typed.formed).words s.thread.place n b.placed mark live s.store b.here f (ap marked_number b.is ∙ e)
          (record { stand = b.grounds.typed.store.arrays; alive = b.grounds.typed.store.arrays_live })

  -- the word of an operand is its value's, where an immediate may be marked
  pub value-word : (x : Operand) (v : Value) → MayUse image live s x → ((n : ℕ) → x ≡ I n → marked_number i ≡ Some n) → operand_value (shown image) s x ≡ Some v
      → read_word x (words_over s m) ≡ Word (places_of s) v
  unfolding operand_value words_of
  value-word (R r) v spares marks e = go (same r Esp) refl e
    where
      go : (t : Bool) → same r Esp ≡ t → (if t then None else Some (s.thread.regs r)) ≡ Some v → read_word (R r) (words_over s m) ≡ Word (places_of s) v
      go true f g = absurd (cc)
      go false f g = let is : s.thread.regs r ≡ v = cc in register-word (places_of s) s.thread.regs (esp_of s) r f ∙ ap (Word (places_of s)) is
  value-word (M x) v spares marks e = memory-word x v spares e
  value-word (I n) v spares marks e = let is : immediate_value (shown image) s.thread.place n ≡ v = cc in sym (immediate-word n (marks n refl)) ∙ ap (Word (places_of s)) is

  -- an operand that is a number is there
  pub number-there : (x : Operand) → MayUse image live s x → is_number (shown image) s x ≡ true → OperandThere image s m x
  unfolding is_number
  number-there x spares e = go (operand_value (shown image) s x) refl e
    where
      go : (o : Option Value) → operand_value (shown image) s x ≡ o → is_some (option_and_then number_in o) ≡ true → OperandThere image s m x
      go None f g = absurd (cc)
      go (Some v) f g = value-there x v spares f
