-- Where spots stand: the address of an operand that points to one.
use Rattle.std.proofs.Common.{◌≡◌, ◌≢◌, ◌+◌, ◌-◌, ◌*◌, ◌/◌, ◌%◌, ◌^◌, ◌<◌, ◌≤◌, ◌==◌, ◌&&◌, ℕ, Bool, true, false, nat_le, nat_lt, if◌then◌else◌, Option, Some, None, is_some, arith, refl, ap, subst, List, [], ◌∷◌, length, slice_get, slice_index}
use Rattle.std.specs.Option.{option_map, option_and_then, option_map_or}
use Rattle.std.proofs.lemmas.Bool.Decides.{nat_tests}
use Rattle.ia32_code.specs.OperandForms.{number}
use Rattle.ia32_code.specs.declared.instruction.Reg.{Reg}
use Rattle.ia32_code.specs.declared.instruction.Reg.TheVariants.{Esp}
use Rattle.ia32_code.specs.declared.instruction.Mem.{Mem}
use Rattle.ia32_step.specs.declared.cpu.Cpu.{Cpu}
use Rattle.ia32_step.specs.Operands.{part_of, address_of}
use Rattle.object_layout.specs.Areas.{statics_start, table_address, word_index}
use Rattle.object_layout.specs.Classes.{ShapesView, Methods, field_at}
use Rattle.tal_types.specs.Contexts.{same}
use Rattle.typed_machine.specs.Values.{Value, Number, Ref, Ret, Tab, ObjectShape, InstanceOf, ArrayOf, Word}
use Rattle.typed_machine.specs.States.{State, placed_shapes, places_of}
use Rattle.typed_machine.specs.Operands.{Spot, AtStatic, AtSlot, AtValue, AtLength, AtHead, AtMethod, AtDisplay, slot_count, spot_if, static_spot, slot_spot, object_spot, element_spot, table_spot, based_spot, stack_spot, located_spot, spot_of}
use Rattle.typed_machine.specs.Words.{register_words, esp_of, head_values}
use Rattle.word_machine.specs.Standing.{CpuStands}

-- how many words stand before the values of object i
abbrev pub head_count : State → ℕ → ℕ
head_count s i = option_map_or (λ shape. length (head_values shape)) (slice_get (placed_shapes s) i) 0

-- where a spot stands
unfoldable pub spot_place : State → Spot → ℕ
spot_place s (AtStatic j) = statics_start + 4 * j
spot_place s (AtSlot i) = esp_of s + 4 * i
spot_place s (AtValue i j) = slice_index (places_of s) i + 4 * (head_count s i + j)
spot_place s (AtLength i) = slice_index (places_of s) i + 4 * 1
spot_place s (AtHead i) = slice_index (places_of s) i + 4 * 0
spot_place s (AtMethod c m) = table_address c + 4 * (11 + m)
spot_place s (AtDisplay c d) = table_address c + 4 * (3 + d)

-- a slot is one of the stack's values
abbrev pub IsThere : State → Spot → Type 0
IsThere s (AtSlot i) = i < length s.values
IsThere s spot = Unit {0}

-- the byte at which a word stands
index-byte : (first byte k : ℕ) → word_index first byte ≡ Some k → byte ≡ first + 4 * k
unfolding word_index
index-byte first byte k h = go (nat_le first byte && ((byte - first) % 4 == 0)) refl h
  where
    go : (b : Bool) → (nat_le first byte && ((byte - first) % 4 == 0)) ≡ b → (if b then Some ((byte - first) / 4) else None) ≡ Some k → byte ≡ first + 4 * k
    go true e f = let at : (byte - first) / 4 ≡ k = cc in grind (arith, nat_tests)
    go false e f = absurd cc

-- the spot at a byte is the one of a number that passes
record Numbered (test : ℕ → Bool) (kind : ℕ → Spot) (first byte : ℕ) (spot : Spot) : Type 0 where
  number_is : ℕ
  passes : test number_is ≡ true
  spot_is : kind number_is ≡ spot
  byte_is : byte ≡ first + 4 * number_is

-- a number that passed, as a spot
if-index : (test : ℕ → Bool) (kind : ℕ → Spot) (first byte : ℕ) (spot : Spot) → spot_if test kind (word_index first byte) ≡ Some spot
    → Numbered test kind first byte spot
if-index test kind first byte spot h = go (word_index first byte) refl h
  where
    passed : (k : ℕ) → word_index first byte ≡ Some k → (b : Bool) → test k ≡ b → (if b then Some (kind k) else None) ≡ Some spot
        → Numbered test kind first byte spot
    passed k e true f g = record { number_is = k; passes = f; spot_is = cc; byte_is = index-byte first byte k e }
    passed k e false f g = absurd cc

    go : (o : Option ℕ) → word_index first byte ≡ o → spot_if test kind o ≡ Some spot → Numbered test kind first byte spot
    go None e f = absurd cc
    go (Some k) e f = passed k e (test k) refl f

-- a stack has as many values as slots above its top return place, at least
slots-there : (values : List Value) → slot_count values ≤ length values
unfolding slot_count
slots-there [] = omega arith
slots-there (Ret a ∷ vs) = omega arith
slots-there (v ∷ vs) = let more = slots-there vs in omega arith

-- a register that is not ESP has its value's word
pub register-word : (places : List ℕ) (regs : Reg → Value) (esp : ℕ) (r : Reg) → same r Esp ≡ false
    → slice_index (register_words places regs esp) (number r) ≡ Word places (regs r)
unfolding same
register-word places regs esp Esp h = absurd cc
register-word places regs esp r h = refl

-- ESP's number is that of no other register
is-esp : (r : Reg) → same r Esp ≡ true → r ≡ Esp
unfolding same
is-esp Esp h = refl
is-esp r h = absurd cc

-- a register that is not ESP
not-esp : (r : Reg) → Some r ≢ Some Esp → same r Esp ≡ false
unfolding same
not-esp Esp h = absurd (h refl)
not-esp r h = refl

-- a sum of words points to the spot
record Points (s : State) (spot : Spot) (sum : ℕ) : Type 0 where
  place : sum ≡ spot_place s spot
  there : IsThere s spot

-- it does where the spot is known
points-to : (s : State) (known spot : Spot) (sum : ℕ) → known ≡ spot → sum ≡ spot_place s known → IsThere s known → Points s spot sum
points-to s known spot sum is at there = subst (λ x. Points s x sum) is (record { place = at; there = there })

module _ (v : ShapesView) (s : State) (spot : Spot) where
  -- a static
  static_points : (disp : ℕ) → static_spot s disp ≡ Some spot → Points s spot disp
  unfolding static_spot spot_place
  static_points disp h =
      let found = if-index (λ j. nat_lt j (length s.statics)) AtStatic statics_start disp spot h in
      points-to s (AtStatic found.number_is) spot disp found.spot_is found.byte_is tt

  -- a slot
  slot-points : (disp : ℕ) → slot_spot s disp ≡ Some spot → Points s spot (esp_of s + disp)
  unfolding slot_spot spot_place
  slot-points disp h =
      let found = if-index (λ i. nat_lt i (slot_count s.values)) AtSlot 0 disp spot h in
      let few : found.number_is < slot_count s.values = let test = found.passes in grind (arith, nat_tests) in
      let slots = slots-there s.values in
      let byte = found.byte_is in
      points-to s (AtSlot found.number_is) spot (esp_of s + disp) found.spot_is (omega arith) (omega arith)

  -- a method or a display
  table-points : (c disp : ℕ) → table_spot v c disp ≡ Some spot → Points s spot (table_address c + disp)
  unfolding table_spot spot_place
  table-points c disp h = go (nat_le 44 disp) h
    where
      go : (b : Bool)
          → (if b then spot_if (λ m. nat_lt m (length (Methods v c))) (AtMethod c) (word_index 44 disp) else spot_if (λ d. nat_le d 7) (AtDisplay c) (word_index 12 disp)) ≡ Some spot
          → Points s spot (table_address c + disp)
      go true e =
          let found = if-index (λ m. nat_lt m (length (Methods v c))) (AtMethod c) 44 disp spot e in
          let byte = found.byte_is in
          points-to s (AtMethod c found.number_is) spot (table_address c + disp) found.spot_is (omega arith) tt
      go false e =
          let found = if-index (λ d. nat_le d 7) (AtDisplay c) 12 disp spot e in
          let byte = found.byte_is in
          points-to s (AtDisplay c found.number_is) spot (table_address c + disp) found.spot_is (omega arith) tt

  -- a value of an object, where so many words stand before its values
  value-points : (i j : ℕ) (shape : ObjectShape) (byte : ℕ) → slice_get (placed_shapes s) i ≡ Some shape → AtValue i j ≡ spot
      → byte ≡ 4 * (length (head_values shape) + j)
      → Points s spot (slice_index (places_of s) i + byte)
  unfolding spot_place
  value-points i j shape byte e is at = points-to s (AtValue i j) spot (slice_index (places_of s) i + byte) is (rw (e, at) refl) tt

  -- a field
  field-points : (i c disp : ℕ) → slice_get (placed_shapes s) i ≡ Some (InstanceOf c)
      → (b : Bool) → (if b then option_map (AtValue i) (word_index 4 disp) else None) ≡ Some spot → Points s spot (slice_index (places_of s) i + disp)
  unfolding head_values
  field-points i c disp e false h = absurd cc
  field-points i c disp e true h = go (word_index 4 disp) refl h
    where
      go : (o : Option ℕ) → word_index 4 disp ≡ o → option_map (AtValue i) o ≡ Some spot → Points s spot (slice_index (places_of s) i + disp)
      go None f g = absurd cc
      go (Some j) f g = let byte = index-byte 4 disp j f in let is : AtValue i j ≡ spot = cc in value-points i j (InstanceOf c) disp e is (omega arith)

  -- the head, a field or the length of an object
  object_points : (i disp : ℕ) (shape : ObjectShape) → slice_get (placed_shapes s) i ≡ Some shape → object_spot v i shape disp ≡ Some spot
      → Points s spot (slice_index (places_of s) i + disp)
  unfolding object_spot spot_place
  object_points i disp (InstanceOf c) e h = go (disp == 0) refl h
    where
      go : (b : Bool) → (disp == 0) ≡ b
          → (if b then Some (AtHead i) else (if is_some (field_at v c disp) then option_map (AtValue i) (word_index 4 disp) else None)) ≡ Some spot
          → Points s spot (slice_index (places_of s) i + disp)
      go true f g =
          let none : disp ≡ 0 = grind (arith, nat_tests) in
          points-to s (AtHead i) spot (slice_index (places_of s) i + disp) (cc) (omega arith) tt
      go false f g = field-points i c disp e (is_some (field_at v c disp)) g
  object_points i disp (ArrayOf k n) e h = go (disp == 4) refl h
    where
      go : (b : Bool) → (disp == 4) ≡ b → (if b then Some (AtLength i) else None) ≡ Some spot → Points s spot (slice_index (places_of s) i + disp)
      go true f g =
          let four : disp ≡ 4 = grind (arith, nat_tests) in
          points-to s (AtLength i) spot (slice_index (places_of s) i + disp) (cc) (omega arith) tt
      go false f g = absurd cc

  -- an element
  element_points : (i scale disp : ℕ) (shape : ObjectShape) (index : Value) → slice_get (placed_shapes s) i ≡ Some shape
      → element_spot i shape index scale disp ≡ Some spot
      → Points s spot (slice_index (places_of s) i + Word (places_of s) index * 2 ^ scale + disp)
  unfolding element_spot Word head_values
  element_points i scale disp (ArrayOf k n) (Number j) e h = go (nat_lt j n && ((scale == 2) && (disp == 8))) refl h
    where
      go : (b : Bool) → (nat_lt j n && ((scale == 2) && (disp == 8))) ≡ b → (if b then Some (AtValue i j) else None) ≡ Some spot
          → Points s spot (slice_index (places_of s) i + j * 2 ^ scale + disp)
      go true f g =
          let two : scale ≡ 2 = grind (arith, nat_tests) in
          let eight : disp ≡ 8 = grind (arith, nat_tests) in
          let sum : slice_index (places_of s) i + j * 2 ^ 2 + 8 ≡ slice_index (places_of s) i + (j * 2 ^ 2 + 8) = omega arith in
          let is : AtValue i j ≡ spot = cc in
          rw (two, eight, sum) (value-points i j (ArrayOf k n) (j * 2 ^ 2 + 8) e is (omega arith))
      go false f g = absurd cc
  element_points i scale disp shape index e h = absurd cc

  -- a spot at the value of a base
  based-points : (w : Value) (x : Option Reg) (scale disp index : ℕ) → ((r : Reg) → x ≡ Some r → index ≡ Word (places_of s) (s.thread.regs r))
      → (x ≡ None → index ≡ 0)
      → based_spot v s w x scale disp ≡ Some spot → Points s spot (Word (places_of s) w + index * 2 ^ scale + disp)
  unfolding Word
  based-points (Ref i) None scale disp index at none h = rw (none refl) (go (slice_get (placed_shapes s) i) refl h)
    where
      go : (o : Option ObjectShape) → slice_get (placed_shapes s) i ≡ o → option_and_then (λ shape. object_spot v i shape disp) o ≡ Some spot
          → Points s spot (slice_index (places_of s) i + 0 * 2 ^ scale + disp)
      go None e f = absurd cc
      go (Some shape) e f =
          let sum : slice_index (places_of s) i + 0 * 2 ^ scale + disp ≡ slice_index (places_of s) i + disp = omega arith in
          rw sum (object_points i disp shape e f)
  based-points (Ref i) (Some r) scale disp index at none h = rw (at r refl) (go (slice_get (placed_shapes s) i) refl h)
    where
      go : (o : Option ObjectShape) → slice_get (placed_shapes s) i ≡ o → option_and_then (λ shape. element_spot i shape (s.thread.regs r) scale disp) o ≡ Some spot
          → Points s spot (slice_index (places_of s) i + Word (places_of s) (s.thread.regs r) * 2 ^ scale + disp)
      go None e f = absurd cc
      go (Some shape) e f = element_points i scale disp shape (s.thread.regs r) e f
  based-points (Tab c) None scale disp index at none h =
      let sum : table_address c + 0 * 2 ^ scale + disp ≡ table_address c + disp = omega arith in rw (none refl, sum) (table-points c disp h)
  based-points w x scale disp index at none h = absurd cc

  module _ (cpu : Cpu) (stand : CpuStands s cpu) where
    -- the word of a register
    word-in : (r : Reg) → same r Esp ≡ false → slice_index cpu.regs (number r) ≡ Word (places_of s) (s.thread.regs r)
    word-in r h = rw stand.regs (register-word (places_of s) s.thread.regs (esp_of s) r h)

    -- base and index
    located-points : (base index : Option Reg) (scale disp : ℕ) → index ≢ Some Esp → located_spot v s base index scale disp ≡ Some spot
        → Points s spot (part_of base cpu.regs + part_of index cpu.regs * 2 ^ scale + disp)
    located-points None None scale disp spared h = let sum : 0 + 0 * 2 ^ scale + disp ≡ disp = omega arith in rw sum (static_points disp h)
    located-points None (Some x) scale disp spared h = absurd cc
    located-points (Some r) index scale disp spared h = go (same r Esp) refl h
      where
        top : (x : Option Reg) → stack_spot s x disp ≡ Some spot → Points s spot (slice_index cpu.regs 4 + part_of x cpu.regs * 2 ^ scale + disp)
        top None f = let sum : esp_of s + 0 * 2 ^ scale + disp ≡ esp_of s + disp = omega arith in rw (stand.regs, sum) (slot-points disp f)
        top (Some x) f = absurd cc

        index-word : (x : Reg) → index ≡ Some x → part_of index cpu.regs ≡ Word (places_of s) (s.thread.regs x)
        index-word x e = rw e (word-in x (not-esp x (rw e at spared)))

        go : (b : Bool) → same r Esp ≡ b → (if b then stack_spot s index disp else based_spot v s (s.thread.regs r) index scale disp) ≡ Some spot
            → Points s spot (slice_index cpu.regs (number r) + part_of index cpu.regs * 2 ^ scale + disp)
        go true e f = rw (is-esp r e) (top index f)
        go false e f = rw (word-in r e) (based-points (s.thread.regs r) index scale disp (part_of index cpu.regs) index-word (λ none. rw none refl) f)

    -- an operand's address is the place of its spot
    pub spot-address : (x : Mem) → x.index ≢ Some Esp → spot_of v s x ≡ Some spot → (address_of x cpu.regs ≡ spot_place s spot % 2 ^ 32) × IsThere s spot
    unfolding spot_of
    spot-address x spared h = let points = located-points x.base x.index x.scale x.disp spared h in (ap (λ n. n % 2 ^ 32) points.place, points.there)
