-- Small units, linked by the definitions.
use Rattle.std.specs.Prelude.{◌≡◌, ℕ, true, false, [], ◌∷◌, codes, Ok, Err}
use Rattle.tal_types.specs.declared.types.Ty.TheVariants.{Num, Junk}
use Rattle.tal_types.specs.declared.signatures.Sig.{Sig}
use Rattle.unit_files.specs.Unit.{UnitParts}
use Rattle.image_linker.specs.Linked.{Linked, Twice, Missing}

-- a unit with this heap and these stacks, and nothing else
abbrev pub bare_unit : ℕ → ℕ → UnitParts
bare_unit heap stacks = record {
  heap_words = heap;
  stacks = stacks;
  names = [];
  sigs = [];
  functions = [];
  entries = [];
  classes = [];
  kinds = [];
  statics = [];
  arrays = [];
  code = [];
  blocks = [];
  marks = [];
  fixups = [];
}

abbrev pub HeapIsGivenTwice : Type 0
HeapIsGivenTwice = Linked (bare_unit 64 0 ∷ bare_unit 64 2 ∷ []) ≡ Err (Twice (codes "heap"))

abbrev pub HeapIsMissing : Type 0
HeapIsMissing = Linked (bare_unit 0 2 ∷ []) ≡ Err (Missing (codes "heap"))

-- takes nothing, and gives a number
abbrev pub number_sig : Sig
number_sig = record { params = Junk ∷ Junk ∷ Junk ∷ Junk ∷ Junk ∷ Junk ∷ Junk ∷ []; result = Num }

-- The first unit has the kernel, f0 and f1, whose names are the letters A and B, of signature S: f0 calls g of the other unit, and
-- both stacks begin at f1, a RET. The second unit has g, a RET.
abbrev pub calling_unit : UnitParts
calling_unit = record (bare_unit 64 2) {
  names = (83 ∷ []) ∷ (65 ∷ []) ∷ (66 ∷ []) ∷ (71 ∷ []) ∷ [];
  sigs = record { name = 0; ext = false; sig = number_sig } ∷ [];
  functions = record { name = 1; ext = false; length = 6; sig = 0 } ∷ record { name = 3; ext = true; length = 0; sig = 0 }
      ∷ record { name = 2; ext = false; length = 1; sig = 0 } ∷ [];
  entries = record { stack = 0; function = 0 } ∷ record { stack = 1; function = 2 } ∷ [];
  code = 0xE8 ∷ 0 ∷ 0 ∷ 0 ∷ 0 ∷ 0xC3 ∷ 0xC3 ∷ [];
  fixups = record { offset = 1; kind = 6; index = 1 } ∷ [];
}

abbrev pub called_unit : UnitParts
called_unit = record (bare_unit 0 0) {
  names = (71 ∷ []) ∷ (83 ∷ []) ∷ [];
  sigs = record { name = 1; ext = true; sig = number_sig } ∷ [];
  functions = record { name = 0; ext = false; length = 1; sig = 0 } ∷ [];
  code = 0xC3 ∷ [];
}

-- functions stand in the order A, G, B, so that G begins one byte behind the call and its RET
abbrev pub TwoUnitsLink : Type 0
TwoUnitsLink = Linked (calling_unit ∷ called_unit ∷ []) ≡ Ok (record {
  heap_words = 64;
  stacks = 2;
  sigs = number_sig ∷ [];
  functions = record { length = 6; sig = 0 } ∷ record { length = 1; sig = 0 } ∷ record { length = 1; sig = 0 } ∷ [];
  entries = 0 ∷ 2 ∷ [];
  classes = [];
  kinds = [];
  statics = [];
  arrays = [];
  code = 0xE8 ∷ 1 ∷ 0 ∷ 0 ∷ 0 ∷ 0xC3 ∷ 0xC3 ∷ 0xC3 ∷ [];
  blocks = [];
  marks = [];
})
