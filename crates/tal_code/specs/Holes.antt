-- An instruction's bytes: its canonical spelling, with 0 in the words that are left to the linker. While it is spelled a word
-- that fits no byte stands for each of them, so that each has four bytes.
use Rattle.std.specs.Prelude.{◌≡◌, ℕ, ◌+◌, ◌≤◌, List, [], ◌∷◌, ◌++◌, length, take, drop, Option, Some, None, IfSome}
use Rattle.std.specs.Option.{option_and_then, option_map, option_or}
use Rattle.ia32_code.specs.declared.spelling.Spelling.{Spelling}
use Rattle.ia32_code.specs.Spells.{Filled, text}
use Rattle.ia32_code.specs.Canonical.{canonical_row}
use Rattle.ia32_code.specs.WholeWords.{word_offsets}
use Rattle.code_words.specs.declared.words.Words.{Words}
use Rattle.code_words.specs.Meaning.{meant_by}
use Rattle.tal_operands.specs.declared.operands.Hole.{Hole}
use Rattle.tal_operands.specs.declared.instructions.Instruction.{Instruction}
use Rattle.tal_code.specs.declared.holes.SpelledWords.{SpelledWords}
use Rattle.tal_code.specs.declared.holes.HolePlace.{HolePlace}
use Rattle.tal_code.specs.declared.holes.HoledCode.{HoledCode}

-- the canonical spelling of the instruction that words mean
unfoldable pub spelling_for : Words → Option Spelling
spelling_for w = option_and_then canonical_row (meant_by w)

-- its bytes, and where its whole words lie in them
unfoldable pub spelled_as : Spelling → SpelledWords
spelled_as s = record { bytes = text s; places = word_offsets s }

-- A hole lies in a whole word. Where there is none for it, the instruction has no spelling.
unfoldable pub hole_place : Option Hole → Option ℕ → Option (Option HolePlace)
hole_place None place = Some None
hole_place (Some h) None = None
hole_place (Some h) (Some k) = Some (Some (record { at = k; hole = h }))

-- The hole of an address is the word within, or the one at the end, as in MOV of EAX and an address; the other hole is the
-- word at the end.
unfoldable pub with_places : Instruction → SpelledWords → Option HoledCode
with_places i s =
    option_and_then (λ near. option_map (λ far. record { bytes = s.bytes; near = near; far = far }) (hole_place i.far s.places.at_end))
    (hole_place i.near (option_or s.places.within s.places.at_end))

-- the bytes of an instruction with the places of its holes, if it has a spelling
unfoldable pub holed_code : Instruction → Option HoledCode
holed_code i = option_and_then (λ s. with_places i (spelled_as s)) (spelling_for i.words)

-- four bytes of 0
abbrev pub zero_word : List ℕ
zero_word = 0 ∷ 0 ∷ 0 ∷ 0 ∷ []

-- the bytes with 0 in the word at a place
unfoldable pub zeroed : ℕ → List ℕ → List ℕ
zeroed k bytes = take k bytes ++ (zero_word ++ drop 4 (drop k bytes))

-- the same, where there is a hole
unfoldable pub zeroed_hole : Option HolePlace → List ℕ → List ℕ
zeroed_hole None bytes = bytes
zeroed_hole (Some p) bytes = zeroed p.at bytes

-- the bytes with 0 in the holes
unfoldable pub open_bytes : HoledCode → List ℕ
open_bytes c = zeroed_hole c.far (zeroed_hole c.near c.bytes)

-- the whole words lie within the bytes
pub record WordsWithin (s : SpelledWords) : Type 0 where
  pub within : IfSome s.places.within (λ (k : ℕ). k + 4 ≤ length s.bytes)
  pub at_end : IfSome s.places.at_end (λ (k : ℕ). k + 4 ≤ length s.bytes)

-- a place lies within the bytes with its word
abbrev pub IsWithin : List ℕ → Option HolePlace → Type 0
IsWithin bytes place = IfSome place (λ (p : HolePlace). p.at + 4 ≤ length bytes)

-- both places do
pub record PlacesWithin (c : HoledCode) : Type 0 where
  pub near : IsWithin c.bytes c.near
  pub far : IsWithin c.bytes c.far

-- the bytes with 0 in the holes are those of a filled row of the table
pub record IsOpen (c : HoledCode) : Type 0 where
  pub spelling : Spelling
  pub filled : Filled spelling
  pub bytes : open_bytes c ≡ text spelling
