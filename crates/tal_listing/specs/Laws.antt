-- What a listing tells.
use Rattle.std.specs.Prelude.{◌≡◌, List, ℕ, Some}
use Rattle.std.specs.List.{All, flat_map}
use Rattle.ia32_code.specs.declared.instruction.Inst.{Inst}
use Rattle.ia32_code.specs.Canonical.{Canonical}
use Rattle.ia32_code.specs.Spells.{Spells}
use Rattle.code_words.specs.declared.words.Words.{Words}
use Rattle.code_words.specs.Saying.{said_of, HasByteCount}
use Rattle.object_layout.specs.Areas.{code_start}
use Rattle.tal_image.specs.Formed.{Formed}
use Rattle.tal_image.specs.Image.{ImageParts}
use Rattle.tal_image.specs.Shown.{spans}
use Rattle.tal_listing.specs.Lines.{CodeLine}
use Rattle.tal_listing.specs.Listing.{functions_lines}

-- The words of a line mean the canonical spelling of its instruction: an instruction that has these words has a canonical
-- spelling, and that spells the instruction of the line. It need not be the bytes of the line.
abbrev pub WordsMeanSpelling : Type 0
WordsMeanSpelling = (l : CodeLine) (i : Inst) (w : Words) → Spells l.bytes l.inst → HasByteCount l.inst → HasByteCount i
    → said_of l.inst ≡ Some w → said_of i ≡ Some w → (text : List ℕ) × (Canonical i ≡ Some text) × Spells text l.inst

-- the lines have these bytes, all of them and in their order, and in each line the bytes spell its instruction
pub record HaveBytes (bytes : List ℕ) (lines : List CodeLine) : Type 0 where
  pub whole : flat_map (λ (l : CodeLine). l.bytes) lines ≡ bytes
  pub spelled : All (λ (l : CodeLine). Spells l.bytes l.inst) lines

-- Every byte of an image's code stands in a line.
abbrev pub EveryByteListed : Type 0
EveryByteListed = (i : ImageParts) → Formed i → HaveBytes i.code (functions_lines i.code (spans code_start i.functions))
