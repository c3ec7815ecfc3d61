-- What the parts of a step do. Contracts of private functions speak in these words; no public promise rests on them.
use Rattle.std.specs.Prelude.{◌≡◌, ◌≢◌, ◌↔◌, ℕ, ◌+◌, ◌*◌, ◌%◌, ◌^◌, ◌==◌, ◌&&◌, Bool, true, false, List, Contains, Option, Some, None, slice_index, slice_set, if◌then◌else◌}
use Rattle.heap_words.specs.Blocks.{Block, Blocks, FormedHeap, IsBlock}
use Rattle.heap_words.specs.Laws.{BlockLaws}
use Rattle.ia32_code.specs.declared.instruction.Inst.{Inst}
use Rattle.ia32_code.specs.declared.instruction.Inst.TheVariants as inst
use Rattle.ia32_step.specs.declared.cpu.Cpu.{Cpu}
use Rattle.ia32_step.specs.declared.effect.Effect.{Effect as StepEffect}
use Rattle.ia32_step.specs.declared.effect.Effect.TheVariants as left
use Rattle.object_layout.specs.Areas.{stacks_start}
use Rattle.tal_image.specs.Image.{ImageParts}
use Rattle.tal_image.specs.Shown.{shown}
use Rattle.typed_machine.specs.States.{State, stack_bytes}
use Rattle.typed_machine.specs.Effects.{EffectView, Moves, Faults, calls_to, returns_from}
use Rattle.typed_safety.specs.Laws.{FormedImagesTell, WellTypedImagesKeepTyping, DisplaysAreThere, InstructionsUseLiving}
use Rattle.word_machine.specs.declared.step.Step.{Step}
use Rattle.word_machine.specs.declared.step.Step.TheVariants as step
use Rattle.word_machine.specs.Memory.{MemoryView}
use Rattle.word_machine.specs.Standing.{WordsStand}
use Rattle.word_machine.specs.Laws.{SpotsAreRead, SpotsAreWritten, ValuesArePushed, ValuesAreDropped}

-- the laws of the heap's blocks
pub record HeapLaws : Type 0 where
  pub blocks : BlockLaws
  pub listed : (words : List ℕ) → FormedHeap words → (block : Block) → Contains (Blocks words) block ↔ IsBlock words block

-- the laws that a step rests on
pub record StepLaws : Type 0 where
  pub heap : HeapLaws
  pub reads : SpotsAreRead
  pub writes : SpotsAreWritten
  pub pushes : ValuesArePushed
  pub drops : ValuesAreDropped
  pub tells : FormedImagesTell
  pub keeps : WellTypedImagesKeepTyping
  pub displays : DisplaysAreThere
  pub lives : InstructionsUseLiving

-- ESP is at the lower end of its stack
abbrev pub is_at_limit : Cpu → ℕ → Bool
is_at_limit cpu stack = slice_index cpu.regs 4 == stacks_start + stack_bytes * stack

-- the instruction is PUSH
abbrev pub is_push : Inst → Bool
is_push (inst.Push x) = true
is_push i = false

-- it has no room for the word that it pushes
abbrev pub overflows : Inst → Cpu → ℕ → Bool
overflows i cpu stack = is_push i && is_at_limit cpu stack

-- What an instruction leaves to the turn, where its effect on the state is this and the next instruction follows at an address:
-- nothing, a fault, the call of an address or a return. But for the first, the words are those of the state before it.
abbrev pub Left : ImageParts → (ℕ → Bool) → State → ℕ → StepEffect → Option EffectView → Cpu → MemoryView → Type 0
Left image live s next left.Next e cpu m = (t : State) × (e ≡ Some (Moves t)) × WordsStand image live t cpu m
Left image live s next (left.Fault n) e cpu m = (e ≡ Some (Faults n)) × WordsStand image live s cpu m
Left image live s next (left.Call a) e cpu m = (e ≢ None) × (e ≡ calls_to (shown image) s next a) × WordsStand image live s cpu m
Left image live s next left.Return e cpu m = (e ≢ None) × (e ≡ returns_from s.values s) × WordsStand image live s cpu m

-- what a return to this word comes to, and the processor after it: at the end word, 0, nothing changes
abbrev pub return_leads : ℕ → Step
return_leads word = if word == 0 then step.Ends else step.Moves

abbrev pub went_back : ℕ → Cpu → Cpu
went_back word cpu = if word == 0 then cpu else record { regs = slice_set cpu.regs 4 ((slice_index cpu.regs 4 + 4) % 2 ^ 32); flags = cpu.flags; pc = word }

-- the effect leaves something to the turn
abbrev pub IsLeft : StepEffect → Type 0
IsLeft left.Next = ⊥
IsLeft (left.Fault n) = Unit {0}
IsLeft (left.Call a) = Unit {0}
IsLeft left.Return = Unit {0}
