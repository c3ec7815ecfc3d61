-- The words of registers, as instructions compute with them; and what an object's words stand for.
use Rattle.std.specs.Prelude.{ℕ, ◌+◌, ◌-◌, ◌*◌, List, [], ◌∷◌, ◌++◌, length}
use Rattle.ia32_code.specs.declared.instruction.Reg.{Reg}
use Rattle.ia32_code.specs.declared.instruction.Reg.TheVariants.{Eax, Ecx, Edx, Ebx, Ebp, Esi, Edi}
use Rattle.object_layout.specs.Areas.{stacks_start}
use Rattle.ia32_step.specs.Operands.{WordState}
use Rattle.typed_machine.specs.Values.{Value, Number, Tab, Desc, ObjectShape, InstanceOf, ArrayOf, Word}
use Rattle.typed_machine.specs.Stores.{Object}
use Rattle.typed_machine.specs.States.{State, stack_bytes, places_of}

-- the address above a stack's last word
abbrev pub upper_end : ℕ → ℕ
upper_end stack = stacks_start + stack_bytes * (stack + 1)

-- ESP of a stack with so many words
abbrev pub stack_pointer : ℕ → ℕ → ℕ
stack_pointer stack depth = upper_end stack - 4 * depth

-- the words of the registers by their numbers, where ESP has this word
abbrev pub register_words : List ℕ → (Reg → Value) → ℕ → List ℕ
register_words places regs esp =
    Word places (regs Eax) ∷ Word places (regs Ecx) ∷ Word places (regs Edx) ∷ Word places (regs Ebx) ∷ esp
    ∷ Word places (regs Ebp) ∷ Word places (regs Esi) ∷ Word places (regs Edi) ∷ []

-- ESP of a state
abbrev pub esp_of : State → ℕ
esp_of s = stack_pointer s.current (length s.values)

-- the words that an instruction computes with, where the word in memory that it reads is this one
unfoldable pub words_of : State → ℕ → WordState
words_of s w = record { regs = register_words (places_of s) s.thread.regs (esp_of s); flags = s.thread.flags; pc = s.thread.place; memory = λ a. w }

-- ---- objects

-- what stands before an object's values: its class's table; its kind's descriptor and its length
unfoldable pub head_values : ObjectShape → List Value
head_values (InstanceOf c) = Tab c ∷ []
head_values (ArrayOf k n) = Desc k ∷ Number n ∷ []

-- an object as it stands in the memory, from its place up
unfoldable pub object_values : Object → List Value
object_values o = head_values o.shape ++ o.values
