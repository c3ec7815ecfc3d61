use Rattle.std.specs.Prelude.{ℕ, ◌+◌, ◌*◌, ◌==◌, Bool, List, take, slice_index_or, if◌then◌else◌}
use Rattle.std.specs.Int.{bit_at}
use Rattle.ia32_code.specs.OperandForms.{number}
use Rattle.ia32_code.specs.declared.instruction.Reg.{Reg}
use Rattle.tal_types.specs.declared.types.Ty.{Ty}
use Rattle.tal_types.specs.declared.types.Ty.TheVariants.{Junk}
use Rattle.tal_types.specs.declared.contexts.Context.{Context}
use Rattle.tal_types.specs.Contexts.{LiveContext, ContextView, Dead, Live}

-- What a `Context` means.

-- the type of a register among those of all eight
abbrev pub kept_type : List Ty → Reg → Ty
kept_type types r = slice_index_or types (number r) Junk

-- whether (r, q) is in a set of pairs of registers: it is bit 8r + q
unfoldable pub pair_in : ℕ → Reg → Reg → Bool
pair_in bits r q = bit_at bits (8 * number r + number q) == 1

-- what is known in a context that is not dead
abbrev pub live_of : Context → LiveContext
live_of c = record {
  regs = kept_type c.regs;
  slots = take c.depth c.slots;
  kind = c.kind;
  pairs = pair_in c.pairs;
  heads = pair_in c.heads;
}

-- what a context means
unfoldable pub context_of : Context → ContextView
context_of c = if c.dead then Dead else Live (live_of c)
