use Rattle.std.specs.Prelude.{is_some}
use Rattle.std.proofs.Common.{sym, ◌∙◌, ap}
use Rattle.word_machine.proofs.Areas.{low-mapped, high-mapped}
use Rattle.word_machine.proofs.memory.MemoryBus.mapped.Goals as goal

pub returns-then-address-ge-HEAP_START : goal.returns-then-address-ge-HEAP_START
returns-then-address-ge-HEAP_START c =
    rw (← c.self.view_is) (c.is_object_address.ensures ∙ sym (high-mapped _ c.args.address c.if-address-ge-HEAP_START.true))

pub returns : goal.returns
returns c = c.is_some.ensures ∙ ap is_some c.word.ensures ∙ sym (low-mapped c.args.self.now c.args.address c.if-address-ge-HEAP_START.false)
