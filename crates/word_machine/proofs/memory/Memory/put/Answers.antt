use Rattle.std.proofs.Common.{refl}
use Rattle.word_machine.proofs.Heaps.{object_inside, object_is_word}
use Rattle.word_machine.proofs.Telling.{put-in-heap}
use Rattle.word_machine.proofs.Areas.{in_stacks, in_statics, in_descriptors, in_tables, there_in_heap, there_in_stacks, there_in_statics, there_in_descriptors, there_in_tables, heap_object, put-below}
use Rattle.word_machine.proofs.memory.Memory.put.Goals as goal

pub put_in-requires : goal.put_in-requires
put_in-requires c = rw (← c.self.view_is) at (there_in_stacks c.args.self.now c.args.address c.requires c.if-address-ge-HEAP_START.false c.if-address-ge-STACKS_START.true)

pub put_in-requires-then-address-ge-STATICS_START : goal.put_in-requires-then-address-ge-STATICS_START
put_in-requires-then-address-ge-STATICS_START c = rw (← c.self.view_is) at (there_in_statics c.args.self.now c.args.address c.requires c.if-address-ge-STACKS_START.false c.if-address-ge-STATICS_START.true)

pub put_in-requires-then-address-ge-DESCRIPTORS_START : goal.put_in-requires-then-address-ge-DESCRIPTORS_START
put_in-requires-then-address-ge-DESCRIPTORS_START c = rw (← c.self.view_is) at (there_in_descriptors c.args.self.now c.args.address c.requires c.if-address-ge-STATICS_START.false c.if-address-ge-DESCRIPTORS_START.true)

pub put_in-requires-else-address-ge-DESCRIPTORS_START : goal.put_in-requires-else-address-ge-DESCRIPTORS_START
put_in-requires-else-address-ge-DESCRIPTORS_START c = rw (← c.self.view_is) at (there_in_tables c.args.self.now c.args.address c.requires c.if-address-ge-DESCRIPTORS_START.false)

pub returns-then-address-ge-STACKS_START : goal.returns-then-address-ge-STACKS_START
returns-then-address-ge-STACKS_START c =
    let put = c.put_in in
    rw (← c.self.view_is) (put-below _ _ c.args.address c.args.word (rw (← c.self.view_is) at c.requires)
    (in_stacks _ put.new.words.items c.args.address c.args.word c.if-address-ge-HEAP_START.false c.if-address-ge-STACKS_START.true put.ensures)
    refl c.size-size.ensures.formed)

pub returns-then-address-ge-STATICS_START : goal.returns-then-address-ge-STATICS_START
returns-then-address-ge-STATICS_START c =
    let put = c.put_in-then-address-ge-STATICS_START in
    rw (← c.self.view_is) (put-below _ _ c.args.address c.args.word (rw (← c.self.view_is) at c.requires)
    (in_statics _ put.new.words.items c.args.address c.args.word c.if-address-ge-STACKS_START.false c.if-address-ge-STATICS_START.true put.ensures)
    refl c.size-size.ensures.formed)

pub returns-then-address-ge-DESCRIPTORS_START : goal.returns-then-address-ge-DESCRIPTORS_START
returns-then-address-ge-DESCRIPTORS_START c =
    let put = c.put_in-then-address-ge-DESCRIPTORS_START in
    rw (← c.self.view_is) (put-below _ _ c.args.address c.args.word (rw (← c.self.view_is) at c.requires)
    (in_descriptors _ put.new.words.items c.args.address c.args.word c.if-address-ge-STATICS_START.false c.if-address-ge-DESCRIPTORS_START.true put.ensures)
    refl c.size-size.ensures.formed)

pub returns-else-address-ge-DESCRIPTORS_START : goal.returns-else-address-ge-DESCRIPTORS_START
returns-else-address-ge-DESCRIPTORS_START c =
    let put = c.put_in-else-address-ge-DESCRIPTORS_START in
    rw (← c.self.view_is) (put-below _ _ c.args.address c.args.word (rw (← c.self.view_is) at c.requires)
    (in_tables _ put.new.words.items c.args.address c.args.word c.if-address-ge-DESCRIPTORS_START.false put.ensures)
    refl c.size-size.ensures.formed)

pub set_word-requires-clause-inside : goal.set_word-requires-clause-inside
set_word-requires-clause-inside c =
    object_inside c.heap_lawful.ensures c.self.inside.heap c.size-size.ensures.formed _
    (rw (← c.self.view_is) at (heap_object c.args.self.now c.args.address c.requires c.if-address-ge-HEAP_START.true))

pub set_word-requires-clause-object : goal.set_word-requires-clause-object
set_word-requires-clause-object c =
    object_is_word c.heap_lawful.ensures c.self.inside.heap c.size-size.ensures.formed _
    (rw (← c.self.view_is) at (heap_object c.args.self.now c.args.address c.requires c.if-address-ge-HEAP_START.true))

pub returns-then-address-ge-HEAP_START : goal.returns-then-address-ge-HEAP_START
returns-then-address-ge-HEAP_START c =
    let high = c.if-address-ge-HEAP_START.true in
    let there = rw (← c.self.view_is) at (there_in_heap c.args.self.now c.args.address c.requires high) in
    let object = rw (← c.self.view_is) at (heap_object c.args.self.now c.args.address c.requires high) in
    rw (← c.self.view_is) (put-in-heap c.heap_lawful.ensures _ c.set_word.new.self c.args.address c.args.word (rw (← c.self.view_is) at c.requires) high
    there object c.size-size.ensures.formed c.set_word.ensures.words c.set_word.ensures.blocks c.set_word.ensures.formed)
