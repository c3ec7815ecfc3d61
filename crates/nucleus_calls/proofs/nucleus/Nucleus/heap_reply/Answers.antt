use Rattle.std.proofs.Common.{◌<◌, arith}
use Rattle.typed_machine.specs.Reaching.{live_in}
use Rattle.nucleus_calls.proofs.HeapReplies.{HeapLaws, found, collected_with, answered-with, names-shape, kept-collected, kept-answered}
use Rattle.nucleus_calls.proofs.nucleus.Nucleus.heap_reply.Goals as goal

pub collect_at_call-requires-clause-called : goal.collect_at_call-requires-clause-called
collect_at_call-requires-clause-called c =
    let laws : HeapLaws = record { typed = c.heap_calls_are_typed.ensures; live = c.rooted_objects_live.ensures; hold = c.replies_hold.ensures; words = c.states_keep_words.ensures } in
    let r = c.requires.called in
    let f = found laws r.0 r.1 r.2 c.args.number _ _ _ _ r.3 c.requires.few _ c.self.view_is in
    (r.0, live_in r.0 r.1, r.1, f.0, f.1)

pub invariant_of-self : goal.invariant_of-self
invariant_of-self c =
    let laws : HeapLaws = record { typed = c.heap_calls_are_typed.ensures; live = c.rooted_objects_live.ensures; hold = c.replies_hold.ensures; words = c.states_keep_words.ensures } in
    let r = c.requires.called in
    kept-collected laws r.0 r.1 r.2 c.args.number _ _ _ _ r.3 c.requires.few _ c.self.view_is c.self.invariant c.collect_at_call.result c.collect_at_call.new.memory c.collect_at_call.new.index
    (λ t f. c.collect_at_call.ensures.told r.0 (live_in r.0 r.1) r.1 t f) c.collect_at_call.ensures.lists

pub returns-then-number-eq-GARBAGE_COLLECT-clause-reply : goal.returns-then-number-eq-GARBAGE_COLLECT-clause-reply
returns-then-number-eq-GARBAGE_COLLECT-clause-reply c = λ image s next h.
    let laws : HeapLaws = record { typed = c.heap_calls_are_typed.ensures; live = c.rooted_objects_live.ensures; hold = c.replies_hold.ensures; words = c.states_keep_words.ensures } in
    collected_with laws image s next c.args.number _ _ _ _ h c.requires.few c.if-number-eq-GARBAGE_COLLECT.true _ c.self.view_is c.collect_at_call.result c.collect_at_call.new.memory c.collect_at_call.new.index
    (λ t f. c.collect_at_call.ensures.told image (live_in image s) s t f)

pub allocate_at_call-placed-requires-clause-called : goal.allocate_at_call-placed-requires-clause-called
allocate_at_call-placed-requires-clause-called c =
    let laws : HeapLaws = record { typed = c.heap_calls_are_typed.ensures; live = c.rooted_objects_live.ensures; hold = c.replies_hold.ensures; words = c.states_keep_words.ensures } in
    let r = c.requires.called in
    let f = found laws r.0 r.1 r.2 c.args.number _ _ _ _ r.3 c.requires.few _ c.self.view_is in
    (r.0, live_in r.0 r.1, r.1, f.0, f.1)

pub allocate_at_call-placed-requires-clause-there : goal.allocate_at_call-placed-requires-clause-there
allocate_at_call-placed-requires-clause-there c =
    let laws : HeapLaws = record { typed = c.heap_calls_are_typed.ensures; live = c.rooted_objects_live.ensures; hold = c.replies_hold.ensures; words = c.states_keep_words.ensures } in
    let r = c.requires.called in
    let few : c.args.number < 2 = omega (arith, c.requires.few, c.if-number-eq-GARBAGE_COLLECT.false) in
    let n = names-shape laws r.0 r.1 r.2 c.args.number _ _ _ _ r.3 c.formed_images_tell.ensures c.shapes_come_back.ensures few in
    rw (c.shape_named.ensures, n.1.named) n.1.there

pub invariant_of-self-2 : goal.invariant_of-self-2
invariant_of-self-2 c =
    let laws : HeapLaws = record { typed = c.heap_calls_are_typed.ensures; live = c.rooted_objects_live.ensures; hold = c.replies_hold.ensures; words = c.states_keep_words.ensures } in
    let r = c.requires.called in
    let few : c.args.number < 2 = omega (arith, c.requires.few, c.if-number-eq-GARBAGE_COLLECT.false) in
    kept-answered laws r.0 r.1 r.2 c.args.number _ _ _ _ r.3 c.requires.few c.formed_images_tell.ensures c.shapes_come_back.ensures few _ c.self.view_is c.self.invariant _ c.shape_named.ensures _ c.length_asked-length.ensures
    c.allocate_at_call-placed.result c.allocate_at_call-placed.new.memory c.allocate_at_call-placed.new.index
    (λ t asked f is long. c.allocate_at_call-placed.ensures.told r.0 (live_in r.0 r.1) r.1 t asked f is long) c.allocate_at_call-placed.ensures.lists

pub returns-clause-reply : goal.returns-clause-reply
returns-clause-reply c = λ image s next h.
    let laws : HeapLaws = record { typed = c.heap_calls_are_typed.ensures; live = c.rooted_objects_live.ensures; hold = c.replies_hold.ensures; words = c.states_keep_words.ensures } in
    let few : c.args.number < 2 = omega (arith, c.requires.few, c.if-number-eq-GARBAGE_COLLECT.false) in
    rw c.unwrap_or.ensures
    (answered-with laws image s next c.args.number _ _ _ _ h c.requires.few c.formed_images_tell.ensures c.shapes_come_back.ensures few _ c.self.view_is _ c.shape_named.ensures _ c.length_asked-length.ensures
    c.allocate_at_call-placed.result c.allocate_at_call-placed.new.memory c.allocate_at_call-placed.new.index
    (λ t asked f is long. c.allocate_at_call-placed.ensures.told image (live_in image s) s t asked f is long))
