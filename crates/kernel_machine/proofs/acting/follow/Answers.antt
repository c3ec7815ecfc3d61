use Rattle.std.proofs.Common.{arith}
use Rattle.tal_flow.specs.Rules.{next_address}
use Rattle.nucleus_calls.specs.declared.outcome.Leaving.TheVariants as leaving
use Rattle.typed_machine.specs.Reaching.{live_in}
use Rattle.kernel_machine.proofs.EffectsLead.{moves-lead, leaves_before, leaving-leads, call-most, calls-lead, heap_call, heap_calls_lead}
use Rattle.kernel_machine.proofs.acting.follow.Goals as goal

pub finish-requires-clause-leaves : goal.finish-requires-clause-leaves
finish-requires-clause-leaves c =
    let (i, before, v, came) = c.requires.came in
    let (image, s, h) = came.acts in
    let live = live_in image s in
    (image, live, s, leaves_before image live s _ _ _ _ _ _ (leaving.Fault c.in-Faults.vector) h.at (rw c.in-Faults.is at (came.stepped image live s h.at)))

pub finish-requires-in-Ends-clause-leaves : goal.finish-requires-in-Ends-clause-leaves
finish-requires-in-Ends-clause-leaves c =
    let (i, before, v, came) = c.requires.came in
    let (image, s, h) = came.acts in
    let live = live_in image s in
    (image, live, s, leaves_before image live s _ _ _ _ _ _ leaving.Ended h.at (rw c.in-Ends.is at (came.stepped image live s h.at)))

pub returns-in-Moves-clause-turn : goal.returns-in-Moves-clause-turn
returns-in-Moves-clause-turn c = λ i before v came image s h now left. let live = live_in image s in moves-lead image live c.args.turn s _ _ _ _ _ _ h.at now (rw c.in-Moves.is at (came.stepped image live s h.at)) left _

pub returns-in-Faults-clause-turn : goal.returns-in-Faults-clause-turn
returns-in-Faults-clause-turn c = λ i before v came image s h now left.
    let live = live_in image s in
    let stepped = rw c.in-Faults.is at (came.stepped image live s h.at) in
    let why = leaving.Fault c.in-Faults.vector in
    leaving-leads image live c.args.turn s _ _ _ _ _ _ _ _ why h.at stepped left _ _ _ (c.finish.ensures.turn image live s (leaves_before image live s _ _ _ _ _ _ why h.at stepped) now left)

pub returns-in-Ends-clause-turn : goal.returns-in-Ends-clause-turn
returns-in-Ends-clause-turn c = λ i before v came image s h now left.
    let live = live_in image s in
    let stepped = rw c.in-Ends.is at (came.stepped image live s h.at) in
    leaving-leads image live c.args.turn s _ _ _ _ _ _ _ _ leaving.Ended h.at stepped left _ _ _
    (c.finish-in-Ends.ensures.turn image live s (leaves_before image live s _ _ _ _ _ _ leaving.Ended h.at stepped) now left)

pub call_heap-requires-clause-called : goal.call_heap-requires-clause-called
unfolding next_address
call_heap-requires-clause-called c =
    let (i, before, v, came) = c.requires.came in
    let (image, s, h) = came.acts in (
      image,
      s,
      next_address s.thread.place c.args.len,
      heap_call c.well_typed_images_keep_typing.ensures c.calls_reply.ensures image s _ _ _ _ _ _ _ _ _ h (rw c.in-Calls.is at (came.stepped image (live_in image s) s h.at)),
    )

pub call-requires-clause-most : goal.call-requires-clause-most
call-requires-clause-most c =
    let (i, before, v, came) = c.requires.came in
    call-most c.well_typed_images_keep_typing.ensures _ _ _ _ _ _ _ _ _ (λ image live s at. rw c.in-Calls.is at (came.stepped image live s at)) came.acts

pub returns-then-number-lt-HEAP_ENTRIES-clause-turn : goal.returns-then-number-lt-HEAP_ENTRIES-clause-turn
unfolding next_address
returns-then-number-lt-HEAP_ENTRIES-clause-turn c = λ i before v came image s h now left.
    let stepped = rw c.in-Calls.is at (came.stepped image (live_in image s) s h.at) in
    heap_calls_lead image c.args.turn s _ _ _ _ _ _ _ _ _ _ _ h now stepped (omega (arith, c.if-number-lt-HEAP_ENTRIES.true)) left _ _
    (c.call_heap.ensures.turn image s (next_address s.thread.place c.args.len)
    (heap_call c.well_typed_images_keep_typing.ensures c.calls_reply.ensures image s _ _ _ _ _ _ _ _ _ h stepped) now.turns left)

pub returns-else-number-lt-HEAP_ENTRIES-clause-turn : goal.returns-else-number-lt-HEAP_ENTRIES-clause-turn
unfolding next_address
returns-else-number-lt-HEAP_ENTRIES-clause-turn c = λ i before v came image s h now left.
    let live = live_in image s in
    calls-lead c.well_typed_images_keep_typing.ensures image live c.args.turn s _ _ _ _ _ _ _ _ _ h.at now (rw c.in-Calls.is at (came.stepped image live s h.at)) left _ _
    (λ next before typed. c.call.ensures.turn image live s next before typed now.turns left)
