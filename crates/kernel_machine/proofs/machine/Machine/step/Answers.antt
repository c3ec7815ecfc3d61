use Rattle.std.proofs.Common.{refl, ap, ◌∙◌}
use Rattle.kernel_machine.proofs.Turning.{inst_here, begun-turn, may_act, accept-takes, act-takes, turn-lawful}
use Rattle.kernel_machine.proofs.machine.Machine.step.Goals as goal

pub returns-then-accept-clause-takes : goal.returns-then-accept-clause-takes
returns-then-accept-clause-takes c =
    let begun = begun-turn c.turns_lawful.ensures c.self.invariant (ap (λ v. v.ending) c.self.view_is ∙ c.requires.on) (rw c.deref.ensures.value at c.enter_events-self-inside.ensures.come) in
    rw (← c.self.view_is) (accept-takes begun c.if-accept.ensures.grants _ _ _ _ c.if-accept.ensures.turn)

pub invariant_of-self : goal.invariant_of-self
invariant_of-self c =
    let begun = begun-turn c.turns_lawful.ensures c.self.invariant (ap (λ v. v.ending) c.self.view_is ∙ c.requires.on) (rw c.deref.ensures.value at c.enter_events-self-inside.ensures.come) in
    turn-lawful c.turns_lawful.ensures _ _ _ _ _ _ c.self.invariant (accept-takes begun c.if-accept.ensures.grants _ _ _ _ c.if-accept.ensures.turn)
    (rw c.deref.ensures.value at c.enter_events-self-inside.ensures.next)

pub act_here-self-inside-requires-clause-low : goal.act_here-self-inside-requires-clause-low
act_here-self-inside-requires-clause-low c =
    rw (c.if-accept.ensures.none refl).1 (inst_here c.well_typed_images_keep_typing.ensures c.accepted_runs.ensures _ _ c.self.invariant).low

pub act_here-self-inside-requires-clause-inside : goal.act_here-self-inside-requires-clause-inside
act_here-self-inside-requires-clause-inside c =
    rw (c.if-accept.ensures.none refl).1 (inst_here c.well_typed_images_keep_typing.ensures c.accepted_runs.ensures _ _ c.self.invariant).inside

pub act_here-self-inside-requires-clause-whole : goal.act_here-self-inside-requires-clause-whole
act_here-self-inside-requires-clause-whole c =
    rw (c.if-accept.ensures.none refl).1 (inst_here c.well_typed_images_keep_typing.ensures c.accepted_runs.ensures _ _ c.self.invariant).whole

pub act_here-self-inside-requires-clause-acts : goal.act_here-self-inside-requires-clause-acts
act_here-self-inside-requires-clause-acts c =
    let begun = begun-turn c.turns_lawful.ensures c.self.invariant (ap (λ v. v.ending) c.self.view_is ∙ c.requires.on) (rw c.deref.ensures.value at c.enter_events-self-inside.ensures.come) in
    let none = c.if-accept.ensures.none refl in
    λ i len here. rw (none.0, none.1) (may_act begun i len (rw none.1 at here) _ _ refl refl)

pub returns-clause-takes : goal.returns-clause-takes
returns-clause-takes c =
    let begun = begun-turn c.turns_lawful.ensures c.self.invariant (ap (λ v. v.ending) c.self.view_is ∙ c.requires.on) (rw c.deref.ensures.value at c.enter_events-self-inside.ensures.come) in
    let none = c.if-accept.ensures.none refl in
    let acted = c.act_here-self-inside.ensures.acted in
    rw (← c.self.view_is, c.act_here-self-inside.ensures.prepared) (act-takes begun c.if-accept.ensures.grants _ _ (rw none.1 at acted.here) _ _ refl refl _ _ _ _ _
    (rw (none.0, none.1, none.2) at acted.leads))

pub invariant_of-self-2 : goal.invariant_of-self-2
invariant_of-self-2 c =
    let begun = begun-turn c.turns_lawful.ensures c.self.invariant (ap (λ v. v.ending) c.self.view_is ∙ c.requires.on) (rw c.deref.ensures.value at c.enter_events-self-inside.ensures.come) in
    let none = c.if-accept.ensures.none refl in
    let acted = c.act_here-self-inside.ensures.acted in
    rw c.act_here-self-inside.ensures.prepared (turn-lawful c.turns_lawful.ensures _ _ _ _ _ _ c.self.invariant
    (act-takes begun c.if-accept.ensures.grants _ _ (rw none.1 at acted.here) _ _ refl refl _ _ _ _ _ (rw (none.0, none.1, none.2) at acted.leads))
    (rw c.deref.ensures.value at c.enter_events-self-inside.ensures.next))
