use Rattle.std.proofs.Common.{◌≡◌, Err, inl, inr, ap}
use Rattle.tal_checker.specs.declared.answer.CheckAnswer.{CheckAnswer}
use Rattle.tal_checker.specs.Frames.{frames_of}
use Rattle.tal_checker.specs.WellTyped.{WellTyped}
use Rattle.tal_checker.proofs.Answering.{accepted, refuses_first, refuses_untyped, refuses_only}
use Rattle.tal_checker.proofs.checking.check.Goals as goal

-- what is accepted
typed : (c : goal.In-Ok) → WellTyped c.args.image × (c.in-Ok.frames ≡ frames_of c.args.image)
typed c = accepted c.args.image c.code.result.now c.code.ensures.whole c.strongest_decides.ensures c.in-Ok.frames c.formed.ensures c.in-Ok.ensures.ok

pub invariant_of-result : goal.invariant_of-result
invariant_of-result c = typed c

pub returns-in-Ok-clause-frames : goal.returns-in-Ok-clause-frames
returns-in-Ok-clause-frames c = (typed c).1

pub returns-in-Ok-clause-accepted : goal.returns-in-Ok-clause-accepted
returns-in-Ok-clause-accepted c = (typed c).0

pub returns-in-Ok-clause-first : goal.returns-in-Ok-clause-first
returns-in-Ok-clause-first c address rule f = absurd (c.one_refusal.ensures.not_typed c.args.image address rule f (typed c).0)

pub returns-in-Err-clause-typed : goal.returns-in-Err-clause-typed
returns-in-Err-clause-typed c w = refuses_untyped c.args.image c.code.result.now c.code.ensures.whole c.one_refusal.ensures c.in-Err.answer c.in-Err.ensures.err w

pub returns-in-Err-clause-refused : goal.returns-in-Err-clause-refused
returns-in-Err-clause-refused c address rule e = refuses_first c.args.image c.code.result.now c.code.ensures.whole c.in-Err.answer address rule c.in-Err.ensures.err cc

pub returns-in-Err-clause-first : goal.returns-in-Err-clause-first
returns-in-Err-clause-first c address rule f =
    elim (refuses_only c.args.image c.code.result.now c.code.ensures.whole c.one_refusal.ensures c.in-Err.answer address rule c.in-Err.ensures.err f) [
      | inl e ↦ inl (ap (λ (a : CheckAnswer). Err a) e)
      | inr e ↦ inr (ap (λ (a : CheckAnswer). Err a) e)
    ]
