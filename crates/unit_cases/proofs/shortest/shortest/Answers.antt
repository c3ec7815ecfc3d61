use Rattle.unit_cases.proofs.ShortestUnit.{formed}
use Rattle.unit_cases.proofs.shortest.shortest.Goals as goal

pub of-requires-3 : goal.of-requires-3
of-requires-3 c =
    rw (
      c.in_ok-push-2.ensures.items,
      c.in_ok-push.ensures.items,
      c.new-names.ensures.items,
      c.in_ok-of.ensures,
      c.in_ok-of-2.ensures,
      c.in_ok-push-3.ensures.items,
      c.new-sigs.ensures.items,
      c.in_ok-push-4.ensures.items,
      c.new-functions.ensures.items,
      c.in_ok-push-5.ensures.items,
      c.new-code.ensures.items,
      c.new.ensures.items,
      c.new-2.ensures.items,
      c.new-3.ensures.items,
      c.new-4.ensures.items,
      c.new-5.ensures.items,
      c.new-6.ensures.items,
      c.new-7.ensures.items,
      c.new-8.ensures.items,
    ) formed
