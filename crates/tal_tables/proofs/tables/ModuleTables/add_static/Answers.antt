use Rattle.std.proofs.Common.{sym, arith}
use Rattle.tal_tables.proofs.Limits.{static_room, one_more}
use Rattle.tal_tables.proofs.tables.ModuleTables.add_static.Goals as goal

pub invariant_of-self-in-Ok : goal.invariant_of-self-in-Ok
invariant_of-self-in-Ok c =
    let few = c.self.invariant in
    let room = static_room _ _ _ _ _ _ (sym c.in-Ok.ensures) in
    record {
      sigs = few.sigs;
      functions = few.functions;
      classes = few.classes;
      kinds = few.kinds;
      statics = one_more _ _ _ _ c.in_ok-push-in-Ok.ensures.items (omega (arith, few.statics));
      arrays = omega (arith, few.arrays);
      words = omega (arith, room);
    }
