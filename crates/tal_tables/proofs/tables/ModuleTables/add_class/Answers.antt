use Rattle.std.proofs.Common.{sym, arith}
use Rattle.tal_tables.proofs.Limits.{class_room, one_more}
use Rattle.tal_tables.proofs.tables.ModuleTables.add_class.Goals as goal

pub invariant_of-self-in-Ok : goal.invariant_of-self-in-Ok
invariant_of-self-in-Ok c =
    let few = c.self.invariant in
    let room = class_room _ _ _ _ _ (sym c.in-Ok.ensures) in
    record {
      sigs = few.sigs;
      functions = few.functions;
      classes = one_more _ _ _ 1024 c.in_ok-push-in-Ok.ensures.items (omega (arith, c.len-rows.ensures));
      kinds = few.kinds;
      statics = few.statics;
      arrays = few.arrays;
      words = few.words;
    }
