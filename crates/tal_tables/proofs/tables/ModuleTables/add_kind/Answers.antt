use Rattle.std.proofs.Common.{sym, arith}
use Rattle.tal_tables.proofs.Limits.{kind_room, one_more}
use Rattle.tal_tables.proofs.tables.ModuleTables.add_kind.Goals as goal

pub invariant_of-self-in-Ok : goal.invariant_of-self-in-Ok
invariant_of-self-in-Ok c =
    let few = c.self.invariant in
    let room = kind_room _ _ _ _ _ (sym c.in-Ok.ensures) in
    record {
      sigs = few.sigs;
      functions = few.functions;
      classes = few.classes;
      kinds = one_more _ _ _ 256 c.in_ok-push-in-Ok.ensures.items (omega (arith, c.len-rows.ensures));
      statics = few.statics;
      arrays = few.arrays;
      words = few.words;
    }
