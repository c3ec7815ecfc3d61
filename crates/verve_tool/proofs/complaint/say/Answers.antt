use Rattle.std.proofs.Common.{rules, ◌≡◌, ℕ, List, [], take, take_all, arith, Bor}
use Rattle.std.specs.List.{flat_map}
use Rattle.outside.specs.Sinks.{Gained}
use Rattle.verve_tool.proofs.Complaints.{front_of_whole, front_of_pieces, no_fault_on_the_way}
use Rattle.verve_tool.proofs.complaint.say.Goals as goal

pub returns-then-is_err : goal.returns-then-is_err
returns-then-is_err g c = record {
  never_falls = omega (arith, c.loop-piece.invariant.rises, c.put.ensures.never_falls);
  front = front_of_pieces _ _ _ c.args.pieces.now c.loop-piece.piece-index (record { ref_ptr = (0, 0); now = [] })
      c.loop-piece-test.true c.loop-piece.invariant.gained (search rules);
  whole = λ q. absurd (no_fault_on_the_way _ _ _ c.loop-piece.invariant.rises c.put.ensures.never_falls (search rules) q);
}

pub returns : goal.returns
returns g c =
    let all : take c.loop-piece.piece-index c.args.pieces.now ≡ c.args.pieces.now = take_all _ _ (omega arith) in
    let gained : Gained (g.E.Sink.told c.args.err.now) (g.E.Sink.told c.loop-piece.err) (flat_map (λ (p : Bor (List ℕ)). p.now) c.args.pieces.now) =
    rw all at c.loop-piece.invariant.gained in
    record { never_falls = c.loop-piece.invariant.rises; front = front_of_whole _ _ _ gained; whole = λ q. gained }
