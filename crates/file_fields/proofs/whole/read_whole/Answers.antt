use Rattle.std.proofs.Common.{inr, arith}
use Rattle.std.proofs.lemmas.Result.{err_from_is_err_and}
use Rattle.file_fields.proofs.WholeFiles.{reads_value, reads_rest, reads_fault}
use Rattle.file_fields.proofs.whole.read_whole.Goals as goal

pub returns-in_err-value-clause-fault : goal.returns-in_err-value-clause-fault
returns-in_err-value-clause-fault g c =
    let p = err_from_is_err_and c.from_residual.result c.from_residual.ensures.1 in
    let k = rw (c.new-reader.ensures.file, c.new-reader.ensures.front) at c.in_err-value.ensures.gives in
    rw (p.1, p.2) (reads_fault c.decoded_law.ensures c.prefix_law.ensures _ c.requires c.args.bytes.now c.front.result.now (λ i. omega (arith, c.type_inv.bytes i)) c.front.ensures.front _ k)

pub returns-then-reader-bytes-clause-fault : goal.returns-then-reader-bytes-clause-fault
returns-then-reader-bytes-clause-fault g c =
    let k = rw (c.new-reader.ensures.file, c.new-reader.ensures.front) at c.in_ok-value.ensures.gives in
    inr (reads_rest c.decoded_law.ensures c.prefix_law.ensures _ c.requires c.args.bytes.now c.front.result.now (λ i. omega (arith, c.type_inv.bytes i)) c.front.ensures.front _ _ k c.if-reader-bytes.true)

pub returns-clause-ok : goal.returns-clause-ok
returns-clause-ok g c =
    let k = rw (c.new-reader.ensures.file, c.new-reader.ensures.front) at c.in_ok-value.ensures.gives in
    reads_value c.decoded_law.ensures c.prefix_law.ensures _ c.requires c.args.bytes.now c.front.result.now (λ i. omega (arith, c.type_inv.bytes i)) c.front.ensures.front _ _ k c.if-reader-bytes.false
