use Rattle.std.proofs.Common.{arith, sym, ◌∙◌}
use Rattle.mark_sweep.proofs.Keeping.{word_inside}
use Rattle.mark_sweep.specs.Objects.{IsReference}
use Rattle.mark_sweep.proofs.Scanning.{scanning_first, scanning_placed, scanning_step, scanning_skip, scanning_last, reference_here, no_reference_here}
use Rattle.mark_sweep.proofs.marking.scan.Goals as goal
use Rattle.mark_sweep.proofs.marking.scan.Goals.{then-holds_reference, else-holds_reference}

pub word-table-requires : goal.word-table-requires
word-table-requires c = word_inside c.block_laws.ensures _ _ 2 c.requires.formed c.requires.begins (omega arith)

pub word-length-requires : goal.word-length-requires
word-length-requires c = word_inside c.block_laws.ensures _ _ 3 c.requires.formed c.requires.begins (omega arith)

pub words-init : goal.words-init
words-init c = scanning_first _ _ _ _ c.requires.formed

pub mark_word-first-requires-clause-placed : goal.mark_word-first-requires-clause-placed
mark_word-first-requires-clause-placed c =
    let r : IsReference c.args.shapes.now c.args.heap.now c.args.at c.words.k =
    reference_here _ _ _ _ _ _ c.word-table.ensures c.word-length.ensures c.words.auto.k (omega (arith, c.block_size-end.ensures.size, c.words-test.true))
    (sym c.holds_reference.ensures ∙ c.if-holds_reference.true) in
    scanning_placed _ _ _ _ _ _ _ _ c.words.invariant c.requires.begins r (c.requires.placed _ r) c.word-word.ensures

pub words-preserved : goal.words-preserved
words-preserved c =
    elim c.if-holds_reference.branch [
      | then-holds_reference w ↦
          let r : IsReference c.args.shapes.now c.args.heap.now c.args.at c.words.k =
          reference_here _ _ _ _ _ _ c.word-table.ensures c.word-length.ensures c.words.auto.k
          (omega (arith, c.block_size-end.ensures.size, c.words-test.true)) (sym c.holds_reference.ensures ∙ w.if-holds_reference.true) in
          rw (w.heap-is, w.first-is)
          (scanning_step _ _ _ _ _ _ _ _ _ _ c.words.invariant c.requires.begins r w.word-word.ensures w.mark_word-first.ensures.marks w.mark_word-first.ensures.formed)
      | else-holds_reference w ↦
          rw (w.heap-is, w.first-is) (scanning_skip _ _ _ _ _ _ _ c.words.invariant c.requires.begins
          (no_reference_here _ _ _ _ _ _ c.word-table.ensures c.word-length.ensures (sym c.holds_reference.ensures ∙ w.if-holds_reference.false)))
    ]

pub returns-clause-scanned : goal.returns-clause-scanned
returns-clause-scanned c = scanning_last _ _ _ _ _ _ _ _ c.words.invariant c.requires.begins (omega (arith, c.block_size-end.ensures.size)) c.words-test.false
