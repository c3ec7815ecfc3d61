use Rattle.std.proofs.Common.{sym, ◌∙◌}
use Rattle.object_layout.specs.declared.rows.Shape.TheVariants.{Class}
use Rattle.heap_cases.proofs.NumberObjects.{number_object, same_number}
use Rattle.heap_cases.proofs.good_roots.is_object.Goals as goal
use Rattle.heap_cases.proofs.good_roots.is_object.Goals.{then-used, else-used}

pub returns-then-table-table_address : goal.returns-then-table-table_address
returns-then-table-table_address c = λ h.
    let back = c.shapes_come_back.ensures c.args.shapes.now (Class 0) c.requires.plain.few c.requires.plain.there in
    elim c.if-used.branch [
      | then-used w ↦
          number_object _ _ _ c.requires.plain back (record { begins = c.requires.begins; used = sym w.if-used.ensures })
          (sym c.word-table.ensures ∙ same_number _ _ (sym w.value-is ∙ c.if-table-table_address.true) ∙ w.table_address.ensures)
          (rw (← c.word-length.ensures) (sym c.need_words.ensures) ∙ same_number _ _ h ∙ c.from-size.ensures ∙ c.block_size.ensures.size)
      | else-used w ↦ let e = sym w.value-is ∙ c.if-table-table_address.true in let f = w.if-used.false in absurd (cc)
    ]
