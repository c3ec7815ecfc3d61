use Rattle.std.proofs.Common.{◌≡◌, subst, arith}
use Rattle.tal_image.specs.Image.{FileOf, parts_of}
use Rattle.tal_image.specs.Formed.{Formed}
use Rattle.tal_image.proofs.Finding.KeptRows.{classes_have_words, have_few_slots}
use Rattle.tal_image.proofs.Meaning.Answered.{written}
use Rattle.tal_image.proofs.image.Image.write.Goals as goal

pub put_all-requires-5 : goal.put_all-requires-5
put_all-requires-5 c = rw c.deref-4.ensures.value (classes_have_words (parts_of c.self.inside.rows) c.self.invariant.formed)

pub put_all-requires-9 : goal.put_all-requires-9
put_all-requires-9 c = rw c.deref-8.ensures.value (λ k d within. let few = have_few_slots (parts_of c.self.inside.rows) c.self.invariant.formed k d within in omega arith)

pub returns-clause-file : goal.returns-clause-file
returns-clause-file c =
    subst (λ i. c.put_all-10.new.file.items ≡ FileOf i) c.self.view_is
    (written (parts_of c.self.inside.rows) c.put_all.new.file.items c.put_all-2.new.file.items c.put_all-3.new.file.items c.put_all-4.new.file.items c.put_all-5.new.file.items c.put_all-6.new.file.items c.put_all-7.new.file.items c.put_all-8.new.file.items c.extend_from_slice.new.self.items c.put_all-9.new.file.items c.put_all-10.new.file.items
    (rw (c.new-file.ensures.items, c.header.ensures, ← c.self.view_is) at c.in_ok-put_all.ensures)
    (rw c.deref.ensures.value at c.in_ok-put_all-2.ensures)
    (rw c.deref-2.ensures.value at c.in_ok-put_all-3.ensures)
    (rw c.deref-3.ensures.value at c.in_ok-put_all-4.ensures)
    (rw c.deref-4.ensures.value at c.in_ok-put_all-5.ensures)
    (rw c.deref-5.ensures.value at c.in_ok-put_all-6.ensures)
    (rw c.items.ensures at c.in_ok-put_all-7.ensures)
    (rw c.deref-6.ensures.value at c.in_ok-put_all-8.ensures)
    (rw c.deref-7.ensures.value at c.in_ok-extend_from_slice.ensures.items)
    (rw c.deref-8.ensures.value at c.in_ok-put_all-9.ensures)
    (rw c.deref-9.ensures.value at c.in_ok-put_all-10.ensures))

pub returns-clause-stands : goal.returns-clause-stands
returns-clause-stands c = record {
  formed = subst Formed c.self.view_is c.self.invariant.formed;
  file = returns-clause-file c;
}
