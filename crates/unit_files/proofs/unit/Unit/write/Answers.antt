use Rattle.std.proofs.Common.{◌≡◌, subst}
use Rattle.unit_files.specs.Unit.{UnitFileOf, unit_of}
use Rattle.unit_files.specs.Formed.{UnitFormed}
use Rattle.unit_files.proofs.Written.{short_names, classes_have_words, few_slots, written}
use Rattle.unit_files.proofs.unit.Unit.write.Goals as goal

pub put_all-requires-2 : goal.put_all-requires-2
put_all-requires-2 c = rw c.deref.ensures.value (short_names (unit_of c.self.inside.rows) c.self.invariant.formed)

pub put_all-requires-6 : goal.put_all-requires-6
put_all-requires-6 c = rw c.deref-5.ensures.value (classes_have_words (unit_of c.self.inside.rows) c.self.invariant.formed)

pub put_all-requires-10 : goal.put_all-requires-10
put_all-requires-10 c = rw c.deref-10.ensures.value (few_slots (unit_of c.self.inside.rows) c.self.invariant.formed)

pub returns-clause-file : goal.returns-clause-file
returns-clause-file c =
    subst (λ u. c.put_all-12.new.file.items ≡ UnitFileOf u) c.self.view_is
    (written (unit_of c.self.inside.rows) c.put_all.new.file.items c.put_all-2.new.file.items c.put_all-3.new.file.items c.put_all-4.new.file.items c.put_all-5.new.file.items c.put_all-6.new.file.items c.put_all-7.new.file.items c.put_all-8.new.file.items c.put_all-9.new.file.items c.extend_from_slice.new.self.items c.put_all-10.new.file.items c.put_all-11.new.file.items c.put_all-12.new.file.items
    (rw (c.new-file.ensures.items, c.header.ensures, ← c.self.view_is) at c.in_ok-put_all.ensures)
    (rw c.deref.ensures.value at c.in_ok-put_all-2.ensures)
    (rw c.deref-2.ensures.value at c.in_ok-put_all-3.ensures)
    (rw c.deref-3.ensures.value at c.in_ok-put_all-4.ensures)
    (rw c.deref-4.ensures.value at c.in_ok-put_all-5.ensures)
    (rw c.deref-5.ensures.value at c.in_ok-put_all-6.ensures)
    (rw c.deref-6.ensures.value at c.in_ok-put_all-7.ensures)
    (rw c.deref-7.ensures.value at c.in_ok-put_all-8.ensures)
    (rw c.deref-8.ensures.value at c.in_ok-put_all-9.ensures)
    (rw c.deref-9.ensures.value at c.in_ok-extend_from_slice.ensures.items)
    (rw c.deref-10.ensures.value at c.in_ok-put_all-10.ensures)
    (rw c.deref-11.ensures.value at c.in_ok-put_all-11.ensures)
    (rw c.deref-12.ensures.value at c.in_ok-put_all-12.ensures))

pub returns-clause-stands : goal.returns-clause-stands
returns-clause-stands c = record {
  formed = subst UnitFormed c.self.view_is c.self.invariant.formed;
  file = returns-clause-file c;
}
