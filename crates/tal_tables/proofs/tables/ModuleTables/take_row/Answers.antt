use Rattle.std.proofs.Common.{sym}
use Rattle.tal_tables.specs.Rows.{take_row}
use Rattle.tal_tables.proofs.tables.ModuleTables.take_row.Goals as goal

pub returns-in-Sig : goal.returns-in-Sig
unfolding take_row
returns-in-Sig c = rw (c.in-Sig.is, sym c.items.ensures) c.add_sig.ensures

pub returns-in-Kind : goal.returns-in-Kind
unfolding take_row
returns-in-Kind c = rw c.in-Kind.is c.add_kind.ensures

pub returns-in-Static : goal.returns-in-Static
unfolding take_row
returns-in-Static c = rw c.in-Static.is c.add_static.ensures

pub returns-in-Class : goal.returns-in-Class
unfolding take_row
returns-in-Class c = rw c.in-Class.is c.add_class.ensures

pub returns-in-Func-true-default-default : goal.returns-in-Func-true-default-default
unfolding take_row
returns-in-Func-true-default-default c = let f = c.in-Func-true-default-default in rw (f.is, ← f.ext-is, f.ext-test) c.add_extern.ensures
