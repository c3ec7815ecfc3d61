use Rattle.std.proofs.Common.{sym, subst}
use Rattle.tal_names.specs.Declarations.{names_shown}
use Rattle.tal_asm.specs.Steps.{LineIsMade}
use Rattle.tal_asm.proofs.Taken.{function_taken}
use Rattle.tal_asm.proofs.assembling.take_line.Goals as goal

pub returns-else-ext : goal.returns-else-ext
returns-else-ext c = subst (λ r. LineIsMade c.take_function.result r c.take_function.new.tables)
    (sym (function_taken (names_shown c.args.names.now) c.args.unit_names.now (record { tables = c.args.tables.now; code = c.args.code }) c.args.line.now.number c.args.line.now.form c.args.behind.now
    c.in-Func.ext c.in-Func.name c.in-Func.sig c.in-Func.is c.if-ext.false))
    c.take_function.ensures
