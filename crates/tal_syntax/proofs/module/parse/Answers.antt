use Rattle.std.proofs.Common.{subst, sym}
use Rattle.std.specs.Prelude.{IfOk}
use Rattle.tal_syntax.specs.Modules.{TextOf, NoModule}
use Rattle.tal_syntax.proofs.ModuleLaws.{gives_module, gives_no_module}
use Rattle.tal_syntax.proofs.module.parse.Goals as goal

-- what is found is said by the text
said : (c : goal.After-found) → TextOf c.args.bytes.now c.found.inside.lines.items
said c =
    subst (TextOf c.args.bytes.now) (sym c.found.view_is)
    (subst (λ r. IfOk r (TextOf c.args.bytes.now)) c.in-Ok.is (gives_module c.read_text.result c.args.bytes.now c.read_text.ensures))

pub invariant_of-result : goal.invariant_of-result
invariant_of-result c = (c.args.bytes.now, said c)

pub returns-in-Ok-clause-module : goal.returns-in-Ok-clause-module
returns-in-Ok-clause-module c = said c

pub returns-in-Err-clause-no_module : goal.returns-in-Err-clause-no_module
returns-in-Err-clause-no_module c = subst (λ r. NoModule r c.args.bytes.now) c.in-Err.is (gives_no_module c.read_text.result c.args.bytes.now c.read_text.ensures)
