use Rattle.tal_asm.proofs.ModuleNames.{module_names}
use Rattle.tal_asm.proofs.laws.names_are_names.Goals as goal

pub returns : goal.returns
returns c = module_names
