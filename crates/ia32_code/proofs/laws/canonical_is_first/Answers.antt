use Rattle.ia32_code.proofs.CanonicalIsFirst.{is_first}
use Rattle.ia32_code.proofs.laws.canonical_is_first.Goals as goal

pub returns : goal.returns
returns c = λ s h. is_first s.row s.reg s.form s.number h
