use Rattle.std.proofs.Common.{inl, inr}
use Rattle.unit_files.specs.Fields.{unit_fields}
use Rattle.unit_files.proofs.laws.each_is_one.Goals as goal

pub returns : goal.returns
returns c = λ bytes fits. elim (c.each_is_one.ensures unit_fields bytes fits) [
  | inl k ↦ inl (k.0, (c.read_as_fields.ensures bytes k.0).0 k.1)
  | inr k ↦ inr k
]
