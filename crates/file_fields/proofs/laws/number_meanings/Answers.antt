use Rattle.file_fields.proofs.NumberMeanings.{numbers_are_meant}
use Rattle.file_fields.proofs.laws.number_meanings.Goals as goal

pub returns : goal.returns
returns c = numbers_are_meant
