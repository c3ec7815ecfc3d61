use Rattle.tal_image.proofs.Reading.Code.{read_code_laws}
use Rattle.tal_image.proofs.laws.read_code_laws.Goals as goal

pub returns : goal.returns
returns c = read_code_laws c.decoded_law.ensures
