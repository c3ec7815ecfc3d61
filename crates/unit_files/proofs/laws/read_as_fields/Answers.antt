use Rattle.unit_files.proofs.Meaning.Code.{SomeText}
use Rattle.unit_files.proofs.Meaning.Files.{stands, read}
use Rattle.unit_files.proofs.laws.read_as_fields.Goals as goal

pub returns : goal.returns
returns c =
    let some : SomeText = λ text i s. (c.spelling_length.ensures text i s).0 in
    let rows = c.row_meanings.ensures in
    let numbers = c.number_meanings.ensures in
    λ bytes u. (read rows numbers some bytes u, stands rows numbers some bytes u)
