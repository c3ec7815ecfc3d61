use Rattle.tal_image.proofs.Meaning.Bodies.{SomeText, bodies_means, body_length}
use Rattle.tal_image.proofs.Meaning.Header.{header_means}
use Rattle.tal_image.proofs.Meaning.Types.{field_type_means}
use Rattle.tal_image.proofs.Meaning.Rows.{sig_means, function_where_means, class_means, array_where_means, block_means, mark_where_means}
use Rattle.tal_image.proofs.laws.row_meanings.Goals as goal

pub returns : goal.returns
returns c =
    let numbers = c.number_meanings.ensures in
    let some : SomeText = λ text i s. (c.spelling_length.ensures text i s).0 in
    record {
      header = λ letters partial word. header_means letters partial word numbers;
      sig = sig_means numbers;
      function = function_where_means numbers;
      class = class_means numbers;
      field_type = field_type_means numbers;
      array = array_where_means numbers;
      bodies = bodies_means some;
      body_length = body_length;
      block = block_means numbers;
      mark = mark_where_means numbers;
    }
