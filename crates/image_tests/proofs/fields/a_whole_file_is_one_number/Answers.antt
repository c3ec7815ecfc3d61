use Rattle.file_fields.specs.Grammar.{between}
use Rattle.image_tests.proofs.OneNumber.{ends_by_checked}
use Rattle.image_tests.proofs.fields.a_whole_file_is_one_number.Goals as goal

pub read_whole-requires : goal.read_whole-requires
read_whole-requires g c = ends_by_checked (between 1 3) 7

pub read_whole-short-requires : goal.read_whole-short-requires
read_whole-short-requires g c = ends_by_checked (between 1 3) 7

pub read_whole-bad-requires : goal.read_whole-bad-requires
read_whole-bad-requires g c = ends_by_checked (between 1 3) 7

pub read_whole-rest-requires : goal.read_whole-rest-requires
read_whole-rest-requires g c = ends_by_checked (between 1 3) 7
