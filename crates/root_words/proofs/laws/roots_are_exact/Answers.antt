use Rattle.root_words.proofs.Roots.{roots-are-exact}
use Rattle.root_words.proofs.laws.roots_are_exact.Goals as goal

pub returns : goal.returns
returns c image live t next s area words kept stands = roots-are-exact c.rows_by_address.ensures image live t next s area words kept stands
