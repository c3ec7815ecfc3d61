use Rattle.tal_listing.proofs.EveryByte.{every_byte}
use Rattle.tal_listing.proofs.laws.every_byte_is_listed.Goals as goal

pub returns : goal.returns
returns c = every_byte c.front_law.ensures c.spelling_length.ensures
