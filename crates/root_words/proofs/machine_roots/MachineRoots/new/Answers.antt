use Rattle.std.proofs.Common.{refl}
use Rattle.root_words.specs.Listing.{root_words}
use Rattle.root_words.proofs.machine_roots.MachineRoots.new.Goals as goal

pub returns : goal.returns
unfolding root_words
returns c = rw (c.new.ensures, c.of_frames.ensures, c.current.ensures.current) refl
