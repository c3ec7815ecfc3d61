-- Where a memory stands among objects, it stands among fewer.
use Rattle.std.proofs.Common.{◌≡◌, ℕ, Bool, true}
use Rattle.tal_image.specs.Image.{ImageParts}
use Rattle.typed_machine.specs.States.{State}
use Rattle.word_machine.specs.Memory.{MemoryView}
use Rattle.word_machine.specs.Standing.{MemoryStands}
use Rattle.word_machine.specs.Laws.{StandingFalls}

-- the law
pub stands-among : StandingFalls
stands-among image more live s m fewer h = record {
  tables = h.tables;
  descriptors = h.descriptors;
  statics = h.statics;
  objects = λ i o lives there. h.objects i o (fewer i lives) there;
  stacks = h.stacks;
  room = h.room;
  lie = record {
    short = h.lie.short;
    aligned = λ i o lives there. h.lie.aligned i o (fewer i lives) there;
    inside = λ i o lives there. h.lie.inside i o (fewer i lives) there;
    apart = λ i j o p lives other differ there behind. h.lie.apart i j o p (fewer i lives) (fewer j other) differ there behind;
  };
  blocks = record {
    formed = h.blocks.formed;
    size = h.blocks.size;
    objects = λ i o lives heap there. h.blocks.objects i o (fewer i lives) heap there;
  };
}
