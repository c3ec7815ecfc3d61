use Rattle.std.proofs.Common.{◌≡◌, ◌≤◌, ◌-◌, length, []}
use Rattle.root_words.specs.Rest.{rest_words, WalkableFrom}
use Rattle.root_words.proofs.machine_roots.MachineRootsRoots.next.Given as goal

abbrev pub invariant-stacks : goal.invariant-stacks
invariant-stacks l = record {
  marked : l.self-inside.marked ≡ [];
  stack : l.self-inside.stack ≡ [];
  words : rest_words l.self-inside.frames.now l.self-inside.words.now l.self-inside.next l.self-inside.stacks.now ≡ l.fn.self;
  walkable : WalkableFrom l.self-inside.frames.now l.self-inside.words.now l.self-inside.next l.self-inside.stacks.now;
  within : l.self-inside.next ≤ length l.self-inside.stacks.now;
}

abbrev pub decreases-stacks : goal.decreases-stacks
decreases-stacks l = length l.self-inside.stacks.now - l.self-inside.next
