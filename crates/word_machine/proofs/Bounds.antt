-- How far the parts of the memory go, by the limits of an image and by typing.
use Rattle.std.proofs.Common.{◌≡◌, ◌<◌, ◌≤◌, ◌==◌, ℕ, Bool, true, false, if◌then◌else◌, Option, Some, None, arith, refl, [], length, slice_get}
use Rattle.std.specs.Option.{option_map_or}
use Rattle.std.proofs.lemmas.Bool.Decides.{nat_tests}
use Rattle.std.proofs.lemmas.Option.{slice_get_within}
use Rattle.ia32_step.specs.declared.cpu.Cpu.{Cpu}
use Rattle.tal_image.specs.Image.{ImageParts}
use Rattle.typed_machine.specs.States.{State, Stack, EmptyStack, RunningStack, YieldedStack, InterruptedStack}
use Rattle.typed_machine.specs.Typing.{StackFits, scope_of}
use Rattle.word_machine.specs.Memory.{MemoryView}
use Rattle.word_machine.specs.Standing.{kept_values, values_at}
use Rattle.word_machine.specs.Following.{Grounds}

module _ {image : ImageParts} {live : ℕ → Bool} {s : State} {cpu : Cpu} {m : MemoryView} (g : Grounds image live s cpu m) where
  -- there are 64 stacks at most
  pub few-stacks : image.stacks ≤ 64
  few-stacks = let h = g.well_typed.formed.condition_2 in grind (arith, nat_tests)

  -- one of them runs
  pub runs-there : s.current < image.stacks
  runs-there = let few = slice_get_within s.stacks s.current RunningStack g.typed.one in let count = g.typed.count in omega arith

  -- a stack of the table is not too deep
  kept-short : (o : Option Stack) → ((stack : Stack) → o ≡ Some stack → StackFits (scope_of image live s) stack) → length (option_map_or kept_values o []) ≤ 4096
  unfolding kept_values
  kept-short None h = omega arith
  kept-short (Some EmptyStack) h = omega arith
  kept-short (Some RunningStack) h = omega arith
  kept-short (Some (YieldedStack place values)) h = (h (YieldedStack place values) refl).room
  kept-short (Some (InterruptedStack thread values)) h = (h (InterruptedStack thread values) refl).room

  -- nor is the one that runs
  pub stack_short : (n : ℕ) → length (values_at s n) ≤ 4096
  unfolding values_at
  stack_short n = go (n == s.current)
    where
      go : (b : Bool) → length (if b then s.values else option_map_or kept_values (slice_get s.stacks n) []) ≤ 4096
      go true = g.typed.thread.room
      go false = kept-short (slice_get s.stacks n) (λ stack there. g.typed.others n stack there)
