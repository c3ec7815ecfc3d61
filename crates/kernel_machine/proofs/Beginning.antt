-- A machine before its first turn stands for the first state.
use Rattle.std.proofs.Common.{ℕ, Bool, true, List, [], None, refl}
use Rattle.device_model.specs.declared.events.Event.{Event}
use Rattle.device_model.specs.EventFile.{InOrder}
use Rattle.tal_types.specs.Contexts.{same}
use Rattle.tal_image.specs.Image.{ImageParts}
use Rattle.tal_checker.specs.WellTyped.{WellTyped}
use Rattle.typed_machine.specs.Values.{Word}
use Rattle.typed_machine.specs.States.{first_state}
use Rattle.typed_machine.specs.Reaching.{live_in}
use Rattle.typed_machine.specs.Turns.{Run, RunOf}
use Rattle.typed_safety.specs.Laws.{RunsAreTyped}
use Rattle.word_machine.specs.Standing.{CpuStands}
use Rattle.word_machine.specs.Following.{first_cpu}
use Rattle.nucleus_calls.specs.Nucleus.{NucleusView, NucleusStands}
use Rattle.kernel_machine.specs.Machine.{Stands, Follows, Lawful}
use Rattle.kernel_machine.specs.Stepping.{viewed}

-- the run of no turns
abbrev first_run : ImageParts → Run
first_run image = record { state = first_state image; entries = []; left = []; legal = true }

-- the processor
first-cpu : (image : ImageParts) → CpuStands (first_state image) (first_cpu image)
unfolding first_state Word same
first-cpu image = record { regs = refl; flags = refl; place = refl }

first-stands : (image : ImageParts) (events : List Event) (v : NucleusView) → ((live : ℕ → Bool) → NucleusStands image live (first_state image) v)
    → Stands (viewed image events (first_cpu image) v 0 None) (first_state image)
unfolding first_state
first-stands image events v nucleus = record { processor = first-cpu image; nucleus = nucleus (live_in image (first_state image)); turns = refl; ending = refl }

-- it is lawful
pub first-lawful : RunsAreTyped → (image : ImageParts) (events : List Event) (v : NucleusView) → WellTyped image → InOrder events
    → ((live : ℕ → Bool) → NucleusStands image live (first_state image) v) → Lawful (viewed image events (first_cpu image) v 0 None) 0
unfolding RunOf
first-lawful law image events v w ordered nucleus = record {
  well_typed = w;
  state = first_state image;
  typed = (law image w events 0 [] (first_run image) refl refl).typed;
  stands = first-stands image events v nucleus;
  next = record { rest = λ later low. refl; in_order = ordered };
}

-- and follows the empty journal
pub first-follows : (image : ImageParts) (events : List Event) (v : NucleusView) → ((live : ℕ → Bool) → NucleusStands image live (first_state image) v)
    → Follows (viewed image events (first_cpu image) v 0 None) []
unfolding RunOf
first-follows image events v nucleus =
    record { run = first_run image; legal = record { reached = refl; used = refl; legal = refl }; entries_are = refl; stands = first-stands image events v nucleus }
