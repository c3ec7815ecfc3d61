use Rattle.typed_safety.proofs.WholeRuns.{run-typed}
use Rattle.typed_safety.proofs.Living.{esp_refers_not}
use Rattle.typed_safety.proofs.laws.runs_are_typed.Goals as goal

pub returns : goal.returns
returns c = λ image typed events. run-typed image (c.accepted_runs.ensures image typed) (c.formed_images_tell.ensures image typed.formed)
    (esp_refers_not image (λ pc k. c.esp_is_junk.ensures image pc k typed)) c.reach_is_least.ensures events typed.formed
