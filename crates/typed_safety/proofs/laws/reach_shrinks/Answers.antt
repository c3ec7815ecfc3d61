use Rattle.typed_safety.proofs.Keeping.{turn-shrinks}
use Rattle.typed_safety.proofs.Living.{esp_refers_not}
use Rattle.typed_safety.proofs.laws.reach_shrinks.Goals as goal

pub returns : goal.returns
returns c = λ image typed events. turn-shrinks image (c.accepted_runs.ensures image typed) (c.formed_images_tell.ensures image typed.formed)
    (esp_refers_not image (λ pc k. c.esp_is_junk.ensures image pc k typed)) c.reach_is_least.ensures events
