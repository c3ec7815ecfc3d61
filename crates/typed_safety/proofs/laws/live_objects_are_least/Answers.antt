use Rattle.typed_safety.proofs.Living.{live-least, typed-among, esp_refers_not}
use Rattle.typed_safety.proofs.laws.live_objects_are_least.Goals as goal

pub returns : goal.returns
returns c = λ image typed live s t. record {
  typed = typed-among image c.reach_is_least.ensures s (esp_refers_not image (λ pc k. c.esp_is_junk.ensures image pc k typed)) live t;
  least = live-least image c.reach_is_least.ensures live s t;
}
