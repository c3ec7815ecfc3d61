-- Devices stand for a history where each part is computed from it.
use Rattle.std.proofs.Common.{◌≡◌, ◌<◌, ℕ, Bool, true, sym, ◌∙◌, inl, inr}
use Rattle.std.specs.Prelude.{IsTrue, ◌↔◌, slice_index}
use Rattle.std.proofs.lemmas.Bool.{cases_Bool, true≢false}
use Rattle.device_model.specs.LineBits.{is_set}
use Rattle.device_model.specs.History.{History, awaited, waiting, mask, cell}
use Rattle.device_model.specs.ItemByItem.{is_count_set, is_requested, is_served}
use Rattle.device_model.specs.Devices.{DevicesView, StandsFor}
use Rattle.device_model.proofs.Counts.{count_set_sound, count_set_complete}
use Rattle.device_model.proofs.Requests.{requested_sound, requested_complete}
use Rattle.device_model.proofs.Service.{served_sound, served_complete}

-- Each part is what the history gives, as it is computed.
pub record Shows (d : DevicesView) (h : History) : Type 0 where
  pub requests : (line : ℕ) → line < 8 → is_set d.requests line ≡ is_requested line h
  pub service : (line : ℕ) → line < 8 → is_set d.service line ≡ is_served h line
  pub count_set : d.count_set ≡ is_count_set h
  pub awaited : d.awaited ≡ awaited h
  pub waiting : d.waiting ≡ waiting h
  pub mask : d.mask ≡ mask h
  pub cells : (position : ℕ) → position < 2000 → slice_index d.cells position ≡ cell position h

-- two tests of one fact
same_test : (P : Type 0) (b t : Bool) → IsTrue b ↔ P → (t ≡ true → P) → (P → t ≡ true) → b ≡ t
same_test P b t is sound complete =
    elim (cases_Bool b) [
      | inl yes_b ↦ yes_b ∙ sym (complete (is.0 yes_b))
      | inr no_b ↦ elim (cases_Bool t) [
        | inl yes_t ↦ absurd (true≢false (sym (is.1 (sound yes_t)) ∙ no_b))
        | inr no_t ↦ no_b ∙ sym no_t
      ]
    ]

-- a test of a fact is any test that agrees with one
like_test : (P : Type 0) (b t : Bool) → b ≡ t → (t ≡ true → P) → (P → t ≡ true) → IsTrue b ↔ P
like_test P b t e sound complete = ((λ is. sound (sym e ∙ is)), (λ p. e ∙ complete p))

-- Devices that stand for a history show it,
pub shows : (d : DevicesView) (h : History) → StandsFor d h → Shows d h
shows d h s = record {
  requests = λ line lt. same_test _ (is_set d.requests line) (is_requested line h) (s.requests line lt) (requested_sound line h) (requested_complete line h);
  service = λ line lt. same_test _ (is_set d.service line) (is_served h line) (s.service line lt) (served_sound h line) (served_complete h line);
  count_set = same_test _ d.count_set (is_count_set h) s.count_set (count_set_sound h) (count_set_complete h);
  awaited = s.awaited;
  waiting = s.waiting;
  mask = s.mask;
  cells = s.cells;
}

-- and the other way round.
pub stands : (d : DevicesView) (h : History) → Shows d h → StandsFor d h
stands d h s = record {
  requests = λ line lt. like_test _ (is_set d.requests line) (is_requested line h) (s.requests line lt) (requested_sound line h) (requested_complete line h);
  service = λ line lt. like_test _ (is_set d.service line) (is_served h line) (s.service line lt) (served_sound h line) (served_complete h line);
  count_set = like_test _ d.count_set (is_count_set h) s.count_set (count_set_sound h) (count_set_complete h);
  awaited = s.awaited;
  waiting = s.waiting;
  mask = s.mask;
  cells = s.cells;
}
