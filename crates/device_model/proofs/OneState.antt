-- Devices that stand for one history are equal.
use Rattle.std.proofs.Common.{◌≡◌, ◌<◌, ℕ, ◌^◌, length, refl, sym, ◌∙◌, arith, inl, inr}
use Rattle.std.specs.Int.{bit_at}
use Rattle.std.proofs.lemmas.Bool.{cases_Bool}
use Rattle.std.proofs.lemmas.Nat.Bits.{same_from_bits_below}
use Rattle.std.proofs.lemmas.Grind.{same_number_lists}
use Rattle.device_model.specs.LineBits.{is_set}
use Rattle.device_model.specs.History.{History}
use Rattle.device_model.specs.Devices.{DevicesView, StandsFor}
use Rattle.device_model.proofs.Bits.{bit_one, bit_zero}
use Rattle.device_model.proofs.Shows.{shows}

-- Bits that are set alike are equal.
same_bit : (a b i : ℕ) → is_set a i ≡ is_set b i → bit_at a i ≡ bit_at b i
same_bit a b i e =
    elim (cases_Bool (is_set b i)) [
      | inl one ↦ bit_one a i (e ∙ one) ∙ sym (bit_one b i one)
      | inr none ↦ bit_zero a i (e ∙ none) ∙ sym (bit_zero b i none)
    ]

-- Bytes with the same eight bits are equal.
same_byte : (a b : ℕ) → a < 2 ^ 8 → b < 2 ^ 8 → ((line : ℕ) → line < 8 → is_set a line ≡ is_set b line) → a ≡ b
same_byte a b a_fits b_fits same = same_from_bits_below 8 a b a_fits b_fits (λ line lt. same_bit a b line (same line lt))

-- Devices with equal parts are equal.
same_parts : (d e : DevicesView) → d.requests ≡ e.requests → d.service ≡ e.service → d.mask ≡ e.mask → d.count_set ≡ e.count_set
    → d.awaited ≡ e.awaited → d.waiting ≡ e.waiting → d.cells ≡ e.cells → d ≡ e
same_parts d e requests service mask count_set awaited waiting cells =
    let same : record { requests = d.requests; service = d.service; mask = d.mask; count_set = d.count_set; awaited = d.awaited; waiting = d.waiting; cells = d.cells } ≡ e =
    rw (requests, service, mask, count_set, awaited, waiting, cells) refl in
    same

-- What all devices keep: bytes of eight lines, and 2000 cells.
pub record Sized (d : DevicesView) : Type 0 where
  pub requests : d.requests < 2 ^ 8
  pub service : d.service < 2 ^ 8
  pub cells : length d.cells ≡ 2000

-- Devices that stand for one history are equal.
pub one_view : (d e : DevicesView) (h : History) → Sized d → Sized e → StandsFor d h → StandsFor e h → d ≡ e
one_view d e h d_sized e_sized d_stands e_stands =
    let s = shows d h d_stands in
    let t = shows e h e_stands in
    same_parts d e
    (same_byte d.requests e.requests d_sized.requests e_sized.requests (λ line lt. s.requests line lt ∙ sym (t.requests line lt)))
    (same_byte d.service e.service d_sized.service e_sized.service (λ line lt. s.service line lt ∙ sym (t.service line lt)))
    (s.mask ∙ sym t.mask) (s.count_set ∙ sym t.count_set) (s.awaited ∙ sym t.awaited) (s.waiting ∙ sym t.waiting)
    (same_number_lists d.cells e.cells (d_sized.cells ∙ sym e_sized.cells) (λ k lt. s.cells k (omega (arith, lt, d_sized.cells))
    ∙ sym (t.cells k (omega (arith, lt, d_sized.cells)))))
