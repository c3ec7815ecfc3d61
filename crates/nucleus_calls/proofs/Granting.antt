-- The line that the devices grant is the one that the state's history lets be granted.
use Rattle.std.specs.Prelude.{MatchOption}
use Rattle.std.specs.Option.{option_map}
use Rattle.std.proofs.Common.{◌≡◌, ℕ, ◌==◌, false, Option, Some, None, refl, ap, arith}
use Rattle.std.proofs.lemmas.Bool.Decides.{nat_tests}
use Rattle.device_model.specs.declared.interrupt_lines.Line.{Line}
use Rattle.device_model.specs.History.{History, CanBeGranted}
use Rattle.device_model.specs.Devices.{IsGrant}
use Rattle.device_model.specs.ItemByItem.{grantable}
use Rattle.device_model.specs.Laws.{GrantComputed, OneGrant}
use Rattle.typed_machine.specs.States.{State}
use Rattle.typed_machine.specs.Turns.{line_granted}

pub grant-is : GrantComputed → OneGrant → (h : History) (r : Option Line) → IsGrant r h → option_map (λ (l : Line). l.0) r ≡ grantable h
grant-is computed one h r is = go r is (grantable h) (computed h)
  where
    go : (r : Option Line) → IsGrant r h → (g : Option ℕ) → MatchOption g ((line : ℕ) → CanBeGranted line h → ⊥) (λ line. CanBeGranted line h)
        → option_map (λ (l : Line). l.0) r ≡ g
    go None none None m = refl
    go None none (Some line) m = absurd (none line m)
    go (Some l) can None m = absurd (m l.0 can)
    go (Some l) can (Some line) m = ap Some (one h l.0 line can m)

-- a line is granted on an application where the devices grant it, and never on stack 0
pub granted-on-application : (s : State) (g : Option ℕ) → grantable s.devices ≡ g → (s.current ≡ 0 → ⊥) → line_granted s ≡ g
granted-on-application s g is other = let e : (s.current == 0) ≡ false = grind (arith, nat_tests) in rw e is

pub none-on-kernel : (s : State) → s.current ≡ 0 → line_granted s ≡ None
none-on-kernel s kernel = rw kernel refl
