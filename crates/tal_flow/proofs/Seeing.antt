use Rattle.std.proofs.Common.{◌≡◌, ℕ, None, ap, refl}
use Rattle.tal_types.specs.Contexts.{LiveContext}
use Rattle.tal_types.specs.Shown.{ShownImage}
use Rattle.tal_flow.specs.declared.forms.Form.{Form}
use Rattle.tal_flow.specs.declared.forms.Form.TheVariants.{Compute, Move}
use Rattle.tal_flow.specs.declared.seen.Seen.{Seen}
use Rattle.tal_flow.specs.Trials.{first_failing}
use Rattle.tal_flow.specs.Seen.{see}
use Rattle.tal_flow.specs.Afterwards.{left_by, after_form, StoresResolved}
use Rattle.tal_flow.specs.Rules.{operand_trials, operand_rule}
use Rattle.tal_flow.proofs.SlotRoom.{place-room}

-- What holds of an instruction holds of it with its operands resolved.

-- what it stores in was resolved in the context
see-stores : (v : ShownImage) (c : LiveContext) (pc : ℕ) (form : Form) → StoresResolved c (see v c pc form)
see-stores v c pc (Compute sources d wide kind) = record { spares = refl; slot = λ i e. place-room v c d i e }
see-stores v c pc (Move d x) = record { spares = refl; slot = λ i e. place-room v c d i e }
see-stores v c pc form = tt

module _ (v : ShownImage) (c : LiveContext) (pc : ℕ) (form : Form) (seen : Seen) (is : seen ≡ see v c pc form) where
  -- its first rule is that of the form
  pub seen-rule : first_failing (operand_trials c seen) ≡ operand_rule v c pc form
  unfolding operand_rule
  seen-rule = ap (λ s. first_failing (operand_trials c s)) is

  -- where none of the form's rules fails, it may be carried out
  pub seen-may : operand_rule v c pc form ≡ None → (first_failing (operand_trials c seen) ≡ None) × StoresResolved c seen
  unfolding operand_rule
  seen-may none = rw is (none, see-stores v c pc form)

  -- it leaves what the form does
  pub seen-left : left_by seen c ≡ after_form v c pc form
  unfolding after_form
  seen-left = ap (λ s. left_by s c) is
