-- The words of displays that comparisons name.
use Rattle.std.proofs.Common.{◌≡◌, ◌∙◌, ◌+◌, ℕ, Bool, true, Option, Some, None, is_some, arith, sym, ap}
use Rattle.std.proofs.lemmas.Bool.{and_parts}
use Rattle.ia32_code.specs.declared.instruction.Alu.TheVariants as alu
use Rattle.ia32_code.specs.declared.instruction.Mem.{Mem}
use Rattle.ia32_code.specs.declared.instruction.Operand.{Operand}
use Rattle.ia32_code.specs.declared.instruction.Operand.TheVariants.{M}
use Rattle.ia32_code.specs.declared.instruction.Inst.TheVariants as inst
use Rattle.object_layout.specs.Classes.{table_word}
use Rattle.tal_flow.specs.declared.forms.Form.TheVariants.{Compare}
use Rattle.tal_flow.specs.declared.places.Place.{Place}
use Rattle.tal_flow.specs.declared.places.Place.TheVariants.{Display}
use Rattle.tal_flow.specs.Forms.{form_of}
use Rattle.tal_flow.specs.Places.{found, operand_place}
use Rattle.tal_flow.specs.Rules.{operand_rule}
use Rattle.tal_flow.specs.Strongest.{PlacedInst}
use Rattle.tal_image.specs.Image.{ImageParts}
use Rattle.tal_image.specs.Shown.{shown}
use Rattle.tal_checker.specs.Running.{RunsOn, instruction_in}
use Rattle.typed_machine.specs.States.{State}
use Rattle.typed_machine.specs.Operands.{AtDisplay, spot_of, spot_word}
use Rattle.typed_machine.specs.Typing.{TypedAmong, scope_of}
use Rattle.typed_safety.specs.Laws.{ImageLaws}
use Rattle.typed_safety.proofs.Scopes.{resolved, place_of}
use Rattle.typed_safety.proofs.Fitted.{typed-fits}
use Rattle.typed_safety.proofs.Spots.{SpotFound, spot-found}
use Rattle.typed_safety.proofs.FlagWords.{display-there}
use Rattle.typed_safety.proofs.Comparisons.{three-hold}
use Rattle.typed_safety.proofs.Standing.{stands-at}

module _ (image : ImageParts) (live : ℕ → Bool) (runs : RunsOn image) (laws : ImageLaws image) (s : State) (t : TypedAmong image live s) where
  -- the word of a display that a context sees as a place
  seen-word : (a : Mem) (c d : ℕ) (p : Option Place) → is_some p ≡ true → SpotFound (scope_of image live s) t.thread.context s a.base p (Some (AtDisplay c d))
      → (w : ℕ) × (spot_word (shown image).shapes s (AtDisplay c d) ≡ Some w)
  unfolding spot_word
  seen-word a c d None e h = absurd (cc)
  seen-word a c d (Some (Display r k)) e h =
      let read = display-there (shown image).shapes laws.classes c k h.3 h.1 in
      (read.0, ap (λ n. table_word (shown image).shapes c (3 + n)) (sym h.0) ∙ read.1)
  seen-word a c d (Some p) e h = absurd (grind arith)

  -- a comparison's operand in memory is a place
  compared-place : (a : Mem) (y : Operand) → operand_rule (shown image) t.thread.context s.thread.place (Compare (M a) y) ≡ None
      → is_some (place_of (scope_of image live s) t.thread.context a) ≡ true
  unfolding operand_rule found operand_place
  compared-place a y e =
      let parts = three-hold _ _ _ e in
      (and_parts (is_some (place_of (scope_of image live s) t.thread.context a)) (found (resolved (scope_of image live s) t.thread.context s y)) parts.1).0

  -- the word of a display that CMP names
  pub display-words : (x : PlacedInst) → instruction_in image s.thread.place ≡ Some x → (a : Mem) (y : Operand) → x.inst ≡ inst.Alu alu.Cmp (M a) y
      → (c d : ℕ) → spot_of (shown image).shapes s a ≡ Some (AtDisplay c d) → (w : ℕ) × (spot_word (shown image).shapes s (AtDisplay c d) ≡ Some w)
  unfolding form_of
  display-words x here a y is c d spot =
      let at = stands-at image runs laws live s t x here in
      let rules : operand_rule (shown image) t.thread.context s.thread.place (Compare (M a) y) ≡ None = rw is at at.rules in
      let found_spot = spot-found (scope_of image live s) t.thread.sig.result t.thread.context s laws.classes (typed-fits image live s t) a in
      seen-word a c d (place_of (scope_of image live s) t.thread.context a) (compared-place a y rules) (rw spot at found_spot)
