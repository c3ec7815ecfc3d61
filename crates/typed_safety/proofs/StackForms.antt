-- The stack: PUSH, POP, and dropped slots.
use Rattle.std.proofs.Common.{◌≡◌, ◌≤◌, ℕ, Bool, true, false, nat_le, if◌then◌else◌, Option, Some, None, unwrap_or, arith, refl, List, [], ◌∷◌, length, drop, slice_get}
use Rattle.std.specs.Option.{option_map, option_map_or}
use Rattle.std.proofs.lemmas.Bool.Decides.{nat_tests}
use Rattle.std.proofs.lemmas.List.{length-drop}
use Rattle.ia32_code.specs.declared.instruction.Reg.{Reg}
use Rattle.ia32_code.specs.declared.instruction.Reg.TheVariants.{Esp}
use Rattle.ia32_code.specs.declared.instruction.Operand.{Operand}
use Rattle.ia32_code.specs.declared.instruction.Inst.{Inst}
use Rattle.ia32_step.specs.Effects.{executed}
use Rattle.tal_types.specs.declared.types.Ty.{Ty}
use Rattle.tal_types.specs.declared.types.Ty.TheVariants as ty
use Rattle.tal_types.specs.declared.types.FlagKind.TheVariants as kind
use Rattle.tal_types.specs.Contexts.{LiveContext, same}
use Rattle.tal_flow.specs.declared.forms.Form.TheVariants.{PushOf, PopTo, DropSlots, Nothing}
use Rattle.tal_flow.specs.Afterwards.{write, with_kind, with_slots, pop_to, slots_in, after_form}
use Rattle.tal_flow.specs.Edges.{allows}
use Rattle.tal_flow.specs.Rules.{operand_rule, may_drop}
use Rattle.tal_image.specs.Shown.{shown}
use Rattle.typed_machine.specs.Values.{Value, Ret, fits_among}
use Rattle.typed_machine.specs.States.{State, NoCondition, with_register, with_values, most_values}
use Rattle.typed_machine.specs.Words.{words_of}
use Rattle.typed_machine.specs.Effects.{Faults, goes_on, is_full, pushes, pops, drops, form_effect}
use Rattle.typed_machine.specs.Frames.{Scope, fits_in, FramesFit}
use Rattle.typed_safety.specs.Laws.{ImageLaws}
use Rattle.typed_safety.proofs.Scopes.{type_of, value_of}
use Rattle.typed_safety.proofs.Frames.{ValueFits, frames-drop, frames-above}
use Rattle.typed_safety.proofs.Fitted.{StateFits, place-fits}
use Rattle.typed_safety.proofs.Reading.{operand-read}
use Rattle.typed_safety.proofs.Writing.{register-fits, values-fit}
use Rattle.typed_safety.proofs.Operations.{Leads, FormLeads, flags-fit}

-- a value that has a type is no place to return to, and is popped
pops-typed : (l : Scope) (next : ℕ) (r : Reg) (w : Value) (t : Ty) (vs : List Value) (s : State) → fits_in l w t ≡ true → same r Esp ≡ false
    → pops next r (w ∷ vs) s ≡ Some (goes_on next (with_register r w (with_values vs s)))
unfolding fits_among
pops-typed l next r (Ret a) t vs s f e = absurd (grind arith)
pops-typed l next r w t vs s f e = rw e refl

-- a stack that is not full has room for one more value
pub room-more : (w : Value) (vs : List Value) → nat_le most_values (length vs) ≡ false → length (w ∷ vs) ≤ most_values
room-more w vs e = grind (arith, nat_tests)

module _ (l : Scope) (result : Ty) (c : LiveContext) (s : State) (h : StateFits l result c s) where
  -- a value is pushed, where there is room
  pushed-leads : (next : ℕ) (w : Value) (t : Ty) → fits_in l w t ≡ true → Leads l result (with_slots (t ∷ c.slots) c) next (Some (pushes next w s))
  unfolding pushes is_full
  pushed-leads next w t f = go (nat_le most_values (length s.values)) refl
    where
      go : (b : Bool) → nat_le most_values (length s.values) ≡ b
          → Leads l result (with_slots (t ∷ c.slots) c) next (Some (if b then Faults 12 else goes_on next (with_values (w ∷ s.values) s)))
      go true e = tt
      go false e = (refl, place-fits l result _ _ next (values-fit l result c s (t ∷ c.slots) (w ∷ s.values) h (f, h.thread.frames) (room-more w s.values e)))

  -- PUSH
  pub push-leads : ImageLaws l.image → (i : Inst) (len next : ℕ) (x : Operand) → FormLeads l result c s i len next (PushOf x)
  unfolding form_effect after_form operand_rule
  push-leads laws i len next x e = go (value_of l s x) (operand-read l result c s h laws x (grind arith) (grind arith) (grind arith))
    where
      u : Ty
      u = type_of l c s x

      go : (o : Option Value) → ValueFits l o u → Leads l result (with_slots (u ∷ c.slots) c) next (option_map (λ w. pushes next w s) o)
      go None f = absurd f
      go (Some w) f = pushed-leads next w u f

  -- the value of the slot on top is popped
  popped_leads : (next : ℕ) (r : Reg) (ts : List Ty) (vs : List Value) → same r Esp ≡ false → nat_le 1 (length ts) ≡ true → FramesFit l result ts vs → length vs ≤ most_values
      → Leads l result (with_slots (drop 1 ts) (write r (unwrap_or (slice_get ts 0) ty.Junk) c)) next (pops next r vs s)
  unfolding write
  popped_leads next r [] vs e n f room = absurd (grind (arith, nat_tests))
  popped_leads next r (t ∷ ts) [] e n f room = absurd f
  popped_leads next r (t ∷ ts) (w ∷ vs) e n f room =
      rw (pops-typed l next r w t vs s f.0 e)
      (refl, place-fits l result _ _ next (register-fits l result (with_slots ts c) (with_values vs s) r w t (values-fit l result c s ts vs h f.1 (omega arith)) f.0))

  -- POP
  pub pop-leads : (i : Inst) (len next : ℕ) (r : Reg) → FormLeads l result c s i len next (PopTo r)
  unfolding form_effect after_form operand_rule pop_to
  pop-leads i len next r e = popped_leads next r c.slots s.values (grind arith) (grind arith) h.thread.frames h.thread.room

  -- the slots on top are dropped, where there are so many
  dropped-leads : (i : Inst) (next : ℕ) (count : Option ℕ) → option_map_or (λ n. nat_le n (length c.slots)) count false ≡ true
      → Leads l result (with_kind kind.Lost (with_slots (drop (unwrap_or count 0) c.slots) c)) next (drops s i next count)
  unfolding allows
  dropped-leads i next None e = absurd (grind arith)
  dropped-leads i next (Some n) e =
      let few : n ≤ length c.slots = grind (arith, nat_tests) in
      let dropped = values-fit l result c s (drop n c.slots) (drop n s.values) h (frames-drop l result c.slots s.values n few h.thread.frames)
      (let less = length-drop n s.values in let room = h.thread.room in omega arith) in
      rw (frames-above l result c.slots s.values n few h.thread.frames) (
        refl,
        place-fits l result _ _ next
            (flags-fit l result (with_slots (drop n c.slots) c) (with_values (drop n s.values) s) kind.Lost (executed i (words_of s 0)).flags NoCondition dropped (λ a allowed. absurd (grind arith)) tt),
      )

  -- ADD ESP, imm
  pub drop-leads : (i : Inst) (len next bytes : ℕ) → FormLeads l result c s i len next (DropSlots bytes)
  unfolding form_effect after_form operand_rule may_drop
  drop-leads i len next bytes e = dropped-leads i next (slots_in bytes) (grind arith)

  -- NOP
  pub nothing-leads : (i : Inst) (len next : ℕ) → Leads l result (after_form (shown l.image) c s.thread.place Nothing) next (form_effect l.image s i len next Nothing)
  unfolding form_effect after_form
  nothing-leads i len next = (refl, place-fits l result c s next h)
