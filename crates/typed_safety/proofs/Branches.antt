-- Jumps and branches: what a branch tells is so where it goes.
use Rattle.std.proofs.Common.{◌≡◌, ◌∙◌, sym, ap, ◌&&◌, ℕ, Bool, true, false, if◌then◌else◌, Option, Some, None, is_some, ⊎_elim, arith, refl, slice_get}
use Rattle.std.proofs.lemmas.Bool.{and_parts}
use Rattle.ia32_code.specs.declared.instruction.Reg.{Reg}
use Rattle.ia32_code.specs.declared.instruction.Cond.{Cond}
use Rattle.ia32_code.specs.declared.instruction.Inst.{Inst}
use Rattle.stack_states.specs.declared.flag_bits.FlagBits.{FlagBits}
use Rattle.ia32_step.specs.Conditions.{holds}
use Rattle.object_layout.specs.Classes.{Below}
use Rattle.object_layout.specs.Laws.{ClassLaws}
use Rattle.tal_types.specs.declared.types.Ty.{Ty}
use Rattle.tal_types.specs.declared.types.Ty.TheVariants as ty
use Rattle.tal_types.specs.declared.types.FlagKind.{FlagKind}
use Rattle.tal_types.specs.declared.types.FlagKind.TheVariants as kind
use Rattle.tal_types.specs.Types.{within}
use Rattle.tal_types.specs.Contexts.{LiveContext, ContextView, Dead, Live, same}
use Rattle.tal_types.specs.Laws.{TypeLaws}
use Rattle.tal_flow.specs.declared.forms.Form.TheVariants.{Jump, Branch}
use Rattle.tal_flow.specs.declared.edges.Told.{Told}
use Rattle.tal_flow.specs.declared.edges.Told.TheVariants as told
use Rattle.tal_flow.specs.Edges.{not_null, refine_reg, add_pair, meet_class, meet, refine, falling, branching, target_of, told_by_branch, told_by_fall}
use Rattle.tal_flow.specs.Functions.{in_function, has_block}
use Rattle.tal_flow.specs.Rules.{operand_rule}
use Rattle.tal_image.specs.Image.{ImageParts}
use Rattle.tal_image.specs.Shown.{shown}
use Rattle.tal_checker.specs.Running.{Arrives, instruction_in}
use Rattle.typed_machine.specs.Values.{Value, Ref, InstanceOf, is_instance, fits_among}
use Rattle.typed_machine.specs.States.{State, at_place}
use Rattle.typed_machine.specs.Code.{may_go}
use Rattle.typed_machine.specs.Effects.{form_effect}
use Rattle.typed_machine.specs.Frames.{Scope, fits_in}
use Rattle.typed_machine.specs.Typing.{KindTold, ClassTold, IsPair, is_null, TypedAmong, scope_of}
use Rattle.typed_safety.specs.Laws.{ImageLaws}
use Rattle.typed_safety.proofs.Scopes.{rows}
use Rattle.typed_safety.proofs.Values.{fits-not_null}
use Rattle.typed_safety.proofs.Fitted.{StateFits, typed-fits, place-fits, thread_fits, also_related}
use Rattle.typed_safety.proofs.Standing.{FormTyped, arrives_typed}

-- a context that is live, and that the state fits
abbrev pub FitsLive : Scope → Ty → State → ContextView → Type 0
FitsLive l result s Dead = ⊥
FitsLive l result s (Live d) = StateFits l result d s

-- what is told is so
abbrev pub FlagsAgree : Told → FlagBits → Type 0
FlagsAgree told.Equal f = f.zero ≡ true
FlagsAgree told.Unequal f = f.zero ≡ false
FlagsAgree told.Below f = f.carry ≡ true
FlagsAgree told.Nothing f = Unit {0}

-- where a condition holds, what its branch tells is so
branch-agrees : (a : Cond) (f : FlagBits) → holds a f ≡ true → FlagsAgree (told_by_branch a) f
branch-agrees a f e = grind arith

-- where it does not, what the fall tells is so
fall_agrees : (a : Cond) (f : FlagBits) → holds a f ≡ false → FlagsAgree (told_by_fall a) f
fall_agrees a f e = grind arith

module _ (types : TypeLaws) (l : Scope) (result : Ty) (c : LiveContext) (s : State) (h : StateFits l result c s) where
  -- a register has another type, too
  refine_reg-fits : (r : Reg) (t : Ty) → fits_in l (s.thread.regs r) t ≡ true → StateFits l result (refine_reg r t c) s
  unfolding refine_reg
  refine_reg-fits r t e = thread_fits l result c _ s h (record {
    regs = λ q. typed q (same q r) refl;
    pairs = h.thread.pairs;
    heads = h.thread.heads;
    conditions = h.thread.conditions;
    told = h.thread.told;
    frames = h.thread.frames;
    room = h.thread.room;
  })
    where
      typed : (q : Reg) (b : Bool) → same q r ≡ b → fits_in l (s.thread.regs q) (if same q r then t else c.regs q) ≡ true
      typed q true f = rw (f, types.same_told q r f) e
      typed q false f = rw f (h.thread.regs q)

  -- a register is below the length of an array, too
  add_pair-fits : (i a : Reg) → IsPair l.shapes (s.thread.regs i) (s.thread.regs a) → StateFits l result (add_pair i a c) s
  unfolding add_pair
  add_pair-fits i a is = thread_fits l result c _ s h (record {
    regs = h.thread.regs;
    pairs = also_related types (λ j b. IsPair l.shapes (s.thread.regs j) (s.thread.regs b)) c.pairs i a is h.thread.pairs;
    heads = h.thread.heads;
    conditions = h.thread.conditions;
    told = h.thread.told;
    frames = h.thread.frames;
    room = h.thread.room;
  })

  -- an object of a class is one of a class above it
  object_fits : (r : Reg) (o d e : ℕ) → s.thread.regs r ≡ Ref o → l.live o ≡ true → slice_get l.shapes o ≡ Some (InstanceOf d) → Below (rows l) d e ≡ true
      → fits_in l (s.thread.regs r) (ty.Obj e) ≡ true
  unfolding fits_among
  object_fits r o d e holds live is below = rw (holds, live, is) below

  -- two classes above one are one below the other
  comparable : ClassLaws (rows l) → (d k e : ℕ) → Below (rows l) d k ≡ true → Below (rows l) d e ≡ true
      → within (rows l) k e ≡ false → within (rows l) e k ≡ false → ⊥
  unfolding within
  comparable laws d k e f g a b = ⊎_elim (λ (x : Below (rows l) k e ≡ true). absurd (grind arith)) (λ (x : Below (rows l) e k ≡ true). absurd (grind arith)) (laws.tree d k e f g)

  -- an object of a class that is below two has the lower of both
  meet_class-fits : ClassLaws (rows l) → (r : Reg) (o d k e : ℕ) → s.thread.regs r ≡ Ref o → l.live o ≡ true → slice_get l.shapes o ≡ Some (InstanceOf d)
      → Below (rows l) d k ≡ true → Below (rows l) d e ≡ true → FitsLive l result s (meet_class (rows l) c r k e)
  meet_class-fits laws r o d k e holds live is f g = go (within (rows l) k e) refl (within (rows l) e k) refl
    where
      go : (x : Bool) → within (rows l) k e ≡ x → (y : Bool) → within (rows l) e k ≡ y
          → FitsLive l result s (if x then Live (refine_reg r (ty.Obj k) c) else (if y then Live (refine_reg r (ty.Obj e) c) else Dead))
      go true a y b = refine_reg-fits r (ty.Obj k) (object_fits r o d k holds live is f)
      go false a true b = refine_reg-fits r (ty.Obj e) (object_fits r o d e holds live is g)
      go false a false b = absurd (comparable laws d k e f g a b)

  -- what the type of an object tells of its class
  class-told : (w : Value) (o d k : ℕ) → fits_in l w (ty.Obj k) ≡ true → w ≡ Ref o → slice_get l.shapes o ≡ Some (InstanceOf d) → (l.live o ≡ true) × (Below (rows l) d k ≡ true)
  unfolding fits_among
  class-told w o d k f e is = let parts = and_parts (l.live o) (is_instance (rows l) (slice_get l.shapes o) k) (rw e at f) in (parts.0, rw is at parts.1)

  -- an object that has a type is of a class, too
  meet_object_fits : ClassLaws (rows l) → (r : Reg) (k e : ℕ) → fits_in l (s.thread.regs r) (ty.Obj k) ≡ true → ClassTold (rows l) l.shapes (s.thread.regs r) e true
      → FitsLive l result s (meet_class (rows l) c r k e)
  meet_object_fits laws r k e f b =
      let known = class-told (s.thread.regs r) b.object b.class k f b.is_object b.is_of in
      meet_class-fits laws r b.object b.class k e b.is_object known.0 b.is_of known.1 (sym b.tells)

  -- what has a type is an object of a class, too
  meet-fits : ClassLaws (rows l) → (r : Reg) (t : Ty) (e : ℕ) → fits_in l (s.thread.regs r) t ≡ true → ClassTold (rows l) l.shapes (s.thread.regs r) e true
      → FitsLive l result s (meet (rows l) c r t e)
  unfolding meet not_null
  meet-fits laws r (ty.Obj k) e f b = meet_object_fits laws r k e f b
  meet-fits laws r (ty.Ref k) e f b =
      meet_object_fits laws r k e (fits-not_null (shown l.image) l.live l.shapes (s.thread.regs r) (ty.Ref k) f (ap is_null b.is_object)) b
  meet-fits laws r t e f b = h

  -- the state fits what is known on an edge that tells what is so
  refine-fits : ClassLaws (rows l) → (k : FlagKind) (t : Told) → KindTold l s.thread k → FlagsAgree t s.thread.flags → FitsLive l result s (refine (rows l) c k t)
  unfolding refine
  refine-fits laws (kind.NullTest r) told.Unequal b f = refine_reg-fits r (not_null (c.regs r)) (fits-not_null (shown l.image) l.live l.shapes (s.thread.regs r) (c.regs r) (h.thread.regs r) (sym b ∙ f))
  refine-fits laws (kind.Bound i a) told.Below b f = add_pair-fits i a (record { told = rw f at b })
  refine-fits laws (kind.IsA r d) told.Equal b f = meet-fits laws r (c.regs r) d (h.thread.regs r) (rw f at b)
  refine-fits laws k t b f = h

module _ (image : ImageParts) (live : ℕ → Bool) (laws : ImageLaws image) (s : State) (t : TypedAmong image live s) (i : Inst) (len next : ℕ) where
  -- a block of the function may be gone to
  block-goes : (to : ℕ) → has_block (shown image) s.thread.place to ≡ true → may_go image s.thread.place to ≡ true
  unfolding has_block may_go
  block-goes to e = go ((shown image).block_at to) refl (and_parts (is_some ((shown image).block_at to)) _ e)
    where
      go : (o : Option ContextView) → (shown image).block_at to ≡ o → (is_some o ≡ true) × (in_function (shown image) s.thread.place to ≡ true) → in_function (shown image) s.thread.place to && is_some (instruction_in image to) ≡ true
      go None f g = absurd (let x = g.0 in grind arith)
      go (Some c) f g = rw (g.1, laws.blocks to c f) refl

  -- a run that arrives at an address with a context that the state fits is typed there
  way-typed : (k : ContextView) (to : ℕ) → FitsLive (scope_of image live s) t.thread.sig.result s k → ((d : LiveContext) → k ≡ Live d → Arrives image s.thread.place to (Live d))
      → TypedAmong image live (at_place to s)
  way-typed Dead to h f = absurd h
  way-typed (Live d) to h f =
      arrives_typed image live _ laws s.thread.place d t.thread.sig (at_place to s) (f d refl) t.thread.function (place-fits (scope_of image live s) t.thread.sig.result d s to h)

  -- what an edge tells is known where it goes
  told-typed : (k : Told) (to : ℕ) → FlagsAgree k s.thread.flags
      → ((d : LiveContext) → refine (shown image).shapes t.thread.context t.thread.context.kind k ≡ Live d → Arrives image s.thread.place to (Live d)) → TypedAmong image live (at_place to s)
  told-typed k to agrees f =
      way-typed _ to (refine-fits laws.types (scope_of image live s) t.thread.sig.result t.thread.context s (typed-fits image live s t) laws.classes t.thread.context.kind k t.thread.told agrees) f

  -- JMP
  pub jump_typed : (to : ℕ) → FormTyped image live s t i len next (Jump to)
  unfolding form_effect operand_rule branching target_of
  jump_typed to at =
      rw (block-goes to (let r = at.rules in grind arith)) (way-typed (Live t.thread.context) to (typed-fits image live s t) (λ d e. at.branches d to e refl))

  -- Jcc
  pub branch-typed : (a : Cond) (to : ℕ) → FormTyped image live s t i len next (Branch a to)
  unfolding form_effect operand_rule branching falling target_of
  branch-typed a to at =
      rw (t.thread.conditions a (let r = at.rules in grind arith), block-goes to (let r = at.rules in grind arith)) (go (holds a s.thread.flags) refl)
    where
      go : (b : Bool) → holds a s.thread.flags ≡ b → TypedAmong image live (at_place (if b then to else next) s)
      go true e = told-typed (told_by_branch a) to (branch-agrees a s.thread.flags e) (λ d f. at.branches d to f refl)
      go false e = told-typed (told_by_fall a) next (fall_agrees a s.thread.flags e) at.falls
