-- What an image tells of its data and marks, and the laws: instructions, turns and runs keep typing.
use Rattle.std.specs.Prelude.{◌≡◌, ◌≢◌, ◌⊎◌, length, ℕ, Bool, true, List, [], Option, Some, None, is_some, slice_get}
use Rattle.std.specs.Option.{option_and_then}
use Rattle.ia32_code.specs.declared.instruction.Reg.TheVariants.{Eax, Ecx}
use Rattle.ia32_code.specs.declared.instruction.Alu.TheVariants as alu
use Rattle.ia32_code.specs.declared.instruction.Mem.{Mem}
use Rattle.ia32_code.specs.declared.instruction.Operand.{Operand}
use Rattle.ia32_code.specs.declared.instruction.Operand.TheVariants.{M}
use Rattle.ia32_code.specs.declared.instruction.Inst.{Inst}
use Rattle.ia32_code.specs.declared.instruction.Inst.TheVariants as inst
use Rattle.device_model.specs.declared.events.Event.{Event}
use Rattle.object_layout.specs.Classes.{Methods, IsShape, fun_row}
use Rattle.object_layout.specs.Laws.{ClassLaws}
use Rattle.tal_types.specs.declared.types.Ty.{Ty}
use Rattle.tal_types.specs.declared.types.Ty.TheVariants.{Num}
use Rattle.tal_types.specs.declared.views.Mark.{Mark}
use Rattle.tal_types.specs.Contexts.{ContextView}
use Rattle.tal_types.specs.Laws.{TypeLaws}
use Rattle.tal_flow.specs.declared.calls.Arguments.{Arguments}
use Rattle.tal_flow.specs.declared.calls.Called.TheVariants.{Gives}
use Rattle.tal_flow.specs.Places.{mark_type}
use Rattle.tal_flow.specs.Calls.{nucleus_arguments, entry_gives}
use Rattle.tal_flow.specs.Rules.{next_address}
use Rattle.tal_flow.specs.Strongest.{PlacedInst}
use Rattle.tal_image.specs.declared.parts.DataRow.{DataRow}
use Rattle.tal_image.specs.Image.{ImageParts}
use Rattle.tal_image.specs.Conditions.{heap_fits, marked_number}
use Rattle.tal_image.specs.Formed.{Formed}
use Rattle.tal_image.specs.Shown.{shown, data_row_in}
use Rattle.tal_checker.specs.WellTyped.{WellTyped}
use Rattle.tal_checker.specs.Running.{RunsOn, instruction_in}
use Rattle.typed_machine.specs.Values.{Value, Number, Null, Ref, Word, ObjectShape, fits_among}
use Rattle.typed_machine.specs.Stores.{Object, Store, shapes_in, shape_in, places_in}
use Rattle.typed_machine.specs.States.{State}
use Rattle.typed_machine.specs.Operands.{Spot, AtValue, AtLength, AtHead, AtDisplay, spot_of, spot_word, marked_value}
use Rattle.typed_machine.specs.Code.{inst_at}
use Rattle.typed_machine.specs.Effects.{EffectView, Moves, Faults, Calls, Ends, Effect}
use Rattle.typed_machine.specs.Replies.{ReplyView, Allocates, Collects, Reply}
use Rattle.typed_machine.specs.Placing.{Answer, Placed, allocated}
use Rattle.typed_machine.specs.Turns.{Turned, begun, comes_back, TurnOf, Run, next_run, RunOf}
use Rattle.typed_machine.specs.Frames.{Scope, fits_in, Awaits}
use Rattle.typed_machine.specs.Reaching.{names, Held, Roots, rooted, live_in}
use Rattle.typed_machine.specs.Typing.{IsArray, TypedAmong, Typed, scope_of}

-- the store begins with the data arrays, and these live
pub record HasArrays (image : ImageParts) (live : ℕ → Bool) (store : Store) : Type 0 where
  pub stand : (d : ℕ) (row : DataRow) → data_row_in image d ≡ Some row → IsArray store d row
  pub alive : (d : ℕ) (row : DataRow) → data_row_in image d ≡ Some row → live d ≡ true

-- What a formed image tells of its heap, classes, methods, blocks and marks, beside what holds of all types.
pub record ImageLaws (image : ImageParts) : Type 0 where
  pub types : TypeLaws
  -- the heap has at most 2^22 words
  pub heap : heap_fits image.heap_words ≡ true
  pub classes : ClassLaws (shown image).shapes
  -- a method is a function of the image, with the signature that its row says
  pub methods : (c m f : ℕ) → slice_get (Methods (shown image).shapes c) m ≡ Some f
      → (shown image).function_at (fun_row (shown image).shapes f).address ≡ Some (fun_row (shown image).shapes f).sig
  -- at a block an instruction begins
  pub blocks : (address : ℕ) (c : ContextView) → (shown image).block_at address ≡ Some c → is_some (instruction_in image address) ≡ true
  -- what a mark stands for has the mark's type, whatever the number
  pub marks : (pc n : ℕ) (mark : Mark) (live : ℕ → Bool) (store : Store) → (shown image).mark_at pc ≡ Some mark → HasArrays image live store
      → fits_among (shown image) live (shapes_in store) (marked_value n mark) (mark_type (shown image) n mark) ≡ true
  -- and its word is the number that is marked
  pub words : (pc n : ℕ) (x : PlacedInst) (mark : Mark) (live : ℕ → Bool) (store : Store) → instruction_in image pc ≡ Some x → (shown image).mark_at pc ≡ Some mark
      → marked_number x.inst ≡ Some n → HasArrays image live store → Word (places_in store) (marked_value n mark) ≡ n

-- What a call of entry k of the Nucleus finds, which comes back to `next`: EAX and ECX have types that the entry takes, and
-- a reply of the type that it gives then is awaited.
pub record CallTyped (l : Scope) (s : State) (next k : ℕ) : Type 0 where
  pub arguments : Arguments
  pub eax : Ty
  pub ecx : Ty
  pub reply : Ty
  pub entry : slice_get nucleus_arguments k ≡ Some arguments
  pub gives : entry_gives arguments eax ecx ≡ Gives reply
  pub eax_fits : fits_in l (s.thread.regs Eax) eax ≡ true
  pub ecx_fits : fits_in l (s.thread.regs Ecx) ecx ≡ true
  pub awaited : Awaits l reply next s.values

-- An instruction that `next` follows is well typed; where it moves on, the state after it is typed, a call of the Nucleus has
-- its arguments, and a run that ends leaves a number in EAX.
abbrev pub EffectTyped : ImageParts → (ℕ → Bool) → State → ℕ → Option EffectView → Type 0
EffectTyped image live s next None = ⊥
EffectTyped image live s next (Some (Moves t)) = TypedAmong image live t
EffectTyped image live s next (Some (Faults vector)) = Unit {0}
EffectTyped image live s next (Some (Calls k)) = CallTyped (scope_of image live s) s next k
EffectTyped image live s next (Some Ends) = (n : ℕ) × (s.thread.regs Eax ≡ Number n)

-- from a typed state each instruction at its place is well typed and keeps typing, whichever objects live
abbrev pub InstructionsKeepTyping : Type 0
InstructionsKeepTyping =
    (image : ImageParts) → RunsOn image → ImageLaws image → (live : ℕ → Bool) (s : State) → TypedAmong image live s
    → (x : PlacedInst) → instruction_in image s.thread.place ≡ Some x
    → EffectTyped image live s (next_address s.thread.place x.len) (Effect image s x.inst x.len)

-- each formed image tells this
abbrev pub FormedImagesTell : Type 0
FormedImagesTell = (image : ImageParts) → Formed image → ImageLaws image

-- an instruction stands at the place of a typed state, and it is well typed and keeps typing
pub record KeepsTyping (image : ImageParts) (live : ℕ → Bool) (s : State) : Type 0 where
  pub placed : PlacedInst
  pub here : instruction_in image s.thread.place ≡ Some placed
  pub spelled : inst_at image s.thread.place ≡ Some (placed.inst, placed.len)
  pub typed : EffectTyped image live s (next_address s.thread.place placed.len) (Effect image s placed.inst placed.len)

-- so it is in each well typed image
abbrev pub WellTypedImagesKeepTyping : Type 0
WellTypedImagesKeepTyping = (image : ImageParts) → WellTyped image → (live : ℕ → Bool) (s : State) → TypedAmong image live s → KeepsTyping image live s

-- where CMP at the place of a typed state names a word of a display, the word is there
abbrev pub DisplaysAreThere : Type 0
DisplaysAreThere =
    (image : ImageParts) → WellTyped image → (live : ℕ → Bool) (s : State) → TypedAmong image live s → (x : PlacedInst) → instruction_in image s.thread.place ≡ Some x
    → (a : Mem) (y : Operand) → x.inst ≡ inst.Alu alu.Cmp (M a) y → (c d : ℕ) → spot_of (shown image).shapes s a ≡ Some (AtDisplay c d)
    → (w : ℕ) × (spot_word (shown image).shapes s (AtDisplay c d) ≡ Some w)

-- the object that a spot belongs to, if it belongs to one, lives
abbrev pub SpotLives : (ℕ → Bool) → Spot → Type 0
SpotLives live (AtValue i j) = live i ≡ true
SpotLives live (AtLength i) = live i ≡ true
SpotLives live (AtHead i) = live i ≡ true
SpotLives live spot = Unit {0}

-- so it is with what an operand in memory points to
abbrev pub PointsToLiving : ImageParts → (ℕ → Bool) → State → Operand → Type 0
PointsToLiving image live s (M a) = (spot : Spot) → spot_of (shown image).shapes s a ≡ Some spot → SpotLives live spot
PointsToLiving image live s x = Unit {0}

-- and with each operand that an instruction reads or writes
abbrev pub OperandsLive : ImageParts → (ℕ → Bool) → State → Inst → Type 0
OperandsLive image live s (inst.Alu op d x) = PointsToLiving image live s d × PointsToLiving image live s x
OperandsLive image live s (inst.Mov d x) = PointsToLiving image live s d × PointsToLiving image live s x
OperandsLive image live s (inst.Test d x) = PointsToLiving image live s d × PointsToLiving image live s x
OperandsLive image live s (inst.Inc d) = PointsToLiving image live s d
OperandsLive image live s (inst.Dec d) = PointsToLiving image live s d
OperandsLive image live s (inst.Not d) = PointsToLiving image live s d
OperandsLive image live s (inst.Neg d) = PointsToLiving image live s d
OperandsLive image live s (inst.Mul x) = PointsToLiving image live s x
OperandsLive image live s (inst.Imul1 x) = PointsToLiving image live s x
OperandsLive image live s (inst.Div x) = PointsToLiving image live s x
OperandsLive image live s (inst.Idiv x) = PointsToLiving image live s x
OperandsLive image live s (inst.Imul2 d x) = PointsToLiving image live s d × PointsToLiving image live s x
OperandsLive image live s (inst.Imul3 d x n) = PointsToLiving image live s d × PointsToLiving image live s x
OperandsLive image live s (inst.Shift op d by) = PointsToLiving image live s d
OperandsLive image live s (inst.Push x) = PointsToLiving image live s x
OperandsLive image live s (inst.CallAt x) = PointsToLiving image live s x
OperandsLive image live s i = Unit {0}

-- the instruction at the place of a typed state uses objects that live
abbrev pub InstructionsUseLiving : Type 0
InstructionsUseLiving =
    (image : ImageParts) → WellTyped image → (live : ℕ → Bool) (s : State) → TypedAmong image live s → (x : PlacedInst) → instruction_in image s.thread.place ≡ Some x
    → OperandsLive image live s x.inst

-- ---- turns and runs

-- at the place of a state stands an instruction that calls an entry of the Nucleus for an object of the shape
pub record AsksFor (image : ImageParts) (s : State) (shape : ObjectShape) : Type 0 where
  pub entry : ℕ
  pub calls : option_and_then (λ (i : Inst × ℕ). Effect image s i.0 i.1) (inst_at image s.thread.place) ≡ Some (Calls entry)
  pub asks : Reply entry s ≡ Some (Allocates shape)

-- A turn that starts with the instruction or an interrupt of a state leads to a typed state, where the answer that it took was legal
-- if it took one. There is no turn where an allocation has no answer, and only there.
abbrev pub TurnTyped : ImageParts → List Answer → State → Option Turned → Type 0
TurnTyped image answers s None = (answers ≡ []) × (shape : ObjectShape) × AsksFor image s shape
TurnTyped image answers s (Some r) = r.legal ≡ true → Typed image r.state

-- so it is in each well typed image with a turn from a typed state
abbrev pub TurnsKeepTyping : Type 0
TurnsKeepTyping =
    (image : ImageParts) → WellTyped image → (events : List Event) (answers : List Answer) (s : State) → Typed image s
    → TurnTyped image answers (begun events s) (TurnOf image events answers s)

-- A run has come to a typed state, and it goes on unless an allocation has no answer.
pub record RunTyped (image : ImageParts) (events : List Event) (r : Run) : Type 0 where
  pub typed : Typed image r.state
  pub goes_on : next_run image events r ≡ None → (r.left ≡ []) × (shape : ObjectShape) × AsksFor image (begun events r.state) shape

-- so it is with each run of a well typed image whose answers were legal, the run of no turns included
abbrev pub RunsAreTyped : Type 0
RunsAreTyped =
    (image : ImageParts) → WellTyped image → (events : List Event) (n : ℕ) (answers : List Answer) (r : Run) → RunOf image events n answers ≡ Some r → r.legal ≡ true
    → RunTyped image events r

-- ---- the objects that a run can come to

-- A state that is typed among some objects is typed among those that a run can come to, and these are among those.
pub record LivesAmong (image : ImageParts) (live : ℕ → Bool) (s : State) : Type 0 where
  pub typed : TypedAmong image (live_in image s) s
  pub least : (i : ℕ) → live_in image s i ≡ true → live i ≡ true

-- so it is in each well typed image: what is reached is the least set over which a state is typed
abbrev pub LiveObjectsAreLeast : Type 0
LiveObjectsAreLeast = (image : ImageParts) → WellTyped image → (live : ℕ → Bool) (s : State) → TypedAmong image live s → LivesAmong image live s

-- Where an answer that a turn took was legal, what a run can come to afterwards it could come to before, but for the object that
-- the store may have got.
abbrev pub ReachShrinks : Type 0
ReachShrinks =
    (image : ImageParts) → WellTyped image → (events : List Event) (answers : List Answer) (s : State) → Typed image s
    → (r : Turned) → TurnOf image events answers s ≡ Some r → r.legal ≡ true
    → (i : ℕ) → live_in image r.state i ≡ true → (live_in image s i ≡ true) ⊎ ((r.left ≢ answers) × (i ≡ length s.store))

-- a turn leaves each object its shape and place, whether a run can come to it or not
abbrev pub ObjectsStay : Type 0
ObjectsStay =
    (image : ImageParts) (events : List Event) (answers : List Answer) (s : State) (r : Turned) → TurnOf image events answers s ≡ Some r
    → (i : ℕ) (o : Object) → slice_get s.store i ≡ Some o → (p : Object) × (slice_get r.state.store i ≡ Some p) × (p.shape ≡ o.shape) × (p.place ≡ o.place)

-- two objects that a run can come to stand at different places, be they data arrays or in the heap
abbrev pub LivePlacesDiffer : Type 0
LivePlacesDiffer =
    (image : ImageParts) → WellTyped image → (s : State) → Typed image s
    → (i j : ℕ) (o p : Object) → i ≢ j → live_in image s i ≡ true → live_in image s j ≡ true → slice_get s.store i ≡ Some o → slice_get s.store j ≡ Some p
    → o.place ≢ p.place

-- ---- calls of the Nucleus

-- in each well typed image, a call from a typed state that has its arguments has a reply
abbrev pub CallsReply : Type 0
CallsReply =
    (image : ImageParts) → WellTyped image → (live : ℕ → Bool) (s : State) → TypedAmong image live s
    → (next k : ℕ) → CallTyped (scope_of image live s) s next k → (reply : ReplyView) × (Reply k s ≡ Some reply)

-- ---- calls of the heap

-- At the place of a state entry k of the Nucleus is called, the call comes back to `next`, and the entry's row gives this.
pub record CallComesTo (image : ImageParts) (s : State) (next k : ℕ) (reply : ReplyView) : Type 0 where
  pub inst : Inst
  pub len : ℕ
  pub here : inst_at image s.thread.place ≡ Some (inst, len)
  pub calls : Effect image s inst len ≡ Some (Calls k)
  pub follows : next ≡ next_address s.thread.place len
  pub gives : Reply k s ≡ Some reply

-- An object of the shape is asked for, and the call comes back to `next`: there is such a shape, and a reply is awaited of a type that
-- null and each such object has.
pub record AllocationTyped (image : ImageParts) (live : ℕ → Bool) (s : State) (next : ℕ) (shape : ObjectShape) : Type 0 where
  pub is_shape : IsShape (shown image).shapes (shape_in shape)
  pub type : Ty
  pub awaited : Awaits (scope_of image live s) type next s.values
  pub null : (l : Scope) → fits_in l Null type ≡ true
  pub object : (among : ℕ → Bool) (os : List ObjectShape) (i : ℕ) → among i ≡ true → slice_get os i ≡ Some shape → fits_among (shown image) among os (Ref i) type ≡ true

-- what a call of the heap finds, by what it comes to
abbrev pub HeapCallTyped : ImageParts → (ℕ → Bool) → State → ℕ → ReplyView → Type 0
HeapCallTyped image live s next (Allocates shape) = AllocationTyped image live s next shape
HeapCallTyped image live s next Collects = Awaits (scope_of image live s) Num next s.values
HeapCallTyped image live s next reply = Unit {0}

-- so it is in each well typed image
abbrev pub HeapCallsAreTyped : Type 0
HeapCallsAreTyped =
    (image : ImageParts) → WellTyped image → (live : ℕ → Bool) (s : State) → TypedAmong image live s
    → (next k : ℕ) (reply : ReplyView) → CallComesTo image s next k reply → HeapCallTyped image live s next reply

-- where a reply is awaited, the data arrays and what is reached from the roots live
abbrev pub RootedObjectsLive : Type 0
RootedObjectsLive =
    (image : ImageParts) (live : ℕ → Bool) (s : State) → TypedAmong image live s → (t : Ty) (next : ℕ) → Awaits (scope_of image live s) t next s.values
    → (i : ℕ) → rooted image next s i ≡ true → live i ≡ true

-- What the state after a reply holds and reaches: the caller's registers hold the reply alone.
pub record HeldAfterReply (image : ImageParts) (s : State) (next : ℕ) : Type 0 where
  pub held : (reply : Value) (i : ℕ) → names (Held image (comes_back reply next s)) i ≡ true → (reply ≡ Ref i) ⊎ (names (Roots image next s) i ≡ true)
  -- a number or null reaches nothing more
  pub reached : (reply : Value) → ((k : ℕ) → reply ≢ Ref k) → (i : ℕ) → live_in image (comes_back reply next s) i ≡ true → rooted image next s i ≡ true
  -- a fresh object reaches nothing but itself
  pub placed : (shape : ObjectShape) (a i : ℕ) → live_in image (comes_back (Ref (length s.store)) next (allocated (shown image).shapes shape (Placed a) s)) i ≡ true
      → (rooted image next s i ≡ true) ⊎ (i ≡ length s.store)

-- so it is from each typed state
abbrev pub RepliesHold : Type 0
RepliesHold = (image : ImageParts) (s : State) → Typed image s → (next : ℕ) → HeldAfterReply image s next
