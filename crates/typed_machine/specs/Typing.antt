-- Typed states: what typing knows of a state before its next turn.
use Rattle.std.specs.Prelude.{◌≡◌, ◌≢◌, ◌≤◌, ◌<◌, ◌⊎◌, ◌+◌, ◌*◌, ◌%◌, ◌^◌, ℕ, zero, suc, Bool, true, false, nat_lt, List, length, Option, Some, slice_get}
use Rattle.ia32_code.specs.declared.instruction.Reg.{Reg}
use Rattle.ia32_code.specs.declared.instruction.Cond.{Cond}
use Rattle.object_layout.specs.declared.rows.FieldTy.{FieldTy}
use Rattle.object_layout.specs.Areas.{heap_start}
use Rattle.object_layout.specs.Classes.{ShapesView, IsShape, Below}
use Rattle.tal_types.specs.declared.types.FlagKind.{FlagKind}
use Rattle.tal_types.specs.declared.types.FlagKind.TheVariants as kind
use Rattle.tal_types.specs.declared.types.Ty.TheVariants.{Num}
use Rattle.tal_types.specs.declared.signatures.Sig.{Sig}
use Rattle.tal_types.specs.Types.{of_field}
use Rattle.tal_types.specs.Contexts.{LiveContext, Live}
use Rattle.tal_flow.specs.Edges.{allows}
use Rattle.tal_image.specs.declared.parts.DataRow.{DataRow}
use Rattle.tal_image.specs.Image.{ImageParts}
use Rattle.tal_image.specs.Shown.{shown, data_row_in}
use Rattle.tal_checker.specs.WellTyped.{strongest_at}
use Rattle.tal_checker.specs.Running.{signature_at}
use Rattle.typed_machine.specs.Values.{Value, Number, Null, Ref, Tab, ObjectShape, InstanceOf, ArrayOf, all_objects}
use Rattle.typed_machine.specs.Stores.{Object, Store, shapes_in, shape_in, need, value_type, value_count}
use Rattle.typed_machine.specs.States.{State, Thread, Stack, EmptyStack, RunningStack, YieldedStack, InterruptedStack, most_values}
use Rattle.typed_machine.specs.Effects.{is_known}
use Rattle.typed_machine.specs.Reaching.{live_in}
use Rattle.typed_machine.specs.Placing.{block_of}
use Rattle.typed_machine.specs.Frames.{Scope, fits_in, FramesFit, Awaits}

-- ---- what is known of flags and registers

-- the value is null
abbrev pub is_null : Value → Bool
is_null Null = true
is_null w = false

-- w is an array, and the flag says whether the number v is below its length
pub record BoundTold (shapes : List ObjectShape) (v w : Value) (flag : Bool) : Type 0 where
  pub number : ℕ
  pub array : ℕ
  pub kind : ℕ
  pub size : ℕ
  pub is_number : v ≡ Number number
  pub is_array : w ≡ Ref array
  pub is_long : slice_get shapes array ≡ Some (ArrayOf kind size)
  pub tells : flag ≡ nat_lt number size

-- w is an object, and the flag says whether its class is below d
pub record ClassTold (s : ShapesView) (shapes : List ObjectShape) (w : Value) (d : ℕ) (flag : Bool) : Type 0 where
  pub object : ℕ
  pub class : ℕ
  pub is_object : w ≡ Ref object
  pub is_of : slice_get shapes object ≡ Some (InstanceOf class)
  pub tells : flag ≡ Below s class d

-- what a flag kind tells of the flags
abbrev pub KindTold : Scope → Thread → FlagKind → Type 0
KindTold l t (kind.NullTest r) = t.flags.zero ≡ is_null (t.regs r)
KindTold l t (kind.Bound i a) = BoundTold l.shapes (t.regs i) (t.regs a) t.flags.carry
KindTold l t (kind.IsA r d) = ClassTold (shown l.image).shapes l.shapes (t.regs r) d t.flags.zero
KindTold l t k = Unit {0}

-- the number is below the array's length
pub record IsPair (shapes : List ObjectShape) (v w : Value) : Type 0 where
  pub told : BoundTold shapes v w true

-- the table is that of the object's class
pub record IsHead (shapes : List ObjectShape) (v w : Value) : Type 0 where
  pub class : ℕ
  pub object : ℕ
  pub is_table : v ≡ Tab class
  pub is_object : w ≡ Ref object
  pub is_of : slice_get shapes object ≡ Some (InstanceOf class)

-- ---- a thread

-- The strongest context at the thread's place is live. The registers have its types, its pairs and heads are true, the
-- conditions that its flag kind allows are known and what the kind tells is so; and the frames fit, of which the top one has
-- its slots.
pub record ThreadFits (l : Scope) (t : Thread) (values : List Value) : Type 0 where
  pub context : LiveContext
  pub sig : Sig
  pub here : strongest_at l.image t.place ≡ Live context
  pub function : signature_at l.image t.place ≡ Some sig
  pub regs : (r : Reg) → fits_in l (t.regs r) (context.regs r) ≡ true
  pub pairs : (i a : Reg) → context.pairs i a ≡ true → IsPair l.shapes (t.regs i) (t.regs a)
  pub heads : (h r : Reg) → context.heads h r ≡ true → IsHead l.shapes (t.regs h) (t.regs r)
  pub conditions : (c : Cond) → allows context.kind c ≡ true → is_known t.known c ≡ true
  pub told : KindTold l t context.kind
  pub frames : FramesFit l sig.result context.slots values
  pub room : length values ≤ most_values

-- a stack of the table
abbrev pub StackFits : Scope → Stack → Type 0
StackFits l EmptyStack = Unit {0}
StackFits l RunningStack = Unit {0}
StackFits l (YieldedStack place values) = Awaits l Num place values
StackFits l (InterruptedStack thread values) = ThreadFits l thread values

-- ---- data

-- there are as many statics as the image has, and each fits its type
pub record StaticsFit (l : Scope) (statics : List Value) : Type 0 where
  pub count : length statics ≡ length l.image.statics
  pub fit : (j : ℕ) (t : FieldTy) (w : Value) → slice_get l.image.statics j ≡ Some t → slice_get statics j ≡ Some w → fits_in l w (of_field t) ≡ true

-- the object is data array d
pub record IsArray (store : Store) (d : ℕ) (row : DataRow) : Type 0 where
  pub object : Object
  pub here : slice_get store d ≡ Some object
  pub shape : object.shape ≡ ArrayOf row.kind row.length
  pub place : object.place ≡ row.place

-- The store begins with the data arrays. Each object is of a class or kind of the image, has as many values as that tells, and
-- stands at a place that is a word and not 0. The values of those that live fit their types.
pub record StoreFits (l : Scope) (store : Store) : Type 0 where
  pub shapes : l.shapes ≡ shapes_in store
  pub arrays : (d : ℕ) (row : DataRow) → data_row_in l.image d ≡ Some row → IsArray store d row
  pub arrays_live : (d : ℕ) (row : DataRow) → data_row_in l.image d ≡ Some row → l.live d ≡ true
  pub there : (i : ℕ) (o : Object) → slice_get store i ≡ Some o → IsShape (shown l.image).shapes (shape_in o.shape)
  pub counts : (i : ℕ) (o : Object) → slice_get store i ≡ Some o → length o.values ≡ value_count (shown l.image).shapes o.shape
  pub placed : (i : ℕ) (o : Object) → slice_get store i ≡ Some o → (0 < o.place) × (o.place < 2 ^ 32)
  pub fit : (i j : ℕ) (o : Object) (t : FieldTy) (w : Value) → l.live i ≡ true → slice_get store i ≡ Some o
      → value_type (shown l.image).shapes o.shape j ≡ Some t → slice_get o.values j ≡ Some w → fits_in l w (of_field t) ≡ true

-- ---- a state

-- where another stack runs, stack 0 is yielded
abbrev pub KernelWaits : ℕ → Option Stack → Type 0
KernelWaits zero stack = Unit {0}
KernelWaits (suc n) (Some (YieldedStack place values)) = Unit {0}
KernelWaits (suc n) stack = ⊥

-- the shapes of a state's store, and the objects that live
abbrev pub scope_of : ImageParts → (ℕ → Bool) → State → Scope
scope_of image live s = record { image = image; live = live; shapes = shapes_in s.store }

-- The running thread fits, and every stack of the table; exactly one runs, and stack 0 is never interrupted; there are as
-- many as the image has. Statics and store fit.
pub record TypedAmong (image : ImageParts) (live : ℕ → Bool) (s : State) : Type 0 where
  pub thread : ThreadFits (scope_of image live s) s.thread s.values
  pub others : (n : ℕ) (stack : Stack) → slice_get s.stacks n ≡ Some stack → StackFits (scope_of image live s) stack
  pub one : slice_get s.stacks s.current ≡ Some RunningStack
  pub only : (n : ℕ) → slice_get s.stacks n ≡ Some RunningStack → n ≡ s.current
  pub kernel : KernelWaits s.current (slice_get s.stacks 0)
  pub count : length s.stacks ≡ image.stacks
  pub statics : StaticsFit (scope_of image live s) s.statics
  pub store : StoreFits (scope_of image live s) s.store

-- ---- the heap

-- the object's block lies in the heap at a multiple of 4 words; its place is 8 bytes above the block
pub record LiesInHeap (image : ImageParts) (o : Object) : Type 0 where
  pub first : ℕ
  pub place : o.place ≡ heap_start + 4 * first + 8
  pub aligned : first % 4 ≡ 0
  pub ends : first + need (shown image).shapes o.shape ≤ image.heap_words

-- one block ends before the other begins
abbrev pub BlocksApart : ImageParts → Object → Object → Type 0
BlocksApart image o p =
    (block_of o.place + need (shown image).shapes o.shape ≤ block_of p.place) ⊎ (block_of p.place + need (shown image).shapes p.shape ≤ block_of o.place)

-- object i is one of the heap, which are those behind the data arrays, and it lives
pub record LiveInHeap (image : ImageParts) (live : ℕ → Bool) (store : Store) (i : ℕ) (o : Object) : Type 0 where
  pub behind : length image.arrays ≤ i
  pub lives : live i ≡ true
  pub here : slice_get store i ≡ Some o

-- the blocks of those that live lie in the heap and do not overlap
pub record BlocksLie (image : ImageParts) (live : ℕ → Bool) (store : Store) : Type 0 where
  pub lie : (i : ℕ) (o : Object) → LiveInHeap image live store i o → LiesInHeap image o
  pub apart : (i j : ℕ) (o p : Object) → i ≢ j → LiveInHeap image live store i o → LiveInHeap image live store j p → BlocksApart image o p

-- A typed state: it is typed whichever objects live, and the blocks of those that a run can come to lie in the heap, apart.
pub record Typed (image : ImageParts) (s : State) : Type 0 where
  pub among : TypedAmong image all_objects s
  pub heap : BlocksLie image (live_in image s) s.store
