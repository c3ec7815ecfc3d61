-- What is held and what the roots are, in a state; and which objects are reached from values.
use Rattle.std.specs.Prelude.{ℕ, zero, suc, ◌+◌, ◌==◌, nat_lt, Bool, true, false, ◌||◌, List, [], ◌∷◌, ◌++◌, length, map, take, slice_index_or, if◌then◌else◌}
use Rattle.std.specs.List.{flat_map}
use Rattle.std.specs.Option.{option_map_or}
use Rattle.ia32_code.specs.declared.instruction.Reg.{Reg}
use Rattle.ia32_code.specs.declared.instruction.Reg.TheVariants.{Eax, Ecx, Edx, Ebx, Ebp, Esi, Edi}
use Rattle.object_layout.specs.declared.rows.FieldTy.{FieldTy}
use Rattle.object_layout.specs.Classes.{ShapesView, is_reference}
use Rattle.tal_types.specs.declared.types.Ty.{Ty}
use Rattle.tal_types.specs.Contexts.{ContextView, Dead, Live}
use Rattle.tal_image.specs.Image.{ImageParts}
use Rattle.tal_image.specs.Shown.{shown}
use Rattle.tal_checker.specs.Frames.{may_refer}
use Rattle.tal_checker.specs.WellTyped.{strongest_at}
use Rattle.typed_machine.specs.Values.{Value, Ref, Ret, ObjectShape}
use Rattle.typed_machine.specs.Stores.{Object, Store, value_type}
use Rattle.typed_machine.specs.States.{State, Thread, Stack, EmptyStack, RunningStack, YieldedStack, InterruptedStack}

-- ---- which objects are reached

-- a value of the list refers to object i
abbrev pub names : List Value → ℕ → Bool
names [] i = false
names (Ref j ∷ values) i = (j == i) || names values i
names (value ∷ values) i = names values i

-- the values from number j on of an object's reference fields or elements
abbrev pub references_from : ShapesView → ObjectShape → ℕ → List Value → List Value
references_from s shape j [] = []
references_from s shape j (value ∷ values) =
    if option_map_or is_reference (value_type s shape j) false then value ∷ references_from s shape (j + 1) values
    else references_from s shape (j + 1) values

-- all of them
abbrev pub references_of : ShapesView → Object → List Value
references_of s o = references_from s o.shape 0 o.values

-- those of the objects that are marked
abbrev pub references_in : ShapesView → List Bool → Store → List Value
references_in s [] store = []
references_in s (mark ∷ marks) [] = []
references_in s (true ∷ marks) (o ∷ store) = references_of s o ++ references_in s marks store
references_in s (false ∷ marks) (o ∷ store) = references_in s marks store

-- a mark for each of the n objects from number i on: a value of the list refers to it
abbrev pub marks_of : List Value → ℕ → ℕ → List Bool
marks_of values i zero = []
marks_of values i (suc n) = names values i ∷ marks_of values (i + 1) n

-- marks after so many rounds: at first of what the values refer to; a round marks what marked objects refer to, too
abbrev pub marked : ShapesView → Store → List Value → ℕ → List Bool
marked s store values zero = marks_of values 0 (length store)
marked s store values (suc n) = marks_of (values ++ references_in s (marked s store values n) store) 0 (length store)

-- Object i is reached from the values. Each round but the last marks an object more, so that as many rounds as objects are enough.
unfoldable pub Reach : ShapesView → Store → List Value → ℕ → Bool
Reach s store values i = slice_index_or (marked s store values (length store)) i false

-- ---- what a state holds, and its roots

-- the values whose types are of references
abbrev pub referring : List Ty → List Value → List Value
referring [] values = []
referring (t ∷ types) [] = []
referring (t ∷ types) (value ∷ values) = if may_refer t then value ∷ referring types values else referring types values

-- the types of the slots where the context is live
abbrev pub slots_of : ContextView → List Ty
slots_of Dead = []
slots_of (Live c) = c.slots

-- the types of the frame's slots at a place
abbrev pub slots_at : ImageParts → ℕ → List Ty
slots_at image place = slots_of (strongest_at image place)

-- The references in the frames of a stack, of which the top one has slots of these types. Behind a frame's slots stands the
-- place at which the next frame goes on; the end word comes last.
abbrev pub frame_references : ImageParts → List Ty → List Value → List Value
frame_references image types [] = []
frame_references image types (Ret zero ∷ values) = []
frame_references image types (Ret (suc a) ∷ values) = frame_references image (slots_at image (suc a)) values
frame_references image [] (value ∷ values) = frame_references image [] values
frame_references image (t ∷ types) (value ∷ values) =
    if may_refer t then value ∷ frame_references image types values else frame_references image types values

-- the registers but ESP, which holds no value
abbrev pub value_registers : List Reg
value_registers = Eax ∷ Ecx ∷ Edx ∷ Ebx ∷ Ebp ∷ Esi ∷ Edi ∷ []

-- the references in a thread's registers, by the context of its place
abbrev pub register_references : ContextView → Thread → List Value
register_references Dead t = []
register_references (Live c) t = referring (map c.regs value_registers) (map t.regs value_registers)

-- the references of a thread with its stack's values: in its registers, and in its frames
abbrev pub thread_references : ImageParts → Thread → List Value → List Value
thread_references image t values =
    register_references (strongest_at image t.place) t ++ frame_references image (slots_at image t.place) values

-- those of a stack that does not run
abbrev pub stack_references : ImageParts → Stack → List Value
stack_references image EmptyStack = []
stack_references image RunningStack = []
stack_references image (YieldedStack place values) = frame_references image (slots_at image place) values
stack_references image (InterruptedStack thread values) = thread_references image thread values

-- the references in statics
abbrev pub static_references : List FieldTy → List Value → List Value
static_references [] values = []
static_references (t ∷ types) [] = []
static_references (t ∷ types) (value ∷ values) =
    if is_reference t then value ∷ static_references types values else static_references types values

-- the references in statics, and in the elements of data arrays
abbrev pub data_references : ImageParts → State → List Value
data_references image s =
    static_references image.statics s.statics ++ flat_map (references_of (shown image).shapes) (take (length image.arrays) s.store)

-- the references of the stacks that do not run
abbrev pub waiting_references : ImageParts → State → List Value
waiting_references image s = flat_map (stack_references image) s.stacks

-- All references that a state holds.
unfoldable pub Held : ImageParts → State → List Value
Held image s = data_references image s ++ thread_references image s.thread s.values ++ waiting_references image s

-- The roots of a state at a call of the Nucleus that comes back to `next`: what it holds without the running registers, and with
-- the running frames as they are after the call.
unfoldable pub Roots : ImageParts → ℕ → State → List Value
Roots image next s = data_references image s ++ frame_references image (slots_at image next) s.values ++ waiting_references image s

-- The data arrays, and what is reached from the roots at such a call.
unfoldable pub rooted : ImageParts → ℕ → State → ℕ → Bool
rooted image next s i = nat_lt i (length image.arrays) || Reach (shown image).shapes s.store (Roots image next s) i

-- The objects that a run can come to: the data arrays, and what is reached from what the state holds.
unfoldable pub live_in : ImageParts → State → ℕ → Bool
live_in image s i = nat_lt i (length image.arrays) || Reach (shown image).shapes s.store (Held image s) i
