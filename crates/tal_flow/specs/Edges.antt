-- Conditions, what a branch tells of what is known (refinement), and where runs go.
use Rattle.std.specs.Prelude.{ℕ, Bool, true, false, ◌&&◌, ◌||◌, Option, Some, None, if◌then◌else◌}
use Rattle.ia32_code.specs.declared.instruction.Reg.{Reg}
use Rattle.ia32_code.specs.declared.instruction.Cond.{Cond}
use Rattle.ia32_code.specs.declared.instruction.Cond.TheVariants as condition
use Rattle.object_layout.specs.Classes.{ShapesView}
use Rattle.tal_types.specs.declared.types.Ty.{Ty}
use Rattle.tal_types.specs.declared.types.Ty.TheVariants.{Ref, Obj, ArrRef, Arr, Fun, Code}
use Rattle.tal_types.specs.declared.types.FlagKind.{FlagKind}
use Rattle.tal_types.specs.declared.types.FlagKind.TheVariants as kind
use Rattle.tal_types.specs.Types.{within}
use Rattle.tal_types.specs.Contexts.{LiveContext, ContextView, Dead, Live, same}
use Rattle.tal_types.specs.Shown.{ShownImage}
use Rattle.tal_flow.specs.declared.forms.Form.{Form}
use Rattle.tal_flow.specs.declared.forms.Form.TheVariants.{Refused, Return, Jump, Branch}
use Rattle.tal_flow.specs.declared.edges.Told.{Told}
use Rattle.tal_flow.specs.declared.edges.Told.TheVariants.{Equal, Unequal, Below, Nothing}
use Rattle.tal_flow.specs.Afterwards.{after_form}

-- rule 15: the conditions that a flag kind allows: all after numbers were compared, else E and NE
unfoldable pub allows : FlagKind → Cond → Bool
allows kind.Lost k = false
allows kind.Num k = true
allows (kind.Bound i a) k = true
allows _ condition.E = true
allows _ condition.Ne = true
allows _ k = false

-- what the branch tells
abbrev pub told_by_branch : Cond → Told
told_by_branch condition.E = Equal
told_by_branch condition.Ne = Unequal
told_by_branch condition.B = Below
told_by_branch _ = Nothing

-- what the fall tells
abbrev pub told_by_fall : Cond → Told
told_by_fall condition.E = Unequal
told_by_fall condition.Ne = Equal
told_by_fall condition.Ae = Below
told_by_fall _ = Nothing

-- the type of a reference that is not null
unfoldable pub not_null : Ty → Ty
not_null (Ref c) = Obj c
not_null (ArrRef k) = Arr k
not_null (Fun g) = Code g
not_null t = t

-- register r holds what it held, of which more is known
unfoldable pub refine_reg : Reg → Ty → LiveContext → LiveContext
refine_reg r t c = record c { regs = λ q. (if same q r then t else c.regs q) }

-- register i is below the length of the array in register a, too
unfoldable pub add_pair : Reg → Reg → LiveContext → LiveContext
add_pair i a c = record c { pairs = λ j b. (same j i && same b a) || c.pairs j b }

-- the object of class k or below in register r is of class d or below: the lower of the two, and no run
-- comes there where neither is below the other
abbrev pub meet_class : ShapesView → LiveContext → Reg → ℕ → ℕ → ContextView
meet_class s c r k d = if within s k d then Live (refine_reg r (Obj k) c) else if within s d k then Live (refine_reg r (Obj d) c) else Dead

-- the same where register r has the type; other types tell nothing
unfoldable pub meet : ShapesView → LiveContext → Reg → Ty → ℕ → ContextView
meet s c r (Obj k) d = meet_class s c r k d
meet s c r (Ref k) d = meet_class s c r k d
meet s c r t d = Live c

-- what is known on a way that tells more, by the flag kind
unfoldable pub refine : ShapesView → LiveContext → FlagKind → Told → ContextView
refine s c (kind.NullTest r) Unequal = Live (refine_reg r (not_null (c.regs r)) c)
refine s c (kind.Bound i a) Below = Live (add_pair i a c)
refine s c (kind.IsA r d) Equal = meet s c r (c.regs r) d
refine s c _ _ = Live c

-- what is known where an instruction falls through
unfoldable pub falling : ShownImage → LiveContext → ℕ → Form → ContextView
falling v c pc Return = Dead
falling v c pc (Jump address) = Dead
falling v c pc (Branch condition address) = refine v.shapes c c.kind (told_by_fall condition)
falling v c pc form = Live (after_form v c pc form)

-- what is known where a jump or a branch goes
unfoldable pub branching : ShownImage → LiveContext → Form → ContextView
branching v c (Jump address) = Live c
branching v c (Branch condition address) = refine v.shapes c c.kind (told_by_branch condition)
branching v c form = Dead

-- where a jump or a branch goes
unfoldable pub target_of : Form → Option ℕ
target_of (Jump address) = Some address
target_of (Branch condition address) = Some address
target_of form = None

-- the same in every context; no run goes on from a dead one
unfoldable pub falls_to : ShownImage → ContextView → ℕ → Form → ContextView
falls_to v Dead pc form = Dead
falls_to v (Live c) pc form = falling v c pc form

-- the same for a jump or a branch
unfoldable pub branches_to : ShownImage → ContextView → Form → ContextView
branches_to v Dead form = Dead
branches_to v (Live c) form = branching v c form

-- rule 1 fails at it in every context
abbrev pub is_refused : Form → Bool
is_refused Refused = true
is_refused form = false
