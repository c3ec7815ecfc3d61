-- What going over code finds, by what typing sees of an image.
use Rattle.std.specs.Prelude.{◌≡◌, ℕ, ◌<◌, List, Some}
use Rattle.tal_types.specs.Contexts.{ContextView, Dead}
use Rattle.tal_types.specs.Shown.{ShownImage}
use Rattle.tal_flow.specs.Strongest.{PlacedInst, NoRuleAt, LeastRuleAt, contexts, at_in, NoneFails, placed_at}
use Rattle.frame_tables.specs.FrameRows.{RowAt}
use Rattle.tal_checker.specs.declared.answer.CheckAnswer.{CheckAnswer}
use Rattle.tal_checker.specs.declared.answer.CheckAnswer.TheVariants.{Refused, NoMemory}
use Rattle.tal_checker.specs.Instructions.{instructions}
use Rattle.tal_checker.specs.Frames.{frame_rows}

-- the least address among these instructions where a rule fails, and the least rule there, where c falls to the first
pub record RefusedIn (v : ShownImage) (xs : List PlacedInst) (c : ContextView) (address rule : ℕ) : Type 0 where
  pub placed : PlacedInst
  pub here : placed_at xs address ≡ Some placed
  pub fails : LeastRuleAt v (at_in v xs c address) placed rule
  pub earlier : (before : ℕ) (other : PlacedInst) → before < address → placed_at xs before ≡ Some other → NoRuleAt v (at_in v xs c before) other

-- no rule fails in the code, and these are the rows of its frames
pub record Passed (v : ShownImage) (code : List ℕ) (frames : List RowAt) : Type 0 where
  pub none_fails : NoneFails v (instructions code) (contexts v (instructions code) Dead)
  pub rows : frames ≡ frame_rows (instructions code) (contexts v (instructions code) Dead)

-- what an answer says of the code that was gone over
abbrev pub RefusesCode : ShownImage → List ℕ → CheckAnswer → Type 0
RefusesCode v code (Refused address rule) = RefusedIn v (instructions code) Dead address rule
RefusesCode v code NoMemory = Unit {0}
