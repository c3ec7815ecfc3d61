use Rattle.std.specs.Prelude.{if◌then◌else◌, ◌==◌}
use Rattle.std.specs.Option.{option_map}
use Rattle.std.proofs.Common.{◌≡◌, ℕ, Bool, true, false, Some, List, [], ◌∷◌, refl}
use Rattle.tal_types.specs.Contexts.{ContextView, Dead}
use Rattle.tal_types.specs.Shown.{ShownImage}
use Rattle.tal_flow.specs.Strongest.{PlacedInst, falls_from, start, contexts, at_in, At, placed_at}
use Rattle.frame_tables.specs.FrameRows.{frame_row_at}
use Rattle.tal_image.specs.Shown.{shown}
use Rattle.tal_checker.specs.Frames.{row_in, frame_rows, frames_of}
use Rattle.tal_checker.specs.Instructions.{instructions}
use Rattle.tal_checker.specs.WellTyped.{strongest, strongest_at}
use Rattle.tal_checker.proofs.laws.rows_by_address.Goals as goal

-- the row of an instruction in a list
rows-at : (v : ShownImage) (xs : List PlacedInst) (c : ContextView) (pc : ℕ) → frame_row_at (frame_rows xs (contexts v xs c)) pc ≡ option_map (λ (x : PlacedInst). row_in (at_in v xs c pc)) (placed_at xs pc)
unfolding placed_at at_in
rows-at v [] c pc = refl
rows-at v (x ∷ xs) c pc = go (x.pc == pc) (rows-at v xs (falls_from v (start v x.pc c) x) pc)
  where
    go : (b : Bool) → frame_row_at (frame_rows xs (contexts v xs (falls_from v (start v x.pc c) x))) pc ≡ option_map (λ (y : PlacedInst). row_in (at_in v xs (falls_from v (start v x.pc c) x) pc)) (placed_at xs pc)
        → (if b then Some (row_in (start v x.pc c)) else frame_row_at (frame_rows xs (contexts v xs (falls_from v (start v x.pc c) x))) pc)
        ≡ option_map (λ (y : PlacedInst). row_in (if b then start v x.pc c else at_in v xs (falls_from v (start v x.pc c) x) pc)) (if b then Some x else placed_at xs pc)
    go true h = refl
    go false h = h

pub returns : goal.returns
unfolding frames_of strongest strongest_at At
returns c = λ image pc. rows-at (shown image) (instructions image.code) Dead pc
