-- Going over code: what is left of it.
use Rattle.std.specs.List.{All}
use Rattle.std.proofs.Common.{◌≡◌, ℕ, ◌+◌, ◌<◌, ◌≤◌, ◌++◌, None, List, [], ◌∷◌, length, drop, refl, sym, ap, subst, ◌∙◌, append_assoc, arith}
use Rattle.std.proofs.lemmas.List.{append-nil}
use Rattle.std.proofs.lemmas.List.Elements.{All-push, All-weaker}
use Rattle.ia32_code.specs.declared.instruction.Inst.{Inst}
use Rattle.ia32_code.specs.declared.decoding.Decoded.TheVariants.{One}
use Rattle.ia32_code.specs.Decoding.{decoded, instruction_of}
use Rattle.tal_types.specs.Contexts.{ContextView, Dead}
use Rattle.tal_types.specs.Shown.{ShownImage}
use Rattle.tal_types.specs.declared.signatures.FrameRow.{FrameRow}
use Rattle.tal_flow.specs.Rules.{NoRuleFails, LeastRule, Falls}
use Rattle.tal_flow.specs.Strongest.{PlacedInst, NoRuleAt, LeastRuleAt, falls_from, start, contexts, NoneFails}
use Rattle.object_layout.specs.Areas.{code_start}
use Rattle.frame_tables.specs.FrameRows.{RowAt}
use Rattle.tal_checker.specs.Instructions.{placed_from, instructions}
use Rattle.tal_checker.specs.Frames.{row_in, frame_rows}
use Rattle.tal_checker.specs.Passing.{RefusedIn, Passed}
use Rattle.tal_checker.proofs.PlacedLists.{Ordered}
use Rattle.tal_checker.proofs.CodeInstructions.{placed-step, placed-end, placed-ordered}
use Rattle.tal_checker.proofs.FirstRefusals.{refused_first, refused_later}

-- what is left of the code: these bytes from this address on, to which c falls; so far there are these rows
pub record Left (v : ShownImage) (code : List ℕ) (pc : ℕ) (bytes : List ℕ) (c : ContextView) (rows : List RowAt) : Type 0 where
  pub accepts : NoneFails v (placed_from 0 pc bytes) (contexts v (placed_from 0 pc bytes) c) → NoneFails v (instructions code) (contexts v (instructions code) Dead)
  pub refuses : (x rule : ℕ) → RefusedIn v (placed_from 0 pc bytes) c x rule → RefusedIn v (instructions code) Dead x rule
  pub kept : rows ++ frame_rows (placed_from 0 pc bytes) (contexts v (placed_from 0 pc bytes) c) ≡ frame_rows (instructions code) (contexts v (instructions code) Dead)

-- at first all of the code is left
pub all_left : (v : ShownImage) (code : List ℕ) → Left v code code_start code Dead []
unfolding instructions
all_left v code = record { accepts = λ n. n; refuses = λ x rule r. r; kept = refl }

-- no instruction is left
pub none_left : (v : ShownImage) (code : List ℕ) (pc : ℕ) (bytes : List ℕ) (c : ContextView) (rows : List RowAt) → Left v code pc bytes c rows → instruction_of (decoded bytes) ≡ None
    → Passed v code rows
none_left v code pc bytes c rows l e =
    let end = placed-end pc bytes e in
    record {
      none_fails = l.accepts (subst (λ (t : List PlacedInst). NoneFails v t (contexts v t c)) (sym end) tt);
      rows = sym (append-nil rows) ∙ ap (λ (t : List PlacedInst). rows ++ frame_rows t (contexts v t c)) (sym end) ∙ l.kept;
    }

-- the rows in front of those of the instruction at the front are below it
pub rows-below : (rows : List RowAt) (pc n : ℕ) (row : FrameRow) → 0 < n → All (λ (r : RowAt). r.pc < pc) rows
    → All (λ (r : RowAt). r.pc < pc + n) (rows ++ record { pc = pc; row = row } ∷ [])
rows-below rows pc n row some h =
    All-push (λ (r : RowAt). r.pc < pc + n) rows (record { pc = pc; row = row }) (All-weaker (λ (r : RowAt). r.pc < pc) (λ (r : RowAt). r.pc < pc + n) (λ r l. omega arith) rows h) (omega arith)

module _ (v : ShownImage) (code : List ℕ) (pc : ℕ) (bytes : List ℕ) (c : ContextView) (rows : List RowAt) (i : Inst) (n : ℕ) (here : ContextView) (l : Left v code pc bytes c rows) (e : decoded bytes ≡ One i n) (some : 0 < n) (fits : n ≤ length bytes) (stands : here ≡ start v pc c) where
  -- the instruction at the front, and those after it
  abbrev step : placed_from 0 pc bytes ≡ record { pc = pc; inst = i; len = n } ∷ placed_from 0 (pc + n) (drop n bytes)
  step = placed-step pc bytes i n e some fits

  abbrev ordered : Ordered (record { pc = pc; inst = i; len = n } ∷ placed_from 0 (pc + n) (drop n bytes))
  ordered = subst Ordered step (placed-ordered bytes 0 pc)

  -- a rule fails at the instruction at the front
  pub left_refused : (rule : ℕ) → LeastRule v here pc i n rule → RefusedIn v (instructions code) Dead pc rule
  left_refused rule fails =
      let x : PlacedInst = record { pc = pc; inst = i; len = n } in
      let f : LeastRuleAt v (start v pc c) x rule = subst (λ (d : ContextView). LeastRuleAt v d x rule) stands fails in
      l.refuses pc rule (subst (λ (t : List PlacedInst). RefusedIn v t c pc rule) (sym step) (refused_first v x (placed_from 0 (pc + n) (drop n bytes)) c rule ordered f))

  -- the instruction at the front passes
  pub left_after : (next : ContextView) (row : FrameRow) → NoRuleFails v here pc i n → next ≡ Falls v here pc i n → row ≡ row_in here
      → Left v code (pc + n) (drop n bytes) next (rows ++ record { pc = pc; row = row } ∷ [])
  left_after next row passes falls is =
      let x : PlacedInst = record { pc = pc; inst = i; len = n } in
      let xs = placed_from 0 (pc + n) (drop n bytes) in
      let p : NoRuleAt v (start v pc c) x = subst (λ (d : ContextView). NoRuleAt v d x) stands passes in
      let f : next ≡ falls_from v (start v pc c) x = falls ∙ ap (λ (d : ContextView). falls_from v d x) stands in
      let r : row ≡ row_in (start v pc c) = is ∙ ap row_in stands in
      subst (λ (d : ContextView). Left v code (pc + n) (drop n bytes) d (rows ++ record { pc = pc; row = row } ∷ [])) (sym f)
      (subst (λ (q : FrameRow). Left v code (pc + n) (drop n bytes) (falls_from v (start v pc c) x) (rows ++ record { pc = pc; row = q } ∷ [])) (sym r)
      (record {
        accepts = λ none. l.accepts (subst (λ (t : List PlacedInst). NoneFails v t (contexts v t c)) (sym step) (p, none));
        refuses = λ y rule q. l.refuses y rule (subst (λ (t : List PlacedInst). RefusedIn v t c y rule) (sym step) (refused_later v x xs c y rule ordered p q));
        kept =
            append_assoc rows (record { pc = pc; row = row_in (start v pc c) } ∷ []) (frame_rows xs (contexts v xs (falls_from v (start v pc c) x)))
            ∙ ap (λ (t : List PlacedInst). rows ++ frame_rows t (contexts v t c)) (sym step) ∙ l.kept;
      }))
