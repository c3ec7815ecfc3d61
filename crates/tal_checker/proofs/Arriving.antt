-- Where runs of an accepted image arrive.
use Rattle.std.specs.Prelude.{◌||◌, slice_get, IsSome}
use Rattle.std.specs.Option.{option_and_then}
use Rattle.std.proofs.Common.{◌≡◌, ℕ, ◌+◌, ◌<◌, ◌^◌, Bool, true, Option, Some, None, List, [], length, refl, sym, ap, subst, ◌∙◌, arith}
use Rattle.std.proofs.lemmas.Option.{slice_get-get_or}
use Rattle.ia32_code.specs.Decoding.{FrontLaw}
use Rattle.object_layout.specs.Classes.{ShapesView}
use Rattle.tal_types.specs.Contexts.{LiveContext, ContextView, Dead, Live, ContextBelow, context_below, entry}
use Rattle.tal_types.specs.Shown.{ShownImage}
use Rattle.tal_types.specs.declared.signatures.Sig.{Sig}
use Rattle.tal_types.specs.declared.types.Ty.TheVariants.{Junk}
use Rattle.tal_types.specs.declared.views.Span.{Span}
use Rattle.tal_flow.specs.Edges.{branching, falls_to, branches_to}
use Rattle.tal_flow.specs.Forms.{form_of}
use Rattle.tal_flow.specs.Functions.{in_function}
use Rattle.tal_flow.specs.Rules.{edge_fits, is_dead, rule_of, next_address, Falls, Branches, Target}
use Rattle.tal_flow.specs.Strongest.{PlacedInst, rule_at, falls_from, known_at, carried, start, At, placed_at, Chained}
use Rattle.object_layout.specs.Areas.{code_start}
use Rattle.tal_image.specs.Conditions.{starts_stack}
use Rattle.tal_image.specs.Image.{ImageParts}
use Rattle.tal_image.specs.Shown.{shown, spans, begun_by, block_in, function_in}
use Rattle.tal_checker.specs.Instructions.{instructions}
use Rattle.tal_checker.specs.Running.{instruction_in, signature_at, IsSpelledAt, Arrives, BeginsFunction, RunsOn, AcceptedRuns}
use Rattle.tal_checker.specs.WellTyped.{WellTyped, StrongestDecides, strongest_at}
use Rattle.tal_checker.proofs.SpelledCode.{SpellingLength, placed_spelled, Spot, spot, next_there, next-is, chained}
use Rattle.tal_checker.proofs.FunctionSpans.{Covers, covered, begun_covered, numbered}
use Rattle.tal_checker.proofs.FormedCode.{HasCode, has_code}
use Rattle.tal_checker.proofs.FirstRefusals.{OneRuleIsLeast}
use Rattle.tal_checker.proofs.StrongestLaw.{RowsPass, none_fails}
use Rattle.tal_checker.proofs.Edges.{EdgesFit, no_number, edges-fit, target_is, target_block, in_span}
use Rattle.tal_checker.proofs.OwnContexts.{at-known, known-function, known-block}

-- the laws on which runs rest
pub record RunLaws : Type 0 where
  pub front : FrontLaw
  pub long : SpellingLength
  pub decides : StrongestDecides
  pub rows : RowsPass
  pub rules : OneRuleIsLeast
  pub next : (v : ShownImage) (xs : List PlacedInst) (n pc : ℕ) (x y : PlacedInst) → Chained n xs → placed_at xs pc ≡ Some x → placed_at xs (next_address x.pc x.len) ≡ Some y
      → At v xs (next_address x.pc x.len) ≡ start v (next_address x.pc x.len) (falls_from v (At v xs pc) x)
  pub told : (s : ShapesView) (a b : ContextView) → context_below s a b ≡ true → ContextBelow s a b
  pub reflexive : (s : ShapesView) (a : ContextView) → ContextBelow s a a

module _ (laws : RunLaws) (image : ImageParts) (w : WellTyped image) (k : HasCode image) where
  abbrev v : ShownImage
  v = shown image

  -- an instruction by its address, among those that the texts give
  placed : (pc : ℕ) (x : PlacedInst) → instruction_in image pc ≡ Some x → placed_at (placed_spelled code_start k.code) pc ≡ Some x
  placed pc x e = ap (λ (xs : List PlacedInst). placed_at xs pc) (sym k.instructions_are) ∙ e

  back : (pc : ℕ) (x : PlacedInst) → placed_at (placed_spelled code_start k.code) pc ≡ Some x → instruction_in image pc ≡ Some x
  back pc x e = ap (λ (xs : List PlacedInst). placed_at xs pc) k.instructions_are ∙ e

  spot-of : (pc : ℕ) (x : PlacedInst) → instruction_in image pc ≡ Some x → Spot code_start image.code pc x
  spot-of pc x e = subst (λ (t : List ℕ). Spot code_start t pc x) (sym k.bytes) (spot k.code code_start pc x k.texts (placed pc x e))

  -- the function that has an instruction
  function : (pc : ℕ) (x : PlacedInst) → instruction_in image pc ≡ Some x → (s : Span) × Covers code_start (length image.sigs) image.functions pc s
  function pc x e =
      let s = spot-of pc x e in
      let low = s.after_start in
      let high = s.before_end in
      let some = s.some in
      let whole = k.whole in
      covered image.functions code_start (length image.sigs) pc k.functions low (omega arith)

  -- there is a signature of its number
  signature-there : (n : ℕ) → n < length image.sigs → IsSome (slice_get image.sigs n)
  signature-there n l = let e = slice_get-get_or image.sigs n (record { params = []; result = Junk }) l in rw e refl

  spelled : (pc : ℕ) (x : PlacedInst) → instruction_in image pc ≡ Some x → IsSpelledAt image pc x
  unfolding signature_at shown
  spelled pc x e =
      let s = spot-of pc x e in
      let f = function pc x e in
      let t = f.1.sig in
      let u = signature-there f.0.sig t in
      record {
        address = s.address;
        front = s.front;
        some_bytes = s.some;
        after_start = s.after_start;
        before_end = s.before_end;
        in_function = rw f.1.here u;
      }

  -- what is known where a block begins, and where none does and no function either
  at-block : (pc : ℕ) (x : PlacedInst) (d : ContextView) → instruction_in image pc ≡ Some x → begun_by pc (spans code_start image.functions) ≡ None
      → block_in pc image.blocks ≡ Some d → strongest_at image pc ≡ d
  unfolding strongest_at At shown
  at-block pc x d e f b = at-known (shown image) (instructions image.code) Dead pc x d e (known-block (shown image) pc (Some d) f b)

  -- an edge to a block of the function arrives
  to-block : (from to : ℕ) (x : PlacedInst) (d : LiveContext) (b : ContextView) → instruction_in image from ≡ Some x → in_function (shown image) from to ≡ true
      → (shown image).block_at to ≡ Some b → edge_fits (shown image).shapes (Live d) ((shown image).block_at to) ≡ true → Arrives image from to (Live d)
  unfolding shown edge_fits
  to-block from to x d b e inside here fits =
      let p = k.blocks to b here in
      let y = back to p.0.0 p.0.1 in
      let f = function from x e in
      let s = in_span (shown image) from to f.0 f.1.here inside in
      let t : context_below (shown image).shapes (Live d) b ≡ true = rw here at fits in
      record {
        placed = p.0.0;
        here = y;
        known = rw (at-block to p.0.0 b y p.1 here) (laws.told (shown image).shapes (Live d) b t);
        stays = f.1.same to s.0 s.1 ∙ sym f.1.here;
      }

  -- an instruction has no rule
  no-rule : (pc : ℕ) (x : PlacedInst) → instruction_in image pc ≡ Some x → rule_at (shown image) (strongest_at image pc) x ≡ None
  no-rule pc x e = (laws.rules.none (shown image) (strongest_at image pc) x.pc x.inst x.len).1 (none_fails laws.decides laws.rows image w pc x e)

  -- no rule fails, in the words of the form
  fits-at : (pc : ℕ) (x : PlacedInst) (c : LiveContext) → instruction_in image pc ≡ Some x → strongest_at image pc ≡ Live c
      → EdgesFit (shown image) c x.pc (next_address x.pc x.len) (form_of (next_address x.pc x.len) x.inst)
  unfolding rule_of
  fits-at pc x c e a =
      let n = no-rule pc x e in
      edges-fit (shown image) c x.pc (next_address x.pc x.len) (form_of (next_address x.pc x.len) x.inst)
      (no_number _ (ap (λ (d : ContextView). rule_at (shown image) d x) (sym a) ∙ n))

  branches : (pc : ℕ) (x : PlacedInst) (c d : LiveContext) (to : ℕ) → instruction_in image pc ≡ Some x → strongest_at image pc ≡ Live c
      → Branches (shown image) (Live c) x.pc x.inst x.len ≡ Live d → Target x.pc x.inst x.len ≡ Some to → Arrives image pc to (Live d)
  unfolding Branches Target branches_to
  branches pc x c d to e a b t =
      let v = shown image in
      let form = form_of (next_address x.pc x.len) x.inst in
      let f = fits-at pc x c e a in
      let here = (spot-of pc x e).address in
      let block = target_block v x.pc to (target_is v c x.pc to form t f.operands) in
      let fits : edge_fits v.shapes (branching v c form) (v.block_at to) ≡ true = ap (λ (o : Option ℕ). edge_fits v.shapes (branching v c form) (option_and_then v.block_at o)) (sym t) ∙ f.branch in
      let fit : edge_fits v.shapes (Live d) (v.block_at to) ≡ true = ap (λ (q : ContextView). edge_fits v.shapes q (v.block_at to)) (sym b) ∙ fits in
      to-block pc to x d block.0.0 e (subst (λ (n : ℕ). in_function v n to ≡ true) here block.1) block.0.1 fit

  -- a fall to no block arrives with what falls
  to-next : (pc to : ℕ) (x y : PlacedInst) (d : LiveContext) → instruction_in image pc ≡ Some x → instruction_in image to ≡ Some y → to ≡ next_address x.pc x.len
      → falls_from (shown image) (strongest_at image pc) x ≡ Live d
      → begun_by to (spans code_start image.functions) ≡ None → block_in to image.blocks ≡ None → strongest_at image to ≡ Live d
  unfolding strongest_at start shown
  to-next pc to x y d e f n falls g b =
      let v = shown image in
      let xs = instructions image.code in
      let chain : Chained code_start xs = subst (Chained code_start) (sym k.instructions_are) (chained k.code code_start k.texts (subst (λ (t : List ℕ). code_start + length t < 2 ^ 32) k.bytes k.room)) in
      let there : placed_at xs (next_address x.pc x.len) ≡ Some y = ap (λ (m : ℕ). placed_at xs m) (sym n) ∙ f in
      let step = laws.next v xs code_start pc x y chain e there in
      let own : known_at v (next_address x.pc x.len) ≡ None = ap (known_at v) (sym n) ∙ known-block v to None g b in
      ap (λ (m : ℕ). At v xs m) n ∙ step ∙ ap (carried (falls_from v (At v xs pc) x)) own ∙ falls

  falls : (pc : ℕ) (x : PlacedInst) (c d : LiveContext) → instruction_in image pc ≡ Some x → strongest_at image pc ≡ Live c → falls_from (shown image) (Live c) x ≡ Live d
      → Arrives image pc (next_address x.pc x.len) (Live d)
  unfolding Falls falls_to shown is_dead
  falls pc x c d e a b =
      let v = shown image in
      let form = form_of (next_address x.pc x.len) x.inst in
      let next = next_address x.pc x.len in
      let f = fits-at pc x c e a in
      let s = spot-of pc x e in
      let here = s.address in
      let low = s.after_start in
      let high = s.before_end in
      let some = s.some in
      let room = k.room in
      let whole = k.whole in
      let n : next ≡ pc + x.len = next-is x.pc x.len (omega arith) ∙ ap (λ (m : ℕ). m + x.len) here in
      let alive : (is_dead (Live d) || in_function v x.pc next) ≡ true = ap (λ (q : ContextView). is_dead q || in_function v x.pc next) (sym b) ∙ f.stays in
      let inside : in_function v pc next ≡ true = subst (λ (m : ℕ). in_function v m next ≡ true) here (living d (in_function v x.pc next) alive) in
      let fit : edge_fits v.shapes (Live d) (v.block_at next) ≡ true = ap (λ (q : ContextView). edge_fits v.shapes q (v.block_at next)) (sym b) ∙ f.fall in
      let g = function pc x e in
      let span = in_span v pc next g.0 g.1.here inside in
      let before = span.1 in
      let end = g.1.within in
      let from = g.1.start in
      let long = ap length k.bytes in
      let t = next_there k.code code_start pc x k.texts (placed pc x e) (omega arith) in
      let y = back next t.0 (ap (λ (m : ℕ). placed_at (placed_spelled code_start k.code) m) n ∙ t.1) in
      let unbegun = g.1.inner next (omega arith) before in
      arrive next t.0 refl y unbegun inside fit (g.1.same next span.0 span.1 ∙ sym g.1.here) (v.block_at next) refl
    where
      living : (d : LiveContext) (b : Bool) → (is_dead (Live d) || b) ≡ true → b ≡ true
      living d b e = e

      arrive : (next : ℕ) (y : PlacedInst) → next ≡ next_address x.pc x.len → instruction_in image next ≡ Some y → begun_by next (spans code_start image.functions) ≡ None
          → in_function (shown image) pc next ≡ true → edge_fits (shown image).shapes (Live d) ((shown image).block_at next) ≡ true
          → (shown image).function_of next ≡ (shown image).function_of pc → (o : Option ContextView) → (shown image).block_at next ≡ o → Arrives image pc next (Live d)
      arrive next y n h unbegun inside fit same (Some q) block = to-block pc next x d q e inside block fit
      arrive next y n h unbegun inside fit same None block = record {
        placed = y;
        here = h;
        known = rw (to-next pc next x y d e h n (ap (λ (q : ContextView). falls_from (shown image) q x) a ∙ b) unbegun block) (laws.reflexive (shown image).shapes (Live d));
        stays = same;
      }

  -- a function that begins at an address
  begins : (address g : ℕ) (sig : Sig) → (shown image).function_at address ≡ Some g → (shown image).sig g ≡ Some sig → BeginsFunction image address sig
  unfolding shown signature_at strongest_at At
  begins address g sig e s =
      let p = k.begins address g e in
      let y = back address p.0 p.1 in
      let f = begun_covered image.functions code_start (length image.sigs) address g k.functions e in
      record {
        placed = p.0;
        here = y;
        known = at-known (shown image) (instructions image.code) Dead address p.0 (entry sig) y (known-function (shown image) address g sig e s);
        signature = rw (f.1.here, f.3) s;
      }

  begun-signature : (address g : ℕ) → (shown image).function_at address ≡ Some g → IsSome ((shown image).sig g)
  unfolding shown
  begun-signature address g e =
      let f = begun_covered image.functions code_start (length image.sigs) address g k.functions e in
      subst (λ (n : ℕ). IsSome (slice_get image.sigs n)) f.3 (signature-there f.0.sig f.1.sig)

  -- a stack begins at a function
  starts : (s f : ℕ) → slice_get image.entries s ≡ Some f
      → (span : Span) × (sig : Sig) × (function_in image f ≡ Some span) × BeginsFunction image span.start sig × (starts_stack sig ≡ true)
  unfolding function_in shown
  starts s f e =
      let t = k.entries s f e in
      let n = numbered image.functions code_start (length image.sigs) f t.row k.functions t.function in
      (n.0, t.sig, n.1, begins n.0.start n.0.sig t.sig n.3 (ap (λ (m : ℕ). slice_get image.sigs m) n.2 ∙ t.signature), t.starts)

  pub runs_on : RunsOn image
  runs_on = record {
    spelled = spelled;
    none_fails = no-rule;
    falls = falls;
    branches = branches;
    calls = begins;
    signatures = begun-signature;
    stacks = starts;
    entries = k.count;
    room = k.room;
  }

-- what a run of an accepted image rests on
pub accepted_runs : RunLaws → AcceptedRuns
accepted_runs laws image w = runs_on laws image w (has_code laws.front laws.long image w.formed)
