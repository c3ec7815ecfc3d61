use Rattle.std.specs.List.{All}
use Rattle.std.proofs.Common.{◌≡◌, ◌+◌, ◌<◌, ℕ, List, [], ◌∷◌, ◌++◌, drop, None, refl, sym, ap, subst, ◌∙◌, arith}
use Rattle.std.proofs.lemmas.List.Elements.{All-nil}
use Rattle.ia32_code.specs.declared.instruction.Inst.{Inst}
use Rattle.ia32_code.specs.declared.decoding.Decoded.{Decoded}
use Rattle.ia32_code.specs.declared.decoding.Decoded.TheVariants.{One, Short, Unknown}
use Rattle.ia32_code.specs.Decoding.{instruction_of}
use Rattle.tal_types.specs.Contexts.{ContextView, Dead}
use Rattle.tal_types.specs.Kept.{context_of}
use Rattle.object_layout.specs.Areas.{code_start}
use Rattle.frame_tables.specs.FrameRows.{RowAt}
use Rattle.tal_checker.proofs.Going.{Left, all_left, none_left, left_refused, left_after, rows-below}
use Rattle.tal_checker.proofs.code.check_code.Goals as goal

pub loop-inst-init : goal.loop-inst-init
loop-inst-init g c =
    let v = g.V.ImageView.shown c.args.image.now in
    let code = c.args.code.now in
    let left : Left v code code_start code (context_of c.dead-context.result) c.new-frames.result =
    subst (λ (d : ContextView). Left v code code_start code d c.new-frames.result) (sym c.dead-context.ensures)
    (subst (λ (rows : List RowAt). Left v code code_start code Dead rows) (sym c.new-frames.ensures) (all_left v code)) in
    record {
      left = left;
      below = subst (λ (rows : List RowAt). All (λ (r : RowAt). r.pc < code_start) rows) (sym c.new-frames.ensures) (All-nil (λ (r : RowAt). r.pc < code_start));
      size = omega arith;
    }

pub returns-in-Some-clause-err : goal.returns-in-Some-clause-err
returns-in-Some-clause-err g c =
    let v = g.V.ImageView.shown c.args.image.now in
    let a = c.in-One.ensures.answers in
    left_refused v c.args.code.now c.loop-inst.pc c.loop-inst.rest.now (context_of c.loop-inst.context) c.loop-inst.frames c.in-One.inst c.in-One.len (context_of c.start_at.new.context) c.loop-inst.invariant.left (sym c.in-One.ensures.one) a.0 a.1 c.start_at.ensures c.in-Some.rule.0 c.in-Some.ensures.rule

pub loop-inst-preserved : goal.loop-inst-preserved
loop-inst-preserved g c =
    let v = g.V.ImageView.shown c.args.image.now in
    let code = c.args.code.now in
    let pc = c.loop-inst.pc in
    let rest = c.loop-inst.rest.now in
    let len = c.in-One.len in
    let a = c.in-One.ensures.answers in
    let next = left_after v code pc rest (context_of c.loop-inst.context) c.loop-inst.frames c.in-One.inst len (context_of c.start_at.new.context) c.loop-inst.invariant.left (sym c.in-One.ensures.one) a.0 a.1 c.start_at.ensures (context_of c.pass.new.context) c.frame_row.result c.in_default-pass.ensures.none c.in_default-pass.ensures.falls c.frame_row.ensures in
    let rows : List RowAt = c.loop-inst.frames ++ record { pc = pc; row = c.frame_row.result } ∷ [] in
    let below = rows-below c.loop-inst.frames pc len c.frame_row.result a.0 c.loop-inst.invariant.below in
    record {
      left = subst (λ (n : ℕ). Left v code (pc + n) c.split_at.result.1.now (context_of c.pass.new.context) c.push.new.self) (sym c.from-pc.ensures)
          (subst (λ (t : List ℕ). Left v code (pc + len) t (context_of c.pass.new.context) c.push.new.self) (sym c.split_at.ensures.back)
          (subst (λ (t : List RowAt). Left v code (pc + len) (drop len rest) (context_of c.pass.new.context) t) (sym c.in_ok-push.ensures.ok) next));
      below = subst (λ (n : ℕ). All (λ (r : RowAt). r.pc < pc + n) c.push.new.self) (sym c.from-pc.ensures)
          (subst (λ (t : List RowAt). All (λ (r : RowAt). r.pc < pc + len) t) (sym c.in_ok-push.ensures.ok) below);
      size = let e = c.from-pc.ensures in omega (arith, e, c.split_at.ensures.back_len, c.loop-inst.invariant.size, a.1);
    }

-- an answer that is no instruction
not_one : (d : Decoded) → ((i : Inst) (n : ℕ) → d ≡ One i n → ⊥) → instruction_of d ≡ None
not_one (One i n) h = absurd (h i n refl)
not_one Short h = refl
not_one Unknown h = refl

pub returns : goal.returns
returns g c =
    let v = g.V.ImageView.shown c.args.image.now in
    record {
      ok = none_left v c.args.code.now c.loop-inst.pc c.loop-inst.rest.now (context_of c.loop-inst.context) c.loop-inst.frames c.loop-inst.invariant.left (ap instruction_of (sym c.decode.ensures.one) ∙ not_one c.decode.result c.in_default.not-One);
      err = tt;
    }
