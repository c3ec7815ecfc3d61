use Rattle.std.proofs.Common.{ℕ, ◌≡◌, ◌≤◌, ◌+◌, List, length, get_or, refl, ap, subst, arith}
use Rattle.tal_image.proofs.Finding.Indexes.{Knows, known_none, known_more, known_all}
use Rattle.tal_image.proofs.index.index_of.Goals as goal

pub loop-number-init : goal.loop-number-init
loop-number-init c = record {
  counted = omega arith;
  ahead = λ j from within. let none = ap (λ (l : List ℕ). length l) c.new-places.ensures.items in omega arith;
  known = rw c.new-places.ensures.items (known_none c.args.rising.now);
}

pub loop-number-preserved : goal.loop-number-preserved
loop-number-preserved c =
    let xs = c.args.rising.now in
    let i = c.loop-number.number-index in
    let places = c.loop-number.places.items in
    let filled = c.resize.new.self.items in
    let next : c.loop-number.next + 1 ≡ i + 1 = omega (arith, c.loop-number.invariant.counted) in
    let long : length filled ≡ get_or xs i 0 = omega (arith, c.in_ok-resize.ensures.len) in
    let short : length places ≤ get_or xs i 0 = c.loop-number.invariant.ahead i (omega arith) c.loop-number-test.true in
    record {
      counted = next;
      ahead = λ j from within.
          let up = c.requires.rising i j 0 (omega arith) within in
          let pushed = c.in_ok-push.ensures.len in omega (arith, long);
      known = rw (c.in_ok-push.ensures.items, next) (known_more xs places filled i long short (λ n there. c.in_ok-resize.ensures.by_index.0 n 0 (omega arith) (omega arith)) (λ n past before. c.in_ok-resize.ensures.by_index.1 n 0 refl (omega arith) (omega arith)) c.loop-number.invariant.known);
    }

pub returns : goal.returns
returns c =
    let all : c.loop-number.number-index ≡ length c.args.rising.now = omega (arith, c.loop-number-test.false) in
    known_all c.args.rising.now c.loop-number.places.items (subst (λ i. Knows c.args.rising.now i c.loop-number.places.items) all c.loop-number.invariant.known)
