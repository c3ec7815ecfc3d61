use Rattle.std.proofs.Common.{arith, ◌≡◌, IsTrue, ℕ, ◌<◌, length, refl, sym, ap, subst, inl, inr}
use Rattle.std.specs.List.{All, slice_index_or}
use Rattle.std.proofs.lemmas.Bool.{cases_lt, true≢false}
use Rattle.typed_machine.specs.Placing.{WordsApart}
use Rattle.typed_machine.proofs.Apart.{behind, later}
use Rattle.typed_machine.proofs.places.are_apart.Goals as goal

pub loop-at-preserved : goal.loop-at-preserved
loop-at-preserved c = λ i j d below after within. elim (cases_lt i c.loop-at.at) [
  | inl before ↦ c.loop-at.invariant i j d before after within
  | inr from ↦ at i (omega arith) j d after within
] where
  at : (i : ℕ) → i ≡ c.loop-at.at → (j : ℕ) (d : ℕ × ℕ) → i < j → j < length c.args.blocks.now
      → WordsApart (slice_index_or c.args.blocks.now i d) (slice_index_or c.args.blocks.now j d)
  at i is j d after within =
      later WordsApart c.args.blocks.now i j (0, 0) d after within
      (rw is (subst (All (WordsApart (slice_index_or c.args.blocks.now c.loop-at.at (0, 0)))) c.split_at.ensures.back (c.if-not-is_apart_from.ensures.0 refl)))

pub returns-then-not-is_apart_from : goal.returns-then-not-is_apart_from
returns-then-not-is_apart_from c = (
  λ no. absurd (true≢false (sym no)),
  λ pairs. c.if-not-is_apart_from.ensures.1
      (subst (All (WordsApart (slice_index_or c.args.blocks.now c.loop-at.at (0, 0)))) (sym c.split_at.ensures.back)
      (behind WordsApart c.args.blocks.now c.loop-at.at (0, 0) c.loop-at-test.true pairs)),
)

pub returns : goal.returns
returns c = (λ yes i j d below within. c.loop-at.invariant i j d (omega arith) below within, λ all. refl)
