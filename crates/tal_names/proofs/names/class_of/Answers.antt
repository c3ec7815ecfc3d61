use Rattle.std.proofs.Common.{◌+◌, drop, sym, ap, ◌∙◌}
use Rattle.std.proofs.lemmas.List.{drop_all}
use Rattle.tal_names.specs.Declarations.{ancestry, with_members}
use Rattle.tal_names.proofs.ClassLines.{member_taken, members_end}
use Rattle.tal_names.proofs.names.class_of.Goals as goal

pub returns-then-not-branch : goal.returns-then-not-branch
returns-then-not-branch c =
    let above = ancestry c.args.classes.now c.args.parent in
    let told = c.in_ok-add_member.ensures in
    told.added
    ∙ sym (members_end above c.loop-line.class c.args.behind.now c.loop-line.line-index c.line-item.result c.loop-line-test.true c.line-item.is (sym told.is_member ∙ c.if-not-branch.true))
    ∙ c.loop-line.invariant

pub loop-line-preserved : goal.loop-line-preserved
loop-line-preserved c =
    let above = ancestry c.args.classes.now c.args.parent in
    let told = c.in_ok-add_member.ensures in
    ap (λ k. with_members above k (drop (c.loop-line.line-index + 1) c.args.behind.now)) told.added
    ∙ sym (member_taken above c.loop-line.class c.args.behind.now c.loop-line.line-index c.line-item.result c.loop-line-test.true c.line-item.is (sym told.is_member ∙ c.if-not-branch.false))
    ∙ c.loop-line.invariant

pub returns : goal.returns
unfolding with_members
returns c =
    sym (ap (with_members (ancestry c.args.classes.now c.args.parent) c.loop-line.class) (drop_all _ _ c.loop-line-test.false))
    ∙ c.loop-line.invariant
