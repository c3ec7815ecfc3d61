use Rattle.std.proofs.Common.{[], ◌∷◌, ◌++◌, not, ap, ◌∙◌, if◌then◌else◌}
use Rattle.tal_names.specs.NameSets.{is_named, with_name}
use Rattle.tal_names.proofs.NameSetLaws.{held, named_held, held_insert}
use Rattle.tal_names.proofs.name_set.NameSet.add.Goals as goal

pub returns-then-contains-clause-is_new : goal.returns-then-contains-clause-is_new
returns-then-contains-clause-is_new c = ap not (c.if-contains.ensures ∙ named_held c.args.name.now c.self.inside.names.keys ∙ ap (λ ns. is_named ns c.args.name.now) c.self.view_is)

pub returns-then-contains-clause-added : goal.returns-then-contains-clause-added
returns-then-contains-clause-added c =
    ap (λ b. if b then c.args.self.now else c.args.self.now ++ c.args.name.now ∷ [])
    (c.if-contains.ensures ∙ named_held c.args.name.now c.self.inside.names.keys ∙ ap (λ ns. is_named ns c.args.name.now) c.self.view_is)

pub returns-clause-is_new : goal.returns-clause-is_new
returns-clause-is_new c = ap not (c.if-contains.ensures ∙ named_held c.args.name.now c.self.inside.names.keys ∙ ap (λ ns. is_named ns c.args.name.now) c.self.view_is)

pub returns-clause-added : goal.returns-clause-added
returns-clause-added c =
    ap held c.in_ok-insert.ensures.keys
    ∙ held_insert c.in_ok-owned.field-0 c.self.inside.names.keys
    ∙ ap (λ n. with_name (held c.self.inside.names.keys) n) c.in_ok-owned.ensures
    ∙ ap (λ ns. with_name ns c.args.name.now) c.self.view_is
