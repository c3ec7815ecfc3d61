use Rattle.std.proofs.Common.{◌+◌, ap, sym, ◌∙◌, length}
use Rattle.std.proofs.lemmas.Option.{MatchOption-at_some}
use Rattle.object_layout.specs.Classes.{Need, rounded_up}
use Rattle.object_layout.proofs.LookUps.{need_class, need_kind}
use Rattle.object_layout.proofs.look_ups.Shapes.need_words.Goals as goal

pub returns-in-Class : goal.returns-in-Class
returns-in-Class c =
    let laid = MatchOption-at_some _ _ _ c.unwrap-class.ensures c.class.ensures.laid in
    c.rounded_up.ensures
    ∙ ap (λ xs. rounded_up (3 + length xs)) c.items.ensures
    ∙ need_class _ _ c.args.length _ laid
    ∙ ap (λ shape. Need c.args.self.now shape c.args.length) (sym c.in-Class.is)

pub returns-in-Kind : goal.returns-in-Kind
returns-in-Kind c =
    c.rounded_up-in-Kind.ensures
    ∙ ap (λ n. rounded_up (4 + n)) c.from.ensures
    ∙ need_kind _ _ _
    ∙ ap (λ shape. Need c.args.self.now shape c.args.length) (sym c.in-Kind.is)
