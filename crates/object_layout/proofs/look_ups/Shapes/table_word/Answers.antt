use Rattle.std.proofs.Common.{◌+◌, Some, length, sym, ap, ◌∙◌, arith}
use Rattle.object_layout.specs.Classes.{table_word}
use Rattle.object_layout.proofs.Tables.{table_word-no_class}
use Rattle.object_layout.proofs.TableWords.{size-word, depth-word, zero-word, level_word, slot_word, no_word}
use Rattle.object_layout.proofs.look_ups.Shapes.table_word.Goals as goal

pub returns-in_err-class-clause-value : goal.returns-in_err-class-clause-value
returns-in_err-class-clause-value c = c.from_residual.ensures ∙ sym (table_word-no_class _ _ _ c.in_err-class.ensures.laid)

pub returns-in-0-clause-value : goal.returns-in-0-clause-value
returns-in-0-clause-value c =
    let at = c.in_ok-class in
    ap (λ xs. Some (1 + length xs)) c.items.ensures
    ∙ size-word _ _ _ at.ensures.sound at.ensures.laid
    ∙ ap (table_word c.args.self.now c.args.c) (sym c.in-0.is)

pub returns-in-1-clause-value : goal.returns-in-1-clause-value
returns-in-1-clause-value c =
    let at = c.in_ok-class in
    depth-word _ _ _ at.ensures.sound at.ensures.laid ∙ ap (table_word c.args.self.now c.args.c) (sym c.in-1.is)

pub returns-in-2-clause-value : goal.returns-in-2-clause-value
returns-in-2-clause-value c =
    let at = c.in_ok-class in
    zero-word _ _ _ at.ensures.sound at.ensures.laid ∙ ap (table_word c.args.self.now c.args.c) (sym c.in-2.is)

pub returns-in-3-to-10-clause-value : goal.returns-in-3-to-10-clause-value
returns-in-3-to-10-clause-value c =
    let at = c.in_ok-class in
    ap Some c.display_word.ensures ∙ level_word _ _ c.args.word _ at.ensures.sound at.ensures.laid (omega arith) (omega arith)

pub returns-in-11-to-63-clause-value : goal.returns-in-11-to-63-clause-value
returns-in-11-to-63-clause-value c =
    let at = c.in_ok-class in
    ap Some c.method_address.ensures ∙ slot_word _ _ c.args.word _ at.ensures.sound at.ensures.laid (omega arith) (omega arith)

pub returns-in_default-clause-value : goal.returns-in_default-clause-value
returns-in_default-clause-value c =
    let at = c.in_ok-class in no_word _ _ c.args.word _ at.ensures.sound at.ensures.laid (omega arith)
