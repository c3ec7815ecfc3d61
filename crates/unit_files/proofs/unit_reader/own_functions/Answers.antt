use Rattle.std.proofs.Common.{◌∙◌, ap, sym, false, take, get_or}
use Rattle.std.proofs.lemmas.List.{take_more}
use Rattle.unit_files.specs.Unit.{UnitFun, own_functions}
use Rattle.unit_files.proofs.Reading.Codes.{own_more}
use Rattle.unit_files.proofs.unit_reader.own_functions.Goals as goal

pub loop-f-init : goal.loop-f-init
unfolding own_functions
loop-f-init c = c.new-own.ensures.items

pub loop-f-preserved : goal.loop-f-preserved
loop-f-preserved c =
    let fs = c.args.functions.now in
    let i = c.loop-f.f-index in
    let d : UnitFun = record { name = 0; ext = false; length = 0; sig = 0 } in
    rw (c.in_ok-put_own.ensures, c.loop-f.invariant) (sym (ap own_functions (take_more fs i d c.loop-f-test.true) ∙ own_more (take i fs) (get_or fs i d)))
