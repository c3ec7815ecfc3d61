use Rattle.std.proofs.Common.{sym, ap, ◌∙◌}
use Rattle.asm_faults.specs.Answers.{at_line}
use Rattle.tal_names.specs.Declarations.{names_shown}
use Rattle.tal_code.specs.Labels.{distance_at}
use Rattle.tal_code.specs.Functions.{block_line, inst_line}
use Rattle.tal_code.proofs.CodeLines.{first_line, label_goes_on, inst_goes_on}
use Rattle.tal_code.proofs.unit_code.UnitCode.with_lines.Goals as goal

pub lines-preserved-in_ok-made-in-Label : goal.lines-preserved-in_ok-made-in-Label
lines-preserved-in_ok-made-in-Label c =
    let m = names_shown c.args.names.now in
    let placed = sym (c.is_placed-is_placed.ensures c.args.self c.len-start.ensures.bytes c.block_count-blocks.ensures) in
    let made =
    ap (λ b. at_line c.line-item.result.number (block_line m c.lines.made c.in-Label.regs c.in-Label.slots b)) placed
    ∙ ap (λ rs. at_line c.line-item.result.number (block_line m c.lines.made rs c.in-Label.slots c.is_placed-is_placed.result)) (sym c.items.ensures)
    ∙ c.in_ok-made-in-Label.ensures in
    label_goes_on m c.args.labels.now c.args.self c.lines.made c.in_ok-made-in-Label.made c.lines.left.now _ c.line-item.result c.in-Label.name c.in-Label.regs c.in-Label.slots
    (first_line c.lines.left.now c.line-item.result c.in-len1-up.len_at_least c.line-item.is) c.in-Label.is made
    ∙ c.lines.invariant

pub lines-preserved : goal.lines-preserved
lines-preserved c =
    let m = names_shown c.args.names.now in
    let made =
    ap (λ d. at_line c.line-item.result.number (inst_line m c.lines.made c.in-Inst.mnemonic c.in-Inst.args d))
    (ap (λ n. distance_at m c.args.labels.now n c.in-Inst.mnemonic c.in-Inst.args) (sym c.len.ensures.bytes)
    ∙ ap (λ xs. distance_at m c.args.labels.now c.len.result c.in-Inst.mnemonic xs) (sym c.items-in-Inst.ensures)
    ∙ sym c.distance_at-distance.ensures)
    ∙ ap (λ xs. at_line c.line-item.result.number (inst_line m c.lines.made c.in-Inst.mnemonic xs c.distance_at-distance.result)) (sym c.items-in-Inst-2.ensures)
    ∙ c.in_ok-made-in-Inst.ensures in
    inst_goes_on m c.args.labels.now c.args.self c.lines.made c.in_ok-made-in-Inst.made c.lines.left.now _ c.line-item.result c.in-Inst.mnemonic c.in-Inst.args
    (first_line c.lines.left.now c.line-item.result c.in-len1-up.len_at_least c.line-item.is) c.in-Inst.is made
    ∙ c.lines.invariant
