use Rattle.quick_step.proofs.step.run.Goals as goal

pub returns-in-Full : goal.returns-in-Full
returns-in-Full g c = rw c.in-Full.is (c.nop.ensures _ _)

pub returns-in-Nop : goal.returns-in-Nop
returns-in-Nop g c = rw c.in-Nop.is (c.nop-in-Nop.ensures _ _)

pub returns-in-Cdq : goal.returns-in-Cdq
returns-in-Cdq g c = rw c.in-Cdq.is (c.cdq.ensures _ _)

pub returns-in-MovR : goal.returns-in-MovR
returns-in-MovR g c = rw c.in-MovR.is (c.mov_from.ensures _ _)

pub returns-in-MovI : goal.returns-in-MovI
returns-in-MovI g c = rw c.in-MovI.is (c.mov_word.ensures _ _)

pub returns-in-AddR : goal.returns-in-AddR
returns-in-AddR g c = rw c.in-AddR.is (c.alu_from.ensures _ _)

pub returns-in-AddI : goal.returns-in-AddI
returns-in-AddI g c = rw c.in-AddI.is (c.alu_word.ensures _ _)

pub returns-in-OrR : goal.returns-in-OrR
returns-in-OrR g c = rw c.in-OrR.is (c.alu_from-in-OrR.ensures _ _)

pub returns-in-OrI : goal.returns-in-OrI
returns-in-OrI g c = rw c.in-OrI.is (c.alu_word-in-OrI.ensures _ _)

pub returns-in-AndR : goal.returns-in-AndR
returns-in-AndR g c = rw c.in-AndR.is (c.alu_from-in-AndR.ensures _ _)

pub returns-in-AndI : goal.returns-in-AndI
returns-in-AndI g c = rw c.in-AndI.is (c.alu_word-in-AndI.ensures _ _)

pub returns-in-SubR : goal.returns-in-SubR
returns-in-SubR g c = rw c.in-SubR.is (c.alu_from-in-SubR.ensures _ _)

pub returns-in-SubI : goal.returns-in-SubI
returns-in-SubI g c = rw c.in-SubI.is (c.alu_word-in-SubI.ensures _ _)

pub returns-in-XorR : goal.returns-in-XorR
returns-in-XorR g c = rw c.in-XorR.is (c.alu_from-in-XorR.ensures _ _)

pub returns-in-XorI : goal.returns-in-XorI
returns-in-XorI g c = rw c.in-XorI.is (c.alu_word-in-XorI.ensures _ _)

pub returns-in-CmpR : goal.returns-in-CmpR
returns-in-CmpR g c = rw c.in-CmpR.is (c.alu_from-in-CmpR.ensures _ _)

pub returns-in-CmpI : goal.returns-in-CmpI
returns-in-CmpI g c = rw c.in-CmpI.is (c.alu_word-in-CmpI.ensures _ _)

pub returns-in-TestR : goal.returns-in-TestR
returns-in-TestR g c = rw c.in-TestR.is (c.test_from.ensures _ _)

pub returns-in-TestI : goal.returns-in-TestI
returns-in-TestI g c = rw c.in-TestI.is (c.test_word.ensures _ _)

pub returns-in-Inc : goal.returns-in-Inc
returns-in-Inc g c = rw c.in-Inc.is (c.inc_register.ensures _ _)

pub returns-in-Dec : goal.returns-in-Dec
returns-in-Dec g c = rw c.in-Dec.is (c.dec_register.ensures _ _)

pub returns-in-Not : goal.returns-in-Not
returns-in-Not g c = rw c.in-Not.is (c.not_register.ensures _ _)

pub returns-in-Neg : goal.returns-in-Neg
returns-in-Neg g c = rw c.in-Neg.is (c.neg_register.ensures _ _)

pub returns-in-Mul : goal.returns-in-Mul
returns-in-Mul g c = rw c.in-Mul.is (c.mul_by.ensures _ _)

pub returns-in-ImulR : goal.returns-in-ImulR
returns-in-ImulR g c = rw c.in-ImulR.is (c.imul_from.ensures _ _)

pub returns-in-ImulI : goal.returns-in-ImulI
returns-in-ImulI g c = rw c.in-ImulI.is (c.imul_word.ensures _ _)

pub returns-in-Call : goal.returns-in-Call
returns-in-Call g c = rw c.in-Call.is (c.call_by.ensures _ _)

pub returns-in-CallAt : goal.returns-in-CallAt
returns-in-CallAt g c = rw c.in-CallAt.is (c.call_at.ensures _ _)

pub returns-in-Jmp : goal.returns-in-Jmp
returns-in-Jmp g c = rw c.in-Jmp.is (c.jump_by.ensures _ _)

pub returns-in-JO : goal.returns-in-JO
returns-in-JO g c = rw c.in-JO.is (c.branch_by.ensures _ _)

pub returns-in-JNo : goal.returns-in-JNo
returns-in-JNo g c = rw c.in-JNo.is (c.branch_by-in-JNo.ensures _ _)

pub returns-in-JB : goal.returns-in-JB
returns-in-JB g c = rw c.in-JB.is (c.branch_by-in-JB.ensures _ _)

pub returns-in-JAe : goal.returns-in-JAe
returns-in-JAe g c = rw c.in-JAe.is (c.branch_by-in-JAe.ensures _ _)

pub returns-in-JE : goal.returns-in-JE
returns-in-JE g c = rw c.in-JE.is (c.branch_by-in-JE.ensures _ _)

pub returns-in-JNe : goal.returns-in-JNe
returns-in-JNe g c = rw c.in-JNe.is (c.branch_by-in-JNe.ensures _ _)

pub returns-in-JBe : goal.returns-in-JBe
returns-in-JBe g c = rw c.in-JBe.is (c.branch_by-in-JBe.ensures _ _)

pub returns-in-JA : goal.returns-in-JA
returns-in-JA g c = rw c.in-JA.is (c.branch_by-in-JA.ensures _ _)

pub returns-in-JS : goal.returns-in-JS
returns-in-JS g c = rw c.in-JS.is (c.branch_by-in-JS.ensures _ _)

pub returns-in-JNs : goal.returns-in-JNs
returns-in-JNs g c = rw c.in-JNs.is (c.branch_by-in-JNs.ensures _ _)

pub returns-in-JL : goal.returns-in-JL
returns-in-JL g c = rw c.in-JL.is (c.branch_by-in-JL.ensures _ _)

pub returns-in-JGe : goal.returns-in-JGe
returns-in-JGe g c = rw c.in-JGe.is (c.branch_by-in-JGe.ensures _ _)

pub returns-in-JLe : goal.returns-in-JLe
returns-in-JLe g c = rw c.in-JLe.is (c.branch_by-in-JLe.ensures _ _)

pub returns-in-JG : goal.returns-in-JG
returns-in-JG g c = rw c.in-JG.is (c.branch_by-in-JG.ensures _ _)

pub returns-in-Lea : goal.returns-in-Lea
returns-in-Lea g c = rw c.in-Lea.is (c.lea_from.ensures _ _)
