use Rattle.std.proofs.Common.{◌-◌, length, Ok, Err, sym, ap, ◌∙◌, arith}
use Rattle.ia32_code.specs.declared.instruction.Inst.{Inst}
use Rattle.ia32_code.specs.declared.decoding.Decoded.TheVariants.{One}
use Rattle.ia32_code.specs.declared.reading.Stop.TheVariants.{Short, Unknown}
use Rattle.ia32_code.proofs.Answered.{front_facts, decoded_is, told}
use Rattle.ia32_code.proofs.decoding.decode.Goals as goal

pub meaning_of-requires : goal.meaning_of-requires
meaning_of-requires c = (front_facts c.args.bytes.now c.in-Ok.spelling c.in-Ok.rest.now (λ i. omega (arith, c.type_inv.bytes i)) c.in-Ok.ensures).fits

pub overflow_sub-result : goal.overflow_sub-result
overflow_sub-result c = (front_facts c.args.bytes.now c.in-Ok.spelling c.in-Ok.rest.now (λ i. omega (arith, c.type_inv.bytes i)) c.in-Ok.ensures).shorter

pub overflow_cast-result : goal.overflow_cast-result
overflow_cast-result c =
    let f = front_facts c.args.bytes.now c.in-Ok.spelling c.in-Ok.rest.now (λ i. omega (arith, c.type_inv.bytes i)) c.in-Ok.ensures in
    omega (arith, f.short)

pub returns-in-Ok : goal.returns-in-Ok
returns-in-Ok c =
    let len = length c.args.bytes.now - length c.in-Ok.rest.now in
    let one = ap (λ (i : Inst). One i len) c.meaning_of.ensures ∙ sym (decoded_is c.args.bytes.now (Ok (c.in-Ok.spelling, c.in-Ok.rest.now)) c.in-Ok.ensures) in
    let t = told c.args.bytes.now _ (λ i. omega (arith, c.type_inv.bytes i)) one in
    record { answers = t.answers; spelled = t.spelled; cut = t.cut; one = one }

pub returns-in-Err-Short : goal.returns-in-Err-Short
returns-in-Err-Short c =
    let one = sym (decoded_is c.args.bytes.now (Err Short) (rw c.in-Err-Short.field-0-is at c.in-Err-Short.ensures)) in
    let t = told c.args.bytes.now _ (λ i. omega (arith, c.type_inv.bytes i)) one in
    record { answers = t.answers; spelled = t.spelled; cut = t.cut; one = one }

pub returns-in-Err-Unknown : goal.returns-in-Err-Unknown
returns-in-Err-Unknown c =
    let one = sym (decoded_is c.args.bytes.now (Err Unknown) (rw c.in-Err-Unknown.field-0-is at c.in-Err-Unknown.ensures)) in
    let t = told c.args.bytes.now _ (λ i. omega (arith, c.type_inv.bytes i)) one in
    record { answers = t.answers; spelled = t.spelled; cut = t.cut; one = one }
