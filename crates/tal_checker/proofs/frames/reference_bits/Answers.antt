use Rattle.std.proofs.Common.{◌≡◌, drop, arith}
use Rattle.std.proofs.lemmas.List.{length-drop}
use Rattle.tal_checker.specs.Frames.{reference_bits}
use Rattle.tal_checker.proofs.FrameBits.{bits-small, bits-word, bits-none, bits-longer, bits-fit}
use Rattle.tal_checker.proofs.frames.reference_bits.Goals as goal

pub loop-at-init : goal.loop-at-init
loop-at-init c = record { value = bits-none c.args.types.now; within = omega arith }

pub overflow_mul-bits : goal.overflow_mul-bits
overflow_mul-bits c =
    let rest = drop c.loop-at.at c.args.types.now in
    let small = bits-word rest 63 (omega (arith, length-drop c.loop-at.at c.args.types.now)) in
    omega (arith, small, c.loop-at.invariant.value)

pub overflow_add-bits : goal.overflow_add-bits
overflow_add-bits c = omega (arith, bits-fit c.args.types.now c.loop-at.at c.loop-at.bits c.reference_bit.result (omega arith) c.loop-at.invariant.within (omega arith) c.loop-at.invariant.value c.reference_bit.ensures)

pub loop-at-preserved : goal.loop-at-preserved
loop-at-preserved c = record {
  value = bits-longer c.args.types.now c.loop-at.at c.loop-at.bits c.reference_bit.result (omega arith) c.loop-at.invariant.within c.loop-at.invariant.value c.reference_bit.ensures;
  within = omega arith;
}

pub returns-clause-small : goal.returns-clause-small
returns-clause-small c = let e : c.loop-at.at ≡ 0 = omega arith in let b = bits-small c.args.types.now in let v : c.loop-at.bits ≡ reference_bits c.args.types.now = rw e at c.loop-at.invariant.value in omega (arith, b, v)
