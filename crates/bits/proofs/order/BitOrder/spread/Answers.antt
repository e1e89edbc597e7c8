use Rattle.std.proofs.Common.{◌≡◌, ◌+◌, length, ap, ◌∙◌, add-mul, arith}
use Rattle.std.proofs.lemmas.Nat.{mul-le}
use Rattle.bits.specs.Rows.{bits_of, cut}
use Rattle.bits.proofs.Turns.{spread_none, spread_more, spread_all}
use Rattle.bits.proofs.order.BitOrder.spread.Goals as goal

pub loop-number-init : goal.loop-number-init
loop-number-init c = spread_none _ _ _ _ c.args.out.now c.requires.holds

pub part-v-requires : goal.part-v-requires
part-v-requires c = record {
  few = omega (arith, c.loop-number.invariant.1);
  narrow = c.requires.narrow;
  there = omega (arith, c.loop-number.invariant.1, c.requires.there, add-mul c.loop-number.number-index 1 c.args.width, mul-le (c.loop-number.number-index + 1) c.args.width (length c.args.out.now) c.args.width (omega arith) (omega arith));
  holds = c.loop-number.invariant.0;
}

pub loop-number-preserved : goal.loop-number-preserved
loop-number-preserved c =
    spread_more c.args.self c.args.width c.args.held c.args.acc c.loop-number.out c.loop-number.number-index c.loop-number.bits c.loop-number.left _ _ c.loop-number.invariant
    (omega arith)
    (omega (arith, c.loop-number.invariant.1, c.requires.there, add-mul c.loop-number.number-index 1 c.args.width, mul-le (c.loop-number.number-index + 1) c.args.width (length c.args.out.now) c.args.width (omega arith) (omega arith)))
    c.part-v.ensures.given c.part-v.ensures.left c.part-v.ensures.bits

pub returns : goal.returns
returns c =
    let l : length c.loop-number.out ≡ length c.args.out.now = omega arith in
    spread_all c.args.self c.args.width c.args.held c.args.acc c.loop-number.out c.loop-number.number-index c.loop-number.bits c.loop-number.left c.loop-number.invariant (omega arith)
    ∙ ap (λ n. cut c.args.self c.args.width n (bits_of c.args.self c.args.held c.args.acc)) l

pub overflow_sub-bits : goal.overflow_sub-bits
overflow_sub-bits c = omega (arith, c.loop-number.invariant.1, c.requires.there, add-mul c.loop-number.number-index 1 c.args.width, mul-le (c.loop-number.number-index + 1) c.args.width (length c.args.out.now) c.args.width (omega arith) (omega arith))
