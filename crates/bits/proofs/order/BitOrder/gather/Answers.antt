use Rattle.std.proofs.Common.{◌≡◌, ◌+◌, ◌*◌, ◌^◌, ◌<◌, get_or, drop, sym, ◌∙◌, subst, add-mul, arith, rules}
use Rattle.std.proofs.lemmas.Nat.{mul-le}
use Rattle.std.proofs.lemmas.List.{get_or-drop}
use Rattle.bits.specs.Rows.{bits_of, row, first}
use Rattle.bits.proofs.Turns.{gathered_none, gathered_more, fit_get}
use Rattle.bits.proofs.order.BitOrder.gather.Goals as goal

pub loop-t-init : goal.loop-t-init
loop-t-init c = gathered_none _ _ _

pub join-acc-requires : goal.join-acc-requires
join-acc-requires c =
    let e : c.unwrap_or-v.result ≡ get_or c.args.src.now (c.args.at + c.loop-t.t) 0 = search rules in
    record {
      few = omega (arith, c.requires.word, add-mul c.loop-t.t 1 c.args.width, mul-le (c.loop-t.t + 1) c.args.width c.args.count c.args.width (omega arith) (omega arith));
      holds = c.loop-t.invariant.0;
      fits = subst (λ n. n < 2 ^ c.args.width) (sym e) (fit_get c.args.width c.args.src.now (c.args.at + c.loop-t.t) c.requires.fit);
    }

pub loop-t-preserved : goal.loop-t-preserved
loop-t-preserved c =
    let e : c.unwrap_or-v.result ≡ get_or c.args.src.now (c.args.at + c.loop-t.t) 0 = search rules in
    gathered_more c.args.self c.args.width (drop c.args.at c.args.src.now) c.loop-t.t c.loop-t.acc c.unwrap_or-v.result c.join-acc.result
    c.loop-t.invariant.1 (e ∙ sym (get_or-drop c.args.at c.args.src.now c.loop-t.t 0)) c.join-acc.ensures.small c.join-acc.ensures.bits

pub returns : goal.returns
returns c =
    let e : c.loop-t.t ≡ c.args.count = omega arith in
    record {
      small = subst (λ n. c.loop-t.acc < 2 ^ (n * c.args.width)) e c.loop-t.invariant.0;
      bits = subst (λ n. bits_of c.args.self (n * c.args.width) c.loop-t.acc ≡ row c.args.self c.args.width (first n (drop c.args.at c.args.src.now))) e c.loop-t.invariant.1;
    }
