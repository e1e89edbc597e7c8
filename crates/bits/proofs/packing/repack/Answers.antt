use Rattle.std.proofs.Common.{◌*◌, ◌<◌, ◌≤◌, length, arith}
use Rattle.bits.proofs.Cuts.{turned_none, turned_more, turned_all, repacked_empty, some_bits, turn_begins, turns_reach}
use Rattle.bits.proofs.packing.repack.Goals as goal

pub returns-then-is_empty : goal.returns-then-is_empty
returns-then-is_empty c = repacked_empty c.args.order c.args.p c.args.q c.args.src.now c.args.out.now (grind arith)

pub loop-turn-init : goal.loop-turn-init
loop-turn-init c = turned_none _ _ _ _ _

pub loop-turn-preserved : goal.loop-turn-preserved
loop-turn-preserved c =
    let some : 0 < c.args.p = some_bits c.args.p (length c.args.out.now) c.requires.some (grind arith) in
    let lt : c.loop-turn.turn * c.args.p < length c.args.out.now = turn_begins c.loop-turn.turn (length c.args.out.now) c.args.p some (grind arith) in
    turned_more c.args.order c.args.p c.args.q c.args.src.now c.loop-turn.out c.spread.new.out c.loop-turn.turn c.min-to.result c.gather-word.result c.loop-turn.invariant
    (omega arith) (omega arith) c.spread.auto.out c.gather-word.ensures.bits c.spread.ensures

pub returns : goal.returns
returns c =
    let some : 0 < c.args.p = some_bits c.args.p (length c.args.out.now) c.requires.some (grind arith) in
    let whole : length c.args.out.now ≤ c.loop-turn.turn * c.args.p = turns_reach c.loop-turn.turn (length c.args.out.now) c.args.p some (grind arith) in
    turned_all c.args.order c.args.p c.args.q c.args.src.now c.loop-turn.out c.loop-turn.turn (length c.args.out.now) c.loop-turn.invariant (omega arith) (omega arith)
