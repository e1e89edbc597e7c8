use Rattle.std.proofs.Common.{◌<◌, length, ap, ◌∙◌, arith}
use Rattle.runs.specs.Runs.{call_of}
use Rattle.rebuild.specs.Readings.{hold_bytes}
use Rattle.rebuild.proofs.Laying.{laid_none, laid_more, laid_all}
use Rattle.rebuild.proofs.calls.lay_calls.Goals as goal

pub loop-at-init : goal.loop-at-init
loop-at-init c = laid_none c.args.holds.now c.args.calls.now

pub loop-at-preserved : goal.loop-at-preserved
loop-at-preserved c =
    let few : c.loop-at.at < length c.loop-at.calls = omega (arith, c.loop-at-test.true, c.loop-at.auto.calls) in
    laid_more c.args.holds.now c.args.calls.now c.loop-at.calls c.loop-at.at c.unplayed.result few c.loop-at.invariant (ap (call_of hold_bytes) c.unplayed.ensures ∙ c.call_at.ensures)

pub returns : goal.returns
returns c = laid_all c.args.holds.now c.args.calls.now c.loop-at.calls c.loop-at.at (omega (arith, c.loop-at-test.false, c.loop-at.auto.calls, c.loop-at.auto.at-end)) c.loop-at.invariant
