use Rattle.std.proofs.Common.{◌<◌, length, get_or, arith}
use Rattle.std.proofs.lemmas.List.{get_or-map}
use Rattle.runs.proofs.Playing.{so_far_none, so_far_more, so_far_all}
use Rattle.runs.proofs.replaying.play_all.Goals as goal

pub loop-at-init : goal.loop-at-init
loop-at-init g c = so_far_none g.V.ValueOf.bytes c.args.chunk.now.state c.args.scratch.now c.args.calls.now

pub loop-at-preserved : goal.loop-at-preserved
loop-at-preserved g c =
    let d = c.index-calls-at.result in
    let call = (get_or c.loop-at.calls c.loop-at.at d).call in
    let few : c.loop-at.at < length c.loop-at.calls = omega (arith, c.loop-at-test.true, c.loop-at.auto.calls) in
    so_far_more g.V.ValueOf.bytes c.args.chunk.now.state c.args.scratch.now c.args.calls.now c.loop-at.calls c.loop-at.at
    c.loop-at.chunk.state c.loop-at.scratch call c.play-answer.result c.play-answer.new.chunk.state c.play-answer.new.scratch
    few (get_or-map (λ p. p.call) c.loop-at.calls c.loop-at.at d call few) c.loop-at.invariant c.play-answer.ensures.called

pub returns-clause-played : goal.returns-clause-played
returns-clause-played g c =
    so_far_all g.V.ValueOf.bytes c.args.chunk.now.state c.args.scratch.now c.args.calls.now c.loop-at.calls c.loop-at.at c.loop-at.chunk.state c.loop-at.scratch
    (omega (arith, c.loop-at-test.false, c.loop-at.auto.calls, c.loop-at.auto.at-end)) c.loop-at.invariant
