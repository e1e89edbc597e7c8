use Rattle.std.proofs.Common.{◌≡◌, ◌*◌, ◌++◌, drop, arith}
use Rattle.splits.specs.Streams.{streams}
use Rattle.splits.proofs.Places.{places_behind}
use Rattle.splits.proofs.Writes.{written_none, written_more, written_all}
use Rattle.splits.proofs.streams.write_streams.Goals as goal

pub loop-j-init : goal.loop-j-init
loop-j-init c = written_none _ _ _ _

pub loop-j-preserved : goal.loop-j-preserved
loop-j-preserved c =
    written_more c.args.n c.args.k c.args.values.now c.args.out.now c.loop-j.out c.write_stream.new.out c.loop-j.j c.loop-j.invariant (omega arith) (omega arith) c.write_stream.ensures

pub returns : goal.returns
returns c =
    let e : c.loop-j.out ≡ streams c.args.n c.args.k c.args.values.now ++ drop (c.args.n * c.args.k) c.args.out.now = written_all _ _ _ _ _ _ c.loop-j.invariant (omega arith) in
    record { whole = e; places = places_behind c.args.n c.args.k c.args.values.now (drop (c.args.n * c.args.k) c.args.out.now) c.loop-j.out e }
