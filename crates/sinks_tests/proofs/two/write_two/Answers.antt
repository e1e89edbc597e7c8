use Rattle.sinks_tests.proofs.Returning.{both_from_grown}
use Rattle.sinks_tests.proofs.two.write_two.Goals as goal

pub returns : goal.returns
returns g c =
    let one = c.in_ok-write.ensures in
    let two = c.in_ok-write-2.ensures in (
      one.0,
      both_from_grown g.S.PageStore.meaning c.args.sink.now c.write.new.self c.write-2.new.self c.args.first.now c.args.second.now _ _ c.count-k.result c.args.out.now c.copy.new.out c.copy.result one.1 two.1 c.count-k.ensures.exact c.copy.ensures,
    )
