use Rattle.std.proofs.Common.{◌+◌, arith}
use Rattle.std.proofs.lemmas.Option.{slice_get_past}
use Rattle.sinks_tests.proofs.Returning.{absent}
use Rattle.sinks_tests.proofs.spool.Spool.read.Goals as goal

pub returns-then-saturating_sub-k : goal.returns-then-saturating_sub-k
returns-then-saturating_sub-k g c =
    let s = c.args.self.now in
    let ps = g.S.PageStore.meaning.pages s.sink in
    absent ps (s.base + c.args.k) c.args.out.now (slice_get_past ps (s.base + c.args.k) (omega arith))
