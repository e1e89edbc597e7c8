use Rattle.std.proofs.Common.{◌+◌, ◌*◌, length, get_or, arith, rules}
use Rattle.std.proofs.lemmas.List.FromFn.{fill_by_all}
use Rattle.splits.proofs.streams.write_stream.Goals as goal

pub returns : goal.returns
returns c = fill_by_all (λ m. get_or c.args.values.now (m * c.args.k + c.args.j) 0) c.loop-i.out (length c.args.out.now) 0 (omega arith) (search rules)
