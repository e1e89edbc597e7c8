use Rattle.std.proofs.Common.{map}
use Rattle.open_page.proofs.Filling.{PlainsSoFar}
use Rattle.open_page.proofs.values.put_values.Given as goal

abbrev pub invariant-loop-value : goal.invariant-loop-value
invariant-loop-value g l = PlainsSoFar (map g.V.ValueOf.bytes l.values) l.value-index l.initial.plain l.plain
