use Rattle.std.proofs.Common.{length, map, take}
use Rattle.figures.proofs.Walk.{Added}
use Rattle.figures.proofs.get.add_to_numbers.Given as goal

abbrev pub invariant-loop-value : goal.invariant-loop-value
invariant-loop-value g l =
    let bytes = g.V.ValueOf.bytes in
    Added g.K.Kind.meaning g.K.Kind.rank bytes l.fn.figures (length l.values) l.value-index (map bytes (take l.value-index l.values)) l.min l.max l.nan_count
