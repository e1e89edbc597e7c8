-- A bound that is kept, as the kind's cuts have it.
use Rattle.kinds.specs.Cuts.{Bound}
use Rattle.entries.specs.declared.bound.StoredBound.{StoredBound}

abbrev pub said_bound : StoredBound → Bound
said_bound b = record { bytes = b.bytes; cut = b.is_cut }
