use Rattle.std.proofs.Common.{◌≡◌}
use Rattle.std.specs.Iterator.Adapters.{rev_source}
use Rattle.std.specs.Str.Iter.{char_indices_rest, char_indices_offset}
use Rattle.texts.proofs.Raises.{Back}
use Rattle.texts.proofs.increment.last_raised.Given as goal

abbrev pub invariant-loop-at : goal.invariant-loop-at
invariant-loop-at l = (char_indices_offset (rev_source l.at-iterator) ≡ 0) × Back l.text (char_indices_rest (rev_source l.at-iterator))
