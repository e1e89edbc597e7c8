use Rattle.std.proofs.Common.{refl}
use lib.Utf8.{encode}
use Rattle.std.specs.Str.{chars}
use Rattle.bits.specs.Rows.{bits_of, value_of, row, cut, packed}
use Rattle.levels.specs.Formats.{uleb}
use Rattle.splits.specs.Streams.{streams}
use Rattle.worked.proofs.examples.worked_examples.Goals as goal

pub returns-clause-examples : goal.returns-clause-examples
unfolding chars encode uleb packed cut row bits_of value_of streams
returns-clause-examples c = record {
  longer_decimal = refl;
  same_decimal = (refl, refl);
  zeros = refl;
  nan_passed_over = (refl, refl, refl);
  bytes_carried = (refl, refl);
  bytes_full = (refl, refl);
  text_between = ((refl, refl), (refl, refl));
  levels_coded = (refl, refl);
  values_split = refl;
  nested_counts = (refl, refl, refl);
  bounds_unordered = (refl, refl, refl, refl, refl);
}
