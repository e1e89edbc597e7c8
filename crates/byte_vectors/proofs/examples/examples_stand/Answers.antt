use Rattle.std.proofs.Common.{refl}
use lib.Utf8.{encode}
use Rattle.std.specs.Str.{chars}
use Rattle.byte_vectors.proofs.examples.examples_stand.Goals as goal

pub returns : goal.returns
unfolding chars encode
returns c = record {
  value = c.longer_decimal.ensures;
  examples = record {
    longer_decimal = refl;
    same_decimal = refl;
    same_decimal_back = refl;
    bytes_below = refl;
    bytes_above = refl;
    full_below = refl;
    full_above = refl;
    text_below_2 = refl;
    text_above_2 = refl;
    text_below_3 = refl;
    text_above_3 = refl;
  };
}
