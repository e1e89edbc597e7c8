-- The format's kinds of byte strings: BYTE_ARRAY, FIXED_LEN_BYTE_ARRAY, String, and Decimal on either type.
use Rattle.std.specs.Prelude.{◌≡◌, ℕ, ◌≤◌, true, false, Some, None, Option, nat_le, refl}
use Rattle.std.proofs.Common.{arith}
use Rattle.std.proofs.lemmas.Bool.{eqb-true, leb-true, and_parts}
use Rattle.kinds.specs.Orders.{Order}
use Rattle.kinds.specs.Cuts.{Cuts, uncut}
use Rattle.kinds.specs.declared.physical.PhysicalType.{PhysicalType}
use Rattle.kinds.specs.declared.physical.PhysicalType.TheVariants.{ByteArray, FixedLenByteArray}
use Rattle.kinds.specs.Meaning.{Meaning, admitted, thrift}
use Rattle.strings.specs.Lexical.{above}
use Rattle.strings.specs.Cut as bytes
use Rattle.strings.proofs.Orders as order_laws
use Rattle.strings.proofs.Cuts as bytes_laws
use Rattle.texts.specs.Cut as text
use Rattle.texts.proofs.Cuts as text_laws
use Rattle.decimals.specs.Decimals.{decimal}

-- unsigned, byte by byte, a prefix first
abbrev pub lexical : Order
lexical = record { greater = above; one_way = order_laws.one_way; splits = order_laws.splits }

-- cut as bytes
abbrev pub bytes_cuts : Cuts lexical
bytes_cuts = record {
  lower = bytes.lower;
  upper = bytes.upper;
  lower_below = bytes_laws.lower_below;
  upper_above = bytes_laws.upper_above;
  lower_shortens = bytes_laws.lower_shortens;
  upper_shortens = bytes_laws.upper_shortens;
}

-- text cut between characters, and any other string as bytes
abbrev pub text_cuts : Cuts lexical
text_cuts = record {
  lower = text.lower;
  upper = text.upper;
  lower_below = text_laws.lower_below;
  upper_above = text_laws.upper_above;
  lower_shortens = text_laws.lower_shortens;
  upper_shortens = text_laws.upper_shortens;
}

pub few_variable : (w : ℕ) → admitted (Some 0) w ≡ true → w ≤ 128
few_variable w h = omega (arith, eqb-true w 0 h)

pub few_fixed : (w : ℕ) → admitted None w ≡ true → w ≤ 128
few_fixed w h = leb-true w 128 (and_parts (nat_le 1 w) (nat_le w 128) h).1

-- a kind of byte strings on a physical type, by the width that this fixes, its own number, its order and its cuts
abbrev pub on : (p : PhysicalType) (width : Option ℕ) → ((w : ℕ) → admitted width w ≡ true → w ≤ 128) → ℕ → (o : Order) → Cuts o → Meaning
on p width few number o cuts = record {
  number = number;
  physical = thrift p;
  width = width;
  width_few = few;
  order = o;
  has_nan = false;
  nan = λ _. false;
  nan_only = λ _ _. refl;
  cuts = cuts;
}

-- a kind on BYTE_ARRAY, whose values have each its own length
abbrev pub on_byte_array : ℕ → (o : Order) → Cuts o → Meaning
on_byte_array = on ByteArray (Some 0) few_variable

-- a kind on FIXED_LEN_BYTE_ARRAY, whose columns have each its own length
abbrev pub on_fixed : ℕ → (o : Order) → Cuts o → Meaning
on_fixed = on FixedLenByteArray None few_fixed

-- BYTE_ARRAY
abbrev pub byte_array : Meaning
byte_array = on_byte_array 8 lexical bytes_cuts

-- FIXED_LEN_BYTE_ARRAY
abbrev pub fixed_len_byte_array : Meaning
fixed_len_byte_array = on_fixed 9 lexical bytes_cuts

-- String
abbrev pub utf8_string : Meaning
utf8_string = on_byte_array 10 lexical text_cuts

-- Decimal on BYTE_ARRAY
abbrev pub decimal_byte_array : Meaning
decimal_byte_array = on_byte_array 11 decimal (uncut decimal)

-- Decimal on FIXED_LEN_BYTE_ARRAY
abbrev pub decimal_fixed_len_byte_array : Meaning
decimal_fixed_len_byte_array = on_fixed 12 decimal (uncut decimal)
