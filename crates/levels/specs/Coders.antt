-- The two coders of levels, with their numbers in the format and where they may stand.
use Rattle.std.specs.Prelude.{◌+◌, ◌*◌, true, false, length}
use Rattle.std.proofs.Common.{arith}
use Rattle.std.proofs.lemmas.Nat.{mul-le}
use Rattle.bits.specs.declared.order.BitOrder.TheVariants.{MostFirst}
use Rattle.bits.specs.Packing.{groups}
use Rattle.bits.proofs.Cuts.{length-packed}
use Rattle.level_coder.specs.Coding.{Coding}
use Rattle.levels.specs.Formats.{header, bytes_for, packed_coded, legacy_coded}
use Rattle.levels.specs.Laws.{uleb_short, packed-sized, packed_unique, legacy_unique}

-- RLE, number 3: version 1 puts a length before it, version 2 admits it
abbrev pub packed_coding : Coding
packed_coding = record {
  number = 3;
  framed = true;
  second = true;
  size = λ n b. length (header n) + groups n * b;
  coded = packed_coded;
  sized = packed-sized;
  short = λ n b few narrow. omega (arith, mul-le (groups n) b 128 4 (omega arith) narrow, uleb_short (2 * groups n + 1) (omega arith));
  unique = packed_unique;
}

-- BIT_PACKED, number 4: no length before it, version 2 does not admit it
abbrev pub legacy_coding : Coding
legacy_coding = record {
  number = 4;
  framed = false;
  second = false;
  size = λ n b. bytes_for (n * b);
  coded = legacy_coded;
  sized = λ b ls. length-packed MostFirst b (bytes_for (length ls * b)) ls;
  short = λ n b few narrow. omega (arith, mul-le n b 1024 4 few narrow);
  unique = legacy_unique;
}
