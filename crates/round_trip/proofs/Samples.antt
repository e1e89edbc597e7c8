-- The definitions give the format's own examples: each side is computed.
use Rattle.std.proofs.Common.{◌≡◌, [], ◌∷◌, refl}
use Rattle.bits.specs.Rows.{bits_of, value_of, row, cut, packed}
use Rattle.levels.specs.Formats.{uleb, packed_coded, legacy_coded}
use Rattle.splits.specs.Streams.{streams}
use Rattle.bodies.specs.Splits.{split_coded}

pub packed_sample : packed_coded 3 (0 ∷ 1 ∷ 2 ∷ 3 ∷ 4 ∷ 5 ∷ 6 ∷ 7 ∷ []) ≡ 0x03 ∷ 0x88 ∷ 0xC6 ∷ 0xFA ∷ []
unfolding uleb packed cut row bits_of value_of
packed_sample = refl

pub legacy_sample : legacy_coded 3 (0 ∷ 1 ∷ 2 ∷ 3 ∷ 4 ∷ 5 ∷ 6 ∷ 7 ∷ []) ≡ 0x05 ∷ 0x39 ∷ 0x77 ∷ []
unfolding packed cut row bits_of value_of
legacy_sample = refl

pub split_sample : split_coded 4 (0xAA ∷ 0xBB ∷ 0xCC ∷ 0xDD ∷ 0x00 ∷ 0x11 ∷ 0x22 ∷ 0x33 ∷ 0xA3 ∷ 0xB4 ∷ 0xC5 ∷ 0xD6 ∷ [])
    ≡ 0xAA ∷ 0x00 ∷ 0xA3 ∷ 0xBB ∷ 0x11 ∷ 0xB4 ∷ 0xCC ∷ 0x22 ∷ 0xC5 ∷ 0xDD ∷ 0x33 ∷ 0xD6 ∷ []
unfolding streams
split_sample = refl
