-- Worked examples of the kinds of byte strings: decimals, and bounds at a length.
use Rattle.std.specs.Prelude.{◌≡◌, ℕ, true, false, List, [], ◌∷◌}
use Rattle.kinds.specs.Cuts.{Bound, whole}
use Rattle.kinds.specs.Meaning.{Meaning, greater}
use Rattle.strings.specs.Cut.{shortened}
use Rattle.byte_kinds.specs.Kinds.{byte_array, utf8_string, decimal_byte_array}

abbrev pub lower : Meaning → ℕ → List ℕ → Bound
lower m = m.cuts.lower

abbrev pub upper : Meaning → ℕ → List ℕ → Bound
upper m = m.cuts.upper

pub record Examples : Type 0 where
  -- 00 80 is greater than 7F
  pub longer_decimal : greater decimal_byte_array (0x00 ∷ 0x80 ∷ []) (0x7F ∷ []) ≡ true
  -- 00 05 and 05: neither is greater
  pub same_decimal : greater decimal_byte_array (0x00 ∷ 0x05 ∷ []) (0x05 ∷ []) ≡ false
  pub same_decimal_back : greater decimal_byte_array (0x05 ∷ []) (0x00 ∷ 0x05 ∷ []) ≡ false
  -- 61 FF FF 10 at 3
  pub bytes_below : lower byte_array 3 (0x61 ∷ 0xFF ∷ 0xFF ∷ 0x10 ∷ []) ≡ shortened (0x61 ∷ 0xFF ∷ 0xFF ∷ [])
  pub bytes_above : upper byte_array 3 (0x61 ∷ 0xFF ∷ 0xFF ∷ 0x10 ∷ []) ≡ shortened (0x62 ∷ 0x00 ∷ 0x00 ∷ [])
  -- FF FF FF at 2
  pub full_below : lower byte_array 2 (0xFF ∷ 0xFF ∷ 0xFF ∷ []) ≡ shortened (0xFF ∷ 0xFF ∷ [])
  pub full_above : upper byte_array 2 (0xFF ∷ 0xFF ∷ 0xFF ∷ []) ≡ whole (0xFF ∷ 0xFF ∷ 0xFF ∷ [])
  -- text 61 C3 A9 7A at 2 and at 3
  pub text_below_2 : lower utf8_string 2 (0x61 ∷ 0xC3 ∷ 0xA9 ∷ 0x7A ∷ []) ≡ shortened (0x61 ∷ [])
  pub text_above_2 : upper utf8_string 2 (0x61 ∷ 0xC3 ∷ 0xA9 ∷ 0x7A ∷ []) ≡ shortened (0x62 ∷ [])
  pub text_below_3 : lower utf8_string 3 (0x61 ∷ 0xC3 ∷ 0xA9 ∷ 0x7A ∷ []) ≡ shortened (0x61 ∷ 0xC3 ∷ 0xA9 ∷ [])
  pub text_above_3 : upper utf8_string 3 (0x61 ∷ 0xC3 ∷ 0xA9 ∷ 0x7A ∷ []) ≡ shortened (0x61 ∷ 0xC3 ∷ 0xAA ∷ [])
