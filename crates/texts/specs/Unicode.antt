-- Text, from the Unicode standard: the table of well-formed UTF-8 byte sequences, and code points in order.
use Rattle.std.specs.Prelude.{ℕ, ◌+◌, Bool, true, false, ◌&&◌, List, [], ◌∷◌, ◌++◌, ◌==◌}
use Rattle.std.proofs.Math.Utf8.{scalar, scalars, encodes}
use Rattle.std.specs.Int.{IsInRange}
use Rattle.std.specs.Char.{len_utf8}
use Rattle.std.specs.Str.{chars}

-- one character, by the rows of the table: E0, ED, F0 and F4 restrict the second byte
pub data Char : List ℕ → Type 0 where
  one : (a : ℕ) → IsInRange 0x00 0x7F a → Char (a ∷ [])
  two : (a b : ℕ) → IsInRange 0xC2 0xDF a → IsInRange 0x80 0xBF b → Char (a ∷ b ∷ [])
  three_e0 : (b c : ℕ) → IsInRange 0xA0 0xBF b → IsInRange 0x80 0xBF c → Char (0xE0 ∷ b ∷ c ∷ [])
  three_low : (a b c : ℕ) → IsInRange 0xE1 0xEC a → IsInRange 0x80 0xBF b → IsInRange 0x80 0xBF c → Char (a ∷ b ∷ c ∷ [])
  three_ed : (b c : ℕ) → IsInRange 0x80 0x9F b → IsInRange 0x80 0xBF c → Char (0xED ∷ b ∷ c ∷ [])
  three_high : (a b c : ℕ) → IsInRange 0xEE 0xEF a → IsInRange 0x80 0xBF b → IsInRange 0x80 0xBF c → Char (a ∷ b ∷ c ∷ [])
  four_f0 : (b c d : ℕ) → IsInRange 0x90 0xBF b → IsInRange 0x80 0xBF c → IsInRange 0x80 0xBF d → Char (0xF0 ∷ b ∷ c ∷ d ∷ [])
  four : (a b c d : ℕ) → IsInRange 0xF1 0xF3 a → IsInRange 0x80 0xBF b → IsInRange 0x80 0xBF c → IsInRange 0x80 0xBF d → Char (a ∷ b ∷ c ∷ d ∷ [])
  four_f4 : (b c d : ℕ) → IsInRange 0x80 0x8F b → IsInRange 0x80 0xBF c → IsInRange 0x80 0xBF d → Char (0xF4 ∷ b ∷ c ∷ d ∷ [])

-- text is one character after the other
pub data Text : List ℕ → Type 0 where
  none : Text []
  more : (x xs : List ℕ) → Char x → Text xs → Text (x ++ xs)

-- two byte strings are the same
abbrev pub same : List ℕ → List ℕ → Bool
same [] [] = true
same [] (y ∷ ys) = false
same (x ∷ xs) [] = false
same (x ∷ xs) (y ∷ ys) = x == y && same xs ys

-- the test for text: the code points that bytes decode to are characters, and are encoded as these bytes
abbrev pub is_text : List ℕ → Bool
is_text bs = scalars (chars bs) && same (encodes (chars bs)) bs

-- a code point has a successor that is a character of equal length
abbrev pub raises : ℕ → Bool
raises c = scalar (c + 1) && len_utf8 (c + 1) == len_utf8 c
