-- What a lead byte says of its character, from the Unicode standard's table of well-formed UTF-8 byte sequences.
use Rattle.std.specs.Prelude.{◌≡◌, ℕ, ◌<◌, Bool, true, ◌&&◌, cond, List, [], ◌∷◌, ◌++◌, length, replicate, ◌==◌, nat_lt, nat_le}
use Rattle.std.specs.List.{list_all}
use Rattle.texts.specs.Unicode.{Char}

-- the length of the character that a byte begins, or 0
abbrev pub lead_length_of : ℕ → ℕ
lead_length_of b =
    cond (nat_lt b 0x80) 1 (cond (nat_lt b 0xC2) 0 (cond (nat_lt b 0xE0) 2 (cond (nat_lt b 0xF0) 3 (cond (nat_lt b 0xF5) 4 0))))

-- the same for all 256 bytes in a row
abbrev pub lengths : List ℕ
lengths = replicate 128 1 ++ (replicate 66 0 ++ (replicate 30 2 ++ (replicate 16 3 ++ (replicate 5 4 ++ replicate 11 0))))

-- n is the length of each character that b begins, and 0 only where b begins none
pub record Leads (b n : ℕ) : Type 0 where
  pub long : (xs : List ℕ) → Char (b ∷ xs) → length (b ∷ xs) ≡ n
  pub some : 0 < n → (xs : List ℕ) × Char (b ∷ xs)

-- the least and the greatest second byte after a lead byte
abbrev pub least : ℕ → ℕ
least x = cond (x == 0xE0) 0xA0 (cond (x == 0xF0) 0x90 0x80)

abbrev pub most : ℕ → ℕ
most x = cond (x == 0xED) 0x9F (cond (x == 0xF4) 0x8F 0xBF)

-- a byte may come second after a lead byte, and third or fourth
abbrev pub second : ℕ → ℕ → Bool
second x y = nat_le (least x) y && nat_le y (most x)

abbrev pub follower : ℕ → Bool
follower y = nat_le 0x80 y && nat_le y 0xBF

-- these bytes may come after a lead byte
abbrev pub fits : ℕ → List ℕ → Bool
fits x [] = true
fits x (y ∷ ys) = second x y && list_all follower ys
