-- Byte strings as big-endian numbers: the first byte is the most significant.
use Rattle.std.specs.Prelude.{ℕ, zero, suc, ◌+◌, ◌*◌, ◌/◌, ◌%◌, ◌^◌, cond, List, [], ◌∷◌, length, take, Some, None, Option, nat_lt}

-- the number that bytes write
abbrev pub number : List ℕ → ℕ
number [] = 0
number (x ∷ xs) = x * 256 ^ length xs + number xs

-- a number in l bytes
abbrev pub digits : ℕ → ℕ → List ℕ
digits zero n = []
digits (suc l) n = n / 256 ^ l ∷ digits l (n % 256 ^ l)

-- the number that the first four bytes write, of a string that has so many
abbrev pub front : List ℕ → Option ℕ
front v = cond (nat_lt (length v) 4) None (Some (number (take 4 v)))
