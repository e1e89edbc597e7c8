-- The format's order of undecorated bytes and of text: unsigned, byte by byte, a prefix first.
use Rattle.std.specs.Prelude.{ℕ, ◌<◌, Bool, true, false, cond, List, [], ◌∷◌, ◌==◌, nat_lt}

-- a is greater than b
abbrev pub above : List ℕ → List ℕ → Bool
above [] b = false
above (x ∷ a) [] = true
above (x ∷ a) (y ∷ b) = cond (x == y) (above a b) (nat_lt y x)

-- each element is a byte
abbrev pub Bytes : List ℕ → Type 0
Bytes [] = Unit {0}
Bytes (x ∷ xs) = (x < 256) × Bytes xs
