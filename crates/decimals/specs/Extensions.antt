-- Sign extension: a two's complement number in more bytes.
use Rattle.std.specs.Prelude.{◌≡◌, ◌≢◌, ℕ, ◌-◌, Bool, cond, List, [], ◌∷◌, ◌++◌, length, replicate, Some, None, Option, nat_le}

-- the byte that a number can have ahead of it
abbrev pub extension : Bool → ℕ
extension negative = cond negative 255 0

-- b in n bytes
abbrev pub extended : ℕ → Bool → List ℕ → List ℕ
extended n negative b = replicate (n - length b) (extension negative) ++ b

-- whether a number is negative, by its first byte; the empty one has no sign
abbrev pub sign : List ℕ → Option Bool
sign [] = None
sign (x ∷ v) = Some (nat_le 128 x)

-- what asking for the last n bytes of v answers: absent exactly if v is not these, sign-extended
abbrev pub Unextended : ℕ → Bool → List ℕ → Option (List ℕ) → Type 0
Unextended n negative v (Some t) = (length t ≡ n) × (v ≡ extended (length v) negative t)
Unextended n negative v None = (t : List ℕ) → length t ≡ n → v ≢ extended (length v) negative t
