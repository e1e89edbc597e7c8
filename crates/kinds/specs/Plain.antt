-- Values as the format's PLAIN encoding lays them down, over the column's width: 0 is BYTE_ARRAY, which holds 0 to 128 bytes,
-- and any other width is that many bytes.
use Rattle.std.specs.Prelude.{◌≡◌, ℕ, ◌/◌, ◌%◌, ◌<◌, ◌≤◌, Bool, true, false, cond, List, [], ◌∷◌, ◌++◌, length, drop, Some, None, Option, ◌==◌, ◌≢◌, nat_le}
use Rattle.std.specs.Borrow.{Bor}

-- whether a byte string has the length of a value of that width
abbrev pub sized : ℕ → List ℕ → Bool
sized w v = cond (w == 0) (nat_le (length v) 128) (length v == w)

-- a number's four little-endian bytes
abbrev pub four : ℕ → List ℕ
four n = n % 256 ∷ n / 256 % 256 ∷ n / 65536 % 256 ∷ n / 16777216 % 256 ∷ []

-- a value's plain bytes: a BYTE_ARRAY has its length in four little-endian bytes before it
abbrev pub plain : ℕ → List ℕ → List ℕ
plain w v = cond (w == 0) (four (length v) ++ v) v

-- what asking for the plain size of a value answers: absent exactly if the value's length is wrong, and at most 132
-- at a width that a column may have
abbrev pub PlainSize : ℕ → List ℕ → Option ℕ → Type 0
PlainSize w v (Some n) = (sized w v ≡ true) × (n ≡ length (plain w v)) × (w ≤ 128 → n ≤ 132)
PlainSize w v None = sized w v ≡ false

-- what laying bytes at the front of old answers and leaves: absent, and nothing changed, exactly if they do not fit
abbrev pub Laid : List ℕ → List ℕ → List ℕ → Option ℕ → Type 0
Laid bs old new (Some n) = (n ≡ length bs) × (length bs ≤ length old) × (new ≡ bs ++ drop (length bs) old)
Laid bs old new None = (length old < length bs) × (new ≡ old)

-- what reading one value off the front of bytes answers: the value and the number of its plain bytes,
-- absent exactly if no value's plain bytes stand there
abbrev pub Reads : ℕ → List ℕ → Option (List ℕ × ℕ) → Type 0
Reads w bs (Some r) = (sized w r.0 ≡ true) × (r.1 ≡ length (plain w r.0)) × (bs ≡ plain w r.0 ++ drop r.1 bs)
Reads w bs None = (v rest : List ℕ) → sized w v ≡ true → bs ≢ plain w v ++ rest

-- plain bytes with anything behind them read back as the value and their number
abbrev pub ReadsBack : ℕ → List ℕ → Option (List ℕ × ℕ) → Type 0
ReadsBack w bs r = (v rest : List ℕ) → sized w v ≡ true → bs ≡ plain w v ++ rest → r ≡ Some (v, length (plain w v))

-- a value that was read, and the number of its plain bytes
abbrev pub seen : Option (Bor (List ℕ) × ℕ) → Option (List ℕ × ℕ)
seen None = None
seen (Some p) = Some (p.0.now, p.1)
