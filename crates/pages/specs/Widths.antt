-- The bit width of a level list, from its maximum.
use Rattle.std.specs.Prelude.{ℕ, zero, suc, ◌+◌, ◌^◌, cond, nat_le}

-- how many of the first k powers of two are at most n
abbrev pub powers : ℕ → ℕ → ℕ
powers zero n = 0
powers (suc k) n = cond (nat_le (2 ^ k) n) 1 0 + powers k n

-- the number of bits of a maximum level, which has at most eight
abbrev pub bit_length : ℕ → ℕ
bit_length n = powers 8 n
