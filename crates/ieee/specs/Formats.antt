-- Binary interchange formats, from IEEE 754 (3.4): what a bit pattern stands for.
use Rattle.std.specs.Prelude.{ℕ, ◌+◌, ◌-◌, ◌*◌, ◌/◌, ◌%◌, ◌^◌, Bool, true, false, cond, ◌==◌, nat_le}

-- a format, by the widths of its exponent field and of its trailing significand field
pub record Format : Type 0 where
  pub exponent : ℕ
  pub significand : ℕ

abbrev pub binary16 : Format
binary16 = record { exponent = 5; significand = 10 }

abbrev pub binary32 : Format
binary32 = record { exponent = 8; significand = 23 }

abbrev pub binary64 : Format
binary64 = record { exponent = 11; significand = 52 }

-- the three fields of a pattern: the sign, the biased exponent, the trailing significand
abbrev pub negative : Format → ℕ → Bool
negative f n = nat_le 1 (n / 2 ^ (f.exponent + f.significand))

abbrev pub biased : Format → ℕ → ℕ
biased f n = n / 2 ^ f.significand % 2 ^ f.exponent

abbrev pub trailing : Format → ℕ → ℕ
trailing f n = n % 2 ^ f.significand

-- a floating-point datum; `true` is the negative sign
pub data Datum : Type 0 where
  -- a finite number: its sign, and its size counted in the least positive number of the format
  finite : Bool → ℕ → Datum
  infinite : Bool → Datum
  -- NaN: its sign, whether it is quiet, and its payload
  nan : Bool → Bool → ℕ → Datum

-- the size of a finite number: below the least exponent the trailing significand itself, else that with
-- its leading one, shifted by the exponent
abbrev pub size : Format → ℕ → ℕ → ℕ
size f e t = cond (e == 0) t ((2 ^ f.significand + t) * 2 ^ (e - 1))

-- the first bit of a NaN's trailing significand says that it is quiet, the others are its payload
abbrev pub quiet : Format → ℕ → Bool
quiet f t = nat_le (2 ^ (f.significand - 1)) t

abbrev pub payload : Format → ℕ → ℕ
payload f t = t % 2 ^ (f.significand - 1)

-- an exponent field of ones is infinity where the trailing significand is 0, else NaN
abbrev pub datum_of : Format → Bool → ℕ → ℕ → Datum
datum_of f s e t =
    cond (e == 2 ^ f.exponent - 1)
    (cond (t == 0) (infinite s) (nan s (quiet f t) (payload f t)))
    (finite s (size f e t))

abbrev pub datum : Format → ℕ → Datum
datum f n = datum_of f (negative f n) (biased f n) (trailing f n)

abbrev pub is_nan : Datum → Bool
is_nan (finite s m) = false
is_nan (infinite s) = false
is_nan (nan s q p) = true
