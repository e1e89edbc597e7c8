-- The total order of a format's data, clause by clause from IEEE 754 (5.10). A datum of a binary format has one
-- representation, so the clause on exponents of equal decimal numbers has no case here.
use Rattle.std.specs.Prelude.{ℕ, ◌+◌, ◌-◌, ◌%◌, ◌^◌, Bool, true, false, cond, not, ◌&&◌, ℤ, pos, neg_ℤ, int_lt, nat_le}
use Rattle.ieee.specs.Formats.{Format, Datum, finite, infinite, nan, datum, negative}

-- a size with its sign
abbrev pub signed : Bool → ℕ → ℤ
signed true m = neg_ℤ (pos m)
signed false m = pos m

-- x < y, of numbers, by value; NaN is unordered
abbrev pub less : Datum → Datum → Bool
less (finite s m) (finite t n) = int_lt (signed s m) (signed t n)
less (finite s m) (infinite t) = not t
less (finite s m) (nan t r o) = false
less (infinite s) (finite t n) = s
less (infinite s) (infinite t) = s && not t
less (infinite s) (nan t r o) = false
less (nan s q p) y = false

-- numbers: x < y is in order, x > y is not; of equal ones -0 stands before +0, and a datum before itself
abbrev pub numbers_ordered : Bool → Bool → Bool → Bool → Bool
numbers_ordered x<y y<x s t = cond x<y true (cond y<x false (cond s true (not t)))

-- NaN of one sign: signaling before quiet, then the lesser payload; the reverse where both are negative
abbrev pub nans_ordered : Bool → Bool → ℕ → Bool → ℕ → Bool
nans_ordered false true p true o = nat_le p o
nans_ordered false false p false o = nat_le p o
nans_ordered false false p true o = true
nans_ordered false true p false o = false
nans_ordered true true p true o = nat_le o p
nans_ordered true false p false o = nat_le o p
nans_ordered true false p true o = false
nans_ordered true true p false o = true

-- whether x comes before y or is y
abbrev pub total_order : Datum → Datum → Bool
total_order (finite s m) (finite t n) = numbers_ordered (less (finite s m) (finite t n)) (less (finite t n) (finite s m)) s t
total_order (finite s m) (infinite t) = numbers_ordered (less (finite s m) (infinite t)) (less (infinite t) (finite s m)) s t
total_order (infinite s) (finite t n) = numbers_ordered (less (infinite s) (finite t n)) (less (finite t n) (infinite s)) s t
total_order (infinite s) (infinite t) = numbers_ordered (less (infinite s) (infinite t)) (less (infinite t) (infinite s)) s t
total_order (nan s q p) (finite t n) = s
total_order (nan s q p) (infinite t) = s
total_order (finite s m) (nan t r o) = not t
total_order (infinite s) (nan t r o) = not t
total_order (nan true q p) (nan false r o) = true
total_order (nan false q p) (nan true r o) = false
total_order (nan false q p) (nan false r o) = nans_ordered false q p r o
total_order (nan true q p) (nan true r o) = nans_ordered true q p r o

-- of two bit patterns, whether the first comes after the second
abbrev pub above : Format → ℕ → ℕ → Bool
above f a b = not (total_order (datum f a) (datum f b))

-- the rank by which patterns compare as numbers: negative ones from the back, then the others
abbrev pub rank : Format → ℕ → ℕ
rank f n =
    cond (negative f n)
    (2 ^ (f.exponent + f.significand) - 1 - n % 2 ^ (f.exponent + f.significand))
    (2 ^ (f.exponent + f.significand) + n % 2 ^ (f.exponent + f.significand))
