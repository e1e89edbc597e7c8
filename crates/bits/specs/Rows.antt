-- Numbers as rows of bits, in either order: from the Parquet format's encodings text, its sections on bit packing.
use Rattle.std.specs.Prelude.{ℕ, zero, suc, ◌+◌, ◌-◌, ◌*◌, ◌/◌, ◌%◌, ◌^◌, ◌<◌, Bool, false, cond, List, [], ◌∷◌, ◌++◌, reverse, length, take, drop, replicate, ◌==◌}
use Rattle.std.specs.List.{flat_map, AllByRecursion}
use Rattle.bits.specs.declared.order.BitOrder.{BitOrder}
use Rattle.bits.specs.declared.order.BitOrder.TheVariants.{LeastFirst, MostFirst}

-- bits listed from the least significant one on, in the order asked for, and back
abbrev pub turned : BitOrder → List Bool → List Bool
turned LeastFirst bs = bs
turned MostFirst bs = reverse bs

-- the lowest k bits of v, the least significant one first
abbrev pub low_bits : ℕ → ℕ → List Bool
low_bits zero v = []
low_bits (suc k) v = (v % 2 == 1) ∷ low_bits k (v / 2)

-- the number that bits write, the least significant one first
abbrev pub bit_sum : List Bool → ℕ
bit_sum [] = 0
bit_sum (b ∷ bs) = cond b 1 0 + 2 * bit_sum bs

-- the k bits of v in the order o
unfoldable pub bits_of : BitOrder → ℕ → ℕ → List Bool
bits_of o k v = turned o (low_bits k v)

-- the number that bits in the order o write
unfoldable pub value_of : BitOrder → List Bool → ℕ
value_of o bs = bit_sum (turned o bs)

-- numbers of k bits each, packed back to back
unfoldable pub row : BitOrder → ℕ → List ℕ → List Bool
row o k vs = flat_map (bits_of o k) vs

-- the first n numbers of k bits each in a row of bits
unfoldable pub cut : BitOrder → ℕ → ℕ → List Bool → List ℕ
cut o k zero bs = []
cut o k (suc n) bs = value_of o (take k bs) ∷ cut o k n (drop k bs)

-- levels of b bits each, packed back to back into k bytes, the rest of them filled with 0
unfoldable pub packed : BitOrder → ℕ → ℕ → List ℕ → List ℕ
packed o b k ls = cut o 8 k (row o b ls ++ replicate (8 * k - length ls * b) false)

-- each number has at most b bits
abbrev pub Fit : ℕ → List ℕ → Type 0
Fit b ls = AllByRecursion (λ l. l < 2 ^ b) ls

-- the first n numbers of a list, 0 behind its last
unfoldable pub first : ℕ → List ℕ → List ℕ
first zero vs = []
first (suc n) [] = 0 ∷ first n []
first (suc n) (v ∷ vs) = v ∷ first n vs
