-- What a kind of values means: its numbers in the format, its order, its NaN and its cuts.
use Rattle.std.specs.Prelude.{◌≡◌, ℕ, ◌≤◌, Bool, true, false, ◌&&◌, List, Some, None, Option, ◌==◌, nat_le}
use Rattle.std.proofs.Common.{arith}
use Rattle.std.proofs.lemmas.Bool.{eqb-true}
use Rattle.kinds.specs.declared.physical.PhysicalType.{PhysicalType}
use Rattle.kinds.specs.declared.physical.PhysicalType.TheVariants.{Int32, Int64, Float, Double, ByteArray, FixedLenByteArray}
use Rattle.kinds.specs.declared.descriptor.Descriptor.{Descriptor}
use Rattle.kinds.specs.Orders.{Order}
use Rattle.kinds.specs.Cuts.{Cuts}

-- a physical type's number in parquet.thrift
abbrev pub thrift : PhysicalType → ℕ
thrift Int32 = 1
thrift Int64 = 2
thrift Float = 4
thrift Double = 5
thrift ByteArray = 6
thrift FixedLenByteArray = 7

-- whether a column may have the width, where the kind fixes one or leaves it to the column
abbrev pub admitted : Option ℕ → ℕ → Bool
admitted (Some k) w = w == k
admitted None w = nat_le 1 w && nat_le w 128

-- a fixed width of at most 128 bytes is the only one admitted
pub fixed_few : (k : ℕ) → k ≤ 128 → (w : ℕ) → admitted (Some k) w ≡ true → w ≤ 128
fixed_few k h w e = omega (arith, eqb-true w k e)

pub record Meaning : Type 0 where
  -- the kind's own number, and that of its physical type
  pub number : ℕ
  pub physical : ℕ
  -- the width, absent where each column has its own; 0 is BYTE_ARRAY
  pub width : Option ℕ
  pub width_few : (w : ℕ) → admitted width w ≡ true → w ≤ 128
  pub order : Order
  -- whether the kind has NaN, and which values are
  pub has_nan : Bool
  pub nan : List ℕ → Bool
  pub nan_only : has_nan ≡ false → (v : List ℕ) → nan v ≡ false
  pub cuts : Cuts order

-- a is greater than b
abbrev pub greater : Meaning → List ℕ → List ℕ → Bool
greater m = m.order.greater

-- a descriptor has the kind's numbers
pub record Describes (m : Meaning) (d : Descriptor) : Type 0 where
  pub number : d.number ≡ m.number
  pub physical : thrift d.physical_type ≡ m.physical
  pub width : d.width ≡ m.width
  pub has_nan : d.has_nan ≡ m.has_nan
