-- What packing and reading answer, for every input.
use Rattle.std.specs.Prelude.{◌≡◌, ℕ, ◌+◌, ◌*◌, ◌/◌, ◌≤◌, List, length, Some, None, Option}
use Rattle.bits.specs.declared.order.BitOrder.{BitOrder}
use Rattle.bits.specs.Rows.{row, cut, first, packed, Fit}

-- how many groups of eight hold n levels
abbrev pub groups : ℕ → ℕ
groups n = (n + 7) / 8

-- k bytes hold n levels of b bits, and no more than their groups of eight take
pub record Room (n b k : ℕ) : Type 0 where
  pub few : n ≤ 1024
  pub narrow : b ≤ 4
  pub holds : n * b ≤ 8 * k
  pub grouped : k ≤ groups n * b

-- the bytes are those that n levels of b bits are packed into
pub record Written (o : BitOrder) (b n : ℕ) (bytes : List ℕ) : Type 0 where
  pub levels : List ℕ
  pub count : length levels ≡ n
  pub fit : Fit b levels
  pub same : bytes ≡ packed o b (length bytes) levels

-- what packing into all of `out` answers, and what `out` then holds
abbrev pub Packs : BitOrder → ℕ → List ℕ → List ℕ → List ℕ → Option (Unit {0}) → Type 0
Packs o b ls out out' (Some _) = Room (length ls) b (length out) × Fit b ls × (out' ≡ packed o b (length out) ls)
Packs o b ls out out' None = (out' ≡ out) × (Room (length ls) b (length out) → Fit b ls → ⊥)

-- what reading into all of `out` answers: the levels, exactly if the bytes are written
abbrev pub Unpacks : BitOrder → ℕ → List ℕ → List ℕ → List ℕ → Option (Unit {0}) → Type 0
Unpacks o b bytes out out' (Some _) = Room (length out) b (length bytes) × Fit b out' × (bytes ≡ packed o b (length bytes) out')
Unpacks o b bytes out out' None = (out' ≡ out) × (Room (length out) b (length bytes) → Written o b (length out) bytes → ⊥)

-- n numbers of q bits, cut from the row of numbers of p bits with 0 behind the last
abbrev pub Repacked : BitOrder → ℕ → ℕ → List ℕ → ℕ → List ℕ → Type 0
Repacked o p q src n out = (i : ℕ) → n * q ≤ i * p → out ≡ cut o q n (row o p (first i src))
