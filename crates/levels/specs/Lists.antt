-- What writing and reading a list answer: a front that is given, and k bytes of levels behind it.
use Rattle.std.specs.Prelude.{◌≡◌, ℕ, ◌+◌, ◌≤◌, List, ◌++◌, length, drop, Some, None, Option}
use Rattle.bits.specs.declared.order.BitOrder.{BitOrder}
use Rattle.bits.specs.Rows.{packed, Fit}

-- what a coder takes: at most 1,024 levels, of at most 4 bits
pub record Limits (n b : ℕ) : Type 0 where
  pub few : n ≤ 1024
  pub narrow : b ≤ 4

-- bytes that begin with a front and the k bytes of n levels, which are these
pub record Starts (o : BitOrder) (front : List ℕ) (k b n : ℕ) (bytes levels : List ℕ) : Type 0 where
  pub count : length levels ≡ n
  pub fit : Fit b levels
  pub same : bytes ≡ (front ++ packed o b k levels) ++ drop (length front + k) bytes

-- what writing a list answers, and what `out` then holds
abbrev pub Wrote : BitOrder → List ℕ → ℕ → ℕ → List ℕ → List ℕ → List ℕ → Option ℕ → Type 0
Wrote o front k b ls out out' None = (out' ≡ out) × (Fit b ls → length front + k ≤ length out → ⊥)
Wrote o front k b ls out out' (Some r) = (r ≡ length front + k) × Fit b ls × (r ≤ length out) × (out' ≡ (front ++ packed o b k ls) ++ drop r out)

-- what reading a list answers, and what `out` then holds
abbrev pub Took : BitOrder → List ℕ → ℕ → ℕ → ℕ → List ℕ → List ℕ → List ℕ → Option ℕ → Type 0
Took o front k b n bytes out out' None = (out' ≡ out) × (n ≤ length out → (ls : List ℕ) → Starts o front k b n bytes ls → ⊥)
Took o front k b n bytes out out' (Some r) = (r ≡ length front + k) × (n ≤ length out) × ((ls : List ℕ) × Starts o front k b n bytes ls × (out' ≡ ls ++ drop n out))
