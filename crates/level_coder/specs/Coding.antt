-- What a coder of levels means: levels of b bits each as bytes, which no other levels have.
use Rattle.std.specs.Prelude.{◌≡◌, ℕ, ◌≤◌, Bool, List, ◌++◌, length, drop, Some, None, Option}
use Rattle.bits.specs.Rows.{Fit}

-- a coder of levels
pub record Coding : Type 0 where
  -- the encoding's number in the format
  pub number : ℕ
  -- whether version 1 puts a length before a list
  pub framed : Bool
  -- whether version 2 admits the coder
  pub second : Bool
  -- how many bytes n levels of b bits take
  pub size : ℕ → ℕ → ℕ
  -- the bytes of levels of b bits
  pub coded : ℕ → List ℕ → List ℕ
  pub sized : (b : ℕ) (ls : List ℕ) → length (coded b ls) ≡ size (length ls) b
  pub short : (n b : ℕ) → n ≤ 1024 → b ≤ 4 → size n b ≤ 514
  -- with anything behind them, the bytes of n levels are those of no other n levels
  pub unique : (b : ℕ) (ls ms rest tail : List ℕ) → Fit b ls → Fit b ms → length ms ≡ length ls → coded b ls ++ rest ≡ coded b ms ++ tail → ls ≡ ms

-- what is coded: at most 1,024 levels of b bits each, and b at most 4
pub record Admitted (b : ℕ) (ls : List ℕ) : Type 0 where
  pub few : length ls ≤ 1024
  pub narrow : b ≤ 4
  pub fit : Fit b ls

-- bytes that begin with those of n levels, which are these
pub record Begins (m : Coding) (b n : ℕ) (bytes levels : List ℕ) : Type 0 where
  pub count : length levels ≡ n
  pub admitted : Admitted b levels
  pub front : bytes ≡ m.coded b levels ++ drop (m.size n b) bytes

-- what the question for the size answers
abbrev pub Sized : Coding → ℕ → ℕ → Option ℕ → Type 0
Sized m n b None = n ≤ 1024 → b ≤ 4 → ⊥
Sized m n b (Some k) = (k ≡ m.size n b) × (n ≤ 1024) × (b ≤ 4)

-- what coding answers, and what `out` then holds
abbrev pub Coded : Coding → ℕ → List ℕ → List ℕ → List ℕ → Option ℕ → Type 0
Coded m b ls out out' None = (out' ≡ out) × (Admitted b ls → m.size (length ls) b ≤ length out → ⊥)
Coded m b ls out out' (Some k) = (k ≡ m.size (length ls) b) × Admitted b ls × (k ≤ length out) × (out' ≡ m.coded b ls ++ drop k out)

-- what reading n levels answers, and what `out` then holds: levels exactly if the bytes begin with those of n levels
abbrev pub Read : Coding → ℕ → ℕ → List ℕ → List ℕ → List ℕ → Option ℕ → Type 0
Read m b n bytes out out' None = (out' ≡ out) × (n ≤ length out → (ls : List ℕ) → Begins m b n bytes ls → ⊥)
Read m b n bytes out out' (Some k) = (k ≡ m.size n b) × (n ≤ length out) × ((ls : List ℕ) × Begins m b n bytes ls × (out' ≡ ls ++ drop n out))
