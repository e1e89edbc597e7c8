-- What a coder of page bodies means: plain bytes as as many coded ones, and back.
use Rattle.std.specs.Prelude.{◌≡◌, ℕ, ◌%◌, ◌≤◌, Bool, true, cond, List, ◌++◌, length, drop, Some, None, Option, ◌==◌}

-- so many bytes are whole values of k bytes or, where k is 0, joined bytes are admitted
abbrev pub whole : Bool → ℕ → ℕ → Bool
whole joins k len = cond (k == 0) joins (len % k == 0)

-- a coder of page bodies
pub record Body : Type 0 where
  -- the encoding's number in the format
  pub number : ℕ
  -- whether joined bytes are admitted
  pub joins : Bool
  -- the coded bytes of plain ones, and the plain bytes of coded ones
  pub coded : ℕ → List ℕ → List ℕ
  pub plain : ℕ → List ℕ → List ℕ
  pub sized : (k : ℕ) (xs : List ℕ) → whole joins k (length xs) ≡ true → length (coded k xs) ≡ length xs
  pub unsized : (k : ℕ) (xs : List ℕ) → whole joins k (length xs) ≡ true → length (plain k xs) ≡ length xs
  pub back : (k : ℕ) (xs : List ℕ) → whole joins k (length xs) ≡ true → plain k (coded k xs) ≡ xs
  pub forth : (k : ℕ) (xs : List ℕ) → whole joins k (length xs) ≡ true → coded k (plain k xs) ≡ xs

-- what a call answers that writes new bytes for bytes, and what `out` then holds
abbrev pub Wrote : Body → ℕ → List ℕ → List ℕ → List ℕ → List ℕ → Option ℕ → Type 0
Wrote m k bytes new out out' None = (out' ≡ out) × (whole m.joins k (length bytes) ≡ true → length bytes ≤ length out → ⊥)
Wrote m k bytes new out out' (Some r) = (r ≡ length bytes) × (whole m.joins k (length bytes) ≡ true) × (r ≤ length out) × (out' ≡ new ++ drop r out)
