-- What a store of pages means to its readers, from docs/sinks.md.
use Rattle.std.specs.Prelude.{◌≡◌, ℕ, ◌<◌, ◌≤◌, List, ◌++◌, length, drop, Some, None, Option}

-- pages in order as lists of bytes, and the offset of each
pub record StoreMeaning (S : Type 0) : Type 1 where
  pub pages : S → List (List ℕ)
  pub offsets : S → List ℕ
  pub paired : (s : S) → length (offsets s) ≡ length (pages s)

-- a copy of bytes into a lent list: all of them at its front, or none where they do not fit
abbrev pub CopyOf : List ℕ → List ℕ → List ℕ → Option ℕ → Type 0
CopyOf p out out' (Some n) = (n ≡ length p) × (n ≤ length out) × (out' ≡ p ++ drop n out)
CopyOf p out out' None = (length out < length p) × (out' ≡ out)

-- a copy of a page, if there is one
abbrev pub Copied : Option (List ℕ) → List ℕ → List ℕ → Option ℕ → Type 0
Copied None out out' r = (r ≡ None) × (out' ≡ out)
Copied (Some p) out out' r = CopyOf p out out' r
