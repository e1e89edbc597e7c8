-- INT32 and INT64, signed and unsigned, as the format orders them: by the integer that the little-endian bytes stand
-- for, in two's complement where it is signed.
use Rattle.std.specs.Prelude.{ℕ, ◌≤◌, false, Some, refl}
use Rattle.std.proofs.Common.{lit≤, to_z}
use Rattle.std.specs.Int.{w32, w64}
use Rattle.kinds.specs.Orders.{Order, by_number, by_integer}
use Rattle.kinds.specs.Cuts.{uncut}
use Rattle.kinds.specs.Meaning.{Meaning, fixed_few}
use Rattle.words.specs.Words.{word, few}

-- a kind of integers: no NaN, and never cut
abbrev pub integers : (number physical width : ℕ) → width ≤ 128 → Order → Meaning
integers n p k few o = record {
  number = n;
  physical = p;
  width = Some k;
  width_few = fixed_few k few;
  order = o;
  has_nan = false;
  nan = λ _. false;
  nan_only = λ _ _. refl;
  cuts = uncut o;
}

-- INT32, signed
abbrev pub int32 : Meaning
int32 = integers 1 1 4 (few (lit≤ tt)) (by_integer (λ v. to_z w32 (word 4 v)))

-- INT32, unsigned
abbrev pub uint32 : Meaning
uint32 = integers 2 1 4 (few (lit≤ tt)) (by_number (λ v. word 4 v))

-- INT64, signed
abbrev pub int64 : Meaning
int64 = integers 3 2 8 (few (lit≤ tt)) (by_integer (λ v. to_z w64 (word 8 v)))

-- INT64, unsigned
abbrev pub uint64 : Meaning
uint64 = integers 4 2 8 (few (lit≤ tt)) (by_number (λ v. word 8 v))
