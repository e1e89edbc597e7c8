-- Streams of bytes: from the Parquet format's encodings text, its section on BYTE_STREAM_SPLIT.
use Rattle.std.specs.Prelude.{◌≡◌, ℕ, ◌+◌, ◌*◌, ◌<◌, ◌≤◌, List, ◌++◌, map, length, drop, Some, None, Option, slice_index}
use Rattle.std.specs.List.{range_with_len, flat_map}

-- stream j of n values of k bytes: byte j of each value
abbrev pub stream : ℕ → ℕ → List ℕ → ℕ → List ℕ
stream n k xs j = map (λ i. slice_index xs (i * k + j)) (range_with_len 0 n)

-- the k streams, one after the other
unfoldable pub streams : ℕ → ℕ → List ℕ → List ℕ
streams n k xs = flat_map (stream n k xs) (range_with_len 0 k)

-- byte j of value i stands at place j * n + i
abbrev pub EachPlace : ℕ → ℕ → List ℕ → List ℕ → Type 0
EachPlace n k xs out = (i j : ℕ) → i < n → j < k → slice_index out (j * n + i) ≡ slice_index xs (i * k + j)

-- streams of streams are the values again
abbrev pub Back : Type 0
Back = (n k : ℕ) (xs : List ℕ) → length xs ≡ n * k → streams k n (streams n k xs) ≡ xs

-- what writing n values of k bytes as streams answers, and what `out` then holds
abbrev pub Scattered : ℕ → ℕ → List ℕ → List ℕ → List ℕ → Option ℕ → Type 0
Scattered n k xs out out' None = (out' ≡ out) × (n * k ≤ length xs → n * k ≤ length out → ⊥)
Scattered n k xs out out' (Some m) = (m ≡ n * k) × (m ≤ length xs) × (m ≤ length out) × (out' ≡ streams n k xs ++ drop m out)

-- what it says of each byte's place
abbrev pub InPlace : ℕ → ℕ → List ℕ → List ℕ → Option ℕ → Type 0
InPlace n k xs out' None = Unit {0}
InPlace n k xs out' (Some m) = EachPlace n k xs out'
