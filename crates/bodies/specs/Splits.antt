-- Values of equal width as streams and back: from the Parquet format's encodings text, its section on BYTE_STREAM_SPLIT.
use Rattle.std.specs.Prelude.{◌≡◌, ℕ, zero, suc, ◌*◌, ◌/◌, ◌%◌, true, false, List, length, nat_eq}
use Rattle.std.proofs.Common.{sym, ap, ◌∙◌, mul_comm, arith}
use Rattle.std.proofs.lemmas.Nat.{div-add-mod'}
use Rattle.std.proofs.lemmas.Bool.{eqb-true, ne_eqb}
use Rattle.splits.specs.Streams.{streams}
use Rattle.splits.proofs.Places.{length-streams, back}
use Rattle.body_coder.specs.Body.{whole}

-- values of k bytes each, as k streams
abbrev pub split_coded : ℕ → List ℕ → List ℕ
split_coded k xs = streams (length xs / k) k xs

-- k streams, as values of k bytes each
abbrev pub split_plain : ℕ → List ℕ → List ℕ
split_plain k xs = streams k (length xs / k) xs

-- whole values are as many bytes as values times k
pub values_of : (k : ℕ) (xs : List ℕ) → whole false k (length xs) ≡ true → length xs ≡ (length xs / k) * k
values_of zero xs h = let z : ◌≡◌ {A = ℕ} 0 1 = cc in absurd (omega arith)
values_of (suc k) xs h =
    let e : nat_eq (length xs % suc k) 0 ≡ true = rw (ne_eqb (suc k) 0 (λ z. omega arith)) at h in
    omega (arith, div-add-mod' (length xs) (suc k), eqb-true (length xs % suc k) 0 e)

-- as many bytes, and each the other's inverse
pub split_sized : (k : ℕ) (xs : List ℕ) → whole false k (length xs) ≡ true → length (split_coded k xs) ≡ length xs
split_sized k xs h = length-streams (length xs / k) k xs ∙ sym (values_of k xs h)

pub split_back : (k : ℕ) (xs : List ℕ) → whole false k (length xs) ≡ true → split_plain k (split_coded k xs) ≡ xs
split_back k xs h = ap (λ m. streams k (m / k) (split_coded k xs)) (split_sized k xs h) ∙ back (length xs / k) k xs (values_of k xs h)

pub split_unsized : (k : ℕ) (xs : List ℕ) → whole false k (length xs) ≡ true → length (split_plain k xs) ≡ length xs
split_unsized k xs h = length-streams k (length xs / k) xs ∙ mul_comm k (length xs / k) ∙ sym (values_of k xs h)

pub split_forth : (k : ℕ) (xs : List ℕ) → whole false k (length xs) ≡ true → split_coded k (split_plain k xs) ≡ xs
split_forth k xs h =
    ap (λ m. streams (m / k) k (split_plain k xs)) (split_unsized k xs h) ∙ back k (length xs / k) xs (values_of k xs h ∙ mul_comm (length xs / k) k)
