-- Streams that are written one by one: the first of them, and what stands behind the last.
use Rattle.std.proofs.Common.{◌≡◌, ℕ, ◌+◌, ◌-◌, ◌*◌, ◌<◌, ◌≤◌, List, [], ◌∷◌, ◌++◌, length, take, drop, sym, refl, ap, ◌∙◌, mul_comm, add-mul, arith}
use borrow.Rule.Slice.PartMut.{put_mid}
use Rattle.std.specs.List.{range_with_len, flat_map}
use Rattle.std.proofs.lemmas.Nat.{mul-le}
use Rattle.std.proofs.lemmas.Slice.{take-put_mid, drop-put_mid}
use Rattle.std.proofs.lemmas.List.FromFn.{map-range_with_len_more, length-map-range_with_len}
use Rattle.std.proofs.lemmas.List.{take-append-drop, length-take-le, length-drop, flat_map_more, map-id}
use Rattle.splits.specs.Streams.{stream, streams}

-- the first j streams stand in `out`
pub record Written (n k : ℕ) (xs out₀ out : List ℕ) (j : ℕ) : Type 0 where
  pub front : take (j * n) out ≡ flat_map (stream n k xs) (range_with_len 0 j)
  pub rest : drop (n * k) out ≡ drop (n * k) out₀

counting_more : (j : ℕ) → range_with_len 0 (j + 1) ≡ range_with_len 0 j ++ j ∷ []
counting_more j = sym (map-id (range_with_len 0 (j + 1))) ∙ map-range_with_len_more (λ i. i) 0 j j (omega arith) ∙ ap (λ l. l ++ j ∷ []) (map-id (range_with_len 0 j))

pub written_none : (n k : ℕ) (xs out : List ℕ) → Written n k xs out out 0
written_none n k xs out = let z : 0 * n ≡ 0 = omega arith in record { front = ap (λ p. take p out) z; rest = refl }

pub written_more : (n k : ℕ) (xs out₀ out ys : List ℕ) (j : ℕ) → Written n k xs out₀ out j → j < k → n * k ≤ length out
    → ys ≡ stream (length (take ((j + 1) * n - j * n) (drop (j * n) out))) k xs j → Written n k xs out₀ (put_mid (j * n) ((j + 1) * n - j * n) out ys) (j + 1)
written_more n k xs out₀ out ys j w lt le y =
    let s : (j + 1) * n ≡ j * n + n = omega (arith, add-mul j 1 n) in
    let in' : (j + 1) * n ≤ n * k = omega (arith, mul-le (j + 1) n k n (omega arith) (omega arith), mul_comm k n) in
    let d : (j + 1) * n - j * n ≡ n = omega arith in
    let m : length (take ((j + 1) * n - j * n) (drop (j * n) out)) ≡ n = length-take-le ((j + 1) * n - j * n) (drop (j * n) out) (simp length-drop (omega arith)) ∙ d in
    let z : ys ≡ stream n k xs j = y ∙ ap (λ i. stream i k xs j) m in
    let l : length ys ≡ n = ap length z ∙ length-map-range_with_len _ 0 n in
    record {
      front = take-put_mid (j * n) ((j + 1) * n - j * n) out ys ((j + 1) * n) (omega arith) (omega arith) ∙ ap (λ x. x ++ ys) w.front
          ∙ ap (λ x. flat_map (stream n k xs) (range_with_len 0 j) ++ x) z ∙ flat_map_more (stream n k xs) [] (range_with_len 0 j) j
          ∙ ap (flat_map (stream n k xs)) (sym (counting_more j));
      rest = drop-put_mid (j * n) ((j + 1) * n - j * n) out ys (n * k) (omega arith) (omega arith) (omega arith) ∙ w.rest;
    }

pub written_all : (n k : ℕ) (xs out₀ out : List ℕ) (j : ℕ) → Written n k xs out₀ out j → j ≡ k → out ≡ streams n k xs ++ drop (n * k) out₀
unfolding streams
written_all n k xs out₀ out j w e =
    let s : j * n ≡ n * k = ap (λ m. m * n) e ∙ mul_comm k n in
    sym (take-append-drop (n * k) out) ∙ ap (λ p. take p out ++ drop (n * k) out) (sym s) ∙ ap (λ z. z ++ drop (n * k) out) w.front
    ∙ ap (λ m. flat_map (stream n k xs) (range_with_len 0 m) ++ drop (n * k) out) e ∙ ap (λ z. streams n k xs ++ z) w.rest
