-- What is appended in place stands before fewer zeros: those behind it were there before.
use Rattle.std.proofs.Common.{◌≡◌, ℕ, ◌+◌, ◌-◌, ◌≤◌, List, ◌++◌, length, take, drop, replicate, sym, ap, ◌∙◌, rules, arith}
use Rattle.std.proofs.lemmas.List.{drop-drop, drop-replicate, take-replicate, take-append-drop, length-replicate}
use Rattle.std.proofs.lemmas.Slice.{overwrites, take-put_mid, drop-put_mid}
use borrow.Rule.Slice.PartMut.{put_mid}
use Rattle.buffers.specs.Buffers.{IsPadded}

pub padded_on : (n u : ℕ) (xs : List ℕ) (k : ℕ) (ys : List ℕ) → IsPadded n u xs → u + k ≤ n → length ys ≡ k → IsPadded n (u + k) (put_mid u (u + k - u) xs ys)
padded_on n u xs k ys p few l =
    let wide = p.wide in
    record {
      wide = search (rules, overwrites);
      fits = few;
      zeros =
          drop-put_mid u (u + k - u) xs ys (u + k) (omega arith) (omega (arith, p.wide, p.fits)) (omega (arith, l))
          ∙ sym (drop-drop k u xs)
          ∙ ap (drop k) p.zeros ∙ drop-replicate k (n - u) 0 ∙ ap (λ m. replicate m 0) (omega arith);
    }

-- zeros in the place of what is used are zeros all over
pub padded_anew : (n u : ℕ) (xs zs : List ℕ) → IsPadded n u xs → zs ≡ replicate u 0 → IsPadded n 0 (put_mid 0 (u - 0) xs zs)
padded_anew n u xs zs p e =
    let ys : List ℕ = put_mid 0 (u - 0) xs zs in
    let k : length zs ≡ u = ap length e ∙ length-replicate u 0 in
    let front : take u ys ≡ zs = take-put_mid 0 (u - 0) xs zs u (omega (arith, k)) (omega arith) in
    let rest : drop u ys ≡ drop u xs = drop-put_mid 0 (u - 0) xs zs u (omega arith) (omega arith) (omega (arith, k)) in
    let all : ys ≡ replicate n 0 =
    sym (take-append-drop u ys) ∙ ap (λ vs. vs ++ drop u ys) (front ∙ e) ∙ ap (λ vs. replicate u 0 ++ vs) (rest ∙ p.zeros)
    ∙ ap (λ vs. vs ++ replicate (n - u) 0) (sym (take-replicate u n 0 p.fits)) ∙ ap (λ vs. take u (replicate n 0) ++ vs) (sym (drop-replicate u n 0))
    ∙ take-append-drop u (replicate n 0) in
    record {
      wide = ap length all ∙ length-replicate n 0;
      fits = omega arith;
      zeros = all ∙ ap (λ m. replicate m 0) (omega arith);
    }
