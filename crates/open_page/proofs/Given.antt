-- Levels that a batch gives, within their maximum, fit a byte.
use Rattle.std.proofs.Common.{◌≡◌, ℕ, zero, suc, ◌<◌, ◌≤◌, min, eqb, List, [], ◌∷◌, length, map, replicate, ℤ, Some, sym, refl, ap, ◌∙◌, subst, arith}
use Rattle.std.specs.List.{AllByRecursion}
use Rattle.std.proofs.lemmas.Bool.{cond-false, ne_eqb}
use Rattle.std.proofs.lemmas.List.{length-map, length-replicate}
use Rattle.ledger.specs.Batches.{natural, levels_at}
use Rattle.open_page.specs.Opened.{Given}

abbrev capped : ℤ → ℕ
capped x = min (natural x) 255

none_capped : (most : ℕ) (xs : List ℤ) → most ≤ 255 → AllByRecursion (λ x. x ≤ most) (map natural xs) → map capped xs ≡ map natural xs
none_capped most [] few h = refl
none_capped most (x ∷ xs) few h =
    let one : capped x ≡ natural x = omega (arith, h.0, few) in
    λ k. one k ∷ none_capped most xs few h.1 k

map_replicate : (f : ℤ → ℕ) (n : ℕ) (x : ℤ) → map f (replicate n x) ≡ replicate n (f x)
map_replicate f zero x = refl
map_replicate f (suc n) x = ap (λ xs. f x ∷ xs) (map_replicate f n x)

module _ (most n : ℕ) (some : 0 < most) (few : most ≤ 255) where
  levels_are : (xs : List ℤ) → levels_at most n (Some xs) ≡ map natural xs
  levels_are xs = cond-false (eqb most 0) (replicate n 0) (map natural xs) (ne_eqb most 0 (λ e. omega arith))

  as_many : (xs : List ℤ) → Given most n (Some xs) → length xs ≡ n
  as_many xs g = sym (length-map xs natural) ∙ ap length (sym (levels_are xs)) ∙ g.count

  pub listed : (xs : List ℤ) → Given most n (Some xs) → (ls : List ℕ) → (length xs ≡ n → ls ≡ map capped xs) → ls ≡ levels_at most n (Some xs)
  listed xs g ls is =
      is (as_many xs g) ∙ none_capped most xs few (subst (AllByRecursion (λ x. x ≤ most)) (levels_are xs) g.range) ∙ sym (levels_are xs)

  pub repeated : (count : ℕ) (x : ℤ) → Given most n (Some (replicate count x)) → (ls : List ℕ) → ls ≡ replicate n (capped x) → ls ≡ levels_at most n (Some (replicate count x))
  repeated count x g ls is =
      let e : count ≡ n = sym (length-replicate count x) ∙ as_many (replicate count x) g in
      listed (replicate count x) g ls (λ same. is ∙ ap (λ k. replicate k (capped x)) (sym e) ∙ sym (map_replicate capped count x))
