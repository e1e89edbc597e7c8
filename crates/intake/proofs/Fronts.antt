-- The longest front that passes a test, in a list that passes whole.
use Rattle.std.proofs.Common.{◌≡◌, ◌+◌, ◌≤◌, Bool, true, false, List, [], ◌∷◌, length, ⊎_elim, arith}
use Rattle.std.specs.List.{prefix_len, AllByRecursion}
use Rattle.std.proofs.lemmas.Bool.{cond-true, cond-false, cases_Bool}

module _ {X : Type 0} (p : X → Bool) where
  leading_yes : (x : X) (xs : List X) → p x ≡ true → prefix_len p (x ∷ xs) ≡ 1 + prefix_len p xs
  leading_yes x xs h = cond-true (p x) (1 + prefix_len p xs) 0 h

  leading_no : (x : X) (xs : List X) → p x ≡ false → prefix_len p (x ∷ xs) ≡ 0
  leading_no x xs h = cond-false (p x) (1 + prefix_len p xs) 0 h

  -- a list whose front is as long as it is passes whole
  pub all_from_leading : (xs : List X) → length xs ≤ prefix_len p xs → AllByRecursion (λ x. p x ≡ true) xs
  all_from_leading [] h = tt
  all_from_leading (x ∷ xs) h =
      ⊎_elim (λ e. (e, all_from_leading xs (omega (arith, leading_yes x xs e)))) (λ e. absurd (omega (arith, leading_no x xs e))) (cases_Bool (p x))
