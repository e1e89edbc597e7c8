-- The first level out of range, found in a list and in a repeated level.
use Rattle.std.proofs.Common.{◌≡◌, ℕ, zero, suc, ◌+◌, Bool, true, false, cond, not, ◌&&◌, ltb, List, [], ◌∷◌, length, replicate, ℤ, Some, None, refl, ap, ◌∙◌, position, arith}
use Rattle.std.specs.Bool.{then_some}
use Rattle.std.specs.List.{prefix_len}
use Rattle.std.proofs.lemmas.Bool.{ne_eqb, le-ltb, lt-ltb}
use Rattle.std.proofs.lemmas.List.{length-replicate}
use Rattle.std.proofs.lemmas.List.Folds.{prefix_len-replicate}
use Rattle.ledger.specs.Batches.{in_range}
use Rattle.intake.specs.Admitting.{first_stray}

not_twice : (b : Bool) → not (not b) ≡ b
not_twice true = refl
not_twice false = refl

-- a front of those that do not fail is one of those that pass
pub fronts_agree : {X : Type 0} (p : X → Bool) (xs : List X) → prefix_len (λ x. not (not (p x))) xs ≡ prefix_len p xs
fronts_agree p [] = refl
fronts_agree p (x ∷ xs) = ap (λ n. cond (not (not (p x))) (1 + n) 0) (fronts_agree p xs) ∙ ap (λ b. cond b (1 + prefix_len p xs) 0) (not_twice (p x))

pub stray_listed : (most : ℕ) (xs : List ℤ) → (most ≡ 0 → ⊥) → position (λ x. not (in_range most x)) xs ≡ first_stray most (Some xs)
stray_listed most xs z = rw (ne_eqb most 0 z, fronts_agree (in_range most) xs)

repeated : (p : ℤ → Bool) (x : ℤ) (n : ℕ) (b : Bool) → p x ≡ b → then_some (ltb 0 n && not b) 0 ≡ cond (ltb (prefix_len p (replicate n x)) (length (replicate n x))) (Some (prefix_len p (replicate n x))) None
repeated p x zero b e = refl
repeated p x (suc n) true e = rw (lt-ltb 0 (suc n) (omega arith), prefix_len-replicate p (suc n) x e, length-replicate (suc n) x, le-ltb (suc n) (suc n) (omega arith))
repeated p x (suc n) false e = rw (e, length-replicate (suc n) x, lt-ltb 0 (suc n) (omega arith))

pub stray_repeated : (most : ℕ) (x : ℤ) (n : ℕ) (b : Bool) → (most ≡ 0 → ⊥) → b ≡ (ltb 0 n && not (in_range most x)) → then_some b 0 ≡ first_stray most (Some (replicate n x))
stray_repeated most x n b z e = rw (ne_eqb most 0 z) (ap (λ b. then_some b 0) e ∙ repeated (in_range most) x n (in_range most x) refl)
