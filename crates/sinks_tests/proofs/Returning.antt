-- A page that was written is found again at the number of pages before it.
use Rattle.std.proofs.Common.{◌≡◌, ℕ, List, [], ◌∷◌, ◌++◌, length, Some, None, Option, sym, refl, ap, ◌∙◌, subst, append_assoc}
use Rattle.std.specs.List.{slice_get}
use Rattle.sinks.specs.Sinks.{Grown}
use Rattle.sinks.specs.Stores.{StoreMeaning, Copied}
use Rattle.sinks_tests.specs.Users.{Both}

nth_behind : {X : Type 0} (xs : List X) (y : X) (ys : List X) → slice_get (xs ++ (y ∷ ys)) (length xs) ≡ Some y
nth_behind [] y ys = refl
nth_behind (x ∷ xs) y ys = nth_behind xs y ys

pub both_from_grown : {S : Type 0} (m : StoreMeaning S) (s t u : S) (p q : List ℕ) (a b k : ℕ) (out out' : List ℕ) (r : Option ℕ)
    → Grown m s p a t → Grown m t q b u → k ≡ length (m.pages s) → Copied (slice_get (m.pages u) k) out out' r → Both m s p q out u out' r
both_from_grown m s t u p q a b k out out' r one two at copy =
    let all : m.pages u ≡ m.pages s ++ (p ∷ q ∷ []) = two.pages ∙ ap (λ x. x ++ (q ∷ [])) one.pages ∙ append_assoc (m.pages s) (p ∷ []) (q ∷ []) in
    let found : slice_get (m.pages u) k ≡ Some p = ap (slice_get (m.pages u)) at ∙ ap (λ x. slice_get x (length (m.pages s))) all ∙ nth_behind (m.pages s) p (q ∷ []) in
    record { pages = all; copy = subst (λ x. Copied x out out' r) found copy }

pub absent : (ps : List (List ℕ)) (k : ℕ) (out : List ℕ) → slice_get ps k ≡ None → Copied (slice_get ps k) out out None
absent ps k out e = subst (λ x. Copied x out out None) (sym e) (refl, refl)
