-- A value's first bytes: its front, and zeros for what is missing.
use Rattle.std.proofs.Common.{◌≡◌, ℕ, zero, suc, ◌+◌, ◌-◌, ◌<◌, min, List, [], ◌∷◌, ◌++◌, length, get_or, take, drop, replicate, rules, refl, ap, ◌∙◌, sym, ⊎_elim, arith, length-drop, length-append}
use Rattle.std.proofs.lemmas.Bool.{cases_lt}
use Rattle.std.proofs.lemmas.List.{get_or_append_left, get_or-append_right, get_or-take, get_or-drop, get_or-replicate, get_or_past, length-replicate}
use Rattle.words.specs.Words.{first, first_from}

-- a list is the bytes from a place on if it is as many, and each is the value's
is_first_from : (i k : ℕ) (v ys : List ℕ) → length ys ≡ k → ((j : ℕ) → j < k → get_or ys j 0 ≡ get_or v (i + j) 0)
    → ys ≡ first_from i k v
is_first_from i zero v [] l h = refl
is_first_from i zero v (y ∷ ys) l h = absurd (omega arith)
is_first_from i (suc k) v [] l h = absurd (omega arith)
is_first_from i (suc k) v (y ∷ ys) l h =
    let here : y ≡ get_or v i 0 = h 0 (omega arith) ∙ ap (λ m. get_or v m 0) (omega arith) in
    let there : ys ≡ first_from (i + 1) k v =
    is_first_from (i + 1) k v ys (omega arith) (λ j b. h (suc j) (omega arith) ∙ ap (λ m. get_or v m 0) (omega arith)) in
    cc

pub is_first : (n k : ℕ) (v front : List ℕ) → n ≡ min (length v) k → front ≡ take n v → front ++ drop n (replicate k 0) ≡ first k v
is_first n k v front e f =
    let zeros : List ℕ = drop n (replicate k 0) in
    let long : length front ≡ n = ap length f ∙ search rules in
    is_first_from 0 k v (front ++ zeros) (simp (length-append, length-drop, length-replicate) (omega arith))
    (λ j b. ⊎_elim
    (λ h. get_or_append_left front zeros 0 j (omega arith) ∙ ap (λ xs. get_or xs j 0) f ∙ get_or-take n v j 0 h ∙ search rules)
    (λ h.
    get_or-append_right front zeros n j 0 long h ∙ get_or-drop n (replicate k 0) (j - n) 0 ∙ get_or-replicate k (n + (j - n)) 0 0 (omega arith)
    ∙ sym (get_or_past v (0 + j) 0 (omega arith)))
    (cases_lt j n))
