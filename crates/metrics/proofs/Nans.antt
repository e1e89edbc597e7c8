-- NaN counts that may be absent.
use Rattle.std.proofs.Common.{◌≡◌, ℕ, ◌+◌, ◌-◌, ◌^◌, ◌<◌, ◌≤◌, min, Bool, true, false, cond, List, [], ◌∷◌, ◌++◌, length, Some, None, unwrap_or, sym, refl, ap, ◌∙◌, ⊎_elim, zero-add, arith}
use Rattle.std.specs.Option.{option_map}
use Rattle.std.proofs.lemmas.Bool.{cases_Bool}
use Rattle.kinds.specs.Meaning.{Meaning}
use Rattle.figures.specs.Figures.{count, nan_count_of}
use Rattle.figures.proofs.Joined.{count-joined}
use Rattle.ledger.specs.Figures.{nan_entry}
use Rattle.metrics.proofs.Tallies.{min_below}

mapped_if : (f : ℕ → ℕ) (b : Bool) (n : ℕ) → option_map f (cond b (Some n) None) ≡ cond b (Some (f n)) None
mapped_if f true n = refl
mapped_if f false n = refl

-- the count of a page, and that of values behind it
pub entry-joined : (m : Meaning) (xs ys : List (List ℕ)) (n : ℕ) → n ≡ nan_count_of m ys → nan_count_of m xs + n < 2 ^ 64
    → option_map (λ k. min (k + n) (2 ^ 64 - 1)) (nan_entry m (nan_count_of m xs)) ≡ nan_entry m (nan_count_of m (xs ++ ys))
entry-joined m xs ys n e few =
    mapped_if (λ k. min (k + n) (2 ^ 64 - 1)) m.has_nan (nan_count_of m xs)
    ∙ ap (nan_entry m) (min_below (nan_count_of m xs + n) few ∙ ap (λ k. nan_count_of m xs + k) e ∙ sym (count-joined m.nan xs ys))

count_none : (p : List ℕ → Bool) → ((v : List ℕ) → p v ≡ false) → (vs : List (List ℕ)) → 0 ≡ count p vs
count_none p never [] = refl
count_none p never (v ∷ vs) =
    count_none p never vs ∙ sym (zero-add (count p vs)) ∙ ap (λ b. cond b 1 0 + count p vs) (sym (never v))

-- an absent count is that of a kind whose values are none of them NaN
pub entry_value : (m : Meaning) (vs : List (List ℕ)) → unwrap_or (nan_entry m (nan_count_of m vs)) 0 ≡ nan_count_of m vs
entry_value m vs =
    ⊎_elim
    (λ t. ap (λ b. unwrap_or (cond b (Some (nan_count_of m vs)) None) 0) t)
    (λ t. ap (λ b. unwrap_or (cond b (Some (nan_count_of m vs)) None) 0) t ∙ count_none m.nan (m.nan_only t) vs)
    (cases_Bool m.has_nan)

one_le : (b : Bool) → cond b 1 0 ≤ 1
one_le true = omega arith
one_le false = omega arith

pub nan_count_le : (p : List ℕ → Bool) (vs : List (List ℕ)) → count p vs ≤ length vs
nan_count_le p [] = omega arith
nan_count_le p (v ∷ vs) = omega (arith, one_le (p v), nan_count_le p vs)

-- the counts of two lists that are not too long
pub nans_joined : (m : Meaning) (xs ys : List (List ℕ)) (a b r : ℕ) → length xs + length ys < 2 ^ 32 → a ≡ nan_count_of m xs → b ≡ nan_count_of m ys
    → r ≡ min (a + b) (2 ^ 64 - 1) → r ≡ nan_count_of m (xs ++ ys)
nans_joined m xs ys a b r few ea eb er =
    er ∙ min_below (a + b) (omega (arith, ea, eb, few, nan_count_le m.nan xs, nan_count_le m.nan ys))
    ∙ ap (λ k. k + b) ea ∙ ap (λ k. nan_count_of m xs + k) eb ∙ sym (count-joined m.nan xs ys)
