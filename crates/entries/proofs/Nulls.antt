-- A page has no value exactly if all its levels are nulls: each level is a null or has a value.
use Rattle.std.proofs.Common.{◌≡◌, ℕ, ◌+◌, Bool, true, false, cond, not, eqb, List, [], ◌∷◌, length, count_by, sym, refl, ◌∙◌, ⊎_elim, arith}
use Rattle.std.proofs.lemmas.Bool.{cases_eq, eq-eqb, ne_eqb}
use Rattle.std.proofs.lemmas.List.Sums.{sum_by-cons}
use Rattle.kinds.specs.Meaning.{Meaning}
use Rattle.pages.specs.declared.layout.Layout.{Layout}
use Rattle.ledger.specs.Pages.{Page}
use Rattle.metrics.specs.Metrics.{Measures}
use Rattle.metrics.specs.declared.page.PageMetrics.{PageMetrics}

one_of_both : (b : Bool) → cond b 1 0 + cond (not b) 1 0 ≡ 1
one_of_both true = refl
one_of_both false = refl

-- what is counted by a test and what is counted by its opposite are all
pub count_both : {X : Type 0} (p : X → Bool) (xs : List X) → count_by p xs + count_by (λ x. not (p x)) xs ≡ length xs
count_both p [] = refl
count_both p (x ∷ xs) =
    omega (
      arith,
      count_both p xs,
      one_of_both (p x),
      sum_by-cons (λ y. cond (p y) 1 0) x xs,
      sum_by-cons (λ y. cond (not (p y)) 1 0) x xs,
    )

same_eqb : (a b c d : ℕ) → (a ≡ b → c ≡ d) → (c ≡ d → a ≡ b) → eqb a b ≡ eqb c d
same_eqb a b c d to from =
    ⊎_elim
    (λ e. eq-eqb a b e ∙ sym (eq-eqb c d (to e)))
    (λ n. ne_eqb a b n ∙ sym (ne_eqb c d (λ e. n (from e))))
    (cases_eq a b)

-- the counts of a page say that all its levels are nulls exactly if it has no value
pub null_page_is : (m : Meaning) (l : Layout) (p : Page) (t : PageMetrics) → Measures m l p t → length p.values ≡ count_by (eqb l.max_def_level) p.defs
    → eqb t.num_buffered_values t.num_page_nulls ≡ eqb (length p.values) 0
null_page_is m l p t c v =
    let both = count_both (eqb l.max_def_level) p.defs in
    same_eqb t.num_buffered_values t.num_page_nulls (length p.values) 0 (λ h. omega (arith, h, v, c.levels, c.nulls, both)) (λ h. omega (arith, h, v, c.levels, c.nulls, both))
