-- Which of two numbers is greater, as `cmp` answers it.
use Rattle.std.specs.Prelude.{◌≡◌, ℕ, Bool, false, cond, ◌==◌, ℤ, int_lt, nat_lt}
use Rattle.std.specs.Ordering.{is_gt, nat_cmp, int_cmp}
use Rattle.std.proofs.Common.{Less, Equal, Greater, ap, sym, ◌∙◌, ⊎_elim, arith}
use Rattle.std.proofs.lemmas.Bool.{cases_Bool, cases_order, lt-ltb, le-ltb, eq-eqb, ne_eqb}
use Rattle.kinds.specs.Orders.{one_way_ℤ}

-- a natural number is greater than another where `cmp` answers Greater
pub greater_ℕ : (a b : ℕ) → nat_lt b a ≡ is_gt (nat_cmp a b)
greater_ℕ a b =
    let by = λ (l : Bool) (e : Bool). is_gt (cond l Less (cond e Equal Greater)) in
    ⊎_elim
    (λ e. le-ltb b a (omega arith) ∙ sym (ap (λ l. by l (a == b)) (le-ltb a b (omega arith)) ∙ ap (by false) (eq-eqb a b e)))
    (⊎_elim
    (λ h. le-ltb b a (omega arith) ∙ sym (ap (λ l. by l (a == b)) (lt-ltb a b h)))
    (λ h. lt-ltb b a h ∙ sym (ap (λ l. by l (a == b)) (le-ltb a b (omega arith)) ∙ ap (by false) (ne_eqb a b (λ e. omega arith)))))
    (cases_order a b)

-- and so an integer
pub greater_ℤ : (a b : ℤ) → int_lt b a ≡ is_gt (int_cmp a b)
greater_ℤ a b =
    let by = λ (l : Bool) (g : Bool). is_gt (cond l Less (cond g Greater Equal)) in
    ⊎_elim
    (λ l. one_way_ℤ b a l ∙ sym (ap (λ t. by t (int_lt b a)) l))
    (λ l. ⊎_elim
    (λ g. g ∙ sym (ap (λ t. by t (int_lt b a)) l ∙ ap (by false) g))
    (λ g. g ∙ sym (ap (λ t. by t (int_lt b a)) l ∙ ap (by false) g))
    (cases_Bool (int_lt b a)))
    (cases_Bool (int_lt a b))
