-- No two values of a width have plain bytes that begin alike: their lengths agree, and so do the bytes behind.
use Rattle.std.proofs.Common.{◌≡◌, ℕ, ◌<◌, ◌≤◌, true, eqb, leb, List, ◌++◌, length, get_or, take, drop, sym, refl, ap, ◌∙◌, ⊎_elim, arith}
use Rattle.std.proofs.lemmas.List.{take_at}
use Rattle.std.proofs.lemmas.Bool.{eq-eqb, ne_eqb, eqb-true, leb-true, cond-true, cond-false, cases_eq}
use Rattle.kinds.specs.Plain.{sized, four, plain}

pub plain_fixed : (w : ℕ) (v : List ℕ) → 0 < w → plain w v ≡ v
plain_fixed w v h = cond-false (eqb w 0) (four (length v) ++ v) v (ne_eqb w 0 (λ e. omega arith))

pub plain_variable : (w : ℕ) (v : List ℕ) → w ≤ 0 → plain w v ≡ four (length v) ++ v
plain_variable w v h = cond-true (eqb w 0) (four (length v) ++ v) v (eq-eqb w 0 (omega arith))

pub sized_fixed : (w : ℕ) (v : List ℕ) → 0 < w → sized w v ≡ true → length v ≡ w
sized_fixed w v h s =
    eqb-true (length v) w (sym (cond-false (eqb w 0) (leb (length v) 128) (eqb (length v) w) (ne_eqb w 0 (λ e. omega arith))) ∙ s)

pub sized_variable : (w : ℕ) (v : List ℕ) → w ≤ 0 → sized w v ≡ true → length v ≤ 128
sized_variable w v h s =
    leb-true (length v) 128 (sym (cond-true (eqb w 0) (leb (length v) 128) (eqb (length v) w) (eq-eqb w 0 (omega arith))) ∙ s)

-- two fronts of one length of the same bytes are equal
pub same_fronts : (u v p q : List ℕ) → length u ≡ length v → u ++ p ≡ v ++ q → u ≡ v
same_fronts u v p q l e = sym (take_at u p (length v) l) ∙ ap (take (length v)) e ∙ take_at v q (length v) refl

pub four_same : (m n : ℕ) (p q : List ℕ) → m ≤ 128 → n ≤ 128 → four m ++ p ≡ four n ++ q → m ≡ n
four_same m n p q a b e = omega (arith, ap (λ bs. get_or bs 0 0) e)

pub plain_once : (w : ℕ) (u v p q : List ℕ) → sized w u ≡ true → sized w v ≡ true → plain w u ++ p ≡ plain w v ++ q → u ≡ v
plain_once w u v p q s t e =
    ⊎_elim
    (λ z.
    let h : w ≤ 0 = omega arith in
    let f : four (length u) ++ u ++ p ≡ four (length v) ++ v ++ q =
    ap (λ x. x ++ p) (sym (plain_variable w u h)) ∙ e ∙ ap (λ x. x ++ q) (plain_variable w v h) in
    same_fronts u v p q (four_same (length u) (length v) (u ++ p) (v ++ q) (sized_variable w u h s) (sized_variable w v h t) f) (ap (drop 4) f))
    (λ z.
    let h : 0 < w = omega arith in
    same_fronts u v p q (sized_fixed w u h s ∙ sym (sized_fixed w v h t))
    (ap (λ x. x ++ p) (sym (plain_fixed w u h)) ∙ e ∙ ap (λ x. x ++ q) (plain_fixed w v h)))
    (cases_eq w 0)
