-- The first numbers of a list, with 0 behind its last: their number, one more of them, and two parts of them.
use Rattle.std.proofs.Common.{◌≡◌, ℕ, zero, suc, ◌+◌, ◌-◌, ◌*◌, ◌≤◌, false, List, [], ◌∷◌, ◌++◌, length, get_or, drop, replicate, sym, refl, ap, ◌∙◌, suc-mul, suc-add, zero-add, zero-mul, add-one, arith}
use Rattle.std.proofs.lemmas.Nat.{pow_pos}
use Rattle.std.proofs.lemmas.List.{replicate-append-replicate}
use Rattle.bits.specs.declared.order.BitOrder.{BitOrder}
use Rattle.bits.specs.Rows.{row, first, Fit}
use Rattle.bits.proofs.Rows.{row-append, bits_of_zero}

pub length-first : (n : ℕ) (vs : List ℕ) → length (first n vs) ≡ n
unfolding first
length-first zero vs = refl
length-first (suc n) [] = ap suc (length-first n [])
length-first (suc n) (v ∷ vs) = ap suc (length-first n vs)

pub first_suc : (n : ℕ) (vs : List ℕ) → first (suc n) vs ≡ first n vs ++ get_or vs n 0 ∷ []
unfolding first
first_suc zero [] = refl
first_suc zero (v ∷ vs) = refl
first_suc (suc n) [] = ap (λ l. 0 ∷ l) (first_suc n [])
first_suc (suc n) (v ∷ vs) = ap (λ l. v ∷ l) (first_suc n vs)

pub first_more : (n : ℕ) (vs : List ℕ) → first (n + 1) vs ≡ first n vs ++ get_or vs n 0 ∷ []
first_more n vs = ap (λ m. first m vs) (add-one n) ∙ first_suc n vs

drop-nil : (m : ℕ) → [] ≡ drop {A = ℕ} m []
drop-nil zero = refl
drop-nil (suc m) = refl

pub first_add : (m n : ℕ) (vs : List ℕ) → first (m + n) vs ≡ first m vs ++ first n (drop m vs)
unfolding first
first_add zero n vs = ap (λ k. first k vs) (zero-add n)
first_add (suc m) n [] = ap (λ k. first k []) (suc-add m n) ∙ ap (λ l. 0 ∷ l) (first_add m n [] ∙ ap (λ l. first m [] ++ first n l) (sym (drop-nil m)))
first_add (suc m) n (v ∷ vs) = ap (λ k. first k (v ∷ vs)) (suc-add m n) ∙ ap (λ l. v ∷ l) (first_add m n vs)

pub first_fit : (b n : ℕ) (vs : List ℕ) → Fit b vs → Fit b (first n vs)
unfolding first
first_fit b zero vs f = tt
first_fit b (suc n) [] f = (pow_pos b, first_fit b n [] f)
first_fit b (suc n) (v ∷ vs) f = (f.0, first_fit b n vs f.1)

pub first_none : (n : ℕ) → first n [] ≡ replicate n 0
unfolding first
first_none zero = refl
first_none (suc n) = ap (λ l. 0 ∷ l) (first_none n)

pub first_past : (m : ℕ) (vs : List ℕ) → first (length vs + m) vs ≡ vs ++ replicate m 0
unfolding first
first_past m [] = ap (λ k. first k []) (zero-add m) ∙ first_none m
first_past m (v ∷ vs) = ap (λ k. first k (v ∷ vs)) (suc-add (length vs) m) ∙ ap (λ l. v ∷ l) (first_past m vs)

pub first_over : (n : ℕ) (vs : List ℕ) → length vs ≤ n → first n vs ≡ vs ++ replicate (n - length vs) 0
first_over n vs h = let e : n ≡ length vs + (n - length vs) = omega arith in ap (λ k. first k vs) e ∙ first_past (n - length vs) vs

pub row_zeros : (o : BitOrder) (k n : ℕ) → row o k (replicate n 0) ≡ replicate (n * k) false
unfolding row
row_zeros o k zero = ap (λ m. replicate m false) (sym (zero-mul k))
row_zeros o k (suc n) =
    ap (λ x. x ++ row o k (replicate n 0)) (bits_of_zero o k) ∙ ap (λ x. replicate k false ++ x) (row_zeros o k n)
    ∙ replicate-append-replicate k (n * k) false ∙ ap (λ m. replicate m false) (omega (arith, suc-mul n k))

pub row_first : (o : BitOrder) (k n : ℕ) (vs : List ℕ) → length vs ≤ n → row o k (first n vs) ≡ row o k vs ++ replicate ((n - length vs) * k) false
row_first o k n vs h =
    ap (row o k) (first_over n vs h) ∙ row-append o k vs (replicate (n - length vs) 0) ∙ ap (λ x. row o k vs ++ x) (row_zeros o k (n - length vs))
