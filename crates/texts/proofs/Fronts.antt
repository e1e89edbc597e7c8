-- The longest front that is text, as the walk back from the length finds it.
use Rattle.std.proofs.Common.{◌≡◌, ℕ, zero, suc, ◌<◌, ◌≤◌, Bool, true, false, List, take, IsUtf8, sym, ap, ◌∙◌, subst, ⊎_elim, arith}
use Rattle.std.proofs.lemmas.Str.{IsUtf8-nil}
use Rattle.std.proofs.lemmas.Bool.{cases_order, cases_Bool, cond-true, cond-false}
use Rattle.texts.specs.Unicode.{is_text}
use Rattle.texts.specs.Cut.{greatest, front}
use Rattle.texts.proofs.Tables.{is_text_utf8, utf8_is_text}

greatest_is : (p : ℕ → Bool) (l m : ℕ) → m ≤ l → (0 < m → p m ≡ true) → ((k : ℕ) → 0 < k → k ≤ l → p k ≡ true → k ≤ m) → m ≡ greatest p l
greatest_is p zero m h f g = omega arith
greatest_is p (suc l) m h f g =
    ⊎_elim
    (λ e. e ∙ sym (cond-true (p (suc l)) (suc l) (greatest p l) (subst (λ n. p n ≡ true) e (f (omega arith)))))
    (⊎_elim
    (λ s.
    let no : p (suc l) ≡ false = ⊎_elim (λ t. absurd (omega (arith, g (suc l) (omega arith) (omega arith) t))) (λ t. t) (cases_Bool (p (suc l))) in
    greatest_is p l m (omega arith) f (λ k a b. g k a (omega arith)) ∙ sym (cond-false (p (suc l)) (suc l) (greatest p l) no))
    (λ s. absurd (omega arith)))
    (cases_order m (suc l))

greatest_few : (p : ℕ → Bool) (l : ℕ) → greatest p l ≤ l
greatest_few p zero = omega arith
greatest_few p (suc l) =
    ⊎_elim (λ t. omega (arith, cond-true (p (suc l)) (suc l) (greatest p l) t)) (λ t. omega (arith, cond-false (p (suc l)) (suc l) (greatest p l) t, greatest_few p l))
    (cases_Bool (p (suc l)))

greatest_passes : (p : ℕ → Bool) (l : ℕ) → p 0 ≡ true → p (greatest p l) ≡ true
greatest_passes p zero z = z
greatest_passes p (suc l) z =
    ⊎_elim (λ t. ap p (cond-true (p (suc l)) (suc l) (greatest p l) t) ∙ t)
    (λ t. ap p (cond-false (p (suc l)) (suc l) (greatest p l) t) ∙ greatest_passes p l z) (cases_Bool (p (suc l)))

pub front_few : (l : ℕ) (v : List ℕ) → front l v ≤ l
front_few l v = greatest_few (λ n. is_text (take n v)) l

pub front_text : (l : ℕ) (v : List ℕ) → IsUtf8 (take (front l v) v)
front_text l v = is_text_utf8 (take (front l v) v) (greatest_passes (λ n. is_text (take n v)) l (utf8_is_text (take 0 v) IsUtf8-nil))

pub front_is : (l m : ℕ) (v : List ℕ) → m ≤ l → IsUtf8 (take m v) → ((k : ℕ) → k ≤ l → IsUtf8 (take k v) → k ≤ m) → m ≡ front l v
front_is l m v h t g =
    greatest_is (λ n. is_text (take n v)) l m h (λ _. utf8_is_text (take m v) t) (λ k _ b e. g k b (is_text_utf8 (take k v) e))
