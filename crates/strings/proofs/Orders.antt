-- The lexicographic order: as a relation, by which its laws are matches, as `cmp` on slices answers it, and by the numbers that as many bytes write.
use Rattle.std.proofs.Common.{◌≡◌, ◌≢◌, ℕ, zero, suc, ◌+◌, ◌*◌, ◌^◌, ◌<◌, ◌≤◌, Bool, true, false, ◌⊎◌, List, [], ◌∷◌, ◌++◌, length, take, drop, sym, Some, refl, inl, inr, ⊎_elim, arith, Ordering, nat_lt, ◌∙◌}
use lib.Arith.{digits_lt}
use Rattle.std.specs.Ordering.{is_gt, nat_cmp}
use Rattle.std.specs.Cmp.Lexicographic.{slice_cmp}
use Rattle.std.proofs.lemmas.Cmp.{same_from_slice_cmp}
use Rattle.std.proofs.lemmas.Bool.{cases_order, cases_lt, cases_Bool, false≢true}
use Rattle.std.proofs.lemmas.Bool.Decides.{nat_tests}
use Rattle.std.proofs.lemmas.List.{take-append-drop, length-take-le}
use Rattle.strings.specs.Lexical.{above, Bytes}
use Rattle.strings.specs.Numbers.{number, front}
use Rattle.strings.proofs.Numbers.{number_lt, bytes_take}

-- a is greater than b
abbrev pub Above : List ℕ → List ℕ → Type 0
Above [] b = ⊥
Above (x ∷ a) [] = Unit {0}
Above (x ∷ a) (y ∷ b) = (y < x) ⊎ ((x ≡ y) × Above a b)

pub above_yes : (a b : List ℕ) → above a b ≡ true → Above a b
above_yes [] b e = absurd (false≢true e)
above_yes (x ∷ a) [] e = tt
above_yes (x ∷ a) (y ∷ b) e =
    ⊎_elim (λ q. inr (q, above_yes a b (grind (arith, nat_tests)))) (⊎_elim (λ q. absurd (grind (arith, nat_tests))) (λ q. inl q)) (cases_order x y)

pub above_from : (a b : List ℕ) → Above a b → above a b ≡ true
above_from [] b h = absurd h
above_from (x ∷ a) [] h = refl
above_from (x ∷ a) (y ∷ b) (inl h) = grind (arith, nat_tests)
above_from (x ∷ a) (y ∷ b) (inr h) = let k : above a b ≡ true = above_from a b h.1 in let e : x ≡ y = h.0 in grind (arith, nat_tests)

pub above_no : (a b : List ℕ) → (Above a b → ⊥) → above a b ≡ false
above_no a b h = ⊎_elim (λ e. absurd (h (above_yes a b e))) (λ e. e) (cases_Bool (above a b))

-- ---- the laws

pub asym : (a b : List ℕ) → Above a b → Above b a → ⊥
asym [] b h g = h
asym (x ∷ a) [] h g = g
asym (x ∷ a) (y ∷ b) (inl h) (inl g) = omega arith
asym (x ∷ a) (y ∷ b) (inl h) (inr g) = omega arith
asym (x ∷ a) (y ∷ b) (inr h) (inl g) = omega arith
asym (x ∷ a) (y ∷ b) (inr h) (inr g) = asym a b h.1 g.1

pub split : (a b c : List ℕ) → Above a c → Above a b ⊎ Above b c
split [] b c h = absurd h
split (x ∷ a) [] c h = inl tt
split (x ∷ a) (y ∷ b) [] h = inr tt
split (x ∷ a) (y ∷ b) (z ∷ c) (inl h) = ⊎_elim (λ l. inl (inl l)) (λ l. inr (inl (omega arith))) (cases_lt y x)
split (x ∷ a) (y ∷ b) (z ∷ c) (inr h) =
    ⊎_elim (λ e. ⊎_elim (λ l. inl (inr (e, l))) (λ l. inr (inr (omega arith, l))) (split a b c h.1))
    (⊎_elim (λ l. inr (inl (omega arith))) (λ l. inl (inl l))) (cases_order x y)

pub one_way : (a b : List ℕ) → above a b ≡ true → above b a ≡ false
one_way a b h = above_no b a (asym a b (above_yes a b h))

pub splits : (a b c : List ℕ) → above a c ≡ true → (above a b ≡ true) ⊎ (above b c ≡ true)
splits a b c h = ⊎_elim (λ l. inl (above_from a b l)) (λ l. inr (above_from b c l)) (split a b c (above_yes a c h))

-- a front is never above the whole
pub front_below : (l : ℕ) (v : List ℕ) → Above (take l v) v → ⊥
front_below zero v h = h
front_below (suc l) [] h = h
front_below (suc l) (x ∷ v) (inl h) = omega arith
front_below (suc l) (x ∷ v) (inr h) = front_below l v h.1

-- a shared front does not matter
pub above-append : (p a b : List ℕ) → Above a b → Above (p ++ a) (p ++ b)
above-append [] a b h = h
above-append (x ∷ p) a b h = inr (refl, above-append p a b h)

-- what is above one of its own length is above all that begin with that one
pub above-longer : (a b c : List ℕ) → length a ≡ length b → Above a b → Above a (b ++ c)
above-longer [] b c e h = absurd h
above-longer (x ∷ a) [] c e h = absurd (omega arith)
above-longer (x ∷ a) (y ∷ b) c e (inl h) = inl h
above-longer (x ∷ a) (y ∷ b) c e (inr h) = inr (h.0, above-longer a b c (omega arith) h.1)

-- ---- `cmp` on slices

pub answers_above : (a b : List ℕ) (o : Ordering) (r : Bool) → o ≡ slice_cmp nat_cmp a b → r ≡ is_gt o → r ≡ above a b
answers_above a b o r h e =
    e ∙ same_from_slice_cmp nat_cmp is_gt above refl (λ _ _. refl) (λ _ _. refl) (λ x y a b o h. grind (arith, nat_tests)) a b o h

-- ---- numbers

-- where as many bytes write different numbers, those decide, whatever follows
pub above_number : (p q a b : List ℕ) → length p ≡ length q → Bytes p → Bytes q → (number p ≢ number q) → nat_lt (number q) (number p) ≡ above (p ++ a) (q ++ b)
above_number [] [] a b l f g n = absurd (n refl)
above_number [] (y ∷ q) a b l f g n = absurd (omega arith)
above_number (x ∷ p) [] a b l f g n = absurd (omega arith)
above_number (x ∷ p) (y ∷ q) a b l f g n =
    let s : length p ≡ length q = omega (arith, l) in
    let k : (z : ℕ) → z * 256 ^ length p ≡ z * 256 ^ length q = λ z i. z * 256 ^ s i in
    ⊎_elim
    (λ e.
    let m : number p ≢ number q = λ m. n (λ i. e i * 256 ^ s i + m i) in
    let h : nat_lt (number q) (number p) ≡ above (p ++ a) (q ++ b) = above_number p q a b s f.1 g.1 m in
    grind (arith, nat_tests, k y))
    (⊎_elim
    (λ r. let h : x * 256 ^ length p + number p < y * 256 ^ length p = digits_lt r (number_lt p f.1) in grind (arith, nat_tests, k y))
    (λ r. let h : y * 256 ^ length q + number q < x * 256 ^ length q = digits_lt r (number_lt q g.1) in grind (arith, nat_tests, k x)))
    (cases_order x y)

front_some : (v : List ℕ) (n : ℕ) → Some n ≡ front v → (4 ≤ length v) × (n ≡ number (take 4 v))
front_some v n h = ⊎_elim (λ l. absurd (grind (arith, nat_tests))) (λ l. (omega (arith, l), grind (arith, nat_tests))) (cases_lt (length v) 4)

-- where the first four bytes differ, their numbers decide
pub front_decides : (a b : List ℕ) (x y : ℕ) → Bytes a → Bytes b → Some x ≡ front a → Some y ≡ front b → (x ≢ y) → nat_lt y x ≡ above a b
front_decides a b x y p q f g n =
    let u = front_some a x f in
    let w = front_some b y g in
    let l : length (take 4 a) ≡ length (take 4 b) = length-take-le 4 a u.0 ∙ sym (length-take-le 4 b w.0) in
    (λ i. nat_lt (w.1 i) (u.1 i))
    ∙ above_number (take 4 a) (take 4 b) (drop 4 a) (drop 4 b) l (bytes_take 4 a p) (bytes_take 4 b q) (λ e. n (u.1 ∙ e ∙ sym w.1))
    ∙ (λ i. above (take-append-drop 4 a i) (take-append-drop 4 b i))
