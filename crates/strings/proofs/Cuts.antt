-- The cuts of bytes: their laws over all strings, and that the upper one is refused exactly where no string reaches.
use Rattle.std.proofs.Common.{◌≡◌, ℕ, zero, suc, ◌+◌, ◌*◌, ◌/◌, ◌%◌, ◌^◌, ◌<◌, ◌≤◌, true, false, ◌&&◌, ltb, List, [], ◌∷◌, ◌++◌, length, take, drop, sym, refl, ap, ◌∙◌, subst, inl, inr, ⊎_elim, mul-le-mul_right, mod-lt, add-mul, div-add-mod', arith}
use Rattle.std.proofs.lemmas.Bool.{cases_lt, lt-ltb, le-ltb, cond-true, cond-false, and_from, and_left, and_right, true≢false}
use Rattle.std.proofs.lemmas.List.{length-take-le, append-nil, take_all, drop_all}
use Rattle.kinds.specs.Cuts.{Bound, whole, Shortens, whole_shortens, CutBelow, CutAbove}
use Rattle.strings.specs.Lexical.{above, Bytes}
use Rattle.strings.specs.Numbers.{number, digits}
use Rattle.strings.specs.Cut.{shortened, longer, lower, upper, raised, NoneReaches, Exactly}
use Rattle.strings.proofs.Orders.{Above, above_from, above_no, asym, front_below}
use Rattle.strings.proofs.Numbers.{Full, length_digits, bytes-digits, power_pos, full_or_next, plus_one_digits}

pub never_above_itself : (v : List ℕ) → above v v ≡ false
never_above_itself v = above_no v v (λ a. asym v v a a)

-- ---- a bound that is the value, and one that is shorter

pub lower-cut : (l : ℕ) (v : List ℕ) → l < length v → lower l v ≡ shortened (take l v)
lower-cut l v h = cond-true (longer l v) (shortened (take l v)) (whole v) (lt-ltb l (length v) h)

pub lower-whole : (l : ℕ) (v : List ℕ) → length v ≤ l → lower l v ≡ whole v
lower-whole l v h = cond-false (longer l v) (shortened (take l v)) (whole v) (le-ltb l (length v) h)

pub upper-cut : (l : ℕ) (v : List ℕ) → l < length v → raised l v < 256 ^ l → upper l v ≡ shortened (digits l (raised l v))
upper-cut l v h k =
    cond-true (longer l v && ltb (raised l v) (256 ^ l)) (shortened (digits l (raised l v))) (whole v)
    (and_from (longer l v) (ltb (raised l v) (256 ^ l)) (lt-ltb l (length v) h) (lt-ltb (raised l v) (256 ^ l) k))

pub upper_short : (l : ℕ) (v : List ℕ) → length v ≤ l → upper l v ≡ whole v
upper_short l v h =
    cond-false (longer l v && ltb (raised l v) (256 ^ l)) (shortened (digits l (raised l v))) (whole v)
    (and_left (longer l v) (ltb (raised l v) (256 ^ l)) (le-ltb l (length v) h))

pub upper_full : (l : ℕ) (v : List ℕ) → 256 ^ l ≤ raised l v → upper l v ≡ whole v
upper_full l v h =
    cond-false (longer l v && ltb (raised l v) (256 ^ l)) (shortened (digits l (raised l v))) (whole v)
    (and_right (longer l v) (ltb (raised l v) (256 ^ l)) (le-ltb (raised l v) (256 ^ l) h))

-- what holds of a bound in each case holds of it
pub lower_by : (P : Bound → Type 0) (l : ℕ) (v : List ℕ) → (l < length v → P (shortened (take l v))) → P (whole v) → P (lower l v)
lower_by P l v f g =
    ⊎_elim (λ h. subst P (sym (lower-cut l v h)) (f h)) (λ h. subst P (sym (lower-whole l v h)) g) (cases_lt l (length v))

pub upper_by : (P : Bound → Type 0) (l : ℕ) (v : List ℕ)
    → (l < length v → raised l v < 256 ^ l → P (shortened (digits l (raised l v)))) → P (whole v) → P (upper l v)
upper_by P l v f g =
    ⊎_elim
    (λ h. ⊎_elim (λ k. subst P (sym (upper-cut l v h k)) (f h k)) (λ k. subst P (sym (upper_full l v k)) g) (cases_lt (raised l v) (256 ^ l)))
    (λ h. subst P (sym (upper_short l v h)) g) (cases_lt l (length v))

-- ---- the laws

pub lower_below : (l : ℕ) (v : List ℕ) → above (lower l v).bytes v ≡ false
lower_below l v = lower_by (λ b. above b.bytes v ≡ false) l v (λ h. above_no (take l v) v (front_below l v)) (never_above_itself v)

-- the digits of a number above that of the front are at or above the value
digits_reach : (l n : ℕ) (v : List ℕ) → l ≤ length v → number (take l v) < n → n < 256 ^ l → Above v (digits l n) → ⊥
digits_reach zero n v h a b c = omega arith
digits_reach (suc l) n [] h a b c = omega arith
digits_reach (suc l) n (x ∷ v) h a b c =
    let q = n / 256 ^ l in
    let r = n % 256 ^ l in
    let k : length (take l v) ≡ l = length-take-le l v (omega arith) in
    let e : q * 256 ^ l + r ≡ n = div-add-mod' n (256 ^ l) in
    let s : r < 256 ^ l = mod-lt n (power_pos l) in
    let w : x * 256 ^ length (take l v) ≡ x * 256 ^ l = ap (λ m. x * 256 ^ m) k in
    ⊎_elim
    (λ d. let g : q * 256 ^ l + 1 * 256 ^ l ≤ x * 256 ^ l = subst (λ z. z ≤ x * 256 ^ l) (add-mul q 1 (256 ^ l)) (mul-le-mul_right (256 ^ l) (omega arith)) in omega arith)
    (λ d. let g : x * 256 ^ l ≡ q * 256 ^ l = ap (λ m. m * 256 ^ l) d.0 in digits_reach l r v (omega arith) (omega arith) s d.1) c

pub raised-above : (l : ℕ) (v : List ℕ) → l < length v → raised l v < 256 ^ l → above v (digits l (raised l v)) ≡ false
raised-above l v h k = above_no v (digits l (raised l v)) (digits_reach l (raised l v) v (omega arith) (omega arith) k)

pub upper_above : (l : ℕ) (v : List ℕ) → above v (upper l v).bytes ≡ false
upper_above l v = upper_by (λ b. above v b.bytes ≡ false) l v (raised-above l v) (never_above_itself v)

pub shortens : (l : ℕ) (v bs : List ℕ) → length bs ≤ l → l < length v → Shortens l v (shortened bs)
shortens l v bs h k = record { whole = λ e. absurd (true≢false e); short = λ _. (h, k) }

pub lower_shortens : (l : ℕ) (v : List ℕ) → Shortens l v (lower l v)
lower_shortens l v = lower_by (Shortens l v) l v (λ h. shortens l v (take l v) (omega (arith, length-take-le l v (omega arith))) h) (whole_shortens l v)

pub upper_shortens : (l : ℕ) (v : List ℕ) → Shortens l v (upper l v)
upper_shortens l v =
    upper_by (Shortens l v) l v (λ h k. shortens l v (digits l (raised l v)) (omega (arith, length_digits l (raised l v))) h) (whole_shortens l v)

-- ---- exactly

full_refused : (l : ℕ) (v s : List ℕ) → l < length v → Full (take l v) → Bytes s → length s ≤ l → Above v s
full_refused l [] s h f b k = absurd (omega arith)
full_refused l (x ∷ v) [] h f b k = tt
full_refused zero (x ∷ v) (y ∷ s) h f b k = absurd (omega arith)
full_refused (suc l) (x ∷ v) (y ∷ s) h f b k =
    ⊎_elim (λ q. inl (omega (arith, f.0))) (λ q. inr (omega (arith, f.0, b.0), full_refused l v s (omega arith) f.1 b.1 (omega arith))) (cases_lt y 255)

pub none_reaches : (l : ℕ) (v : List ℕ) → Bytes (take l v) → l < length v → 256 ^ l ≤ raised l v → NoneReaches l v
none_reaches l v b h k s bs ls =
    ⊎_elim (λ f. above_from v s (full_refused l v s h f bs ls))
    (λ n. absurd (omega (arith, (plus_one_digits (take l v) n.0 n.1).0, ap (λ m. 256 ^ m) (length-take-le l v (omega arith)))))
    (full_or_next (take l v) b)

pub some_reaches : (l : ℕ) (v : List ℕ) → l < length v → raised l v < 256 ^ l → NoneReaches l v → ⊥
some_reaches l v h k none =
    true≢false (sym (none (digits l (raised l v)) (bytes-digits l (raised l v) k) (omega (arith, length_digits l (raised l v)))) ∙ raised-above l v h k)

pub exactly_cut : (l : ℕ) (v : List ℕ) → l < length v → raised l v < 256 ^ l → Exactly l v true
exactly_cut l v h k = record {
  refused = λ _ e. absurd (true≢false e);
  needed = λ _ none. absurd (some_reaches l v h k none);
  short = λ s. absurd (omega arith);
}

pub exactly_full : (l : ℕ) (v : List ℕ) → Bytes (take l v) → l < length v → 256 ^ l ≤ raised l v → Exactly l v false
exactly_full l v b h k = record { refused = λ _ _. none_reaches l v b h k; needed = λ _ _. refl; short = λ _. refl }

-- ---- what the functions answer

pub below_whole : (v : List ℕ) (b : Bound) → b ≡ whole v → CutBelow b v (length v, false)
below_whole v b e =
    subst (λ b. CutBelow b v (length v, false)) (sym e) (record { long = refl; cut = refl; front = take_all (length v) v (omega arith) })

pub below_cut : (n : ℕ) (v : List ℕ) (b : Bound) → n ≤ length v → b ≡ shortened (take n v) → CutBelow b v (n, true)
below_cut n v b h e =
    subst (λ b. CutBelow b v (n, true)) (sym e) (record { long = sym (length-take-le n v h); cut = refl; front = refl })

pub above-whole : (v after : List ℕ) (b : Bound) → b ≡ whole v → after ≡ v → CutAbove b v after (length v, false)
above-whole v after b e a =
    subst (λ b. CutAbove b v after (length v, false)) (sym e)
    (record { long = refl; cut = refl; bound = a ∙ sym (ap (λ x. v ++ x) (drop_all (length v) v (omega arith)) ∙ append-nil v) })

pub above-cut : (n : ℕ) (v after bs : List ℕ) (b : Bound) → b ≡ shortened bs → length bs ≡ n → after ≡ bs ++ drop n v → CutAbove b v after (n, true)
above-cut n v after bs b e h a =
    subst (λ b. CutAbove b v after (n, true)) (sym e) (record { long = sym h; cut = refl; bound = a ∙ ap (λ k. bs ++ drop k v) (sym h) })

-- the front of l bytes was raised, or could not be
pub raised_exactly : (l : ℕ) (v : List ℕ) → l < length v → number (take l v) + 1 < 256 ^ length (take l v) → Exactly l v true
raised_exactly l v h i = exactly_cut l v h (omega (arith, i, ap (λ m. 256 ^ m) (length-take-le l v (omega arith))))

pub full_exactly : (l : ℕ) (v : List ℕ) → Bytes (take l v) → l < length v → 256 ^ length (take l v) ≤ number (take l v) + 1 → Exactly l v false
full_exactly l v b h i = exactly_full l v b h (omega (arith, i, ap (λ m. 256 ^ m) (length-take-le l v (omega arith))))

pub ruleset exactly_raised = (raised_exactly, full_exactly)
