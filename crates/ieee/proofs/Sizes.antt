-- Within one sign, data rise as their bits below the sign do: sizes of finite numbers by exponent and then
-- significand, NaN by quiet and then payload. Shown once, over the widths of the two fields.
use Rattle.std.proofs.Common.{◌≡◌, ℕ, suc, ◌+◌, ◌-◌, ◌*◌, ◌%◌, ◌^◌, ◌<◌, ◌≤◌, Bool, true, false, not, eqb, ltb, leb, ◌⊎◌, sym, refl, ap, ◌∙◌, inl, inr, ⊎_elim, mul-le-mul_right, mod-eq_of_lt, mul_assoc, add-mul, mul-le-mul_left, mul-lt-mul_of_pos_right, pow-suc, arith}
use native.Mathlib.Nat.{pow-le-pow_right, mod-eq-sub-mod}
use lib.Arith.{digits_lt}
use Rattle.std.proofs.lemmas.Nat.{pow_pos}
use Rattle.std.proofs.lemmas.Bool.{cases_Bool, cases_order, cases_lt, cond-true, cond-false, eq-eqb, ne_eqb, lt-ltb, le-ltb, leb-true, leb-false, le-leb, lt-leb}
use Rattle.ieee.specs.Formats.{Format, size, quiet, payload}
use Rattle.ieee.specs.TotalOrder.{nans_ordered}

-- the bits below the sign as a number
abbrev pub low : Format → ℕ → ℕ → ℕ
low f e t = e * 2 ^ f.significand + t

-- one pair of numbers is in the order of the other
abbrev Alike : ℕ → ℕ → ℕ → ℕ → Type 0
Alike x y u v = ((x < y) × (u < v)) ⊎ (((x ≡ y) × (u ≡ v)) ⊎ ((y < x) × (v < u)))

alike_tests : (x y u v : ℕ) → Alike x y u v → ltb x y ≡ ltb u v
alike_tests x y u v (inl h) = lt-ltb x y h.0 ∙ sym (lt-ltb u v h.1)
alike_tests x y u v (inr (inl h)) = le-ltb x y (omega arith) ∙ sym (le-ltb u v (omega arith))
alike_tests x y u v (inr (inr h)) = le-ltb x y (omega arith) ∙ sym (le-ltb u v (omega arith))

module _ (f : Format) where
  abbrev unit : ℕ
  unit = 2 ^ f.significand

  size-least : (e t : ℕ) → e ≡ 0 → size f e t ≡ t
  size-least e t h = cond-true (eqb e 0) t ((unit + t) * 2 ^ (e - 1)) (eq-eqb e 0 h)

  size-more : (e t : ℕ) → 0 < e → size f e t ≡ (unit + t) * 2 ^ (e - 1)
  size-more e t h = cond-false (eqb e 0) t ((unit + t) * 2 ^ (e - 1)) (ne_eqb e 0 (λ z. omega arith))

  -- two to the exponent, one step down
  pow_step : (e : ℕ) → 0 < e → 2 ^ e ≡ 2 ^ (e - 1) * 2
  pow_step e h = ap (λ n. 2 ^ n) (let s : e ≡ suc (e - 1) = omega arith in s) ∙ pow-suc 2 (e - 1)

  -- a size lies below the next exponent's
  size_below : (e t : ℕ) → t < unit → size f e t < unit * 2 ^ e
  size_below e t h =
      ⊎_elim
      (λ z.
      let one : unit * 2 ^ e ≡ unit * 1 = ap (λ n. unit * 2 ^ n) z in
      omega (arith, size-least e t z))
      (⊎_elim (λ l. absurd (omega arith))
      (λ l.
      let c : ℕ = 2 ^ (e - 1) in
      let lt : (unit + t) * c < (unit + unit) * c = mul-lt-mul_of_pos_right (let k : unit + t < unit + unit = omega arith in k) (pow_pos (e - 1)) in
      let up : unit * 2 ^ e ≡ unit * (c * 2) = ap (λ n. unit * n) (pow_step e l) in
      omega (arith, size-more e t l, add-mul unit unit c, mul_assoc unit c 2)))
      (cases_order e 0)

  -- and not below its own
  size_from : (e t : ℕ) → 0 < e → unit * 2 ^ (e - 1) ≤ size f e t
  size_from e t h =
      let k : unit * 2 ^ (e - 1) ≤ (unit + t) * 2 ^ (e - 1) = mul-le-mul_right (2 ^ (e - 1)) (let i : unit ≤ unit + t = omega arith in i) in
      omega (arith, size-more e t h)

  size_exponent : (e t d u : ℕ) → t < unit → e < d → size f e t < size f d u
  size_exponent e t d u h l =
      let p : 2 ^ e ≤ 2 ^ (d - 1) = pow-le-pow_right (let z : 0 < 2 = omega arith in z) (let i : e ≤ d - 1 = omega arith in i) in
      let q : unit * 2 ^ e ≤ unit * 2 ^ (d - 1) = mul-le-mul_left unit p in
      omega (arith, size_below e t h, size_from d u (omega arith))

  size_significand : (e t u : ℕ) → t < u → size f e t < size f e u
  size_significand e t u h =
      ⊎_elim
      (λ z. omega (arith, size-least e t z, size-least e u z))
      (⊎_elim (λ l. absurd (omega arith))
      (λ l.
      let lt : (unit + t) * 2 ^ (e - 1) < (unit + u) * 2 ^ (e - 1) = mul-lt-mul_of_pos_right (let k : unit + t < unit + u = omega arith in k) (pow_pos (e - 1)) in
      omega (arith, size-more e t l, size-more e u l)))
      (cases_order e 0)

  pub low_exponent : (e t d u : ℕ) → t < unit → e < d → low f e t < low f d u
  low_exponent e t d u h l =
      let k : e * unit + t < d * unit = digits_lt l h in
      omega arith

  sizes_alike : (e t d u : ℕ) → t < unit → u < unit → Alike (size f e t) (size f d u) (low f e t) (low f d u)
  sizes_alike e t d u ht hu =
      ⊎_elim
      (λ z.
      let same : low f e u ≡ low f d u = ap (λ n. low f n u) z in
      let sames : size f e u ≡ size f d u = ap (λ n. size f n u) z in
      ⊎_elim
      (λ y. inr (inl (ap (λ n. size f e n) y ∙ sames, ap (λ n. low f e n) y ∙ same)))
      (⊎_elim
      (λ l. inl (omega (arith, size_significand e t u l, sames), omega (arith, same)))
      (λ l. inr (inr (omega (arith, size_significand e u t l, sames), omega (arith, same)))))
      (cases_order t u))
      (⊎_elim
      (λ l. inl (size_exponent e t d u ht l, low_exponent e t d u ht l))
      (λ l. inr (inr (size_exponent d u e t hu l, low_exponent d u e t hu l))))
      (cases_order e d)

  pub sizes_order : (e t d u : ℕ) → t < unit → u < unit → ltb (size f e t) (size f d u) ≡ ltb (low f e t) (low f d u)
  sizes_order e t d u ht hu = alike_tests (size f e t) (size f d u) (low f e t) (low f d u) (sizes_alike e t d u ht hu)

  -- ---- NaN

  module _ (some : 0 < f.significand) where
    abbrev half : ℕ
    half = 2 ^ (f.significand - 1)

    two_halves : unit ≡ half + half
    two_halves = omega (arith, ap (λ n. 2 ^ n) (let s : f.significand ≡ suc (f.significand - 1) = omega arith in s), pow-suc 2 (f.significand - 1))

    payload-quiet : (t : ℕ) → t < unit → quiet f t ≡ true → t ≡ half + payload f t
    payload-quiet t h q =
        let k : half ≤ t = leb-true half t q in
        let m : t % half ≡ (t - half) % half = mod-eq-sub-mod k in
        let n : (t - half) % half ≡ t - half = mod-eq_of_lt (let l : t - half < half = omega (arith, two_halves) in l) in
        omega arith

    payload_signaling : (t : ℕ) → quiet f t ≡ false → (t ≡ payload f t) × (t < half)
    payload_signaling t q =
        let k : t < half = leb-false half t q in
        (sym (mod-eq_of_lt k), k)

    not_leb : (a b : ℕ) → not (leb a b) ≡ ltb b a
    not_leb a b = ⊎_elim (λ l. ap not (lt-leb a b l) ∙ sym (lt-ltb b a l)) (λ l. ap not (le-leb a b l) ∙ sym (le-ltb b a l)) (cases_lt b a)

    shifted : (h a b p o : ℕ) → a ≡ h + p → b ≡ h + o → ltb p o ≡ ltb a b
    shifted h a b p o e d =
        ⊎_elim (λ l. lt-ltb p o l ∙ sym (lt-ltb a b (omega arith))) (λ l. le-ltb p o l ∙ sym (le-ltb a b (omega arith))) (cases_lt p o)

    abbrev ordered : Bool → ℕ → ℕ → Bool → Bool → Bool
    ordered s t u q r = nans_ordered s q (payload f t) r (payload f u)

    pub nans_rise : (t u : ℕ) → t < unit → u < unit → not (nans_ordered false (quiet f t) (payload f t) (quiet f u) (payload f u)) ≡ ltb u t
    nans_rise t u ht hu =
        ⊎_elim
        (λ q. ap (λ b. not (ordered false t u b (quiet f u))) q ∙ ⊎_elim
        (λ r. ap (λ b. not (ordered false t u true b)) r ∙ not_leb (payload f t) (payload f u)
        ∙ shifted half u t (payload f u) (payload f t) (payload-quiet u hu r) (payload-quiet t ht q))
        (λ r. ap (λ b. not (ordered false t u true b)) r ∙ sym (lt-ltb u t (omega (arith, leb-true half t q, (payload_signaling u r).1))))
        (cases_Bool (quiet f u)))
        (λ q. ap (λ b. not (ordered false t u b (quiet f u))) q ∙ ⊎_elim
        (λ r. ap (λ b. not (ordered false t u false b)) r ∙ sym (le-ltb u t (omega (arith, leb-true half u r, (payload_signaling t q).1))))
        (λ r. ap (λ b. not (ordered false t u false b)) r ∙ not_leb (payload f t) (payload f u)
        ∙ shifted 0 u t (payload f u) (payload f t) (omega (arith, (payload_signaling u r).0)) (omega (arith, (payload_signaling t q).0)))
        (cases_Bool (quiet f u)))
        (cases_Bool (quiet f t))

    -- a negative NaN's order is the other way round
    nans_mirror : (q r : Bool) (p o : ℕ) → nans_ordered true q p r o ≡ nans_ordered false r o q p
    nans_mirror true true p o = refl
    nans_mirror true false p o = refl
    nans_mirror false true p o = refl
    nans_mirror false false p o = refl

    pub nans_fall : (t u : ℕ) → t < unit → u < unit → not (nans_ordered true (quiet f t) (payload f t) (quiet f u) (payload f u)) ≡ ltb t u
    nans_fall t u ht hu = ap not (nans_mirror (quiet f t) (quiet f u) (payload f t) (payload f u)) ∙ nans_rise u t hu ht
