-- Big-endian numbers: bytes are the digits of their number, and adding one raises the last byte below 255.
use Rattle.std.proofs.Common.{◌≡◌, ℕ, zero, suc, ◌+◌, ◌-◌, ◌*◌, ◌/◌, ◌%◌, ◌^◌, ◌<◌, ◌⊎◌, List, [], ◌∷◌, ◌++◌, length, get_or, take, replicate, Some, None, sym, refl, ap, ◌∙◌, subst, inl, inr, ⊎_elim, mod-lt, div-lt_iff_lt-mul, add-mul, pow-suc, arith}
use native.Mathlib.Nat.{pow-succ'}
use lib.ListN.{length-replicate}
use lib.Arith.{digits_lt, digits_div, digits_mod}
use Rattle.std.proofs.lemmas.Bool.{cases_lt}
use Rattle.strings.specs.Lexical.{Bytes}
use Rattle.strings.specs.Numbers.{number, digits}
use Rattle.strings.specs.Cut.{Incremented, LastBelow}

pub bytes_from : (xs : List ℕ) → ((i : ℕ) → get_or xs i 0 < 256) → Bytes xs
bytes_from [] h = tt
bytes_from (x ∷ xs) h = (h 0, bytes_from xs (λ i. h (suc i)))

pub bytes_take : (l : ℕ) (v : List ℕ) → Bytes v → Bytes (take l v)
bytes_take zero v b = tt
bytes_take (suc l) [] b = tt
bytes_take (suc l) (x ∷ v) b = (b.0, bytes_take l v b.1)

pub number_lt : (xs : List ℕ) → Bytes xs → number xs < 256 ^ length xs
number_lt [] b = omega arith
number_lt (x ∷ xs) b = rw pow-suc (omega (arith, digits_lt b.0 (number_lt xs b.1)))

-- ---- digits

pub power_pos : (l : ℕ) → 0 < 256 ^ l
power_pos zero = omega arith
power_pos (suc l) = rw pow-suc (omega (arith, power_pos l))

pub length_digits : (l n : ℕ) → length (digits l n) ≡ l
length_digits zero n = refl
length_digits (suc l) n = ap suc (length_digits l (n % 256 ^ l))

pub bytes-digits : (l n : ℕ) → n < 256 ^ l → Bytes (digits l n)
bytes-digits zero n h = tt
bytes-digits (suc l) n h =
    let p = power_pos l in
    let k : n < 256 * 256 ^ l = subst (λ z. n < z) (pow-succ' 256 l) h in
    ((div-lt_iff_lt-mul p).1 k, bytes-digits l (n % 256 ^ l) (mod-lt n p))

pub digits_number : (xs : List ℕ) → Bytes xs → digits (length xs) (number xs) ≡ xs
digits_number [] b = refl
digits_number (x ∷ xs) b =
    let h = number_lt xs b.1 in
    let d : number (x ∷ xs) / 256 ^ length xs ≡ x = digits_div x h in
    let m : number (x ∷ xs) % 256 ^ length xs ≡ number xs = digits_mod x h in
    (λ i. d i ∷ digits (length xs) (m i)) ∙ ap (λ t. x ∷ t) (digits_number xs b.1)

-- ---- the last byte below 255

abbrev pub Full : List ℕ → Type 0
Full [] = Unit {0}
Full (x ∷ xs) = (x ≡ 255) × Full xs

pub full_from : (t : List ℕ) → ((k : ℕ) → k < length t → get_or t k 0 ≡ 255) → Full t
full_from [] h = tt
full_from (x ∷ t) h = (h 0 (omega arith), full_from t (λ k l. h (suc k) (omega arith)))

pub full_number : (t : List ℕ) → Full t → number t + 1 ≡ 256 ^ length t
full_number [] f = refl
full_number (x ∷ t) f =
    let k : x * 256 ^ length t ≡ 255 * 256 ^ length t = ap (λ n. n * 256 ^ length t) f.0 in
    rw pow-suc (omega (arith, full_number t f.1))

pub zeros_number : (n : ℕ) → number (replicate n 0) ≡ 0
zeros_number zero = refl
zeros_number (suc n) = omega (arith, zeros_number n)

pub zeros_bytes : (n : ℕ) → Bytes (replicate n 0)
zeros_bytes zero = tt
zeros_bytes (suc n) = (omega arith, zeros_bytes n)

-- r is t plus one, in as many bytes
pub record PlusOne (t r : List ℕ) : Type 0 where
  pub long : length r ≡ length t
  pub bytes : Bytes r
  pub more : number r ≡ number t + 1

pub next_here : (x : ℕ) (t : List ℕ) → x < 255 → Full t → PlusOne (x ∷ t) ((x + 1) ∷ replicate (length t) 0)
next_here x t h f = record {
  long = omega (arith, length-replicate {A = ℕ} (length t) 0);
  bytes = (omega arith, zeros_bytes (length t));
  more =
      let k : (x + 1) * 256 ^ length (replicate (length t) 0) ≡ (x + 1) * 256 ^ length t = ap (λ n. (x + 1) * 256 ^ n) (length-replicate {A = ℕ} (length t) 0) in
      omega (arith, add-mul x 1 (256 ^ length t), full_number t f, zeros_number (length t));
}

pub next_there : (x : ℕ) (t r : List ℕ) → x < 256 → PlusOne t r → PlusOne (x ∷ t) (x ∷ r)
next_there x t r h n = record {
  long = ap suc n.long;
  bytes = (h, n.bytes);
  more = let k : x * 256 ^ length r ≡ x * 256 ^ length t = ap (λ m. x * 256 ^ m) n.long in omega (arith, n.more);
}

pub full_or_next : (t : List ℕ) → Bytes t → Full t ⊎ ((r : List ℕ) × PlusOne t r)
full_or_next [] b = inl tt
full_or_next (x ∷ t) b =
    ⊎_elim (λ f. ⊎_elim (λ l. inr ((x + 1) ∷ replicate (length t) 0, next_here x t l f)) (λ l. inl (omega arith, f)) (cases_lt x 255))
    (λ n. inr (x ∷ n.0, next_there x t n.0 b.0 n.1)) (full_or_next t b.1)

-- the byte at p raised, and zeros behind it
pub raised_at : (p : ℕ) (t : List ℕ) → Bytes t → p < length t → get_or t p 0 < 255 → ((k : ℕ) → p < k → k < length t → get_or t k 0 ≡ 255)
    → PlusOne t (take p t ++ (get_or t p 0 + 1) ∷ replicate (length t - (p + 1)) 0)
raised_at p [] b h l f = absurd (omega arith)
raised_at zero (x ∷ t) b h l f =
    let e : length t ≡ length (x ∷ t) - (0 + 1) = omega arith in
    subst (λ n. PlusOne (x ∷ t) ((x + 1) ∷ replicate n 0)) e (next_here x t l (full_from t (λ k q. f (suc k) (omega arith) (omega arith))))
raised_at (suc p) (x ∷ t) b h l f =
    let e : length t - (p + 1) ≡ length (x ∷ t) - (suc p + 1) = omega arith in
    subst (λ n. PlusOne (x ∷ t) (x ∷ (take p t ++ (get_or t p 0 + 1) ∷ replicate n 0))) e
    (next_there x t _ b.0 (raised_at p t b.1 (omega arith) l (λ k q r. f (suc k) (omega arith) (omega arith))))

-- ---- in l bytes

pub plus_one_digits : (t r : List ℕ) → PlusOne t r → (number t + 1 < 256 ^ length t) × (r ≡ digits (length t) (number t + 1))
plus_one_digits t r p = (
  omega (arith, number_lt r p.bytes, p.more, ap (λ n. 256 ^ n) p.long),
  sym (digits_number r p.bytes) ∙ (λ i. digits (p.long i) (p.more i)),
)

pub number_fits : (p : ℕ) (t : List ℕ) → Bytes t → LastBelow t (Some p) → number t + 1 < 256 ^ length t
number_fits p t b h = (plus_one_digits t _ (raised_at p t b h.0 h.1 h.2)).0

pub raised-digits : (p : ℕ) (t : List ℕ) → Bytes t → LastBelow t (Some p)
    → take p t ++ (get_or t p 0 + 1) ∷ replicate (length t - (p + 1)) 0 ≡ digits (length t) (number t + 1)
raised-digits p t b h = (plus_one_digits t _ (raised_at p t b h.0 h.1 h.2)).1

pub incremented_none : (t : List ℕ) → LastBelow t None → Incremented t t None
incremented_none t h = (omega (arith, full_number t (full_from t h)), refl)

pub ruleset incremented = (number_fits, raised-digits, incremented_none)
