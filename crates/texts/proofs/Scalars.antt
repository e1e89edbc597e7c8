-- A character's bytes by the range that its number lies in, and the other way, the bytes that are a character's.
use Rattle.std.proofs.Common.{◌≡◌, ℕ, ◌+◌, ◌-◌, ◌*◌, ◌/◌, ◌<◌, ◌≤◌, true, ltb, leb, ◌⊎◌, List, [], ◌∷◌, IsUtf8, refl, ◌∙◌, inl, inr, ⊎_elim, arith}
use lib.Utf8.{scalar, encode, next, low_scalar}
use Rattle.std.specs.Int.{IsInRange}
use Rattle.std.proofs.lemmas.List.{append-nil}
use Rattle.std.proofs.lemmas.Bool.{cases_lt, lt-ltb, le-ltb, le-leb, cond-true, cond-false, and_from}

abbrev pub Scalar : ℕ → Type 0
Scalar c = (c < 55296) ⊎ ((57344 ≤ c) × (c < 1114112))

scalar_from : (c : ℕ) → Scalar c → scalar c ≡ true
scalar_from c (inl h) = low_scalar c h
scalar_from c (inr h) =
    cond-false (ltb c 55296) true _ (le-ltb c 55296 (omega arith))
    ∙ and_from (leb 57344 c) (ltb c 1114112) (le-leb 57344 c h.0) (lt-ltb c 1114112 h.1)

-- ---- from the character to its bytes

pub encode_one : (c : ℕ) → c < 128 → encode c ≡ c ∷ []
unfolding encode
encode_one c h = cond-true (ltb c 128) _ _ (lt-ltb c 128 h)

pub encode_two : (c : ℕ) → 128 ≤ c → c < 2048 → encode c ≡ (192 + c / 64) ∷ next c ∷ []
unfolding encode
encode_two c l h = cond-false (ltb c 128) _ _ (le-ltb c 128 l) ∙ cond-true (ltb c 2048) _ _ (lt-ltb c 2048 h)

pub encode_three : (c : ℕ) → 2048 ≤ c → c < 65536 → encode c ≡ (224 + c / 4096) ∷ next (c / 64) ∷ next c ∷ []
unfolding encode
encode_three c l h =
    cond-false (ltb c 128) _ _ (le-ltb c 128 (omega arith)) ∙ cond-false (ltb c 2048) _ _ (le-ltb c 2048 l)
    ∙ cond-true (ltb c 65536) _ _ (lt-ltb c 65536 h)

pub encode_four : (c : ℕ) → 65536 ≤ c → encode c ≡ (240 + c / 262144) ∷ next (c / 4096) ∷ next (c / 64) ∷ next c ∷ []
unfolding encode
encode_four c l =
    cond-false (ltb c 128) _ _ (le-ltb c 128 (omega arith)) ∙ cond-false (ltb c 2048) _ _ (le-ltb c 2048 (omega arith))
    ∙ cond-false (ltb c 65536) _ _ (le-ltb c 65536 l)

-- a byte that follows the first of a character
abbrev pub Follows : ℕ → Type 0
Follows b = IsInRange 128 191 b

follows_next : (x : ℕ) → Follows (next x)
follows_next x = (omega arith, omega arith)

-- how many bytes a character has, and that together they say its number
pub data Shape (c : ℕ) : Type 0 where
  of_one : encode c ≡ c ∷ [] → Shape c
  of_two : (a b : ℕ) → Follows b → c + 12416 ≡ a * 64 + b → encode c ≡ a ∷ b ∷ [] → Shape c
  of_three : (a b d : ℕ) → Follows b → Follows d → c + 925824 ≡ a * 4096 + b * 64 + d → encode c ≡ a ∷ b ∷ d ∷ [] → Shape c
  of_four : (a b d e : ℕ) → Follows b → Follows d → Follows e → c + 63447168 ≡ a * 262144 + b * 4096 + d * 64 + e
      → encode c ≡ a ∷ b ∷ d ∷ e ∷ [] → Shape c

pub shape : (c : ℕ) → Shape c
shape c =
    ⊎_elim (λ h. of_one (encode_one c h))
    (λ l.
    ⊎_elim (λ h. of_two (192 + c / 64) (next c) (follows_next c) (omega arith) (encode_two c l h))
    (λ m.
    ⊎_elim (λ h. of_three (224 + c / 4096) (next (c / 64)) (next c) (follows_next (c / 64)) (follows_next c) (omega arith) (encode_three c m h))
    (λ n. of_four (240 + c / 262144) (next (c / 4096)) (next (c / 64)) (next c) (follows_next (c / 4096)) (follows_next (c / 64)) (follows_next c) (omega arith) (encode_four c n))
    (cases_lt c 65536)) (cases_lt c 2048)) (cases_lt c 128)

-- ---- from the bytes to the character

one_char : (c : ℕ) (x : List ℕ) → Scalar c → encode c ≡ x → IsUtf8 x
one_char c x s e = (c ∷ [], (and_from (scalar c) true (scalar_from c s) refl, append-nil (encode c) ∙ e))

pub one_utf8 : (a : ℕ) → a < 128 → IsUtf8 (a ∷ [])
one_utf8 a h = one_char a (a ∷ []) (inl (omega arith)) (encode_one a h)

pub two_utf8 : (a b : ℕ) → IsInRange 194 223 a → Follows b → IsUtf8 (a ∷ b ∷ [])
two_utf8 a b h f =
    let c = (a - 192) * 64 + (b - 128) in
    let at : 192 + c / 64 ≡ a = omega arith in
    let bt : next c ≡ b = omega arith in
    one_char c (a ∷ b ∷ []) (inl (omega arith)) (encode_two c (omega arith) (omega arith) ∙ (λ i. at i ∷ bt i ∷ []))

pub three_utf8 : (a b d c : ℕ) → c + 925824 ≡ a * 4096 + b * 64 + d → IsInRange 224 239 a → Follows b → Follows d → 2048 ≤ c → Scalar c
    → IsUtf8 (a ∷ b ∷ d ∷ [])
three_utf8 a b d c v h f g l s =
    let at : 224 + c / 4096 ≡ a = omega arith in
    let bt : next (c / 64) ≡ b = omega arith in
    let dt : next c ≡ d = omega arith in
    one_char c (a ∷ b ∷ d ∷ []) s (encode_three c l (omega arith) ∙ (λ i. at i ∷ bt i ∷ dt i ∷ []))

pub four_utf8 : (a b d e c : ℕ) → c + 63447168 ≡ a * 262144 + b * 4096 + d * 64 + e → Follows b → Follows d → Follows e → 65536 ≤ c → c < 1114112
    → IsUtf8 (a ∷ b ∷ d ∷ e ∷ [])
four_utf8 a b d e c v f g k l h =
    let at : 240 + c / 262144 ≡ a = omega arith in
    let bt : next (c / 4096) ≡ b = omega arith in
    let dt : next (c / 64) ≡ d = omega arith in
    let et : next c ≡ e = omega arith in
    one_char c (a ∷ b ∷ d ∷ e ∷ []) (inr (omega arith, h)) (encode_four c l ∙ (λ i. at i ∷ bt i ∷ dt i ∷ et i ∷ []))
