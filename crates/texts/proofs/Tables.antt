-- Text by the Unicode table is what the library's `IsUtf8` says, row by row, and what the test answers.
use Rattle.std.proofs.Common.{◌≡◌, ℕ, ◌+◌, ◌-◌, ◌*◌, ◌/◌, ◌<◌, ◌≤◌, true, false, eqb, List, [], ◌∷◌, IsUtf8, sym, refl, ap, ◌∙◌, subst, inl, inr, ⊎_elim, arith}
use lib.Utf8.{scalar, scalars, encode, encodes, next, scalar_cases}
use Rattle.std.specs.Int.{IsInRange}
use Rattle.std.specs.Str.{chars}
use Rattle.std.proofs.lemmas.Str.{IsUtf8-append, IsUtf8-nil, encodes-chars, scalars-chars}
use Rattle.std.proofs.lemmas.Bool.{cases_lt, cases_Bool, eqb-true, eq-eqb, and_parts, and_from, false≢true, true≢false}
use Rattle.texts.specs.Unicode.{Char, one, two, three_e0, three_low, three_ed, three_high, four_f0, four, four_f4, Text, none, more, same, is_text}
use Rattle.texts.specs.Steps.{Valid}
use Rattle.texts.proofs.Scalars.{Scalar, encode_one, encode_two, encode_three, encode_four, one_utf8, two_utf8, three_utf8, four_utf8}

char_utf8 : (x : List ℕ) → Char x → IsUtf8 x
char_utf8 _ (one a h) = one_utf8 a (omega arith)
char_utf8 _ (two a b h k) = two_utf8 a b h k
char_utf8 _ (three_e0 b c h k) =
    three_utf8 224 b c ((b - 128) * 64 + (c - 128)) (omega arith) (omega arith, omega arith) (omega arith, omega arith) k (omega arith) (inl (omega arith))
char_utf8 _ (three_low a b c h k f) =
    three_utf8 a b c ((a - 224) * 4096 + (b - 128) * 64 + (c - 128)) (omega arith) (omega arith, omega arith) k f (omega arith) (inl (omega arith))
char_utf8 _ (three_ed b c h k) =
    three_utf8 237 b c (53248 + (b - 128) * 64 + (c - 128)) (omega arith) (omega arith, omega arith) (omega arith, omega arith) k (omega arith) (inl (omega arith))
char_utf8 _ (three_high a b c h k f) =
    three_utf8 a b c ((a - 224) * 4096 + (b - 128) * 64 + (c - 128)) (omega arith) (omega arith, omega arith) k f (omega arith) (inr (omega arith, omega arith))
char_utf8 _ (four_f0 b c d h k f) =
    four_utf8 240 b c d ((b - 128) * 4096 + (c - 128) * 64 + (d - 128)) (omega arith) (omega arith, omega arith) k f (omega arith) (omega arith)
char_utf8 _ (four a b c d h k f g) =
    four_utf8 a b c d ((a - 240) * 262144 + (b - 128) * 4096 + (c - 128) * 64 + (d - 128)) (omega arith) k f g (omega arith) (omega arith)
char_utf8 _ (four_f4 b c d h k f) =
    four_utf8 244 b c d (1048576 + (b - 128) * 4096 + (c - 128) * 64 + (d - 128)) (omega arith) (omega arith, omega arith) k f (omega arith) (omega arith)

pub text_utf8 : (bs : List ℕ) → Text bs → IsUtf8 bs
text_utf8 _ none = IsUtf8-nil
text_utf8 _ (more x xs c cs) = IsUtf8-append x xs (char_utf8 x c) (text_utf8 xs cs)

two_of : (c : ℕ) → 128 ≤ c → c < 2048 → Char (encode c)
two_of c h k = subst Char (sym (encode_two c h k)) (two (192 + c / 64) (next c) (omega arith, omega arith) (omega arith, omega arith))

lead_as : (a a' : ℕ) (xs : List ℕ) → a ≡ a' → Char (a' ∷ xs) → Char (a ∷ xs)
lead_as a a' xs e c = subst (λ z. Char (z ∷ xs)) (sym e) c

three_of : (c : ℕ) → Scalar c → 2048 ≤ c → c < 65536 → Char (encode c)
three_of c s h k =
    let f : IsInRange 128 191 (next (c / 64)) = (omega arith, omega arith) in
    let g : IsInRange 128 191 (next c) = (omega arith, omega arith) in
    subst Char (sym (encode_three c h k))
    (⊎_elim
    (λ l. lead_as (224 + c / 4096) 224 (next (c / 64) ∷ next c ∷ []) (omega arith) (three_e0 (next (c / 64)) (next c) (omega arith, omega arith) g))
    (λ l.
    ⊎_elim (λ l2. three_low (224 + c / 4096) (next (c / 64)) (next c) (omega arith, omega arith) f g)
    (λ l2.
    ⊎_elim
    (λ l3. lead_as (224 + c / 4096) 237 (next (c / 64) ∷ next c ∷ []) (omega arith) (three_ed (next (c / 64)) (next c) (omega arith, ⊎_elim (λ q. omega arith) (λ q. absurd (omega arith)) s) g))
    (λ l3. three_high (224 + c / 4096) (next (c / 64)) (next c) (omega arith, omega arith) f g) (cases_lt c 57344)) (cases_lt c 53248)) (cases_lt c 4096))

four_of : (c : ℕ) → Scalar c → 65536 ≤ c → Char (encode c)
four_of c s h =
    let f : IsInRange 128 191 (next (c / 4096)) = (omega arith, omega arith) in
    let g : IsInRange 128 191 (next (c / 64)) = (omega arith, omega arith) in
    let i : IsInRange 128 191 (next c) = (omega arith, omega arith) in
    let u : c < 1114112 = ⊎_elim (λ q. omega arith) (λ q. q.1) s in
    subst Char (sym (encode_four c h))
    (⊎_elim
    (λ l. lead_as (240 + c / 262144) 240 (next (c / 4096) ∷ next (c / 64) ∷ next c ∷ []) (omega arith) (four_f0 (next (c / 4096)) (next (c / 64)) (next c) (omega arith, omega arith) g i))
    (λ l.
    ⊎_elim (λ l2. four (240 + c / 262144) (next (c / 4096)) (next (c / 64)) (next c) (omega arith, omega arith) f g i)
    (λ l2. lead_as (240 + c / 262144) 244 (next (c / 4096) ∷ next (c / 64) ∷ next c ∷ []) (omega arith) (four_f4 (next (c / 4096)) (next (c / 64)) (next c) (omega arith, omega arith) g i))
    (cases_lt c 1048576)) (cases_lt c 262144))

char_of : (c : ℕ) → Scalar c → Char (encode c)
char_of c s =
    ⊎_elim (λ h. subst Char (sym (encode_one c h)) (one c (omega arith, omega arith)))
    (λ a. ⊎_elim (λ h. two_of c a h) (λ b. ⊎_elim (λ h. three_of c s b h) (λ d. four_of c s d) (cases_lt c 65536)) (cases_lt c 2048)) (cases_lt c 128)

text_of : (cs : List ℕ) → scalars cs ≡ true → Text (encodes cs)
text_of [] e = none
text_of (c ∷ cs) e = let k = and_parts (scalar c) (scalars cs) e in more (encode c) (encodes cs) (char_of c (scalar_cases c k.0)) (text_of cs k.1)

pub utf8_text : (bs : List ℕ) → IsUtf8 bs → Text bs
utf8_text bs u = subst Text u.1.1 (text_of u.0 u.1.0)

-- ---- the test

same_true : (xs ys : List ℕ) → same xs ys ≡ true → xs ≡ ys
same_true [] [] e = refl
same_true [] (y ∷ ys) e = absurd (false≢true e)
same_true (x ∷ xs) [] e = absurd (false≢true e)
same_true (x ∷ xs) (y ∷ ys) e =
    let p = and_parts (eqb x y) (same xs ys) e in
    λ i. eqb-true x y p.0 i ∷ same_true xs ys p.1 i

same_refl : (xs : List ℕ) → same xs xs ≡ true
same_refl [] = refl
same_refl (x ∷ xs) = and_from (eqb x x) (same xs xs) (eq-eqb x x refl) (same_refl xs)

pub is_text_utf8 : (bs : List ℕ) → is_text bs ≡ true → IsUtf8 bs
is_text_utf8 bs e =
    let p = and_parts (scalars (chars bs)) (same (encodes (chars bs)) bs) e in
    (chars bs, (p.0, same_true (encodes (chars bs)) bs p.1))

pub utf8_is_text : (bs : List ℕ) → IsUtf8 bs → is_text bs ≡ true
utf8_is_text bs u =
    and_from (scalars (chars bs)) (same (encodes (chars bs)) bs) (scalars-chars bs u)
    (ap (λ t. same t bs) (encodes-chars bs u) ∙ same_refl bs)

pub not_text : (bs : List ℕ) → (IsUtf8 bs → ⊥) → is_text bs ≡ false
not_text bs n = ⊎_elim (λ e. absurd (n (is_text_utf8 bs e))) (λ e. e) (cases_Bool (is_text bs))

pub valid_yes : (bs : List ℕ) → IsUtf8 bs → Valid bs true
valid_yes bs u = record { value = sym (utf8_is_text bs u); yes = λ _. utf8_text bs u; no = λ e. absurd (true≢false e) }

pub valid_no : (bs : List ℕ) → (IsUtf8 bs → ⊥) → Valid bs false
valid_no bs n = record { value = sym (not_text bs n); yes = λ e. absurd (false≢true e); no = λ _ t. n (text_utf8 bs t) }
