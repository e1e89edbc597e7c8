-- Lead bytes: what the table says of each, and that the tests of a walk find exactly the characters.
use Rattle.std.proofs.Common.{◌≡◌, ℕ, zero, suc, ◌+◌, ◌-◌, ◌*◌, ◌<◌, ◌≤◌, Bool, true, false, ◌&&◌, eqb, leb, ◌⊎◌, List, [], ◌∷◌, length, get_or, take, drop, Some, None, IsUtf8, sym, refl, ap, ◌∙◌, subst, inl, inr, ⊎_elim, arith}
use Rattle.std.specs.Bool.{then_some}
use Rattle.std.specs.Str.{StartsWithNoChar, IsCharBoundary}
use Rattle.std.proofs.str.Laws.{Follows}
use Rattle.std.proofs.str.Valid.{of_one, of_two, of_three, of_four, whole}
use Rattle.std.proofs.str.Faults.{Ranged, no_char, valid_to, not_text}
use Rattle.std.proofs.lemmas.Bool.{true≢false, ne_eqb, cases_order, cases_lt, and_parts, and_from, leb-true, le-leb, eqb-true, both_ways}
use Rattle.std.proofs.lemmas.Bool.Decides.{nat_tests}
use Rattle.std.proofs.lemmas.Str.{IsUtf8-drop, IsCharBoundary-from_take, length-encode, len_utf8_bounds}
use Rattle.std.proofs.lemmas.List.{get_or-drop, length-drop, length-append}
use lib.Utf8.{encode}
use Rattle.texts.specs.Leads.{Leads, lead_length_of, lengths, least, most, second, follower, fits}
use Rattle.texts.specs.Unicode.{Char, one, two, three_e0, three_low, three_ed, three_high, four_f0, four, four_f4, Text, none, more}
use Rattle.texts.specs.Steps.{Step, Valid}
use Rattle.texts.proofs.Tables.{utf8_text, valid_yes, valid_no}

-- which bytes begin characters of which length
pub data Lead (x : ℕ) : Type 0 where
  by_one : x < 128 → lead_length_of x ≡ 1 → Lead x
  early : 128 ≤ x → x < 194 → lead_length_of x ≡ 0 → Lead x
  by_two : 194 ≤ x → x < 224 → lead_length_of x ≡ 2 → Lead x
  by_three : 224 ≤ x → x < 240 → lead_length_of x ≡ 3 → Lead x
  by_four : 240 ≤ x → x < 245 → lead_length_of x ≡ 4 → Lead x
  late : 245 ≤ x → lead_length_of x ≡ 0 → Lead x

pub lead : (x : ℕ) → Lead x
lead x =
    ⊎_elim (λ h. by_one h (grind (arith, nat_tests))) (λ a.
    ⊎_elim (λ h. early a h (grind (arith, nat_tests))) (λ b.
    ⊎_elim (λ h. by_two b h (grind (arith, nat_tests))) (λ c.
    ⊎_elim (λ h. by_three c h (grind (arith, nat_tests))) (λ d.
    ⊎_elim (λ h. by_four d h (grind (arith, nat_tests))) (λ e. late e (grind (arith, nat_tests))) (cases_lt x 245)) (cases_lt x 240)) (cases_lt x 224)) (cases_lt x 194)) (cases_lt x 128)

pub least_says : (x y : ℕ) → least x ≤ y → (128 ≤ y) × (x ≡ 224 → 160 ≤ y) × (x ≡ 240 → 144 ≤ y)
least_says x y h = (grind (arith, nat_tests), λ e. grind (arith, nat_tests), λ e. grind (arith, nat_tests))

pub most_says : (x y : ℕ) → y ≤ most x → (y < 192) × (x ≡ 237 → y < 160) × (x ≡ 244 → y < 144)
most_says x y h = (grind (arith, nat_tests), λ e. grind (arith, nat_tests), λ e. grind (arith, nat_tests))

pub least_from : (x y : ℕ) → 128 ≤ y → (x ≡ 224 → 160 ≤ y) → (x ≡ 240 → 144 ≤ y) → least x ≤ y
least_from x y a b c = grind (arith, nat_tests)

pub most_from : (x y : ℕ) → y < 192 → (x ≡ 237 → y < 160) → (x ≡ 244 → y < 144) → y ≤ most x
most_from x y a b c = grind (arith, nat_tests)

-- the tests that a character passes, where n is its lead byte's entry, and N bytes are left
pub record Tests (n N x y z w : ℕ) : Type 0 where
  pub there : 0 < n
  pub room : n ≤ N
  pub second : 1 < n → (least x ≤ y) × (y ≤ most x)
  pub third : 2 < n → Follows z
  pub fourth : 3 < n → Follows w

tests_by : (n N x y z w : ℕ) → n ≡ lead_length_of x → 0 < N → Ranged N x y z w → Lead x → Tests n N x y z w
tests_by n N x y z w e p r (by_one a q) = record { there = omega arith; room = omega arith; second = λ t. absurd (omega arith); third = λ t. absurd (omega arith); fourth = λ t. absurd (omega arith) }
tests_by n N x y z w e p r (early a b q) = absurd (omega (arith, r.second a))
tests_by n N x y z w e p r (by_two a b q) =
    let s = r.second (omega arith) in
    record {
      there = omega arith;
      room = omega arith;
      second = λ t. (least_from x y (omega arith) (λ k. absurd (omega arith)) (λ k. absurd (omega arith)), most_from x y (omega arith) (λ k. absurd (omega arith)) (λ k. absurd (omega arith)));
      third = λ t. absurd (omega arith);
      fourth = λ t. absurd (omega arith);
    }
tests_by n N x y z w e p r (by_three a b q) =
    let s = r.second (omega arith) in
    let u = r.third (omega arith) in
    let i = r.in_three a b in
    record {
      there = omega arith;
      room = omega arith;
      second = λ t. (least_from x y (omega arith) (λ k. omega arith) (λ k. absurd (omega arith)), most_from x y (omega arith) (λ k. ⊎_elim (λ h. omega arith) (λ h. absurd (omega arith)) i.1) (λ k. absurd (omega arith)));
      third = λ t. u.1;
      fourth = λ t. absurd (omega arith);
    }
tests_by n N x y z w e p r (by_four a b q) =
    let s = r.second (omega arith) in
    let u = r.third (omega arith) in
    let i = r.fourth a in
    record {
      there = omega arith;
      room = omega arith;
      second = λ t. (least_from x y (omega arith) (λ k. absurd (omega arith)) (λ k. omega arith), most_from x y (omega arith) (λ k. absurd (omega arith)) (λ k. omega arith));
      third = λ t. u.1;
      fourth = λ t. i.1;
    }
tests_by n N x y z w e p r (late a q) = absurd (omega (arith, r.second (omega arith), r.fourth (omega arith)))

abbrev pub TestsAt : ℕ → List ℕ → ℕ → Type 0
TestsAt n bs at = Tests n (length bs - at) (get_or bs at 0) (get_or bs (at + 1) 0) (get_or bs (at + 2) 0) (get_or bs (at + 3) 0)

-- where a test fails, no character begins
pub none_from_tests : (bs : List ℕ) (at n : ℕ) → at < length bs → n ≡ lead_length_of (get_or bs at 0) → (TestsAt n bs at → ⊥) → StartsWithNoChar (drop at bs)
none_from_tests bs at n h e f = no_char bs at (λ r. f (tests_by n _ _ _ _ _ e (omega arith) r (lead (get_or bs at 0))))

text_by : (bs : List ℕ) (at n : ℕ) → at < length bs → n ≡ lead_length_of (get_or bs at 0) → TestsAt n bs at → Lead (get_or bs at 0) → IsUtf8 (take n (drop at bs))
text_by bs at n h e t (by_one a q) = subst (λ m. IsUtf8 (take m (drop at bs))) (sym (e ∙ q)) (of_one bs at h a)
text_by bs at n h e t (early a b q) = absurd (omega (arith, t.there))
text_by bs at n h e t (by_two a b q) =
    let s = t.second (omega arith) in
    let p = least_says (get_or bs at 0) (get_or bs (at + 1) 0) s.0 in
    let m = most_says (get_or bs at 0) (get_or bs (at + 1) 0) s.1 in
    subst (λ m. IsUtf8 (take m (drop at bs))) (sym (e ∙ q)) (of_two bs at (omega (arith, t.room)) (a, b) (omega arith, omega arith))
text_by bs at n h e t (by_three a b q) =
    let s = t.second (omega arith) in
    let p = least_says (get_or bs at 0) (get_or bs (at + 1) 0) s.0 in
    let m = most_says (get_or bs at 0) (get_or bs (at + 1) 0) s.1 in
    let z = t.third (omega arith) in
    let x = get_or bs at 0 in
    let l : 32 ≤ (x - 224) * 64 + (get_or bs (at + 1) 0 - 128) = ⊎_elim (λ k. omega (arith, p.1 k)) (λ k. omega arith) (eq_or_above x 224 a) in
    let u : ((x - 224) * 64 + (get_or bs (at + 1) 0 - 128) < 864) ⊎ (896 ≤ (x - 224) * 64 + (get_or bs (at + 1) 0 - 128)) =
    ⊎_elim (λ k. inl (omega (arith, m.1 k))) (⊎_elim (λ k. inl (omega arith)) (λ k. inr (omega arith))) (cases_order x 237) in
    subst (λ m. IsUtf8 (take m (drop at bs))) (sym (e ∙ q)) (of_three bs at (omega (arith, t.room)) (a, b) (omega arith, omega arith) z (omega arith)
    (⊎_elim (λ k. inl (omega arith)) (λ k. inr (omega arith)) u))
  where
    eq_or_above : (x k : ℕ) → k ≤ x → (x ≡ k) ⊎ (k < x)
    eq_or_above x k h = ⊎_elim (λ q. inl q) (⊎_elim (λ q. absurd (omega arith)) (λ q. inr q)) (cases_order x k)
text_by bs at n h e t (by_four a b q) =
    let s = t.second (omega arith) in
    let p = least_says (get_or bs at 0) (get_or bs (at + 1) 0) s.0 in
    let m = most_says (get_or bs at 0) (get_or bs (at + 1) 0) s.1 in
    let x = get_or bs at 0 in
    let l : 16 ≤ (x - 240) * 64 + (get_or bs (at + 1) 0 - 128) = ⊎_elim (λ k. omega (arith, p.2 k)) (⊎_elim (λ k. absurd (omega arith)) (λ k. omega arith)) (cases_order x 240) in
    let u : (x - 240) * 64 + (get_or bs (at + 1) 0 - 128) < 272 = ⊎_elim (λ k. omega (arith, m.2 k)) (⊎_elim (λ k. omega arith) (λ k. absurd (omega arith))) (cases_order x 244) in
    subst (λ m. IsUtf8 (take m (drop at bs))) (sym (e ∙ q)) (of_four bs at (omega (arith, t.room)) a (omega arith, omega arith) (t.third (omega arith)) (t.fourth (omega arith)) (l, u))
text_by bs at n h e t (late a q) = absurd (omega (arith, t.there))

pub text_from_tests : (bs : List ℕ) (at n : ℕ) → at < length bs → n ≡ lead_length_of (get_or bs at 0) → TestsAt n bs at → IsUtf8 (take n (drop at bs))
text_from_tests bs at n h e t = text_by bs at n h e t (lead (get_or bs at 0))

-- ---- the tests of the functions

fits_yes : (x y : ℕ) → second x y ≡ true → (least x ≤ y) × (y ≤ most x)
fits_yes x y e =
    let p = and_parts (leb (least x) y) (leb y (most x)) e in
    (leb-true (least x) y p.0, leb-true y (most x) p.1)

fits_from : (x y : ℕ) → (least x ≤ y) × (y ≤ most x) → second x y ≡ true
fits_from x y h = and_from (leb (least x) y) (leb y (most x)) (le-leb (least x) y h.0) (le-leb y (most x) h.1)

follows_yes : (y : ℕ) → follower y ≡ true → Follows y
follows_yes y e =
    let p = and_parts (leb 128 y) (leb y 191) e in
    let a = leb-true 128 y p.0 in
    let b = leb-true y 191 p.1 in
    (a, omega arith)

follows_from : (y : ℕ) → Follows y → follower y ≡ true
follows_from y h = and_from (leb 128 y) (leb y 191) (le-leb 128 y h.0) (le-leb y 191 (omega (arith, h.1)))

-- by the number of bytes after the lead byte
tests_from_fits : (m n N x : ℕ) (ys : List ℕ) → m < 4 → n ≡ m + 1 → N ≡ length ys + 1 → m ≤ length ys → fits x (take m ys) ≡ true
    → Tests n N x (get_or ys 0 0) (get_or ys 1 0) (get_or ys 2 0)
tests_from_fits zero n N x ys b e f h t = record {
  there = omega arith;
  room = omega arith;
  second = λ q. absurd (omega arith);
  third = λ q. absurd (omega arith);
  fourth = λ q. absurd (omega arith);
}
tests_from_fits (suc m) n N x [] b e f h t = absurd (omega arith)
tests_from_fits (suc zero) n N x (y ∷ ys) b e f h t = let p = and_parts (second x y) true t in record {
  there = omega arith;
  room = omega arith;
  second = λ q. fits_yes x y p.0;
  third = λ q. absurd (omega arith);
  fourth = λ q. absurd (omega arith);
}
tests_from_fits (suc (suc m)) n N x (y ∷ []) b e f h t = absurd (omega arith)
tests_from_fits (suc (suc zero)) n N x (y ∷ z ∷ ys) b e f h t =
    let p = and_parts (second x y) (follower z && true) t in
    let r = and_parts (follower z) true p.1 in
    record {
      there = omega arith;
      room = omega arith;
      second = λ q. fits_yes x y p.0;
      third = λ q. follows_yes z r.0;
      fourth = λ q. absurd (omega arith);
    }
tests_from_fits (suc (suc (suc m))) n N x (y ∷ z ∷ []) b e f h t = absurd (omega arith)
tests_from_fits (suc (suc (suc zero))) n N x (y ∷ z ∷ w ∷ ys) b e f h t =
    let p = and_parts (second x y) (follower z && (follower w && true)) t in
    let r = and_parts (follower z) (follower w && true) p.1 in
    let s = and_parts (follower w) true r.1 in
    record {
      there = omega arith;
      room = omega arith;
      second = λ q. fits_yes x y p.0;
      third = λ q. follows_yes z r.0;
      fourth = λ q. follows_yes w s.0;
    }
tests_from_fits (suc (suc (suc (suc m)))) n N x ys b e f h t = absurd (omega arith)

fits_from_tests : (m n N x : ℕ) (ys : List ℕ) → m < 4 → n ≡ m + 1 → m ≤ length ys
    → Tests n N x (get_or ys 0 0) (get_or ys 1 0) (get_or ys 2 0) → fits x (take m ys) ≡ true
fits_from_tests zero n N x ys b e h t = refl
fits_from_tests (suc m) n N x [] b e h t = absurd (omega arith)
fits_from_tests (suc zero) n N x (y ∷ ys) b e h t = and_from (second x y) true (fits_from x y (t.second (omega arith))) refl
fits_from_tests (suc (suc m)) n N x (y ∷ []) b e h t = absurd (omega arith)
fits_from_tests (suc (suc zero)) n N x (y ∷ z ∷ ys) b e h t =
    and_from (second x y) (follower z && true) (fits_from x y (t.second (omega arith)))
    (and_from (follower z) true (follows_from z (t.third (omega arith))) refl)
fits_from_tests (suc (suc (suc m))) n N x (y ∷ z ∷ []) b e h t = absurd (omega arith)
fits_from_tests (suc (suc (suc zero))) n N x (y ∷ z ∷ w ∷ ys) b e h t =
    and_from (second x y) (follower z && (follower w && true)) (fits_from x y (t.second (omega arith)))
    (and_from (follower z) (follower w && true) (follows_from z (t.third (omega arith)))
    (and_from (follower w) true (follows_from w (t.fourth (omega arith))) refl))
fits_from_tests (suc (suc (suc (suc m)))) n N x ys b e h t = absurd (omega arith)

few : (x : ℕ) → Lead x → lead_length_of x ≤ 4
few x (by_one a q) = omega arith
few x (early a b q) = omega arith
few x (by_two a b q) = omega arith
few x (by_three a b q) = omega arith
few x (by_four a b q) = omega arith
few x (late a q) = omega arith

-- the bytes are x and ys, and n is what the table says of x
module _ (bs ys : List ℕ) (x n : ℕ) (b : bs ≡ x ∷ ys) (e : n ≡ lead_length_of x) where
  -- where a test fails, no character begins
  refused : (TestsAt n (x ∷ ys) 0 → ⊥) → Step bs None
  refused f = subst (λ t. Step t None) (sym b) (none_from_tests (x ∷ ys) 0 n (omega arith) e f)

  pub refused_lead : (1 ≤ n → ⊥) → Step bs None
  refused_lead h = refused (λ t. h (omega (arith, t.there)))

  pub refused_short : length ys < n - 1 → Step bs None
  refused_short h = refused (λ t. omega (arith, t.room))

  -- so what the test of the bytes after the lead byte decides
  pub step_by : (r : Bool) → 1 ≤ n → n - 1 ≤ length ys → r ≡ fits x (take (n - 1) ys) → Step bs (then_some r n)
  step_by true p h f =
      let k = few x (lead x) in
      let t : IsUtf8 (take n (x ∷ ys)) = text_from_tests (x ∷ ys) 0 n (omega arith) e (tests_from_fits (n - 1) n (length (x ∷ ys) - 0) x ys (omega arith) (omega arith) (omega arith) h (sym f)) in
      subst (λ z. Step z (Some n)) (sym b) (p, omega arith, t)
  step_by false p h f =
      let k = few x (lead x) in
      refused (λ t. both_ways _ (sym f) (fits_from_tests (n - 1) n (length (x ∷ ys) - 0) x ys (omega arith) (omega arith) h t))

pub empty : (bs : List ℕ) → length bs ≡ 0 → Step bs None
empty [] h = λ c rest s e. omega (arith, ap length e, length-append (encode c) rest, length-encode c, len_utf8_bounds c)
empty (x ∷ bs) h = absurd (omega arith)

-- ---- the rule of the table, by the rows of the standard's

char_long : (x : List ℕ) → Char x → length x ≡ lead_length_of (get_or x 0 0)
char_long _ (one a h) = grind (arith, nat_tests)
char_long _ (two a b h k) = grind (arith, nat_tests)
char_long _ (three_e0 b c h k) = refl
char_long _ (three_low a b c h k f) = grind (arith, nat_tests)
char_long _ (three_ed b c h k) = refl
char_long _ (three_high a b c h k f) = grind (arith, nat_tests)
char_long _ (four_f0 b c d h k f) = refl
char_long _ (four a b c d h k f g) = grind (arith, nat_tests)
char_long _ (four_f4 b c d h k f) = refl

lead_as : (a a' : ℕ) (xs : List ℕ) → a ≡ a' → Char (a' ∷ xs) → Char (a ∷ xs)
lead_as a a' xs e c = subst (λ z. Char (z ∷ xs)) (sym e) c

char_from : (b : ℕ) → 0 < lead_length_of b → Lead b → (xs : List ℕ) × Char (b ∷ xs)
char_from b h (by_one a q) = ([], one b (omega arith, omega arith))
char_from b h (early a k q) = absurd (omega arith)
char_from b h (by_two a k q) = (128 ∷ [], two b 128 (omega arith, omega arith) (omega arith, omega arith))
char_from b h (by_three a k q) =
    let f : (128 ≤ 128) × (128 ≤ 191) = (omega arith, omega arith) in
    ⊎_elim (λ e. (160 ∷ 128 ∷ [], lead_as b 224 (160 ∷ 128 ∷ []) e (three_e0 160 128 (omega arith, omega arith) f)))
    (⊎_elim (λ e. absurd (omega arith)) (λ e.
    ⊎_elim (λ g. (128 ∷ 128 ∷ [], lead_as b 237 (128 ∷ 128 ∷ []) g (three_ed 128 128 (omega arith, omega arith) f)))
    (⊎_elim (λ g. (128 ∷ 128 ∷ [], three_low b 128 128 (omega arith, omega arith) f f)) (λ g. (128 ∷ 128 ∷ [], three_high b 128 128 (omega arith, omega arith) f f)))
    (cases_order b 237)))
    (cases_order b 224)
char_from b h (by_four a k q) =
    let f : (128 ≤ 128) × (128 ≤ 191) = (omega arith, omega arith) in
    ⊎_elim (λ e. (144 ∷ 128 ∷ 128 ∷ [], lead_as b 240 (144 ∷ 128 ∷ 128 ∷ []) e (four_f0 144 128 128 (omega arith, omega arith) f f)))
    (⊎_elim (λ e. absurd (omega arith)) (λ e.
    ⊎_elim (λ g. (128 ∷ 128 ∷ 128 ∷ [], lead_as b 244 (128 ∷ 128 ∷ 128 ∷ []) g (four_f4 128 128 128 (omega arith, omega arith) f f)))
    (⊎_elim (λ g. (128 ∷ 128 ∷ 128 ∷ [], four b 128 128 128 (omega arith, omega arith) f f f)) (λ g. absurd (omega arith)))
    (cases_order b 244)))
    (cases_order b 240)
char_from b h (late a q) = absurd (omega arith)

pub leads : (b : ℕ) → Leads b (lead_length_of b)
leads b = record { long = λ xs c. char_long (b ∷ xs) c; some = λ h. char_from b h (lead b) }

-- ---- boundaries

text_lead : (bs : List ℕ) → Text bs → 0 < length bs → 0 < lead_length_of (get_or bs 0 0)
text_lead _ none h = absurd (omega arith)
text_lead _ (more _ xs (one a i) t) h = omega (arith, char_long (a ∷ []) (one a i))
text_lead _ (more _ xs (two a b i j) t) h = omega (arith, char_long (a ∷ b ∷ []) (two a b i j))
text_lead _ (more _ xs (three_e0 b c i j) t) h = omega arith
text_lead _ (more _ xs (three_low a b c i j k) t) h = omega (arith, char_long (a ∷ b ∷ c ∷ []) (three_low a b c i j k))
text_lead _ (more _ xs (three_ed b c i j) t) h = omega arith
text_lead _ (more _ xs (three_high a b c i j k) t) h = omega (arith, char_long (a ∷ b ∷ c ∷ []) (three_high a b c i j k))
text_lead _ (more _ xs (four_f0 b c d i j k) t) h = omega arith
text_lead _ (more _ xs (four a b c d i j k l) t) h = omega (arith, char_long (a ∷ b ∷ c ∷ d ∷ []) (four a b c d i j k l))
text_lead _ (more _ xs (four_f4 b c d i j k) t) h = omega arith

-- behind a front that is text stands a lead byte
pub lead_at : (v : List ℕ) (m : ℕ) → IsUtf8 v → m < length v → IsUtf8 (take m v) → 0 < lead_length_of (get_or v m 0)
lead_at v m u h f =
    let d = IsUtf8-drop v m u (IsCharBoundary-from_take v m u (omega arith) f) in
    let g : get_or (drop m v) 0 0 ≡ get_or v m 0 = get_or-drop m v 0 0 ∙ ap (λ n. get_or v n 0) (omega arith) in
    subst (λ b. 0 < lead_length_of b) g (text_lead (drop m v) (utf8_text (drop m v) d) (omega (arith, length-drop m v)))

boundary_by : (b : ℕ) → 0 < lead_length_of b → Lead b → 128 ≤ b → 192 ≤ b
boundary_by b h (by_one a q) k = absurd (omega arith)
boundary_by b h (early a c q) k = absurd (omega arith)
boundary_by b h (by_two a c q) k = omega arith
boundary_by b h (by_three a c q) k = omega arith
boundary_by b h (by_four a c q) k = omega arith
boundary_by b h (late a q) k = absurd (omega arith)

-- a lead byte stands on a boundary
pub boundary_at : (v : List ℕ) (m : ℕ) → m < length v → 0 < lead_length_of (get_or v m 0) → IsCharBoundary v m
boundary_at v m h k = (omega arith, λ _. boundary_by (get_or v m 0) k (lead (get_or v m 0)))

-- ---- the table, by one test over all of its entries

-- a test passes at each entry and its place, counted from i
abbrev holds : (ℕ → ℕ → Bool) → ℕ → List ℕ → Bool
holds f i [] = true
holds f i (x ∷ xs) = f i x && holds f (i + 1) xs

holds_at : (f : ℕ → ℕ → Bool) (i : ℕ) (xs : List ℕ) → holds f i xs ≡ true → (k : ℕ) → k < length xs → f (i + k) (get_or xs k 0) ≡ true
holds_at f i [] e k h = absurd (omega arith)
holds_at f i (x ∷ xs) e zero h =
    let p = and_parts (f i x) (holds f (i + 1) xs) e in
    subst (λ m. f m x ≡ true) (omega arith) p.0
holds_at f i (x ∷ xs) e (suc k) h =
    let p = and_parts (f i x) (holds f (i + 1) xs) e in
    subst (λ m. f m (get_or xs k 0) ≡ true) (omega arith) (holds_at f (i + 1) xs p.1 k (omega arith))

-- an entry is what its place says
abbrev right : ℕ → ℕ → Bool
right k x = eqb x (lead_length_of k)

entry_value : (b : ℕ) → b < 256 → get_or lengths b 0 ≡ lead_length_of b
entry_value b h =
    let e : 0 + b ≡ b = omega arith in
    let t : right (0 + b) (get_or lengths b 0) ≡ true = holds_at right 0 lengths refl b h in
    eqb-true (get_or lengths b 0) (lead_length_of b) (subst (λ (m : ℕ). right m (get_or lengths b 0) ≡ true) e t)

pub entry_leads : (b r : ℕ) → b < 256 → r ≡ get_or lengths b 0 → (r ≡ lead_length_of b) × Leads b r
entry_leads b r h e = let v = e ∙ entry_value b h in (v, subst (Leads b) (sym v) (leads b))

-- ---- the end of the walk

pub valid_rest : (bs rest : List ℕ) (k : ℕ) (r : Bool) → k ≤ length bs → rest ≡ drop k bs → IsUtf8 (take k bs) → Step rest None
    → r ≡ eqb (length rest) 0 → Valid bs r
valid_rest bs [] k true h e u s f = valid_yes bs (whole bs k (omega (arith, ap length e, length-drop k bs)) u)
valid_rest bs [] k false h e u s f = absurd (true≢false (sym f))
valid_rest bs (x ∷ rest) k true h e u s f = absurd (true≢false (f ∙ ne_eqb (suc (length rest)) 0 (λ q. omega arith)))
valid_rest bs (x ∷ rest) k false h e u s f =
    valid_no bs (not_text bs k (valid_to bs k (omega (arith, ap length e, length-drop k bs)) u (subst StartsWithNoChar e s)))
