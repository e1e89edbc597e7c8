-- Raised text: its last character that can be raised found from the end, its order and its length.
use Rattle.std.proofs.Common.{◌≡◌, ℕ, ◌+◌, ◌<◌, ◌≤◌, true, false, eqb, List, [], ◌∷◌, ◌++◌, length, take, Some, None, IsUtf8, Option, sym, refl, ap, ◌∙◌, subst, inl, inr, ⊎_elim, append_assoc, append-nil, arith, length-append}
use lib.Utf8.{scalar, scalars, encode, encodes}
use Rattle.std.specs.Char.{len_utf8}
use Rattle.std.specs.Str.{chars}
use Rattle.texts.proofs.Scalars.{Shape, of_one, of_two, of_three, of_four, shape}
use Rattle.std.proofs.lemmas.Bool.{cases_order, cases_Bool, cond-true, cond-false, eqb-true, and_parts, and_from}
use Rattle.std.proofs.lemmas.Str.{length-encode, encodes-append, encodes-chars, scalars-chars, chars-append, chars-encodes, IsUtf8-take, IsCharBoundary-at_seam}
use Rattle.std.proofs.lemmas.List.{take_at}
use Rattle.strings.proofs.Orders.{Above, above-append, above-longer}
use Rattle.texts.specs.Unicode.{raises}
use Rattle.texts.specs.Cut.{raised, raised_or}

-- ---- what is raised, in parts

pub record Parts (cs rs : List ℕ) : Type 0 where
  pub before : List ℕ
  pub last : ℕ
  pub after : List ℕ
  pub parts : cs ≡ before ++ last ∷ after
  pub can : raises last ≡ true
  pub result : rs ≡ before ++ (last + 1) ∷ []

parts_more : (c : ℕ) (cs rs : List ℕ) → Parts cs rs → Parts (c ∷ cs) (c ∷ rs)
parts_more c cs rs p = record {
  before = c ∷ p.before;
  last = p.last;
  after = p.after;
  parts = ap (λ t. c ∷ t) p.parts;
  can = p.can;
  result = ap (λ t. c ∷ t) p.result;
}

some_same : (x y : List ℕ) → ◌≡◌ {A = Option (List ℕ)} (Some x) (Some y) → x ≡ y
some_same x y e = cc

none_some : (x : List ℕ) → ◌≡◌ {A = Option (List ℕ)} None (Some x) → ⊥
none_some x e = let z : ◌≡◌ {A = ℕ} 0 1 = cc in omega arith

parts_by : (c : ℕ) (cs rs : List ℕ) (o : Option (List ℕ)) → ((ts : List ℕ) → o ≡ Some ts → Parts cs ts) → raised_or c o ≡ Some rs → Parts (c ∷ cs) rs
parts_by c cs rs (Some ts) f e = subst (Parts (c ∷ cs)) (some_same (c ∷ ts) rs e) (parts_more c cs ts (f ts refl))
parts_by c cs rs None f e =
    ⊎_elim
    (λ t.
    subst (Parts (c ∷ cs)) (some_same ((c + 1) ∷ []) rs (sym (cond-true (raises c) (Some ((c + 1) ∷ [])) None t) ∙ e))
    (record { before = []; last = c; after = cs; parts = refl; can = t; result = refl }))
    (λ t. absurd (none_some rs (sym (cond-false (raises c) (Some ((c + 1) ∷ [])) None t) ∙ e)))
    (cases_Bool (raises c))

pub raised_parts : (cs rs : List ℕ) → raised cs ≡ Some rs → Parts cs rs
raised_parts [] rs e = absurd (none_some rs e)
raised_parts (c ∷ cs) rs e = parts_by c cs rs (raised cs) (λ ts q. raised_parts cs ts q) e

pub raises_scalar : (c : ℕ) → raises c ≡ true → scalar (c + 1) ≡ true
raises_scalar c e = (and_parts (scalar (c + 1)) (eqb (len_utf8 (c + 1)) (len_utf8 c)) e).0

pub raises_width : (c : ℕ) → raises c ≡ true → len_utf8 (c + 1) ≡ len_utf8 c
raises_width c e = eqb-true (len_utf8 (c + 1)) (len_utf8 c) (and_parts (scalar (c + 1)) (eqb (len_utf8 (c + 1)) (len_utf8 c)) e).1

-- ---- found from the end

raised_or-some : (c : ℕ) (o : Option (List ℕ)) (rs : List ℕ) → o ≡ Some rs → raised_or c o ≡ Some (c ∷ rs)
raised_or-some c o rs e = ap (raised_or c) e

pub raised_here : (c : ℕ) (cs : List ℕ) → raises c ≡ true → raised cs ≡ None → raised (c ∷ cs) ≡ Some ((c + 1) ∷ [])
raised_here c cs t e = ap (raised_or c) e ∙ cond-true (raises c) (Some ((c + 1) ∷ [])) None t

pub raised_past : (c : ℕ) (cs : List ℕ) → raises c ≡ false → raised cs ≡ None → raised (c ∷ cs) ≡ None
raised_past c cs t e = ap (raised_or c) e ∙ cond-false (raises c) (Some ((c + 1) ∷ [])) None t

pub raised_behind : (ps cs rs : List ℕ) → raised cs ≡ Some rs → raised (ps ++ cs) ≡ Some (ps ++ rs)
raised_behind [] cs rs e = e
raised_behind (p ∷ ps) cs rs e = raised_or-some p (raised (ps ++ cs)) (ps ++ rs) (raised_behind ps cs rs e)

-- s is its front `rest` and characters of which none can be raised
pub record Back (s rest : List ℕ) : Type 0 where
  pub after : List ℕ
  pub whole : s ≡ rest ++ encodes after
  pub good : scalars after ≡ true
  pub none : raised after ≡ None

pub back_none : (s : List ℕ) → Back s s
back_none s = record { after = []; whole = sym (append-nil s); good = refl; none = refl }

pub back_more : (s rest t : List ℕ) (c : ℕ) → scalar c ≡ true → rest ≡ t ++ encode c → raises c ≡ false → Back s rest → Back s t
back_more s rest t c k e n b = record {
  after = c ∷ b.after;
  whole = b.whole ∙ ap (λ z. z ++ encodes b.after) e ∙ append_assoc t (encode c) (encodes b.after);
  good = and_from (scalar c) (scalars b.after) k b.good;
  none = raised_past c b.after n b.none;
}

-- the front of a text whose end is text
utf8_front : (s t cs : List ℕ) → IsUtf8 s → scalars cs ≡ true → s ≡ t ++ encodes cs → IsUtf8 t
utf8_front s t cs u k e =
    let b = IsCharBoundary-at_seam s t (encodes cs) e (cs, (k, refl)) in
    subst IsUtf8 (ap (take (length t)) e ∙ take_at t (encodes cs) (length t) refl) (IsUtf8-take s (length t) u b)

pub back_all : (s t : List ℕ) → IsUtf8 s → length t ≡ 0 → Back s t → raised (chars s) ≡ None
back_all s [] u e b = ap raised (ap chars b.whole ∙ chars-encodes b.after b.good) ∙ b.none
back_all s (x ∷ t) u e b = absurd (omega arith)

pub back_raise : (s rest t : List ℕ) (c : ℕ) → IsUtf8 s → scalar c ≡ true → rest ≡ t ++ encode c → raises c ≡ true → Back s rest
    → (rs : List ℕ) × (raised (chars s) ≡ Some rs) × (encodes rs ≡ take (length t) s ++ encode (c + 1)) × (length t + len_utf8 (c + 1) ≤ length s)
back_raise s rest t c u k e r b =
    let w : s ≡ t ++ encodes (c ∷ b.after) = b.whole ∙ ap (λ z. z ++ encodes b.after) e ∙ append_assoc t (encode c) (encodes b.after) in
    let g : scalars (c ∷ b.after) ≡ true = and_from (scalar c) (scalars b.after) k b.good in
    let v : IsUtf8 t = utf8_front s t (c ∷ b.after) u g w in
    let f : take (length t) s ≡ t = ap (take (length t)) w ∙ take_at t (encodes (c ∷ b.after)) (length t) refl in
    let d : chars s ≡ chars t ++ c ∷ b.after = ap chars w ∙ chars-append t (encodes (c ∷ b.after)) v ∙ ap (λ z. chars t ++ z) (chars-encodes (c ∷ b.after) g) in (
      chars t ++ (c + 1) ∷ [],
      ap raised d ∙ raised_behind (chars t) (c ∷ b.after) ((c + 1) ∷ []) (raised_here c b.after r b.none),
      encodes-append (chars t) ((c + 1) ∷ []) ∙ (λ j. encodes-chars t v j ++ append-nil (encode (c + 1)) j) ∙ ap (λ z. z ++ encode (c + 1)) (sym f),
      omega (arith, ap length w, length-append t (encodes (c ∷ b.after)), length-append (encode c) (encodes b.after), length-encode c, raises_width c r),
    )

-- ---- the order of characters of one length is that of their bytes

above_shape : (c d : ℕ) → c < d → length (encode c) ≡ length (encode d) → Shape c → Shape d → Above (encode d) (encode c)
above_shape c d l e (of_one p) (of_one q) = rw (p, q) (inl l)
above_shape c d l e (of_two a b h1 h2 p) (of_two a' b' k1 k2 q) =
    rw (p, q) (⊎_elim (λ t. inr (t, inl (omega arith))) (⊎_elim (λ t. absurd (omega arith)) (λ t. inl t)) (cases_order a' a))
above_shape c d l e (of_three a b x h1 h2 h3 p) (of_three a' b' x' k1 k2 k3 q) =
    rw (p, q) (⊎_elim (λ t. inr (t, ⊎_elim (λ s. inr (s, inl (omega arith))) (⊎_elim (λ s. absurd (omega arith)) (λ s. inl s)) (cases_order b' b)))
    (⊎_elim (λ t. absurd (omega arith)) (λ t. inl t)) (cases_order a' a))
above_shape c d l e (of_four a b x y h1 h2 h3 h4 p) (of_four a' b' x' y' k1 k2 k3 k4 q) =
    rw (p, q) (⊎_elim (λ t. inr (
      t,
      ⊎_elim (λ s. inr (s, ⊎_elim (λ u. inr (u, inl (omega arith))) (⊎_elim (λ u. absurd (omega arith)) (λ u. inl u)) (cases_order x' x)))
          (⊎_elim (λ s. absurd (omega arith)) (λ s. inl s)) (cases_order b' b),
    ))
    (⊎_elim (λ t. absurd (omega arith)) (λ t. inl t)) (cases_order a' a))
above_shape c d l e (of_one p) (of_two a' b' k1 k2 q) = absurd (omega (arith, ap length p, ap length q))
above_shape c d l e (of_one p) (of_three a' b' x' k1 k2 k3 q) = absurd (omega (arith, ap length p, ap length q))
above_shape c d l e (of_one p) (of_four a' b' x' y' k1 k2 k3 k4 q) = absurd (omega (arith, ap length p, ap length q))
above_shape c d l e (of_two a b h1 h2 p) (of_one q) = absurd (omega (arith, ap length p, ap length q))
above_shape c d l e (of_two a b h1 h2 p) (of_three a' b' x' k1 k2 k3 q) = absurd (omega (arith, ap length p, ap length q))
above_shape c d l e (of_two a b h1 h2 p) (of_four a' b' x' y' k1 k2 k3 k4 q) = absurd (omega (arith, ap length p, ap length q))
above_shape c d l e (of_three a b x h1 h2 h3 p) (of_one q) = absurd (omega (arith, ap length p, ap length q))
above_shape c d l e (of_three a b x h1 h2 h3 p) (of_two a' b' k1 k2 q) = absurd (omega (arith, ap length p, ap length q))
above_shape c d l e (of_three a b x h1 h2 h3 p) (of_four a' b' x' y' k1 k2 k3 k4 q) = absurd (omega (arith, ap length p, ap length q))
above_shape c d l e (of_four a b x y h1 h2 h3 h4 p) (of_one q) = absurd (omega (arith, ap length p, ap length q))
above_shape c d l e (of_four a b x y h1 h2 h3 h4 p) (of_two a' b' k1 k2 q) = absurd (omega (arith, ap length p, ap length q))
above_shape c d l e (of_four a b x y h1 h2 h3 h4 p) (of_three a' b' x' k1 k2 k3 q) = absurd (omega (arith, ap length p, ap length q))

above_char : (c d : ℕ) → c < d → scalar c ≡ true → scalar d ≡ true → len_utf8 d ≡ len_utf8 c → Above (encode d) (encode c)
above_char c d l s t w =
    above_shape c d l (length-encode c ∙ sym w ∙ sym (length-encode d)) (shape c) (shape d)

scalar_amid : (bs : List ℕ) (c : ℕ) (ds : List ℕ) → scalars (bs ++ c ∷ ds) ≡ true → scalar c ≡ true
scalar_amid [] c ds e = (and_parts (scalar c) (scalars ds) e).0
scalar_amid (b ∷ bs) c ds e = scalar_amid bs c ds (and_parts (scalar b) (scalars (bs ++ c ∷ ds)) e).1

scalars_end : (bs : List ℕ) (c d : ℕ) (ds : List ℕ) → scalars (bs ++ c ∷ ds) ≡ true → scalar d ≡ true → scalars (bs ++ d ∷ []) ≡ true
scalars_end [] c d ds e s = and_from (scalar d) true s refl
scalars_end (b ∷ bs) c d ds e s =
    let p = and_parts (scalar b) (scalars (bs ++ c ∷ ds)) e in
    and_from (scalar b) (scalars (bs ++ d ∷ [])) p.0 (scalars_end bs c d ds p.1 s)

module _ (t rs : List ℕ) (u : IsUtf8 t) (p : Parts (chars t) rs) where
  spelt : t ≡ encodes p.before ++ (encode p.last ++ encodes p.after)
  spelt = sym (encodes-chars t u) ∙ ap encodes p.parts ∙ encodes-append p.before (p.last ∷ p.after)

  raised_spelt : encodes rs ≡ encodes p.before ++ encode (p.last + 1)
  raised_spelt =
      ap encodes p.result ∙ encodes-append p.before ((p.last + 1) ∷ []) ∙ ap (λ z. encodes p.before ++ z) (append-nil (encode (p.last + 1)))

  same_width : length (encode (p.last + 1)) ≡ length (encode p.last)
  same_width = length-encode (p.last + 1) ∙ raises_width p.last p.can ∙ sym (length-encode p.last)

  all_scalars : scalars (p.before ++ p.last ∷ p.after) ≡ true
  all_scalars = ap scalars (sym p.parts) ∙ scalars-chars t u

  -- it is above all that begin with the text
  pub parts_above : (rest : List ℕ) → Above (encodes rs) (t ++ rest)
  parts_above rest =
      let c = p.last in
      let e : t ++ rest ≡ encodes p.before ++ (encode c ++ (encodes p.after ++ rest)) =
      ap (λ z. z ++ rest) spelt ∙ simp append_assoc in
      let a : Above (encode (c + 1)) (encode c) = above_char c (c + 1) (omega arith) (scalar_amid p.before c p.after all_scalars) (raises_scalar c p.can) (raises_width c p.can) in
      subst (λ z. Above z (t ++ rest)) (sym raised_spelt)
      (subst (Above (encodes p.before ++ encode (c + 1))) (sym e)
      (above-append (encodes p.before) (encode (c + 1)) _ (above-longer (encode (c + 1)) (encode c) _ same_width a)))

  -- it is no longer than the text
  pub parts_long : length (encodes rs) ≤ length t
  parts_long =
      omega (
        arith,
        ap length raised_spelt,
        length-append (encodes p.before) (encode (p.last + 1)),
        same_width,
        ap length spelt,
        length-append (encodes p.before) (encode p.last ++ encodes p.after),
        length-append (encode p.last) (encodes p.after),
      )

  -- it is text
  pub parts_text : IsUtf8 (encodes rs)
  parts_text = (rs, (ap scalars p.result ∙ scalars_end p.before p.last (p.last + 1) p.after all_scalars (raises_scalar p.last p.can), refl))
