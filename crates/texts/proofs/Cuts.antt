-- The cuts of strings: their laws over all strings, that bounds of text are text, and what the functions answer.
use Rattle.std.proofs.Common.{◌≡◌, ℕ, ◌+◌, ◌<◌, ◌≤◌, Bool, true, false, cond, ltb, List, ◌++◌, length, take, drop, Some, None, Option, sym, refl, ap, ◌∙◌, subst, ⊎_elim, append_assoc, arith}
use lib.Utf8.{encode, encodes}
use Rattle.std.specs.Char.{len_utf8}
use Rattle.std.specs.Option.{MatchOption}
use Rattle.std.specs.Str.{chars}
use Rattle.std.proofs.lemmas.Str.{length-encode}
use Rattle.std.proofs.lemmas.Bool.{cases_lt, cases_Bool, lt-ltb, le-ltb, cond-true, cond-false}
use Rattle.std.proofs.lemmas.List.{length-append, length-take-le, take-append-drop, take_all, take_at, take-take}
use Rattle.kinds.specs.Cuts.{Bound, whole, Shortens, whole_shortens, CutBelow}
use Rattle.strings.specs.Lexical.{above}
use Rattle.strings.specs.Cut as bytes
use Rattle.strings.specs.Cut.{shortened, longer}
use Rattle.strings.proofs.Orders.{Above, above_no, asym, front_below}
use Rattle.strings.proofs.Cuts as bytes_laws
use Rattle.strings.proofs.Cuts.{never_above_itself, shortens, below_cut, below_whole, above-cut, above-whole}
use Rattle.texts.specs.Unicode.{Text, is_text}
use Rattle.texts.specs.Cut.{front, text_lower, raised, raised_bound, text_upper, lower, upper}
use Rattle.texts.specs.Steps.{FrontOf, RaisedAt}
use Rattle.texts.proofs.Tables.{utf8_text}
use Rattle.texts.proofs.Fronts.{front_few, front_text}
use Rattle.texts.proofs.Raises.{Parts, raised_parts, parts_above, parts_long, parts_text}

-- a whole text is text
whole_text : (v : List ℕ) → Text v → Text (take (length v) v)
whole_text v t = subst Text (sym (take_all (length v) v (omega arith))) t

-- ---- which bound it is

module _ (l : ℕ) (v : List ℕ) where
  pub lower-short : length v ≤ l → lower l v ≡ whole v
  lower-short h = cond-false (longer l v) (cond (is_text v) (text_lower l v) (bytes.lower l v)) (whole v) (le-ltb l (length v) h)

  pub lower_text : l < length v → is_text v ≡ true → lower l v ≡ text_lower l v
  lower_text h t =
      cond-true (longer l v) (cond (is_text v) (text_lower l v) (bytes.lower l v)) (whole v) (lt-ltb l (length v) h)
      ∙ cond-true (is_text v) (text_lower l v) (bytes.lower l v) t

  pub lower-bytes : l < length v → is_text v ≡ false → lower l v ≡ bytes.lower l v
  lower-bytes h t =
      cond-true (longer l v) (cond (is_text v) (text_lower l v) (bytes.lower l v)) (whole v) (lt-ltb l (length v) h)
      ∙ cond-false (is_text v) (text_lower l v) (bytes.lower l v) t

  pub upper_short : length v ≤ l → upper l v ≡ whole v
  upper_short h = cond-false (longer l v) (cond (is_text v) (text_upper l v) (bytes.upper l v)) (whole v) (le-ltb l (length v) h)

  pub upper_text : l < length v → is_text v ≡ true → upper l v ≡ text_upper l v
  upper_text h t =
      cond-true (longer l v) (cond (is_text v) (text_upper l v) (bytes.upper l v)) (whole v) (lt-ltb l (length v) h)
      ∙ cond-true (is_text v) (text_upper l v) (bytes.upper l v) t

  pub upper-bytes : l < length v → is_text v ≡ false → upper l v ≡ bytes.upper l v
  upper-bytes h t =
      cond-true (longer l v) (cond (is_text v) (text_upper l v) (bytes.upper l v)) (whole v) (lt-ltb l (length v) h)
      ∙ cond-false (is_text v) (text_upper l v) (bytes.upper l v) t

  -- what holds of a bound in each case holds of it
  lower_by : (P : Bound → Type 0) → P (whole v) → (l < length v → is_text v ≡ true → P (text_lower l v)) → P (bytes.lower l v) → P (lower l v)
  lower_by P w t b =
      ⊎_elim
      (λ h. ⊎_elim (λ k. subst P (sym (lower_text h k)) (t h k)) (λ k. subst P (sym (lower-bytes h k)) b) (cases_Bool (is_text v)))
      (λ h. subst P (sym (lower-short h)) w) (cases_lt l (length v))

  upper_by : (P : Bound → Type 0) → P (whole v) → (l < length v → is_text v ≡ true → P (text_upper l v)) → P (bytes.upper l v) → P (upper l v)
  upper_by P w t b =
      ⊎_elim
      (λ h. ⊎_elim (λ k. subst P (sym (upper_text h k)) (t h k)) (λ k. subst P (sym (upper-bytes h k)) b) (cases_Bool (is_text v)))
      (λ h. subst P (sym (upper_short h)) w) (cases_lt l (length v))

  pub front_cut : 0 < front l v → text_lower l v ≡ shortened (take (front l v) v)
  front_cut h = cond-true (ltb 0 (front l v)) (shortened (take (front l v) v)) (whole v) (lt-ltb 0 (front l v) h)

  pub front-whole : front l v ≤ 0 → text_lower l v ≡ whole v
  front-whole h = cond-false (ltb 0 (front l v)) (shortened (take (front l v) v)) (whole v) (le-ltb 0 (front l v) h)

  front_by : (P : Bound → Type 0) → P (whole v) → P (shortened (take (front l v) v)) → P (text_lower l v)
  front_by P w f =
      ⊎_elim (λ h. subst P (sym (front_cut h)) f) (λ h. subst P (sym (front-whole h)) w) (cases_lt 0 (front l v))

  raised_by : (P : Bound → Type 0) → P (whole v) → ((rs : List ℕ) → Parts (chars (take (front l v) v)) rs → P (shortened (encodes rs)))
      → (o : Option (List ℕ)) → raised (chars (take (front l v) v)) ≡ o → P (raised_bound v o)
  raised_by P w f (Some rs) e = f rs (raised_parts (chars (take (front l v) v)) rs e)
  raised_by P w f None e = w

  upper_text_by : (P : Bound → Type 0) → P (whole v) → ((rs : List ℕ) → Parts (chars (take (front l v) v)) rs → P (shortened (encodes rs))) → P (text_upper l v)
  upper_text_by P w f = raised_by P w f (raised (chars (take (front l v) v))) refl

  -- ---- the laws

  pub lower_below : above (lower l v).bytes v ≡ false
  lower_below =
      lower_by (λ b. above b.bytes v ≡ false) (never_above_itself v)
      (λ h t. front_by (λ b. above b.bytes v ≡ false) (never_above_itself v) (above_no (take (front l v) v) v (front_below (front l v) v)))
      (bytes_laws.lower_below l v)

  pub upper_above : above v (upper l v).bytes ≡ false
  upper_above =
      upper_by (λ b. above v b.bytes ≡ false) (never_above_itself v)
      (λ h t.
      upper_text_by (λ b. above v b.bytes ≡ false) (never_above_itself v)
      (λ rs p.
      above_no v (encodes rs) (asym (encodes rs) v
      (subst (λ w. Above (encodes rs) w) (take-append-drop (front l v) v) (parts_above (take (front l v) v) rs (front_text l v) p (drop (front l v) v))))))
      (bytes_laws.upper_above l v)

  few : l < length v → length (take (front l v) v) ≤ l
  few h = omega (arith, length-take-le (front l v) v (omega (arith, front_few l v)), front_few l v)

  pub lower_shortens : Shortens l v (lower l v)
  lower_shortens =
      lower_by (Shortens l v) (whole_shortens l v)
      (λ h t. front_by (Shortens l v) (whole_shortens l v) (shortens l v (take (front l v) v) (few h) h))
      (bytes_laws.lower_shortens l v)

  pub upper_shortens : Shortens l v (upper l v)
  upper_shortens =
      upper_by (Shortens l v) (whole_shortens l v)
      (λ h t.
      upper_text_by (Shortens l v) (whole_shortens l v)
      (λ rs p. shortens l v (encodes rs) (omega (arith, parts_long (take (front l v) v) rs (front_text l v) p, few h)) h))
      (bytes_laws.upper_shortens l v)

  -- ---- what the functions answer

  pub min_text : (o : Option ℕ) (r : ℕ × Bool) → FrontOf l v o → MatchOption o (r ≡ (length v, false)) (λ n. r ≡ (n, true)) → Text v → Text (take r.0 v)
  min_text (Some n) r f e = rw e (λ _. subst (λ k. Text (take k v)) (sym f.1) (utf8_text (take (front l v) v) (front_text l v)))
  min_text None r f e = rw e (whole_text v)

  pub min_cut : (n : ℕ) → l < length v → true ≡ is_text v → 0 < n → n ≡ front l v → CutBelow (lower l v) v (n, true)
  min_cut n h t k f =
      below_cut n v (lower l v) (omega (arith, f, front_few l v))
      (lower_text h (sym t) ∙ front_cut (omega (arith, k, f)) ∙ ap (λ k. shortened (take k v)) (sym f))

  pub min_whole : l < length v → true ≡ is_text v → front l v ≡ 0 → CutBelow (lower l v) v (length v, false)
  min_whole h t f = below_whole v (lower l v) (lower_text h (sym t) ∙ front-whole (omega (arith, f)))

  -- the raised front is text
  pub raised_text : (at d n : ℕ) (after : List ℕ) → l < length v → RaisedAt (take (front l v) v) (Some (at, d)) → n ≡ at + len_utf8 d
      → after ≡ take at v ++ (encode d ++ drop (at + len_utf8 d) v) → Text (take n after)
  raised_text at d n after h r e a =
      let w = front_text l v in
      let f : length (take (front l v) v) ≡ front l v = length-take-le (front l v) v (omega (arith, front_few l v)) in
      let q : encodes r.0 ≡ take at v ++ encode d = r.2 ∙ ap (λ x. x ++ encode d) (take-take at (front l v) v (omega (arith, r.3))) in
      let k : length (encodes r.0) ≡ n = omega (arith, ap length q, length-append (take at v) (encode d), length-encode d, length-take-le at v (omega (arith, r.3, front_few l v))) in
      let t : take n after ≡ encodes r.0 =
      ap (take n) (a ∙ sym (append_assoc (take at v) (encode d) (drop (at + len_utf8 d) v)) ∙ ap (λ x. x ++ drop (at + len_utf8 d) v) (sym q))
      ∙ take_at (encodes r.0) (drop (at + len_utf8 d) v) n k in
      subst Text (sym t) (utf8_text (encodes r.0) (parts_text (take (front l v) v) r.0 w (raised_parts (chars (take (front l v) v)) r.0 r.1)))

pub ruleset min_bound = (min_cut, min_whole)
