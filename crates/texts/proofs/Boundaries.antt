-- The longest front that is text, by the last lead byte behind the first.
use Rattle.std.proofs.Common.{◌≡◌, ℕ, ◌+◌, ◌-◌, ◌<◌, ◌≤◌, List, length, get_or, take, drop, Some, None, IsUtf8, sym, ap, ◌∙◌, subst, ⊎_elim, arith}
use Rattle.std.proofs.lemmas.List.{length-take-le, length-drop, get_or-take, get_or-drop}
use Rattle.std.proofs.lemmas.Str.{IsUtf8-nil, IsUtf8-take}
use Rattle.std.proofs.lemmas.Bool.{cases_lt}
use Rattle.texts.specs.Leads.{lead_length_of}
use Rattle.texts.specs.Steps.{LastLead, FrontOf}
use Rattle.texts.proofs.LeadBytes.{lead_at, boundary_at}
use Rattle.texts.proofs.Fronts.{front_is}

-- t is v from 1 to l
module _ (l : ℕ) (v t : List ℕ) (h : l < length v) (u : IsUtf8 v) (long : length t ≡ l) (at : (i : ℕ) → i < l → get_or t i 0 ≡ get_or v (i + 1) 0) where
  -- where no lead byte stands behind place m, no front is longer
  far : (m j : ℕ) → ((i : ℕ) → m ≤ i → i < l → lead_length_of (get_or t i 0) ≡ 0) → j ≤ l → IsUtf8 (take j v) → j ≤ m
  far m j f q w =
      ⊎_elim
      (λ s.
      let e : j - 1 + 1 ≡ j = omega arith in
      let z : lead_length_of (get_or v j 0) ≡ 0 = ap (λ i. lead_length_of (get_or v i 0)) (sym e) ∙ ap lead_length_of (sym (at (j - 1) (omega arith))) ∙ f (j - 1) (omega arith) (omega arith) in
      absurd (omega (arith, lead_at v j u (omega arith) w)))
      (λ s. s) (cases_lt m j)

  lead_there : (p : ℕ) → LastLead t (Some p) → FrontOf l v (Some (p + 1))
  lead_there p f =
      let lead : 0 < lead_length_of (get_or v (p + 1) 0) = subst (λ b. 0 < lead_length_of b) (at p (omega (arith, f.0))) f.1 in
      let text = IsUtf8-take v (p + 1) u (boundary_at v (p + 1) (omega (arith, f.0)) lead) in
      (omega arith, front_is l (p + 1) v (omega (arith, f.0)) text (λ j q w. far (p + 1) j (λ i a b. f.2 i (omega arith) (omega arith)) q w))

  none_there : LastLead t None → FrontOf l v None
  none_there f = sym (front_is l 0 v (omega arith) IsUtf8-nil (λ j q w. far 0 j (λ i a b. f i (omega arith)) q w))

-- the bytes from 1 up to l
module _ (l n : ℕ) (v : List ℕ) (h : l < length v) (u : IsUtf8 v) (e : n ≡ l) where
  long : length (take n (drop 1 v)) ≡ l
  long = length-take-le n (drop 1 v) (omega (arith, length-drop 1 v)) ∙ e

  at : (i : ℕ) → i < l → get_or (take n (drop 1 v)) i 0 ≡ get_or v (i + 1) 0
  at i q =
      let plus : 1 + i ≡ i + 1 = omega arith in
      get_or-take n (drop 1 v) i 0 (omega arith) ∙ get_or-drop 1 v i 0 ∙ ap (λ j. get_or v j 0) plus

  -- the last lead byte of these stands on the last boundary
  pub lead_front : (p : ℕ) → LastLead (take n (drop 1 v)) (Some p) → FrontOf l v (Some (p + 1))
  lead_front = lead_there l v (take n (drop 1 v)) h u long at

  pub no_front : LastLead (take n (drop 1 v)) None → FrontOf l v None
  no_front = none_there l v (take n (drop 1 v)) h u long at

pub ruleset boundary_front = (lead_front, no_front)
