-- A front and levels behind it, in a list that is written or read part by part.
use Rattle.std.proofs.Common.{◌≡◌, ℕ, ◌+◌, ◌≤◌, List, ◌++◌, length, take, drop, None, Option, sym, refl, ap, ◌∙◌, subst, append_assoc, arith}
use Rattle.std.proofs.lemmas.List.{drop_at, drop-drop, length-append, length-take-le, take-append-drop}
use Rattle.bits.specs.declared.order.BitOrder.{BitOrder}
use Rattle.bits.specs.Rows.{packed, Fit}
use Rattle.bits.proofs.Cuts.{length-packed}
use Rattle.levels.specs.Lists.{Starts, Took}

module _ (o : BitOrder) (front : List ℕ) (k b n : ℕ) (bytes ls : List ℕ) where
  pub starts_long : Starts o front k b n bytes ls → length front + k ≤ length bytes
  starts_long s =
      omega (arith, ap length s.same, length-append (front ++ packed o b k ls) (drop (length front + k) bytes), length-append front (packed o b k ls), length-packed o b k ls)

  pub starts_front : Starts o front k b n bytes ls → bytes ≡ front ++ (packed o b k ls ++ drop (length front + k) bytes)
  starts_front s = s.same ∙ append_assoc front (packed o b k ls) (drop (length front + k) bytes)

  pub no_front : (f : List ℕ) → f ≡ front → ((rest : List ℕ) → bytes ≡ f ++ rest → ⊥) → Starts o front k b n bytes ls → ⊥
  no_front f e none s =
      none (packed o b k ls ++ drop (length front + k) bytes) (subst (λ x. bytes ≡ x ++ (packed o b k ls ++ drop (length front + k) bytes)) (sym e) (starts_front s))

  pub starts_behind : (behind body : List ℕ) → bytes ≡ front ++ behind → body ≡ take k behind → k ≤ length behind → length ls ≡ n → Fit b ls
      → body ≡ packed o b (length body) ls → Starts o front k b n bytes ls
  starts_behind behind body e is long c f p =
      let at : ℕ = length front in
      let part : take k behind ≡ packed o b k ls =
      sym is ∙ p ∙ ap (λ m. packed o b m ls) (ap length is ∙ length-take-le k behind long) in
      let rest : drop k behind ≡ drop (at + k) bytes =
      ap (drop k) (sym (drop_at front behind at refl) ∙ ap (drop at) (sym e)) ∙ drop-drop k at bytes in
      record {
        count = c;
        fit = f;
        same = e ∙ ap (λ x. front ++ x) (sym (take-append-drop k behind) ∙ ap (λ x. x ++ drop k behind) part ∙ ap (λ x. packed o b k ls ++ x) rest)
            ∙ sym (append_assoc front (packed o b k ls) (drop (at + k) bytes));
      }

-- nothing is read where the bytes begin with no levels
pub took_none : (o : BitOrder) (front : List ℕ) (k b n : ℕ) (bytes out : List ℕ) (r : Option ℕ) → r ≡ None → (n ≤ length out → (ls : List ℕ) → Starts o front k b n bytes ls → ⊥)
    → Took o front k b n bytes out out r
took_none o front k b n bytes out r e h = subst (Took o front k b n bytes out out) (sym e) (refl, h)
