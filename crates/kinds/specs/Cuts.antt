-- Bounds of a page index: a value's bytes, whole or cut to a length.
use Rattle.std.specs.Prelude.{◌≡◌, ℕ, ◌<◌, ◌≤◌, Bool, true, false, List, ◌++◌, length, take, drop, refl}
use Rattle.std.proofs.lemmas.Bool.{false≢true, cases_Bool}
use Rattle.std.proofs.Common.{⊎_elim}
use Rattle.kinds.specs.Orders.{Order}

-- a bound's bytes, and whether they are the value cut
pub record Bound : Type 0 where
  pub bytes : List ℕ
  pub cut : Bool

-- a bound of v at the length l: v whole, or at most l bytes in place of a longer v
pub record Shortens (l : ℕ) (v : List ℕ) (b : Bound) : Type 0 where
  pub whole : b.cut ≡ false → b.bytes ≡ v
  pub short : b.cut ≡ true → (length b.bytes ≤ l) × (l < length v)

-- the two cuts of an order, with their laws: a lower cut is never greater than the value, nor the value than its upper cut
pub record Cuts (o : Order) : Type 0 where
  pub lower : ℕ → List ℕ → Bound
  pub upper : ℕ → List ℕ → Bound
  pub lower_below : (l : ℕ) (v : List ℕ) → o.greater (lower l v).bytes v ≡ false
  pub upper_above : (l : ℕ) (v : List ℕ) → o.greater v (upper l v).bytes ≡ false
  pub lower_shortens : (l : ℕ) (v : List ℕ) → Shortens l v (lower l v)
  pub upper_shortens : (l : ℕ) (v : List ℕ) → Shortens l v (upper l v)

-- no value is greater than itself
pub never_above_itself : (o : Order) (v : List ℕ) → o.greater v v ≡ false
never_above_itself o v = ⊎_elim (λ h. o.one_way v v h) (λ h. h) (cases_Bool (o.greater v v))

abbrev pub whole : List ℕ → Bound
whole v = record { bytes = v; cut = false }

pub whole_shortens : (l : ℕ) (v : List ℕ) → Shortens l v (whole v)
whole_shortens l v = record { whole = λ _. refl; short = λ e. absurd (false≢true e) }

-- a kind whose values are never cut
abbrev pub uncut : (o : Order) → Cuts o
uncut o = record {
  lower = λ _ v. whole v;
  upper = λ _ v. whole v;
  lower_below = λ _ v. never_above_itself o v;
  upper_above = λ _ v. never_above_itself o v;
  lower_shortens = whole_shortens;
  upper_shortens = whole_shortens;
}

-- what cutting below answers: the bound's length and whether it was cut; the bound is that front of the value
pub record CutBelow (b : Bound) (v : List ℕ) (r : ℕ × Bool) : Type 0 where
  pub long : r.0 ≡ length b.bytes
  pub cut : r.1 ≡ b.cut
  pub front : take r.0 v ≡ b.bytes

-- what cutting above in place answers: the bound stands at the front, and what is behind it is as it was
pub record CutAbove (b : Bound) (v after : List ℕ) (r : ℕ × Bool) : Type 0 where
  pub long : r.0 ≡ length b.bytes
  pub cut : r.1 ≡ b.cut
  pub bound : after ≡ b.bytes ++ drop (length b.bytes) v
