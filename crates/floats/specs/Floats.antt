-- FLOAT, DOUBLE and Float16 by their little-endian bit patterns, in IEEE 754's total order.
use Rattle.std.specs.Prelude.{◌≡◌, ℕ, ◌<◌, ◌≤◌, true, false, ◌⊎◌, Some}
use Rattle.std.proofs.Common.{sym, ◌∙◌, inl, inr, ⊎_elim, lit<, lit≤}
use Rattle.std.proofs.lemmas.Bool.{true≢false}
use Rattle.ieee.specs.Formats.{Format, binary16, binary32, binary64, datum, is_nan}
use Rattle.ieee.specs.TotalOrder.{above, rank}
use Rattle.ieee.proofs.Ranks.{above-rank}
use Rattle.kinds.specs.Orders.{Order, one_way_ℕ, splits_ℕ}
use Rattle.kinds.specs.Cuts.{uncut}
use Rattle.kinds.specs.Meaning.{Meaning, fixed_few}
use Rattle.words.specs.Words.{word, few}

pub one_way : (f : Format) → 0 < f.significand → (a b : ℕ) → above f a b ≡ true → above f b a ≡ false
one_way f some a b h = above-rank f some b a ∙ one_way_ℕ (rank f a) (rank f b) (sym (above-rank f some a b) ∙ h)

pub splits : (f : Format) → 0 < f.significand → (a b c : ℕ) → above f a c ≡ true → (above f a b ≡ true) ⊎ (above f b c ≡ true)
splits f some a b c h =
    ⊎_elim (λ t. inl (above-rank f some a b ∙ t)) (λ t. inr (above-rank f some b c ∙ t))
    (splits_ℕ (rank f a) (rank f b) (rank f c) (sym (above-rank f some a c) ∙ h))

-- values of k bytes as patterns of a format, in its total order
abbrev pub by_total_order : (f : Format) → 0 < f.significand → ℕ → Order
by_total_order f some k = record {
  greater = λ a b. above f (word k a) (word k b);
  one_way = λ a b. one_way f some (word k a) (word k b);
  splits = λ a b c. splits f some (word k a) (word k b) (word k c);
}

-- a kind of floating-point values: never cut
abbrev pub floating : (number physical width : ℕ) → width ≤ 128 → (f : Format) → 0 < f.significand → Meaning
floating n p k few f some = record {
  number = n;
  physical = p;
  width = Some k;
  width_few = fixed_few k few;
  order = by_total_order f some k;
  has_nan = true;
  nan = λ v. is_nan (datum f (word k v));
  nan_only = λ e. absurd (true≢false e);
  cuts = uncut (by_total_order f some k);
}

-- FLOAT
abbrev pub float : Meaning
float = floating 5 4 4 (few (lit≤ tt)) binary32 (lit< tt)

-- DOUBLE
abbrev pub double : Meaning
double = floating 6 5 8 (few (lit≤ tt)) binary64 (lit< tt)

-- Float16, in two bytes of FIXED_LEN_BYTE_ARRAY
abbrev pub float16 : Meaning
float16 = floating 7 7 2 (few (lit≤ tt)) binary16 (lit< tt)
