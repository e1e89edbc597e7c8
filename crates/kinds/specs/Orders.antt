-- Orders of byte strings, as the format's column orders compare values and bounds.
use Rattle.std.specs.Prelude.{◌≡◌, ℕ, Bool, true, false, ◌⊎◌, List, ℤ, pos, negsuc, int_lt, nat_lt, refl}
use Rattle.std.proofs.Common.{inl, inr, ⊎_elim, arith}
use Rattle.std.proofs.lemmas.Bool.{ltb-true, le-ltb, lt-ltb, cases_lt, false≢true}

-- which of two byte strings is greater, with the two laws of such an order
pub record Order : Type 0 where
  pub greater : List ℕ → List ℕ → Bool
  pub one_way : (a b : List ℕ) → greater a b ≡ true → greater b a ≡ false
  pub splits : (a b c : List ℕ) → greater a c ≡ true → (greater a b ≡ true) ⊎ (greater b c ≡ true)

pub one_way_ℕ : (a b : ℕ) → nat_lt b a ≡ true → nat_lt a b ≡ false
one_way_ℕ a b h = le-ltb a b (omega (arith, ltb-true b a h))

pub splits_ℕ : (a b c : ℕ) → nat_lt c a ≡ true → (nat_lt b a ≡ true) ⊎ (nat_lt c b ≡ true)
splits_ℕ a b c h =
    ⊎_elim (λ l. inl (lt-ltb b a l)) (λ l. inr (lt-ltb c b (omega (arith, ltb-true c a h)))) (cases_lt b a)

-- byte strings compared by a natural number that each stands for
abbrev pub by_number : (List ℕ → ℕ) → Order
by_number key = record {
  greater = λ a b. nat_lt (key b) (key a);
  one_way = λ a b. one_way_ℕ (key a) (key b);
  splits = λ a b c. splits_ℕ (key a) (key b) (key c);
}

pub one_way_ℤ : (a b : ℤ) → int_lt b a ≡ true → int_lt a b ≡ false
one_way_ℤ (pos a) (pos b) h = one_way_ℕ a b h
one_way_ℤ (pos a) (negsuc b) h = refl
one_way_ℤ (negsuc a) (pos b) h = absurd (false≢true h)
one_way_ℤ (negsuc a) (negsuc b) h = one_way_ℕ b a h

pub splits_ℤ : (a b c : ℤ) → int_lt c a ≡ true → (int_lt b a ≡ true) ⊎ (int_lt c b ≡ true)
splits_ℤ (pos a) (pos b) (pos c) h = splits_ℕ a b c h
splits_ℤ (pos a) (pos b) (negsuc c) h = inr refl
splits_ℤ (pos a) (negsuc b) c h = inl refl
splits_ℤ (negsuc a) (pos b) (pos c) h = absurd (false≢true h)
splits_ℤ (negsuc a) (pos b) (negsuc c) h = inr refl
splits_ℤ (negsuc a) (negsuc b) (pos c) h = absurd (false≢true h)
splits_ℤ (negsuc a) (negsuc b) (negsuc c) h = ⊎_elim inr inl (splits_ℕ c b a h)

-- byte strings compared by an integer that each stands for
abbrev pub by_integer : (List ℕ → ℤ) → Order
by_integer key = record {
  greater = λ a b. int_lt (key b) (key a);
  one_way = λ a b. one_way_ℤ (key a) (key b);
  splits = λ a b c. splits_ℤ (key a) (key b) (key c);
}
