-- Decimals as the format keeps their unscaled number in bytes: big-endian two's complement, of any length.
use Rattle.std.specs.Prelude.{◌≡◌, ℕ, ◌*◌, ◌^◌, Bool, true, false, cond, ◌⊎◌, List, [], ◌∷◌, length, ℤ, pos, ◌-ℤ◌, nat_lt, refl}
use Rattle.std.proofs.Common.{inl, inr}
use Rattle.std.proofs.lemmas.Bool.{false≢true}
use Rattle.kinds.specs.Orders.{Order, by_integer}
use Rattle.strings.specs.Numbers.{number}

-- n bytes stand for their unsigned number, less 256 ^ n from half of that on
abbrev pub value : List ℕ → ℤ
value v = cond (nat_lt (2 * number v) (256 ^ length v)) (pos (number v)) (pos (number v) -ℤ pos (256 ^ length v))

-- a test of two byte strings, with the empty one below all others
abbrev pub after_empty : (List ℕ → List ℕ → Bool) → List ℕ → List ℕ → Bool
after_empty greater [] b = false
after_empty greater (x ∷ a) [] = true
after_empty greater (x ∷ a) (y ∷ b) = greater (x ∷ a) (y ∷ b)

pub one_way_after : (o : Order) (a b : List ℕ) → after_empty o.greater a b ≡ true → after_empty o.greater b a ≡ false
one_way_after o [] b h = absurd (false≢true h)
one_way_after o (x ∷ a) [] h = refl
one_way_after o (x ∷ a) (y ∷ b) h = o.one_way (x ∷ a) (y ∷ b) h

pub splits_after : (o : Order) (a b c : List ℕ) → after_empty o.greater a c ≡ true
    → (after_empty o.greater a b ≡ true) ⊎ (after_empty o.greater b c ≡ true)
splits_after o [] b c h = absurd (false≢true h)
splits_after o (x ∷ a) [] c h = inl refl
splits_after o (x ∷ a) (y ∷ b) [] h = inr refl
splits_after o (x ∷ a) (y ∷ b) (z ∷ c) h = o.splits (x ∷ a) (y ∷ b) (z ∷ c) h

-- an order with the empty string below all others
abbrev pub empty_first : Order → Order
empty_first o = record { greater = after_empty o.greater; one_way = one_way_after o; splits = splits_after o }

-- decimals by their number, the empty one below all others
abbrev pub decimal : Order
decimal = empty_first (by_integer value)
