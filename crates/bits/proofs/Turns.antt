-- One number more that joins a word, and one number more that is cut from it.
use Rattle.std.proofs.Common.{◌≡◌, ℕ, zero, suc, ◌+◌, ◌-◌, ◌*◌, ◌^◌, ◌<◌, ◌≤◌, List, [], ◌∷◌, ◌++◌, length, get_or, take, set, sym, refl, ap, ◌∙◌, subst, append_assoc, add-mul, arith}
use Rattle.std.proofs.lemmas.List.{append-nil, take_more_set, take_all}
use Rattle.std.proofs.ByRecursion.{All-push}
use Rattle.std.proofs.lemmas.Nat.{pow_pos}
use Rattle.bits.specs.declared.order.BitOrder.{BitOrder}
use Rattle.bits.specs.Rows.{bits_of, row, cut, first, Fit}
use Rattle.bits.proofs.Rows.{row-append, cut-row, bits_of_none}
use Rattle.bits.proofs.Firsts.{first_more}

row_one : (o : BitOrder) (k v : ℕ) → row o k (v ∷ []) ≡ bits_of o k v
unfolding row
row_one o k v = append-nil (bits_of o k v)

row_push : (o : BitOrder) (k : ℕ) (vs : List ℕ) (v : ℕ) → row o k (vs ++ v ∷ []) ≡ row o k vs ++ bits_of o k v
row_push o k vs v = row-append o k vs (v ∷ []) ∙ ap (λ r. row o k vs ++ r) (row_one o k v)

-- A word that holds the row of the first t numbers.
pub gathered_none : (o : BitOrder) (w : ℕ) (vs : List ℕ) → (0 < 2 ^ (0 * w)) × (bits_of o (0 * w) 0 ≡ row o w (first 0 vs))
unfolding row first
gathered_none o w vs = let z : 0 * w ≡ 0 = omega arith in (pow_pos (0 * w), ap (λ n. bits_of o n 0) z ∙ bits_of_none o 0)

pub gathered_more : (o : BitOrder) (w : ℕ) (vs : List ℕ) (t acc v r : ℕ) → bits_of o (t * w) acc ≡ row o w (first t vs) → v ≡ get_or vs t 0
    → r < 2 ^ (t * w + w) → bits_of o (t * w + w) r ≡ bits_of o (t * w) acc ++ bits_of o w v
    → (r < 2 ^ ((t + 1) * w)) × (bits_of o ((t + 1) * w) r ≡ row o w (first (t + 1) vs))
gathered_more o w vs t acc v r e x l bs =
    let s : t * w + w ≡ (t + 1) * w = omega (arith, add-mul t 1 w) in (
      subst (λ n. r < 2 ^ n) s l,
      sym (ap (λ n. bits_of o n r) s) ∙ bs ∙ ap (λ l. l ++ bits_of o w v) e ∙ sym (row_push o w (first t vs) v)
          ∙ ap (λ u. row o w (first t vs ++ u ∷ [])) x ∙ ap (row o w) (sym (first_more t vs)),
    )

-- A word of which the first t numbers stand in a list.
abbrev pub Spread : BitOrder → ℕ → ℕ → ℕ → List ℕ → ℕ → ℕ → ℕ → Type 0
Spread o w held acc out t bits left =
    (left < 2 ^ bits) × (bits + t * w ≡ held) × Fit w (take t out) × (bits_of o held acc ≡ row o w (take t out) ++ bits_of o bits left)

pub spread_more : (o : BitOrder) (w held acc : ℕ) (out : List ℕ) (t bits left v rest : ℕ) → Spread o w held acc out t bits left → t < length out → w ≤ bits
    → v < 2 ^ w → rest < 2 ^ (bits - w) → bits_of o bits left ≡ bits_of o w v ++ bits_of o (bits - w) rest
    → Spread o w held acc (set out t v) (t + 1) (bits - w) rest
spread_more o w held acc out t bits left v rest s h le vl rl e = (
  rl,
  omega (arith, s.1, add-mul t 1 w),
  subst (Fit w) (sym (take_more_set out t v h)) (All-push (λ l. l < 2 ^ w) (take t out) v s.2 vl),
  s.3 ∙ ap (λ x. row o w (take t out) ++ x) e ∙ sym (append_assoc (row o w (take t out)) (bits_of o w v) (bits_of o (bits - w) rest))
      ∙ ap (λ x. x ++ bits_of o (bits - w) rest) (sym (row_push o w (take t out) v)) ∙ ap (λ x. row o w x ++ bits_of o (bits - w) rest) (sym (take_more_set out t v h)),
)

pub spread_all : (o : BitOrder) (w held acc : ℕ) (out : List ℕ) (t bits left : ℕ) → Spread o w held acc out t bits left → t ≡ length out
    → out ≡ cut o w (length out) (bits_of o held acc)
spread_all o w held acc out t bits left s e =
    let a : take t out ≡ out = take_all t out (omega arith) in
    let f : Fit w out = subst (Fit w) a s.2 in
    let r : bits_of o held acc ≡ row o w out ++ bits_of o bits left = s.3 ∙ ap (λ x. row o w x ++ bits_of o bits left) a in
    sym (cut-row o w out (bits_of o bits left) f) ∙ ap (cut o w (length out)) (sym r)

pub fit_get : (b : ℕ) (ls : List ℕ) (i : ℕ) → Fit b ls → get_or ls i 0 < 2 ^ b
fit_get b [] i f = pow_pos b
fit_get b (x ∷ ls) zero f = f.0
fit_get b (x ∷ ls) (suc i) f = fit_get b ls i f.1

pub spread_none : (o : BitOrder) (w held acc : ℕ) (out : List ℕ) → acc < 2 ^ held → Spread o w held acc out 0 held acc
unfolding row
spread_none o w held acc out h = (h, omega arith, tt, refl)
