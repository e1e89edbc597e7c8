-- The laws that the two coders owe: lengths, and that levels have bytes of their own.
use Rattle.std.specs.Prelude.{◌≡◌, ℕ, suc, ◌+◌, ◌*◌, ◌/◌, ◌%◌, ◌<◌, ◌≤◌, cond, List, [], ◌∷◌, ◌++◌, length, take, drop, refl}
use Rattle.std.proofs.Common.{sym, ap, ◌∙◌, append_assoc, ⊎_elim, mul_assoc, arith}
use Rattle.std.proofs.lemmas.List.{take_at, drop_at, length-append}
use Rattle.std.proofs.lemmas.Nat.{mul-le}
use Rattle.std.proofs.lemmas.Bool.{lt-ltb, le-ltb, cases_lt}
use Rattle.bits.specs.declared.order.BitOrder.{BitOrder}
use Rattle.bits.specs.declared.order.BitOrder.TheVariants.{LeastFirst, MostFirst}
use Rattle.bits.specs.Rows.{packed, Fit}
use Rattle.bits.specs.Packing.{groups}
use Rattle.bits.proofs.Cuts.{length-packed, unique_packed}
use Rattle.levels.specs.Formats.{uleb_by, uleb, header, bytes_for, packed_coded, legacy_coded}

-- no other levels have the same bytes behind the same front
pub listed_unique : (o : BitOrder) (b k : ℕ) (front ls ms rest tail : List ℕ) → length ls * b ≤ 8 * k → Fit b ls → Fit b ms → length ms ≡ length ls
    → (front ++ packed o b k ls) ++ rest ≡ (front ++ packed o b k ms) ++ tail → ls ≡ ms
listed_unique o b k front ls ms rest tail holds f g l e =
    let p : List ℕ → List ℕ = λ xs. packed o b k xs in
    let behind : p ls ++ rest ≡ p ms ++ tail =
    sym (drop_at front (p ls ++ rest) (length front) refl) ∙ ap (drop (length front)) (sym (append_assoc front (p ls) rest) ∙ e ∙ append_assoc front (p ms) tail)
    ∙ drop_at front (p ms ++ tail) (length front) refl in
    unique_packed o b k ls ms holds l f g
    (sym (take_at (p ls) rest k (length-packed o b k ls)) ∙ ap (take k) behind ∙ take_at (p ms) tail k (length-packed o b k ms))

-- a number below 128 is one byte, and one below 16,384 at most two
pub one_byte : (t v : ℕ) → v < 128 → uleb_by (suc t) v ≡ v ∷ []
one_byte t v h = rw (lt-ltb v 128 h)

pub uleb_one : (v : ℕ) → v < 128 → uleb v ≡ v ∷ []
unfolding uleb
uleb_one v h = one_byte 8 v h

pub uleb_two : (v : ℕ) → 128 ≤ v → v < 16384 → uleb v ≡ (v % 128 + 128) ∷ v / 128 ∷ []
unfolding uleb
uleb_two v h few =
    ap (λ t. cond t (v ∷ []) ((v % 128 + 128) ∷ uleb_by 8 (v / 128))) (le-ltb v 128 h)
    ∙ ap (λ l. (v % 128 + 128) ∷ l) (one_byte 7 (v / 128) (omega arith))

pub uleb_short : (v : ℕ) → v < 16384 → length (uleb v) ≤ 2
uleb_short v few = ⊎_elim (λ h. omega (arith, ap length (uleb_one v h))) (λ h. omega (arith, ap length (uleb_two v h few))) (cases_lt v 128)

-- the groups hold the levels
pub room_packed : (n b : ℕ) → n * b ≤ 8 * (groups n * b)
room_packed n b = omega (arith, mul-le n b (8 * groups n) b (omega arith) (omega arith), mul_assoc 8 (groups n) b)

-- sizes depend on the number of levels and their width alone, and the bytes on no other levels
pub packed-sized : (b : ℕ) (ls : List ℕ) → length (packed_coded b ls) ≡ length (header (length ls)) + groups (length ls) * b
packed-sized b ls =
    length-append (header (length ls)) (packed LeastFirst b (groups (length ls) * b) ls)
    ∙ ap (λ k. length (header (length ls)) + k) (length-packed LeastFirst b (groups (length ls) * b) ls)

pub packed_unique : (b : ℕ) (ls ms rest tail : List ℕ) → Fit b ls → Fit b ms → length ms ≡ length ls → packed_coded b ls ++ rest ≡ packed_coded b ms ++ tail → ls ≡ ms
packed_unique b ls ms rest tail f g l e =
    listed_unique LeastFirst b (groups (length ls) * b) (header (length ls)) ls ms rest tail (room_packed (length ls) b) f g l
    (e ∙ ap (λ n. (header n ++ packed LeastFirst b (groups n * b) ms) ++ tail) l)

pub legacy_unique : (b : ℕ) (ls ms rest tail : List ℕ) → Fit b ls → Fit b ms → length ms ≡ length ls → legacy_coded b ls ++ rest ≡ legacy_coded b ms ++ tail → ls ≡ ms
legacy_unique b ls ms rest tail f g l e =
    listed_unique MostFirst b (bytes_for (length ls * b)) [] ls ms rest tail (omega arith) f g l (e ∙ ap (λ n. packed MostFirst b (bytes_for (n * b)) ms ++ tail) l)
