-- Shifts and masks of a 64-bit word as powers of two.
use Rattle.std.proofs.Common.{◌≡◌, ℕ, ◌+◌, ◌-◌, ◌*◌, ◌/◌, ◌%◌, ◌^◌, ◌<◌, ◌≤◌, ◌++◌, sym, ap, ◌∙◌, subst, add_comm, zero-add, zero-mul, arith}
use lib.Bits.{bit_and, bit_or}
use lib.Arith.{digits_lt}
use native.Mathlib.Nat.{pow-le-pow_right}
use Rattle.std.proofs.lemmas.Nat.{or_shifted, shl_whole, one_shl, and_mask, pow-add, shr_split, shr_below, mod_below, pow_pos}
use Rattle.bits.specs.declared.order.BitOrder.{BitOrder}
use Rattle.bits.specs.declared.order.BitOrder.TheVariants.{LeastFirst, MostFirst}
use Rattle.bits.specs.Rows.{bits_of}
use Rattle.bits.proofs.Rows.{join-least, join-most}

pub placed : (hi k lo j : ℕ) → hi < 2 ^ j → lo < 2 ^ k → j + k ≤ 64 → bit_or ((hi * 2 ^ k) % 2 ^ 64) lo ≡ hi * 2 ^ k + lo
placed hi k lo j p q w = ap (λ n. bit_or n lo) (shl_whole hi j k 64 p w) ∙ or_shifted hi k lo q

pub masked : (a k : ℕ) → k < 64 → bit_and a ((1 * 2 ^ k) % 2 ^ 64 - 1) ≡ a % 2 ^ k
masked a k h = ap (λ n. bit_and a (n - 1)) (one_shl k 64 h) ∙ and_mask a k

pub placed_lt : (hi k lo j : ℕ) → hi < 2 ^ j → lo < 2 ^ k → hi * 2 ^ k + lo < 2 ^ (j + k)
placed_lt hi k lo j p q = subst (λ n. hi * 2 ^ k + lo < n) (sym (pow-add 2 j k)) (digits_lt p q)

pub under : (n k : ℕ) → n / 2 ^ k ≤ 0 → n < 2 ^ k
under n k h =
    let z : n / 2 ^ k ≡ 0 = omega arith in
    let e : 0 * 2 ^ k + n % 2 ^ k ≡ n = rw z at (shr_split n k) in
    omega (arith, mod_below n (2 ^ k) (pow_pos k), zero-mul (2 ^ k))

pub over : (n k : ℕ) → 0 < n / 2 ^ k → n < 2 ^ k → ⊥
over n k h l = omega (arith, shr_below n 0 k (subst (λ m. n < 2 ^ m) (sym (zero-add k)) l))

-- What is joined has as many bits as both parts, and each part of what is parted has its own.
pub joined_low : (a h v w : ℕ) → a < 2 ^ h → v < 2 ^ w → h + w ≤ 32 → bit_or ((v * 2 ^ h) % 2 ^ 64) a < 2 ^ (h + w)
joined_low a h v w p q few = rw (placed v h a w q p (omega arith)) (subst (λ n. v * 2 ^ h + a < 2 ^ n) (add_comm w h) (placed_lt v h a w q p))

pub joined_high : (a h v w : ℕ) → a < 2 ^ h → v < 2 ^ w → h + w ≤ 32 → bit_or ((a * 2 ^ w) % 2 ^ 64) v < 2 ^ (h + w)
joined_high a h v w p q few = rw (placed a w v h p q (omega arith)) (placed_lt a w v h p q)

pub parted_rest : (a h w : ℕ) → a < 2 ^ h → w ≤ h → a / 2 ^ w < 2 ^ (h - w)
parted_rest a h w p le =
    let s : (h - w) + w ≡ h = omega arith in
    shr_below a (h - w) w (subst (λ n. a < 2 ^ n) (sym s) p)

pub parted_front : (a h w : ℕ) → a < 2 ^ h → w ≤ h → a / 2 ^ (h - w) < 2 ^ w
parted_front a h w p le =
    let t : w + (h - w) ≡ h = omega arith in
    shr_below a w (h - w) (subst (λ n. a < 2 ^ n) (sym t) p)

pub parted_byte : (a h w : ℕ) → a < 2 ^ h → w ≤ h → w ≤ 8 → a / 2 ^ (h - w) < 256
parted_byte a h w p le narrow =
    let m : 2 ^ w ≤ 2 ^ 8 = pow-le-pow_right (omega arith) narrow in
    omega (arith, m, parted_front a h w p le)

-- A number behind the bits held, in either order.
pub joined_least : (o : BitOrder) (a h v w : ℕ) → o ≡ LeastFirst → a < 2 ^ h → v < 2 ^ w → h + w ≤ 32
    → bits_of o (h + w) (bit_or ((v * 2 ^ h) % 2 ^ 64) a) ≡ bits_of o h a ++ bits_of o w v
joined_least o a h v w is p q few = rw (placed v h a w q p (omega arith), is) (join-least h w a v p q)

pub joined_most : (o : BitOrder) (a h v w : ℕ) → o ≡ MostFirst → a < 2 ^ h → v < 2 ^ w → h + w ≤ 32
    → bits_of o (h + w) (bit_or ((a * 2 ^ w) % 2 ^ 64) v) ≡ bits_of o h a ++ bits_of o w v
joined_most o a h v w is p q few = rw (placed a w v h p q (omega arith), is) (join-most h w a v p q)

-- The first w of h bits and the others, in either order.
pub parted_least : (o : BitOrder) (a h w : ℕ) → o ≡ LeastFirst → a < 2 ^ h → w ≤ h → h ≤ 32
    → (bit_and a ((1 * 2 ^ w) % 2 ^ 64 - 1) < 2 ^ w) × (a / 2 ^ w < 2 ^ (h - w))
    × (bits_of o h a ≡ bits_of o w (bit_and a ((1 * 2 ^ w) % 2 ^ 64 - 1)) ++ bits_of o (h - w) (a / 2 ^ w))
parted_least o a h w is p le few =
    let e : bit_and a ((1 * 2 ^ w) % 2 ^ 64 - 1) ≡ a % 2 ^ w = masked a w (omega arith) in
    let t : w + (h - w) ≡ h = omega arith in
    let low : a % 2 ^ w < 2 ^ w = mod_below a (2 ^ w) (pow_pos w) in
    let high : a / 2 ^ w < 2 ^ (h - w) = parted_rest a h w p le in (
      rw e low,
      high,
      rw (e, is) (
          sym (ap (λ n. bits_of LeastFirst n a) t) ∙ sym (ap (bits_of LeastFirst (w + (h - w))) (shr_split a w)) ∙ join-least w (h - w) (a % 2 ^ w) (a / 2 ^ w) low high
          ),
    )

pub parted_most : (o : BitOrder) (a h w : ℕ) → o ≡ MostFirst → a < 2 ^ h → w ≤ h → h ≤ 32
    → (a / 2 ^ (h - w) < 2 ^ w) × (bit_and a ((1 * 2 ^ (h - w)) % 2 ^ 64 - 1) < 2 ^ (h - w))
    × (bits_of o h a ≡ bits_of o w (a / 2 ^ (h - w)) ++ bits_of o (h - w) (bit_and a ((1 * 2 ^ (h - w)) % 2 ^ 64 - 1)))
parted_most o a h w is p le few =
    let e : bit_and a ((1 * 2 ^ (h - w)) % 2 ^ 64 - 1) ≡ a % 2 ^ (h - w) = masked a (h - w) (omega arith) in
    let t : w + (h - w) ≡ h = omega arith in
    let low : a % 2 ^ (h - w) < 2 ^ (h - w) = mod_below a (2 ^ (h - w)) (pow_pos (h - w)) in
    let high : a / 2 ^ (h - w) < 2 ^ w = parted_front a h w p le in (
      high,
      rw e low,
      rw (e, is) (
          sym (ap (λ n. bits_of MostFirst n a) t) ∙ sym (ap (bits_of MostFirst (w + (h - w))) (shr_split a (h - w))) ∙ join-most w (h - w) (a / 2 ^ (h - w)) (a % 2 ^ (h - w)) high low
          ),
    )
