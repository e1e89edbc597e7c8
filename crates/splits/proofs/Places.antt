-- Each byte has its place in the streams, and comes back from it.
use Rattle.std.proofs.Common.{◌≡◌, ℕ, zero, suc, ◌+◌, ◌*◌, ◌/◌, ◌%◌, ◌<◌, List, ◌++◌, length, get_or, sym, ap, ◌∙◌, suc-mul, mul_comm, mul-zero, zero-mul, arith}
use Rattle.std.specs.List.{range_with_len, flat_map}
use Rattle.std.proofs.lemmas.Nat.{mul-add-lt, div_below, mod_below, div-add-mod'}
use Rattle.std.proofs.lemmas.List.FromFn.{length-map-range_with_len, get_or-map-range_with_len}
use Rattle.std.proofs.lemmas.List.{ext_get_or, get_or_append_left, get_or-append-add, length-append}
use Rattle.splits.specs.Streams.{stream, streams, EachPlace, Back}

length-joined : (f : ℕ → List ℕ) (n : ℕ) → ((j : ℕ) → length (f j) ≡ n) → (a m : ℕ) → length (flat_map f (range_with_len a m)) ≡ m * n
length-joined f n l a zero = sym (zero-mul n)
length-joined f n l a (suc m) = length-append (f a) (flat_map f (range_with_len (a + 1) m)) ∙ omega (arith, l a, length-joined f n l (a + 1) m, suc-mul m n)

get_or-joined : (f : ℕ → List ℕ) (n : ℕ) → ((j : ℕ) → length (f j) ≡ n) → (a m j i : ℕ) → j < m → i < n → get_or (flat_map f (range_with_len a m)) (j * n + i) 0 ≡ get_or (f (a + j)) i 0
get_or-joined f n l a zero j i h k = absurd (omega arith)
get_or-joined f n l a (suc m) zero i h k =
    let z : 0 * n + i ≡ i = omega arith in
    let e : a ≡ a + 0 = omega arith in
    ap (λ p. get_or (f a ++ flat_map f (range_with_len (a + 1) m)) p 0) z ∙ get_or_append_left (f a) (flat_map f (range_with_len (a + 1) m)) 0 i (omega (arith, l a)) ∙ ap (λ b. get_or (f b) i 0) e
get_or-joined f n l a (suc m) (suc j) i h k =
    let s : suc j * n + i ≡ length (f a) + (j * n + i) = omega (arith, l a, suc-mul j n) in
    let e : (a + 1) + j ≡ a + suc j = omega arith in
    ap (λ p. get_or (f a ++ flat_map f (range_with_len (a + 1) m)) p 0) s ∙ get_or-append-add (f a) (flat_map f (range_with_len (a + 1) m)) (j * n + i) 0
    ∙ get_or-joined f n l (a + 1) m j i (omega arith) k ∙ ap (λ b. get_or (f b) i 0) e

pub length-streams : (n k : ℕ) (xs : List ℕ) → length (streams n k xs) ≡ n * k
unfolding streams
length-streams n k xs = length-joined (stream n k xs) n (λ j. length-map-range_with_len (λ i. get_or xs (i * k + j) 0) 0 n) 0 k ∙ mul_comm k n

pub places : (n k : ℕ) (xs : List ℕ) → EachPlace n k xs (streams n k xs)
unfolding streams
places n k xs i j hi hj =
    let z : 0 + j ≡ j = omega arith in
    get_or-joined (stream n k xs) n (λ j. length-map-range_with_len (λ i. get_or xs (i * k + j) 0) 0 n) 0 k j i hj hi
    ∙ ap (λ b. get_or (stream n k xs b) i 0) z ∙ get_or-map-range_with_len (λ i. get_or xs (i * k + j) 0) 0 n i i 0 hi (omega arith)

positive : (p n k : ℕ) → p < n * k → 0 < k
positive p n zero h = absurd (omega (arith, mul-zero n))
positive p n (suc k) h = omega arith

pub back : Back
back n k xs e =
    ext_get_or 0 _ _ (length-streams k n (streams n k xs) ∙ omega (arith, mul_comm k n)) (λ p h.
    let l : p < n * k = omega (arith, length-streams k n (streams n k xs), mul_comm k n) in
    let kp : 0 < k = positive p n k l in
    let j : p % k < k = mod_below p k kp in
    let i : p / k < n = div_below p k n kp l in
    let at : p / k * k + p % k ≡ p = div-add-mod' p k in
    ap (λ q. get_or (streams k n (streams n k xs)) q 0) (sym at) ∙ places k n (streams n k xs) (p % k) (p / k) j i
    ∙ places n k xs (p / k) (p % k) i j ∙ ap (λ q. get_or xs q 0) at)

pub places_behind : (n k : ℕ) (xs rest out : List ℕ) → out ≡ streams n k xs ++ rest → EachPlace n k xs out
places_behind n k xs rest out e i j hi hj =
    ap (λ l. get_or l (j * n + i) 0) e ∙ get_or_append_left (streams n k xs) rest 0 (j * n + i) (omega (arith, length-streams n k xs, mul-add-lt j n i k hj hi)) ∙ places n k xs i j hi hj
