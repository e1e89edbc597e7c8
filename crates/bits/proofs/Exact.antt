-- Bytes are those of levels exactly if the levels of their whole groups are these and 0 behind them.
use Rattle.std.proofs.Common.{◌≡◌, ℕ, zero, suc, ◌+◌, ◌-◌, ◌*◌, ◌/◌, ◌%◌, ◌≤◌, Bool, false, eqb, List, [], ◌∷◌, ◌++◌, length, take, drop, replicate, Decides, sym, refl, ap, ◌∙◌, subst, append_assoc, mul_assoc, add-mul, arith}
use lib.Seq.{drop-append-add}
use Rattle.std.specs.List.{list_all, AllByRecursion}
use Rattle.std.proofs.ByRecursion.{Decides-by_and}
use Rattle.std.proofs.lemmas.Bool.Decides.{Decides-at, Decides-like, Decides-eqb}
use Rattle.std.proofs.lemmas.Nat.{mul-le}
use Rattle.std.proofs.lemmas.List.{append-nil, take_at, drop_at, length-append, length-replicate, replicate-append-replicate, take-append-drop}
use Rattle.bits.specs.declared.order.BitOrder.{BitOrder}
use Rattle.bits.specs.Rows.{row, cut, first, packed, Fit}
use Rattle.bits.specs.Packing.{groups, Room, Written, Repacked}
use Rattle.bits.proofs.Rows.{length-row, length_cut, row-append, cut-row, row_cut}
use Rattle.bits.proofs.Firsts.{length-first, first_add, first_fit, first_over, row_first}
use Rattle.bits.proofs.Cuts.{cut-append, take-cut, fit_cut, fit_packed, row-packed}

length-row-first : (o : BitOrder) (k n : ℕ) (vs : List ℕ) → length (row o k (first n vs)) ≡ n * k
length-row-first o k n vs = length-row o k (first n vs) ∙ ap (λ m. m * k) (length-first n vs)

module _ (o : BitOrder) (b N M : ℕ) (bytes ls : List ℕ) (even : N * b ≡ M * 8) (few : length ls ≤ N) (short : length bytes ≤ M) (holds : length ls * b ≤ 8 * length bytes) where
  -- the fill of the bytes and the zeros behind them, together the levels behind
  zeros : replicate (8 * length bytes - length ls * b) false ++ replicate ((M - length bytes) * 8) false ≡ replicate ((N - length ls) * b) false
  zeros =
      let x : (N - length ls) * b + length ls * b ≡ N * b = sym (add-mul (N - length ls) (length ls) b) ∙ ap (λ m. m * b) (omega arith) in
      replicate-append-replicate (8 * length bytes - length ls * b) ((M - length bytes) * 8) false ∙ ap (λ m. replicate m false) (omega arith)

  pub exact_from : Fit 8 bytes → cut o b N (row o 8 (first M bytes)) ≡ first N ls → bytes ≡ packed o b (length bytes) ls
  unfolding packed
  exact_from fit e =
      let fill : List Bool = replicate (8 * length bytes - length ls * b) false in
      let r : row o 8 bytes ++ replicate ((M - length bytes) * 8) false ≡ (row o b ls ++ fill) ++ replicate ((M - length bytes) * 8) false =
      sym (row_first o 8 M bytes short) ∙ sym (row_cut o b N (row o 8 (first M bytes)) (length-row-first o 8 M bytes ∙ sym even)) ∙ ap (row o b) e
      ∙ row_first o b N ls few ∙ ap (λ x. row o b ls ++ x) (sym zeros) ∙ sym (append_assoc (row o b ls) fill (replicate ((M - length bytes) * 8) false)) in
      let k : ℕ = length bytes * 8 in
      let l : length (row o b ls ++ fill) ≡ k = length-append (row o b ls) fill ∙ omega (arith, length-row o b ls, length-replicate (8 * length bytes - length ls * b) false) in
      let s : row o 8 bytes ≡ row o b ls ++ fill =
      sym (take_at (row o 8 bytes) (replicate ((M - length bytes) * 8) false) k (length-row o 8 bytes)) ∙ ap (take k) r ∙ take_at (row o b ls ++ fill) (replicate ((M - length bytes) * 8) false) k l in
      sym (cut-row o 8 bytes [] fit) ∙ ap (cut o 8 (length bytes)) (append-nil (row o 8 bytes) ∙ s)

  pub exact_to : Fit b ls → bytes ≡ packed o b (length bytes) ls → cut o b N (row o 8 (first M bytes)) ≡ first N ls
  exact_to fit e =
      let r : row o 8 (first M bytes) ≡ row o b (first N ls) =
      row_first o 8 M bytes short ∙ ap (λ x. row o 8 x ++ replicate ((M - length bytes) * 8) false) e
      ∙ ap (λ x. x ++ replicate ((M - length bytes) * 8) false) (row-packed o b (length bytes) ls holds)
      ∙ append_assoc (row o b ls) (replicate (8 * length bytes - length ls * b) false) (replicate ((M - length bytes) * 8) false)
      ∙ ap (λ x. row o b ls ++ x) zeros ∙ sym (row_first o b N ls few) in
      ap (cut o b N) (r ∙ sym (append-nil (row o b (first N ls)))) ∙ ap (λ n. cut o b n (row o b (first N ls) ++ [])) (sym (length-first N ls)) ∙ cut-row o b (first N ls) [] (first_fit b N ls fit)

-- a list of zeros
zeros_of : (xs : List ℕ) → AllByRecursion {X = ℕ} (λ x. x ≡ 0) xs → xs ≡ replicate (length xs) 0
zeros_of [] h = refl
zeros_of (x ∷ xs) h = ap (λ y. y ∷ xs) h.0 ∙ ap (λ l. 0 ∷ l) (zeros_of xs h.1)

all_zeros : (n : ℕ) → AllByRecursion {X = ℕ} (λ x. x ≡ 0) (replicate n 0)
all_zeros zero = tt
all_zeros (suc n) = (refl, all_zeros n)

pub zeros_decided : (xs : List ℕ) (n : ℕ) (r : Bool) → length xs ≡ n → r ≡ list_all (λ x. eqb x 0) xs → Decides r (xs ≡ replicate n 0)
zeros_decided xs n r l e =
    Decides-at r _ e (Decides-like _ (λ h. zeros_of xs h ∙ ap (λ m. replicate m 0) l) (λ h. subst (AllByRecursion {X = ℕ} (λ x. x ≡ 0)) (sym h) (all_zeros n))
    (Decides-by_and (λ x. eqb x 0) (λ x. x ≡ 0) (list_all (λ x. eqb x 0)) (λ x. Decides-eqb x 0) refl (λ _ _. refl) xs))

-- all levels of the groups that n levels begin
in_groups : BitOrder → ℕ → ℕ → List ℕ → List ℕ
in_groups o b n bytes = cut o b (8 * (n / 8) + 8) (row o 8 (first (n / 8 * b + b) bytes))

-- what they have behind the whole groups
tail : (o : BitOrder) (b n : ℕ) (bytes : List ℕ) → drop n (in_groups o b n bytes) ≡ drop (n % 8) (cut o b 8 (row o 8 (first b (drop (n / 8 * b) bytes))))
unfolding in_groups
tail o b n bytes =
    let g : ℕ = n / 8 in
    let front : List ℕ = cut o b (8 * g) (row o 8 (first (g * b) bytes)) in
    let group : List ℕ = cut o b 8 (row o 8 (first b (drop (g * b) bytes))) in
    let e : in_groups o b n bytes ≡ front ++ group =
    ap (λ l. cut o b (8 * g + 8) (row o 8 l)) (first_add (g * b) b bytes) ∙ ap (cut o b (8 * g + 8)) (row-append o 8 (first (g * b) bytes) (first b (drop (g * b) bytes)))
    ∙ cut-append o b (8 * g) 8 (row o 8 (first (g * b) bytes)) (row o 8 (first b (drop (g * b) bytes))) (length-row-first o 8 (g * b) bytes ∙ omega (arith, mul_assoc 8 g b)) in
    let n2 : n ≡ length front + n % 8 = omega (arith, length_cut o b (8 * g) (row o 8 (first (g * b) bytes))) in
    ap (drop n) e ∙ ap (λ m. drop m (front ++ group)) n2 ∙ drop-append-add front group (n % 8)

pub written : (o : BitOrder) (b n : ℕ) (bytes group : List ℕ) (r : Bool) → Room n b (length bytes) → Fit 8 bytes → group ≡ cut o b 8 (row o 8 (first b (drop (n / 8 * b) bytes)))
    → Decides r (drop (n % 8) group ≡ replicate (8 - n % 8) 0) → Decides r (Written o b n bytes)
unfolding in_groups
written o b n bytes group r room fit g d =
    let N : ℕ = 8 * (n / 8) + 8 in
    let M : ℕ = n / 8 * b + b in
    let even : N * b ≡ M * 8 = omega (arith, add-mul (8 * (n / 8)) 8 b, mul_assoc 8 (n / 8) b) in
    let short : length bytes ≤ M = omega (arith, room.grouped, mul-le (groups n) b (n / 8 + 1) b (omega arith) (omega arith), add-mul (n / 8) 1 b) in
    let t : drop n (in_groups o b n bytes) ≡ drop (n % 8) group = tail o b n bytes ∙ ap (drop (n % 8)) (sym g) in
    let left : 8 - n % 8 ≡ N - n = omega arith in
    let ls : List ℕ = cut o b n (row o 8 (first M bytes)) in
    let len : length ls ≡ n = length_cut o b n (row o 8 (first M bytes)) in
    let nm : n + (N - n) ≡ N = omega arith in
    let front : take n (in_groups o b n bytes) ≡ ls = ap (λ m. take n (cut o b m (row o 8 (first M bytes)))) (sym nm) ∙ take-cut o b n (N - n) (row o 8 (first M bytes)) in (
      (λ yes·.
          let z : drop n (in_groups o b n bytes) ≡ replicate (N - n) 0 = t ∙ d.0 yes· ∙ ap (λ m. replicate m 0) left in
          let whole : in_groups o b n bytes ≡ first N ls =
          sym (take-append-drop n (in_groups o b n bytes)) ∙ ap (λ x. x ++ drop n (in_groups o b n bytes)) front ∙ ap (λ x. ls ++ x) z
          ∙ ap (λ m. ls ++ replicate (N - m) 0) (sym len) ∙ sym (first_over N ls (omega arith)) in
          record {
            levels = ls;
            count = len;
            fit = fit_cut o b n (row o 8 (first M bytes)) (subst (λ m. n * b ≤ m) (sym (length-row-first o 8 M bytes)) (omega (arith, room.holds)));
            same = exact_from o b N M bytes ls even (omega arith) short (subst (λ m. m * b ≤ 8 * length bytes) (sym len) room.holds) fit whole;
          }),
      (λ w.
          let ms : List ℕ = w.levels in
          let c : length ms ≡ n = w.count in
          let whole : in_groups o b n bytes ≡ ms ++ replicate (N - n) 0 =
          exact_to o b N M bytes ms even (omega arith) short (subst (λ m. m * b ≤ 8 * length bytes) (sym c) room.holds) w.fit w.same
          ∙ first_over N ms (omega arith) ∙ ap (λ m. ms ++ replicate (N - m) 0) c in
          d.1 (sym t ∙ ap (drop n) whole ∙ drop_at ms (replicate (N - n) 0) n c ∙ ap (λ m. replicate m 0) (sym left))),
    )

-- what is cut from written bytes are the levels
pub read_back : (o : BitOrder) (b n : ℕ) (bytes out : List ℕ) (w : Written o b n bytes) → n * b ≤ 8 * length bytes → Repacked o 8 b bytes n out → out ≡ w.levels
read_back o b n bytes out w holds re =
    let ms : List ℕ = w.levels in
    let c : length ms ≡ n = w.count in
    let none : length bytes - length bytes ≡ 0 = omega arith in
    let whole : first (length bytes) bytes ≡ bytes = first_over (length bytes) bytes (omega arith) ∙ ap (λ m. bytes ++ replicate m 0) none ∙ append-nil bytes in
    let r : row o 8 bytes ≡ row o b ms ++ replicate (8 * length bytes - length ms * b) false =
    ap (row o 8) w.same ∙ row-packed o b (length bytes) ms (subst (λ m. m * b ≤ 8 * length bytes) (sym c) holds) in
    re (length bytes) (omega arith) ∙ ap (λ x. cut o b n (row o 8 x)) whole ∙ ap (λ m. cut o b m (row o 8 bytes)) (sym c) ∙ ap (cut o b (length ms)) r
    ∙ cut-row o b ms (replicate (8 * length bytes - length ms * b) false) w.fit

pub written_fit : (o : BitOrder) (b n : ℕ) (bytes : List ℕ) → Written o b n bytes → n * b ≤ 8 * length bytes → Fit 8 bytes
written_fit o b n bytes w holds =
    subst (Fit 8) (sym w.same) (fit_packed o b (length bytes) w.levels (subst (λ m. m * b ≤ 8 * length bytes) (sym w.count) holds))
