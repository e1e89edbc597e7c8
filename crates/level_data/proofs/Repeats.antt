-- A value that is repeated, and a part of it; what is counted by a test of two levels.
use Rattle.std.proofs.Common.{◌≡◌, ℕ, ◌+◌, ◌-◌, ◌≤◌, cond, List, [], ◌∷◌, length, take, drop, replicate, ℤ, pos, negsuc, count_by, Decides, sym, refl, ap, ◌∙◌, arith}
use Rattle.std.specs.Ordering.{int_eq}
use Rattle.std.proofs.lemmas.List.Sums.{sum_by-cons}
use Rattle.std.proofs.lemmas.List.{take-replicate, drop-replicate, length-replicate}
use Rattle.std.proofs.lemmas.Bool.Decides.{Decides-eqb, Decides-int_eq, Decides-like, same_from_decides}
use Rattle.level_data.specs.Levels.{same}

-- a part of a repeated value is that value, so often as the part is long
pub part_repeated : (offset len count : ℕ) (v : ℤ) → offset + len ≤ count → take len (drop offset (replicate count v)) ≡ replicate len v
part_repeated offset len count v h = ap (take len) (drop-replicate offset count v) ∙ take-replicate len (count - offset) v (omega arith)

pub reaches_repeated : (offset len count : ℕ) (v : ℤ) → offset + len ≤ count → offset + len ≤ length (replicate count v)
reaches_repeated offset len count v h = omega (arith, length-replicate count v)

same_decides : (a b : ℤ) → Decides (same a b) (b ≡ a)
same_decides (pos a) (pos b) = Decides-like (same (pos a) (pos b)) (λ e. ap pos (sym e)) (λ e. cc) (Decides-eqb a b)
same_decides (pos a) (negsuc b) = ((λ e. cc), (λ e. cc))
same_decides (negsuc a) (pos b) = ((λ e. cc), (λ e. cc))
same_decides (negsuc a) (negsuc b) = Decides-like (same (negsuc a) (negsuc b)) (λ e. ap negsuc (sym e)) (λ e. cc) (Decides-eqb a b)

pub count-same : (level : ℤ) (ls : List ℤ) → count_by (λ x. int_eq x level) ls ≡ count_by (same level) ls
count-same level [] = refl
count-same level (x ∷ ls) =
    sum_by-cons (λ y. cond (int_eq y level) 1 0) x ls
    ∙ ap (λ b. cond b 1 0 + count_by (λ y. int_eq y level) ls) (same_from_decides (int_eq x level) (same level x) (Decides-int_eq x level) (same_decides level x))
    ∙ ap (λ n. cond (same level x) 1 0 + n) (count-same level ls) ∙ sym (sum_by-cons (λ y. cond (same level y) 1 0) x ls)
