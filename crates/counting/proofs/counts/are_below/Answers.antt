use Rattle.std.proofs.Common.{◌≡◌, ℕ, suc, ◌+◌, ◌≤◌, true, false, Bool, ◌&&◌, cond, eqb, ltb, List, [], ◌∷◌, length, count_by, refl, ap, ◌∙◌, add_comm, add-one, arith}
use Rattle.std.proofs.Math.Dec.{eqb-suc-suc}
use Rattle.std.specs.List.{list_all}
use Rattle.std.proofs.lemmas.Bool.{ne_eqb}
use Rattle.std.proofs.lemmas.List.Sums.{sum_by-cons, count_by-le-length}
use Rattle.counting.proofs.counts.are_below.Goals as goal

one_more : (b : Bool) (n l : ℕ) → n ≤ l → eqb (cond b 1 0 + n) (suc l) ≡ (b && eqb n l)
one_more true n l h = ap (λ k. eqb k (suc l)) (add_comm 1 n ∙ add-one n) ∙ eqb-suc-suc n l
one_more false n l h = ne_eqb (0 + n) (suc l) (λ e. omega arith)

-- all are counted where each is wanted
all_counted : (p : ℕ → Bool) (ns : List ℕ) → eqb (count_by p ns) (length ns) ≡ list_all p ns
all_counted p [] = refl
all_counted p (n ∷ ns) =
    ap (λ k. eqb k (suc (length ns))) (sum_by-cons (λ m. cond (p m) 1 0) n ns)
    ∙ one_more (p n) (count_by p ns) (length ns) (count_by-le-length p ns) ∙ ap (λ b. p n && b) (all_counted p ns)

pub returns : goal.returns
returns c =
    let test : ℕ → Bool = λ n. ltb n c.args.limit in
    ap (λ n. eqb n (length c.args.numbers.now)) c.count.ensures ∙ all_counted test c.args.numbers.now
