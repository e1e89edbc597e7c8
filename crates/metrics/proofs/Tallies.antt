-- A tally by its places: it is as long as it has levels, and at each level stands how often that occurs.
use Rattle.std.proofs.Common.{◌≡◌, ℕ, suc, ◌+◌, ◌-◌, ◌^◌, ◌<◌, ◌≤◌, min, Bool, true, false, not, cond, eqb, List, [], ◌∷◌, ◌++◌, length, get_or, replicate, Some, None, count_by, sym, refl, take, add-one, ap, ◌∙◌, ⊎_elim, arith}
use Rattle.std.proofs.lemmas.List.{ext_get_or, get_or-replicate, length-replicate, take-replicate}
use Rattle.std.proofs.lemmas.List.Sums.{sum_by-cons, count_by-le-length}
use Rattle.std.proofs.lemmas.Option.{same_Some, none-some}
use Rattle.std.proofs.lemmas.Bool.{cases_Bool, ne_eqb}
use Rattle.ledger.specs.Pages.{tally, counts}
use Rattle.ledger.proofs.Joining.{length-tally, get_or-tally, count_by-append}
use Rattle.metrics.specs.Histograms.{Grown, Added}

-- a list with the counts of a tally is that tally
pub tally_from_get_or : (cs : List ℕ) (k : ℕ) (ls : List ℕ) → length cs ≡ k → ((i : ℕ) → i < k → get_or cs i 0 ≡ count_by (eqb i) ls) → cs ≡ tally k ls
tally_from_get_or cs k ls n at =
    ext_get_or 0 cs (tally k ls) (n ∙ sym (length-tally k ls))
    (λ i h. let lt : i < k = omega (arith, n, h) in at i lt ∙ sym (get_or-tally k ls i lt))

-- a sum below the highest count is kept as it is
pub min_below : (n : ℕ) → n < 2 ^ 64 → min n (2 ^ 64 - 1) ≡ n
min_below n h = omega arith

-- what is counted of two lists
pub sum-joined : {X : Type 0} (p : X → Bool) (xs ys : List X) (a b r : ℕ) → length xs + length ys < 2 ^ 64 → a ≡ count_by p xs → b ≡ count_by p ys
    → r ≡ min (a + b) (2 ^ 64 - 1) → r ≡ count_by p (xs ++ ys)
sum-joined p xs ys a b r few ea eb er =
    let lx = count_by-le-length p xs in
    let ly = count_by-le-length p ys in
    er ∙ min_below (a + b) (omega (arith, ea, eb, lx, ly, few))
    ∙ ap (λ k. k + b) ea ∙ ap (λ k. count_by p xs + k) eb ∙ sym (count_by-append p xs ys)

one_each : (b : Bool) → cond (not b) 1 0 + cond b 1 0 ≡ 1
one_each true = refl
one_each false = refl

-- what is not counted is the rest
count_others : {X : Type 0} (p : X → Bool) (xs : List X) → count_by (λ x. not (p x)) xs + count_by p xs ≡ length xs
count_others p [] = refl
count_others p (x ∷ xs) =
    let rest = count_others p xs in
    let one = sum_by-cons (λ y. cond (not (p y)) 1 0) x xs in
    let other = sum_by-cons (λ y. cond (p y) 1 0) x xs in
    omega (arith, rest, one, other, one_each (p x))

pub others_counted : (most : ℕ) (ds : List ℕ) (n : ℕ) → n ≡ count_by (eqb most) ds → length ds - n ≡ count_by (λ d. not (eqb most d)) ds
others_counted most ds n e = omega (arith, e, count_others (eqb most) ds)

-- no level, and every count 0
pub tally_none : (k : ℕ) → replicate k 0 ≡ tally k []
tally_none k = tally_from_get_or (replicate k 0) k [] (length-replicate k 0) (λ i h. get_or-replicate k i 0 0 h)

-- levels more
pub grown-tally : (k : ℕ) (xs ys old new : List ℕ) → length xs + length ys < 2 ^ 64 → old ≡ tally k xs → Grown old ys new → new ≡ tally k (xs ++ ys)
grown-tally k xs ys old new few ex g =
    let n : length old ≡ k = ap length ex ∙ length-tally k xs in
    tally_from_get_or new k (xs ++ ys) (g.levels ∙ n)
    (λ i h.
    let x : get_or old i 0 ≡ count_by (eqb i) xs = ap (λ cs. get_or cs i 0) ex ∙ get_or-tally k xs i h in
    sum-joined (eqb i) xs ys (get_or old i 0) (count_by (eqb i) ys) (get_or new i 0) few x refl (g.sums i (omega (arith, n, h))))

-- two lists of levels
pub added-tally : (k : ℕ) (xs ys old other new : List ℕ) → length xs + length ys < 2 ^ 64 → old ≡ tally k xs → other ≡ tally k ys
    → Added old other new → new ≡ tally k (xs ++ ys)
added-tally k xs ys old other new few ex ey a =
    let n : length old ≡ k = ap length ex ∙ length-tally k xs in
    tally_from_get_or new k (xs ++ ys) (a.levels ∙ n)
    (λ i h.
    let x : get_or old i 0 ≡ count_by (eqb i) xs = ap (λ cs. get_or cs i 0) ex ∙ get_or-tally k xs i h in
    let y : get_or other i 0 ≡ count_by (eqb i) ys = ap (λ cs. get_or cs i 0) ey ∙ get_or-tally k ys i h in
    sum-joined (eqb i) xs ys (get_or old i 0) (get_or other i 0) (get_or new i 0) few x y (a.sums i (omega (arith, n, h))))

-- ---- counts that may be absent

pub counts-absent : (most : ℕ) (xs ys : List ℕ) → None ≡ counts most xs → None ≡ counts most ys
counts-absent most xs ys e =
    ⊎_elim
    (λ t. sym (ap (λ b. cond b None (Some (tally (suc most) ys))) t))
    (λ t. absurd (none-some (tally (suc most) xs) (e ∙ ap (λ b. cond b None (Some (tally (suc most) xs))) t)))
    (cases_Bool (eqb most 0))

-- counts that are there are a tally, and a tally of other levels is then there too
pub counts_there : (most : ℕ) (xs cs : List ℕ) → Some cs ≡ counts most xs → cs ≡ tally (suc most) xs
counts_there most xs cs e =
    ⊎_elim
    (λ t. absurd (none-some cs (sym (e ∙ ap (λ b. cond b None (Some (tally (suc most) xs))) t))))
    (λ t. same_Some cs (tally (suc most) xs) (e ∙ ap (λ b. cond b None (Some (tally (suc most) xs))) t))
    (cases_Bool (eqb most 0))

pub counts_from : (most : ℕ) (xs ys cs new : List ℕ) → Some cs ≡ counts most xs → new ≡ tally (suc most) ys → Some new ≡ counts most ys
counts_from most xs ys cs new e n =
    ⊎_elim
    (λ t. absurd (none-some cs (sym (e ∙ ap (λ b. cond b None (Some (tally (suc most) xs))) t))))
    (λ t. ap Some n ∙ sym (ap (λ b. cond b None (Some (tally (suc most) ys))) t))
    (cases_Bool (eqb most 0))

-- the counts of no level, where a maximum wants any
pub tally_zeros : (n : ℕ) → 0 < n → n ≤ 15 → Some (take (n + 1) (replicate 16 0)) ≡ counts n []
tally_zeros n some few =
    ap Some (take-replicate (n + 1) 16 0 (omega arith) ∙ tally_none (n + 1) ∙ ap (λ k. tally k []) (add-one n))
    ∙ sym (ap (λ b. cond b None (Some (tally (suc n) []))) (ne_eqb n 0 (λ e. omega arith)))

-- where the second list is not counted, nor is the first
pub counts_joined_none : (most : ℕ) (xs ys : List ℕ) → None ≡ counts most ys → counts most xs ≡ counts most (xs ++ ys)
counts_joined_none most xs ys e = sym (counts-absent most ys xs e) ∙ counts-absent most ys (xs ++ ys) e
