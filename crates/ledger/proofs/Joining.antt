-- Pages joined: a page behind another adds its counts to that one's, and so do pages in a row.
use Rattle.std.proofs.Common.{◌≡◌, ℕ, zero, suc, ◌+◌, ◌*◌, ◌<◌, ◌≤◌, Bool, true, false, cond, not, eqb, List, [], ◌∷◌, ◌++◌, length, get_or, Some, None, sum_by, count_by, Option, sym, refl, ap, ◌∙◌, ⊎_elim, mul_comm, arith}
use Rattle.std.specs.List.{AllByRecursion}
use Rattle.std.proofs.lemmas.List.{append-nil, append_assoc, length-append, length_push, get_or_append_left, get_or_push, get_or_past, take-append-le, take_at}
use Rattle.std.proofs.lemmas.List.Sums.{sum_by-cons, sum_by-append}
use Rattle.std.proofs.ByRecursion.{sum_by_le}
use Rattle.std.proofs.lemmas.Bool.{cases_eq, cases_lt}
use Rattle.kinds.specs.Meaning.{Meaning}
use Rattle.kinds.specs.Plain.{plain}
use Rattle.figures.specs.Figures.{smallest, largest, nan_count_of}
use Rattle.figures.proofs.Joined.{joins}
use Rattle.pages.specs.declared.layout.Layout.{Layout}
use Rattle.ledger.specs.Pages.{Page, blank, join, joined, levels, rows, nulls, tally, counts, plains}
use Rattle.ledger.specs.Figures.{figures}
use Rattle.ledger.specs.Entries.{first_row}
use Rattle.ledger.specs.Records.{pair_if, value_pairs, stored_if, stored_pairs}
use Rattle.ledger.specs.Laws.{NullsAddUp, added, added_if, together, FiguresJoin}

-- ---- pages behind one another

pub blank_join : (p : Page) → join blank p ≡ p
blank_join p = refl

pub join_blank : (p : Page) → join p blank ≡ p
join_blank p = λ i. record { reps = append-nil p.reps i; defs = append-nil p.defs i; values = append-nil p.values i }

pub join_assoc : (p q r : Page) → join (join p q) r ≡ join p (join q r)
join_assoc p q r = λ i. record {
  reps = append_assoc p.reps q.reps r.reps i;
  defs = append_assoc p.defs q.defs r.defs i;
  values = append_assoc p.values q.values r.values i;
}

pub joined-append : (ps qs : List Page) → joined (ps ++ qs) ≡ join (joined ps) (joined qs)
joined-append [] qs = refl
joined-append (p ∷ ps) qs = ap (join p) (joined-append ps qs) ∙ sym (join_assoc p (joined ps) (joined qs))

pub joined_push : (ps : List Page) (p : Page) → joined (ps ++ (p ∷ [])) ≡ join (joined ps) p
joined_push ps p = joined-append ps (p ∷ []) ∙ ap (join (joined ps)) (join_blank p)

-- ---- what adds up

-- a size that a page behind another adds to that one's
pub record Adds (size : Page → ℕ) : Type 0 where
  pub none : size blank ≡ 0
  pub both : (p q : Page) → size (join p q) ≡ size p + size q

-- over pages in a row it is the sum
pub adds_up : (size : Page → ℕ) → Adds size → (ps : List Page) → size (joined ps) ≡ sum_by size ps
adds_up size a [] = a.none
adds_up size a (p ∷ ps) = a.both p (joined ps) ∙ ap (λ n. size p + n) (adds_up size a ps) ∙ sym (sum_by-cons size p ps)

-- where each page has at most n, all have at most n for each page
pub adds_few : (size : Page → ℕ) → Adds size → (n : ℕ) (ps : List Page) → AllByRecursion (λ p. size p ≤ n) ps → size (joined ps) ≤ n * length ps
adds_few size a n ps h = omega (arith, adds_up size a ps, sum_by_le size n ps h, mul_comm (length ps) n)

pub reps_add : Adds (λ p. length p.reps)
reps_add = record { none = refl; both = λ p q. length-append p.reps q.reps }

pub defs_add : Adds (λ p. length p.defs)
defs_add = record { none = refl; both = λ p q. length-append p.defs q.defs }

pub values_add : Adds (λ p. length p.values)
values_add = record { none = refl; both = λ p q. length-append p.values q.values }

pub rows_add : Adds rows
rows_add = record { none = refl; both = λ p q. sum_by-append (λ x. cond (eqb 0 x) 1 0) p.reps q.reps }

pub nulls_add : (most : ℕ) → Adds (λ p. nulls most p)
nulls_add most = record { none = refl; both = λ p q. sum_by-append (λ d. cond (not (eqb most d)) 1 0) p.defs q.defs }

pub rows_join : (p q : Page) → rows (join p q) ≡ rows p + rows q
rows_join = rows_add.both

pub levels-join : (p q : Page) → levels (join p q) ≡ levels p + levels q
levels-join = defs_add.both

pub nulls-join : (most : ℕ) (p q : Page) → nulls most (join p q) ≡ nulls most p + nulls most q
nulls-join most = (nulls_add most).both

pub nulls_add_up : (most : ℕ) (ps : List Page) → NullsAddUp most ps
nulls_add_up most = adds_up (λ p. nulls most p) (nulls_add most)

-- ---- level counts

pub length-tally : (k : ℕ) (ls : List ℕ) → length (tally k ls) ≡ k
length-tally zero ls = refl
length-tally (suc k) ls = length_push (tally k ls) (count_by (eqb k) ls) ∙ omega (arith, length-tally k ls)

-- the count at a place is how often that level stands there
pub get_or-tally : (k : ℕ) (ls : List ℕ) (i : ℕ) → i < k → get_or (tally k ls) i 0 ≡ count_by (eqb i) ls
get_or-tally zero ls i h = absurd (omega arith)
get_or-tally (suc k) ls i h =
    ⊎_elim
    (λ e. ap (λ j. get_or (tally (suc k) ls) j 0) e ∙ get_or_push (tally k ls) (count_by (eqb k) ls) 0 k (length-tally k ls) ∙ ap (λ j. count_by (eqb j) ls) (sym e))
    (λ n. get_or_append_left (tally k ls) (count_by (eqb k) ls ∷ []) 0 i (omega (arith, n, length-tally k ls)) ∙ get_or-tally k ls i (omega (arith, n)))
    (cases_eq i k)

pub count_by-append : {X : Type 0} (p : X → Bool) (xs ys : List X) → count_by p (xs ++ ys) ≡ count_by p xs + count_by p ys
count_by-append p = sum_by-append (λ x. cond (p x) 1 0)

pub get_or-tally-append : (k : ℕ) (xs ys : List ℕ) (i : ℕ) → get_or (tally k (xs ++ ys)) i 0 ≡ get_or (tally k xs) i 0 + get_or (tally k ys) i 0
get_or-tally-append k xs ys i =
    ⊎_elim
    (λ h. omega (arith, get_or-tally k (xs ++ ys) i h, count_by-append (eqb i) xs ys, get_or-tally k xs i h, get_or-tally k ys i h))
    (λ h. omega (
      arith,
      get_or_past (tally k (xs ++ ys)) i 0 (omega (arith, length-tally k (xs ++ ys))),
      get_or_past (tally k xs) i 0 (omega (arith, length-tally k xs)),
      get_or_past (tally k ys) i 0 (omega (arith, length-tally k ys)),
    ))
    (cases_lt i k)

added_push : (ms ns : List ℕ) (a b : ℕ) → length ms ≡ length ns → added (ms ++ (a ∷ [])) (ns ++ (b ∷ [])) ≡ added ms ns ++ ((a + b) ∷ [])
added_push [] [] a b h = refl
added_push [] (n ∷ ns) a b h = absurd (omega (arith, h))
added_push (m ∷ ms) [] a b h = absurd (omega (arith, h))
added_push (m ∷ ms) (n ∷ ns) a b h = ap (λ x. (m + n) ∷ x) (added_push ms ns a b (omega (arith, h)))

pub tally-append : (k : ℕ) (xs ys : List ℕ) → tally k (xs ++ ys) ≡ added (tally k xs) (tally k ys)
tally-append zero xs ys = refl
tally-append (suc k) xs ys =
    ap (λ t. t ++ (count_by (eqb k) (xs ++ ys) ∷ [])) (tally-append k xs ys)
    ∙ ap (λ n. added (tally k xs) (tally k ys) ++ (n ∷ [])) (count_by-append (eqb k) xs ys)
    ∙ sym (added_push (tally k xs) (tally k ys) (count_by (eqb k) xs) (count_by (eqb k) ys) (length-tally k xs ∙ sym (length-tally k ys)))

counts_by : (k : ℕ) (none : Bool) (xs ys : List ℕ)
    → cond none None (Some (tally k (xs ++ ys))) ≡ added_if (cond none None (Some (tally k xs))) (cond none None (Some (tally k ys)))
counts_by k true xs ys = refl
counts_by k false xs ys = ap Some (tally-append k xs ys)

pub counts-append : (most : ℕ) (xs ys : List ℕ) → counts most (xs ++ ys) ≡ added_if (counts most xs) (counts most ys)
counts-append most xs ys = counts_by (suc most) (eqb most 0) xs ys

-- ---- plain bytes

pub plains-append : (w : ℕ) (xs ys : List (List ℕ)) → plains w (xs ++ ys) ≡ plains w xs ++ plains w ys
plains-append w [] ys = refl
plains-append w (x ∷ xs) ys = ap (λ bs. plain w x ++ bs) (plains-append w xs ys) ∙ sym (append_assoc (plain w x) (plains w xs) (plains w ys))

pub plains_add : (w : ℕ) → Adds (λ p. length (plains w p.values))
plains_add w = record {
  none = refl;
  both = λ p q. ap length (plains-append w p.values q.values) ∙ length-append (plains w p.values) (plains w q.values);
}

-- ---- figures

pub nans_add : (m : Meaning) → Adds (λ p. nan_count_of m p.values)
nans_add m = record { none = refl; both = λ p q. (joins m).nans_of p.values q.values }

pub figures-join : (m : Meaning) (l : Layout) (p q : Page) → figures m l (join p q) ≡ together m (figures m l p) (figures m l q)
figures-join m l p q = λ i. record {
  rows = rows_join p q i;
  levels = levels-join p q i;
  nulls = nulls-join l.max_def_level p q i;
  nans = (joins m).nans_of p.values q.values i;
  rep_counts = counts-append l.max_rep_level p.reps q.reps i;
  def_counts = counts-append l.max_def_level p.defs q.defs i;
  min = (joins m).smallest_of p.values q.values i;
  max = (joins m).largest_of p.values q.values i;
}

pub figures_all_join : (m : Meaning) (l : Layout) (ps : List Page) → FiguresJoin m l ps
figures_all_join m l [] = refl
figures_all_join m l (p ∷ ps) = figures-join m l p (joined ps) ∙ ap (together m (figures m l p)) (figures_all_join m l ps)

-- ---- pairs and rows of pages

pub value_pairs-append : (m : Meaning) (ps qs : List Page) → value_pairs m (ps ++ qs) ≡ value_pairs m ps ++ value_pairs m qs
value_pairs-append m [] qs = refl
value_pairs-append m (p ∷ ps) qs =
    ap (λ x. pair_if (smallest m p.values) (largest m p.values) ++ x) (value_pairs-append m ps qs)
    ∙ sym (append_assoc (pair_if (smallest m p.values) (largest m p.values)) (value_pairs m ps) (value_pairs m qs))

pub value_pairs_push : (m : Meaning) (ps : List Page) (p : Page)
    → value_pairs m (ps ++ (p ∷ [])) ≡ value_pairs m ps ++ pair_if (smallest m p.values) (largest m p.values)
value_pairs_push m ps p =
    value_pairs-append m ps (p ∷ []) ∙ ap (λ x. value_pairs m ps ++ x) (append-nil (pair_if (smallest m p.values) (largest m p.values)))

pub stored_pairs-append : (m : Meaning) (cut : Option ℕ) (ps qs : List Page)
    → stored_pairs m cut (ps ++ qs) ≡ stored_pairs m cut ps ++ stored_pairs m cut qs
stored_pairs-append m cut [] qs = refl
stored_pairs-append m cut (p ∷ ps) qs =
    ap (λ x. stored_if m cut (smallest m p.values) (largest m p.values) ++ x) (stored_pairs-append m cut ps qs)
    ∙ sym (append_assoc (stored_if m cut (smallest m p.values) (largest m p.values)) (stored_pairs m cut ps) (stored_pairs m cut qs))

pub stored_pairs_push : (m : Meaning) (cut : Option ℕ) (ps : List Page) (p : Page)
    → stored_pairs m cut (ps ++ (p ∷ [])) ≡ stored_pairs m cut ps ++ stored_if m cut (smallest m p.values) (largest m p.values)
stored_pairs_push m cut ps p =
    stored_pairs-append m cut ps (p ∷ [])
    ∙ ap (λ x. stored_pairs m cut ps ++ x) (append-nil (stored_if m cut (smallest m p.values) (largest m p.values)))

-- pages behind do not change which row an earlier page begins with
pub first_row-append : (ps qs : List Page) (k : ℕ) → k ≤ length ps → first_row (ps ++ qs) k ≡ first_row ps k
first_row-append ps qs k h = ap (λ x. rows (joined x)) (take-append-le k ps qs h)

-- the next page begins with the row behind all
pub first_row_next : (ps qs : List Page) → first_row (ps ++ qs) (length ps) ≡ rows (joined ps)
first_row_next ps qs = ap (λ x. rows (joined x)) (take_at ps qs (length ps) refl)
