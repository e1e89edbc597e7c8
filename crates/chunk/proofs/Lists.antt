-- The lists of a page as they are read back from its bytes, and what is answered of them.
use Rattle.std.proofs.Common.{◌≡◌, ℕ, ◌+◌, ◌<◌, ◌≤◌, Bool, true, false, cond, ◌||◌, eqb, ltb, leb, List, [], ◌∷◌, ◌++◌, length, take, drop, Some, None, Option, Ok, Err, Result, count_by, sym, refl, ap, ◌∙◌, subst, ⊎_elim, arith}
use Rattle.std.proofs.Math.Seq.{take-append_seam}
use Rattle.std.proofs.lemmas.Bool.{cond-true, cond-false, le-leb, lt-leb, eq-eqb, ne_eqb, le-ltb, ltb-false, or_parts, cases_eq, cases_Bool}
use Rattle.std.proofs.lemmas.List.Sums.{sum_by-cons}
use Rattle.std.specs.List.{AllByRecursion}
use Rattle.std.specs.Option.{ok_or}
use Rattle.level_coder.specs.Coding.{Coding}
use Rattle.pages.specs.Counts.{values_in, byte_count, Counted}
use Rattle.pages.specs.Layout.{level_part, page_bytes}
use Rattle.pages.specs.Pages.{ListFits}
use Rattle.pages.specs.Reading.{list_count, PageHolds, PageRead, Roomy}
use Rattle.pages.specs.declared.counts.PageCounts.{PageCounts}
use Rattle.pages.specs.declared.fault.PageFault.TheVariants.{NoPage, ReadLists}
use Rattle.pages.proofs.Unique.{same_parts}
use Rattle.refusals.specs.declared.fault.ChunkFault.{ChunkFault}
use Rattle.refusals.specs.declared.fault.ChunkFault.TheVariants.{Page as OfPage}
use Rattle.ledger.specs.Pages.{Page, levels}
use Rattle.ledger.specs.Context.{Context, layout, bytes, plain_bytes, accepted}
use Rattle.ledger.specs.Answers.{levels_read, tight, read_counts, read_into}
use Rattle.open_page.specs.Pages.{Allowed, WellFormed}
use Rattle.open_page.proofs.Accepted.{accepted_joinable}
use Rattle.open_page.proofs.Fitting.{page_fits}
use Rattle.chunk.specs.Histories.{History}
use Rattle.chunk.specs.Reads.{page_of, ReadBy, ReadFrom}

-- ---- one list

read_none : (most : ℕ) (ls : List ℕ) → most ≡ 0 → levels_read most ls ≡ []
read_none most ls z = cond-true (eqb most 0) [] ls (eq-eqb most 0 z)

read_some : (most : ℕ) (ls : List ℕ) → (most ≡ 0 → ⊥) → levels_read most ls ≡ ls
read_some most ls z = cond-false (eqb most 0) [] ls (ne_eqb most 0 z)

count_read : (most : ℕ) (ls : List ℕ) → length (levels_read most ls) ≡ list_count most (length ls)
count_read most ls = by (eqb most 0)
  where
    by : (b : Bool) → length (cond b [] ls) ≡ cond b 0 (length ls)
    by true = refl
    by false = refl

part_read : (c : Coding) (version most : ℕ) (ls : List ℕ) → level_part c version most ls ≡ level_part c version most (levels_read most ls)
part_read c version most ls =
    ⊎_elim
    (λ z. cond-true (eqb most 0) [] _ (eq-eqb most 0 z) ∙ sym (cond-true (eqb most 0) [] _ (eq-eqb most 0 z)))
    (λ z. ap (level_part c version most) (sym (read_some most ls z)))
    (cases_eq most 0)

fits_read : (most : ℕ) (ls : List ℕ) → ListFits most ls → ListFits most (levels_read most ls)
fits_read most ls f = by (eqb most 0)
  where
    by : (b : Bool) → ListFits most (cond b [] ls)
    by true = record { few = omega arith; narrow = f.narrow; fit = tt }
    by false = f

-- ---- a page

module _ (x : Context) (p : Page) (ok : accepted x ≡ true) (few : Allowed (layout x)) (well : WellFormed (layout x) p) where
  abbrev reps : List ℕ
  reps = levels_read (layout x).max_rep_level p.reps

  abbrev defs : List ℕ
  defs = levels_read (layout x).max_def_level p.defs

  same_bytes : bytes x p ≡ page_bytes x.levels x.body (layout x) reps defs (plain_bytes x p)
  same_bytes =
      ap (λ k. k ++ (level_part x.levels (layout x).version (layout x).max_def_level p.defs ++ x.body.coded (layout x).width (plain_bytes x p))) (part_read x.levels (layout x).version (layout x).max_rep_level p.reps)
      ∙ ap (λ k. level_part x.levels (layout x).version (layout x).max_rep_level reps ++ (k ++ x.body.coded (layout x).width (plain_bytes x p))) (part_read x.levels (layout x).version (layout x).max_def_level p.defs)

  pub holds : PageHolds x.levels x.body (layout x) (levels p) (bytes x p) reps defs (plain_bytes x p)
  holds =
      let f = page_fits x.body (layout x) p few (accepted_joinable x ok) well in
      record {
        few = well.few;
        rep_count = count_read (layout x).max_rep_level p.reps ∙ ap (list_count (layout x).max_rep_level) well.paired;
        def_count = count_read (layout x).max_def_level p.defs;
        fits = record {
          repetition = fits_read (layout x).max_rep_level p.reps f.repetition;
          definition = fits_read (layout x).max_def_level p.defs f.definition;
          plain_bytes = f.plain_bytes;
        };
        same = same_bytes;
      }

  -- lists that are not too short are roomy
  roomy : (ro dn po : List ℕ) → tight x p (length ro) (length dn) (length po) ≡ false → Roomy (layout x) (levels p) (plain_bytes x p) ro dn po
  roomy ro dn po h =
      let a = or_parts (ltb (length ro) (length reps)) (ltb (length dn) (length defs) || ltb (length po) (length (plain_bytes x p))) h in
      let b = or_parts (ltb (length dn) (length defs)) (ltb (length po) (length (plain_bytes x p))) a.1 in
      record {
        rep_room = omega (arith, ltb-false (length ro) (length reps) a.0, holds.rep_count);
        def_room = omega (arith, ltb-false (length dn) (length defs) b.0, holds.def_count);
        plain_room = ltb-false (length po) (length (plain_bytes x p)) b.1;
      }

  not_tight : (ro dn po : List ℕ) → Roomy (layout x) (levels p) (plain_bytes x p) ro dn po → tight x p (length ro) (length dn) (length po) ≡ false
  not_tight ro dn po r = by (ltb (length ro) (length reps)) (ltb (length dn) (length defs)) (ltb (length po) (length (plain_bytes x p)))
      (le-ltb (length ro) (length reps) (omega (arith, r.rep_room, holds.rep_count)))
      (le-ltb (length dn) (length defs) (omega (arith, r.def_room, holds.def_count)))
      (le-ltb (length po) (length (plain_bytes x p)) r.plain_room)
    where
      by : (a b c : Bool) → a ≡ false → b ≡ false → c ≡ false → (a || (b || c)) ≡ false
      by true b c h i j = h
      by false true c h i j = i
      by false false c h i j = j

  -- ---- counts

  all_count : (most : ℕ) (ls : List ℕ) → most ≡ 0 → AllByRecursion (λ d. d ≤ most) ls → count_by (eqb most) ls ≡ length ls
  all_count most [] z h = refl
  all_count most (d ∷ ls) z h =
      let e : eqb most d ≡ true = eq-eqb most d (omega (arith, z, h.0)) in
      sum_by-cons (λ y. cond (eqb most y) 1 0) d ls ∙ ap (λ b. cond b 1 0 + count_by (eqb most) ls) e ∙ omega (arith, all_count most ls z h.1)

  values_here : (rest : List ℕ) → values_in (layout x).max_def_level (levels p) (defs ++ rest) ≡ length p.values
  values_here rest =
      let most = (layout x).max_def_level in
      ⊎_elim
      (λ z. cond-true (eqb most 0) (levels p) (count_by (eqb most) (take (levels p) (defs ++ rest))) (eq-eqb most 0 z) ∙ sym (all_count most p.defs z well.def_range) ∙ sym well.counted)
      (λ z.
      cond-false (eqb most 0) (levels p) (count_by (eqb most) (take (levels p) (defs ++ rest))) (ne_eqb most 0 z)
      ∙ ap (λ k. count_by (eqb most) (take (levels p) (k ++ rest))) (read_some most p.defs z)
      ∙ ap (count_by (eqb most)) (take-append_seam p.defs rest) ∙ sym well.counted)
      (cases_eq most 0)

  abbrev counts_of : ℕ → ℕ → ℕ → PageCounts
  counts_of n v b = record { levels = n; values = v; bytes = b }

  same_counts : (r : PageCounts) → r.levels ≡ levels p → r.values ≡ length p.values → r.bytes ≡ length (plain_bytes x p) → r ≡ read_counts x p
  same_counts r a b c =
      ap (λ n. counts_of n r.values r.bytes) a ∙ ap (λ v. counts_of (levels p) v r.bytes) b ∙ ap (counts_of (levels p) (length p.values)) c

  -- what reading its bytes answers
  pub read_back : (ro dn po ro' dn' po' : List ℕ) (r : Option PageCounts) (q : Result PageCounts ChunkFault)
      → PageRead x.levels x.body (layout x) (levels p) (bytes x p) ro dn po ro' dn' po' (byte_count r) → Counted (layout x) (levels p) dn' r → q ≡ ok_or r (OfPage ReadLists)
      → (q ≡ cond (tight x p (length ro) (length dn) (length po)) (Err (OfPage ReadLists)) (Ok (read_counts x p)))
      × (ro' ≡ read_into q reps ro) × (dn' ≡ read_into q defs dn) × (po' ≡ read_into q (plain_bytes x p) po)
  read_back ro dn po ro' dn' po' None q h n v =
      let t : tight x p (length ro) (length dn) (length po) ≡ true =
      ⊎_elim (λ y. y) (λ y. absurd (h.3 reps defs (plain_bytes x p) holds (roomy ro dn po y))) (cases_Bool (tight x p (length ro) (length dn) (length po))) in (
        v ∙ sym (cond-true (tight x p (length ro) (length dn) (length po)) (Err (OfPage ReadLists)) (Ok (read_counts x p)) t),
        h.0 ∙ ap (λ y. read_into y reps ro) (sym v),
        h.1 ∙ ap (λ y. read_into y defs dn) (sym v),
        h.2 ∙ ap (λ y. read_into y (plain_bytes x p) po) (sym v),
      )
  read_back ro dn po ro' dn' po' (Some r) q h n v =
      let e = same_parts x.levels x.body (layout x) (levels p) (bytes x p) h.reps h.defs h.plain reps defs (plain_bytes x p) h.holds holds in
      let room : Roomy (layout x) (levels p) (plain_bytes x p) ro dn po = subst (λ y. Roomy (layout x) (levels p) y ro dn po) e.2 h.roomy in
      let after : dn' ≡ defs ++ drop (length defs) dn = h.def_after ∙ ap (λ y. y ++ drop (length y) dn) e.1 in
      let b : r.bytes ≡ length (plain_bytes x p) = h.size ∙ ap length e.2 in
      let vs : r.values ≡ length p.values = n.1 ∙ ap (values_in (layout x).max_def_level (levels p)) after ∙ values_here (drop (length defs) dn) in (
        v ∙ ap (λ y. Ok y) (same_counts r n.0 vs b)
            ∙ sym (cond-false (tight x p (length ro) (length dn) (length po)) (Err (OfPage ReadLists)) (Ok (read_counts x p)) (not_tight ro dn po room)),
        h.rep_after ∙ ap (λ y. y ++ drop (length y) ro) e.0 ∙ ap (λ y. read_into y reps ro) (sym v),
        after ∙ ap (λ y. read_into y defs dn) (sym v),
        h.plain_after ∙ ap (λ k. h.plain ++ drop k po) h.size ∙ ap (λ y. y ++ drop (length y) po) e.2 ∙ ap (λ y. read_into y (plain_bytes x p) po) (sym v),
      )

-- ---- the call

module _ (y : History) (k : ℕ) (reps defs plain : List ℕ) where
  abbrev rest_answer : Result PageCounts ChunkFault
  rest_answer = cond (tight y.context (page_of y.ledger k) (length reps) (length defs) (length plain)) (Err (OfPage ReadLists)) (Ok (read_counts y.context (page_of y.ledger k)))

  pub read_past : (q : Result PageCounts ChunkFault) (e : ChunkFault) → q ≡ Err e → e ≡ OfPage NoPage → length y.ledger.pages ≤ k → ReadBy y k reps defs plain q reps defs plain
  read_past q e h f past =
      subst (λ r. ReadBy y k reps defs plain r reps defs plain) (sym (h ∙ ap (λ z. Err z) f)) (record {
        answer = sym (cond-true (leb (length y.ledger.pages) k) (Err (OfPage NoPage)) rest_answer (le-leb (length y.ledger.pages) k past));
        repetition = refl;
        definition = refl;
        values = refl;
      })

  pub read_there : (q : Result PageCounts ChunkFault) (reps' defs' plain' : List ℕ) → k < length y.ledger.pages → q ≡ rest_answer
      → reps' ≡ read_into q (levels_read (layout y.context).max_rep_level (page_of y.ledger k).reps) reps
      → defs' ≡ read_into q (levels_read (layout y.context).max_def_level (page_of y.ledger k).defs) defs
      → plain' ≡ read_into q (plain_bytes y.context (page_of y.ledger k)) plain
      → ReadBy y k reps defs plain q reps' defs' plain'
  read_there q reps' defs' plain' h a r d v = record {
    answer = a ∙ sym (cond-false (leb (length y.ledger.pages) k) (Err (OfPage NoPage)) rest_answer (lt-leb (length y.ledger.pages) k h));
    repetition = r;
    definition = d;
    values = v;
  }

-- what was read of bytes that a sink's page is
pub read_from : (x : Context) (n : ℕ) (bs : List ℕ) (page : Option (List ℕ)) (ro dn po ro' dn' po' : List ℕ) (r : Option PageCounts) (q : Result PageCounts ChunkFault) (f : ChunkFault)
    → page ≡ Some bs → PageRead x.levels x.body (layout x) n bs ro dn po ro' dn' po' (byte_count r) → Counted (layout x) n dn' r → q ≡ ok_or r f → ReadFrom x page ro dn po q ro' dn' po'
read_from x n bs page ro dn po ro' dn' po' None q f e h k v = subst (λ y. ReadFrom x page ro dn po y ro' dn' po') (sym v) (h.0, h.1, h.2)
read_from x n bs page ro dn po ro' dn' po' (Some r) q f e h k v =
    subst (λ y. ReadFrom x page ro dn po y ro' dn' po') (sym v) (bs, e, subst (λ i. PageRead x.levels x.body (layout x) i bs ro dn po ro' dn' po' (Some r.bytes)) (sym k.0) h)
