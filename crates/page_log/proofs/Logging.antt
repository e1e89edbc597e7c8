-- One page more in a log: its entry stands behind the others, its counts are added, and its pairs are taken.
use Rattle.std.proofs.Common.{◌≡◌, ℕ, ◌+◌, ◌^◌, ◌<◌, ◌≤◌, Bool, true, false, cond, List, [], ◌∷◌, ◌++◌, map, length, sum_by, get_or, Some, None, Option, sym, refl, ap, subst, ◌∙◌, eqb, zero-add, arith}
use Rattle.std.specs.Prelude.{ℤ, pos, negsuc, nat_le}
use Rattle.std.specs.Option.{option_map}
use Rattle.std.specs.List.{AllByRecursion, slice_get}
use Rattle.std.proofs.lemmas.Option.{slice_get-map, slice_get_past}
use Rattle.std.proofs.lemmas.Bool.{leb-true}
use Rattle.columns.specs.Columns.{level_of}
use Rattle.std.proofs.ByRecursion.{sum_by_le}
use Rattle.std.proofs.lemmas.List.{map-append, length-map, length_push}
use Rattle.std.proofs.lemmas.List.Sums.{sum_by_push, count_by-le-length}
use Rattle.ledger.specs.Context.{Context, layout, bytes}
use Rattle.ledger.specs.Entries.{entry, entry_list, first_row}
use Rattle.ledger.specs.Pages.{Page, blank, join, joined, rows}
use Rattle.ledger.specs.Records.{pair_if, value_pairs, stored_if, stored_pairs}
use Rattle.ledger.proofs.Joining.{joined_push, reps_add, defs_add, values_add, adds_few, value_pairs_push, stored_pairs_push}
use Rattle.figures.specs.Figures.{smallest, largest}
use Rattle.flags.specs.Tracks.{Tracks}
use Rattle.flags.specs.Flags.{Pair}
use Rattle.flags.specs.declared.tracker.Tracker.{Tracker}
use Rattle.metrics.specs.Metrics.{Sums}
use Rattle.metrics.specs.declared.column.ColumnMetrics.{ColumnMetrics}
use Rattle.entries.specs.Entries.{said_entry}
use Rattle.entries.specs.declared.entry.Entry.{Entry}
use Rattle.open_page.specs.Pages.{WellFormed}
use Rattle.page_log.specs.Logs.{Logged}
use Rattle.page_log.specs.declared.log.PageLog.{PageLog}
use Rattle.page_log.proofs.Listing.{length-entry_list, entry_list_push, entry_at}

-- ---- what holds of each page

all_push : {X : Type 0} (P : X → Type 0) (xs : List X) (y : X) → AllByRecursion P xs → P y → AllByRecursion P (xs ++ (y ∷ []))
all_push P [] y h p = (p, tt)
all_push P (x ∷ xs) y h p = (h.0, all_push P xs y h.1 p)

all_give : {X : Type 0} (P Q : X → Type 0) → ((x : X) → P x → Q x) → (xs : List X) → AllByRecursion P xs → AllByRecursion Q xs
all_give P Q f [] h = tt
all_give P Q f (x ∷ xs) h = (f x h.0, all_give P Q f xs h.1)

-- ---- how much a log has

-- a column's maximum is at most 15, whatever was given
level_within : (b : Bool) (n : ℕ) → nat_le n 15 ≡ b → cond b n 0 ≤ 15
level_within true n e = leb-true n 15 e
level_within false n e = omega arith

pub level_few : (z : ℤ) → level_of z ≤ 15
level_few (pos n) = level_within (nat_le n 15) n refl
level_few (negsuc n) = omega arith

-- as many entries as pages
pub entry_count : (x : Context) (os : List ℕ) (ps : List Page) (g : PageLog) → Logged x os ps g → length g.entries ≡ length ps
entry_count x os ps g t = sym (length-map g.entries said_entry) ∙ ap length t.entries ∙ length-entry_list x 0 os ps t.offsets

-- the entry at a place is that of its page, and behind the last page is none
pub entry_there : (x : Context) (os : List ℕ) (ps : List Page) (g : PageLog) (k : ℕ) → Logged x os ps g → k < length ps
    → option_map said_entry (slice_get g.entries k) ≡ Some (entry x (get_or os k 0) (first_row ps k) (get_or ps k blank))
entry_there x os ps g k t h =
    sym (slice_get-map said_entry g.entries k) ∙ ap (λ ls. slice_get ls k) t.entries
    ∙ entry_at x 0 os ps k t.offsets h ∙ ap (λ n. Some (entry x (get_or os k 0) n (get_or ps k blank))) (zero-add (first_row ps k))

pub entry_past : (x : Context) (os : List ℕ) (ps : List Page) (g : PageLog) (k : ℕ) → Logged x os ps g → length ps ≤ k → slice_get g.entries k ≡ None
entry_past x os ps g k t h = slice_get_past g.entries k (omega (arith, h, entry_count x os ps g t))

-- a well-formed page has few levels and few values
reps_few : (x : Context) (p : Page) → WellFormed (layout x) p → length p.reps ≤ 1024
reps_few x p w = omega (arith, w.few, w.paired)

values_few : (x : Context) (p : Page) → WellFormed (layout x) p → length p.values ≤ 1024
values_few x p w = omega (arith, w.few, w.counted, count_by-le-length (eqb (layout x).max_def_level) p.defs)

-- all pages, and one more of n bytes, have not too many for the sums
pub record Few (x : Context) (ps : List Page) (n : ℕ) (p : Page) : Type 0 where
  pub reps : length (joined ps).reps + length p.reps < 2 ^ 32
  pub defs : length (joined ps).defs + length p.defs < 2 ^ 32
  pub values : length (joined ps).values + length p.values < 2 ^ 32
  pub bytes : sum_by (λ q. length (Rattle.ledger.specs.Context.bytes x q)) ps + n < 2 ^ 64

pub few_more : (x : Context) (os : List ℕ) (ps : List Page) (n : ℕ) (p : Page) (g : PageLog) → Logged x os ps g → WellFormed (layout x) p → n ≤ 9227 → Few x ps n p
few_more x os ps n p g t w h =
    let reps = adds_few (λ q. length q.reps) reps_add 1024 ps (all_give (λ q. WellFormed (layout x) q) (λ q. length q.reps ≤ 1024) (reps_few x) ps t.well) in
    let defs = adds_few (λ q. length q.defs) defs_add 1024 ps (all_give (λ q. WellFormed (layout x) q) (λ q. length q.defs ≤ 1024) (λ q v. v.few) ps t.well) in
    let values = adds_few (λ q. length q.values) values_add 1024 ps (all_give (λ q. WellFormed (layout x) q) (λ q. length q.values ≤ 1024) (values_few x) ps t.well) in
    let sizes = sum_by_le (λ q. length (bytes x q)) 9227 ps t.sizes in
    record {
      reps = omega (arith, reps, t.few, reps_few x p w);
      defs = omega (arith, defs, t.few, w.few);
      values = omega (arith, values, t.few, values_few x p w);
      bytes = omega (arith, sizes, t.few, h);
    }

-- ---- one page more

pub logged_more : (x : Context) (os : List ℕ) (ps : List Page) (o n : ℕ) (p : Page) (lo hi : Option (List ℕ)) (g : PageLog) (e : Entry) (es : List Entry) (s : ColumnMetrics) (v b : Tracker)
    → Logged x os ps g → WellFormed (layout x) p → n ≡ length (bytes x p) → n ≤ 9227 → lo ≡ smallest x.kind p.values → hi ≡ largest x.kind p.values → length ps < 64
    → es ≡ g.entries ++ (e ∷ []) → said_entry e ≡ entry x o (rows (joined ps)) p
    → Sums x.kind (layout x) (join (joined ps) p) (sum_by (λ q. length (bytes x q)) ps + n) s
    → Tracks x.kind (value_pairs x.kind ps ++ pair_if lo hi) v
    → Tracks x.kind (stored_pairs x.kind x.settings.cut_length ps ++ stored_if x.kind x.settings.cut_length lo hi) b
    → Logged x (os ++ (o ∷ [])) (ps ++ (p ∷ [])) (record { entries = es; metrics = s; values = v; stored = b })
logged_more x os ps o n p lo hi g e es s v b t w size short low high few entries is sums values stored =
    let m = x.kind in
    let cut = x.settings.cut_length in
    let size_of : Page → ℕ = λ q. length (bytes x q) in
    let SumsOf : Page → ℕ → Type 0 = λ q k. Sums m (layout x) q k s in
    let total : sum_by size_of ps + n ≡ sum_by size_of (ps ++ (p ∷ [])) = ap (λ k. sum_by size_of ps + k) size ∙ sym (sum_by_push size_of ps p) in
    let pair : value_pairs m ps ++ pair_if lo hi ≡ value_pairs m (ps ++ (p ∷ [])) =
    ap (λ u. value_pairs m ps ++ pair_if u hi) low ∙ ap (λ u. value_pairs m ps ++ pair_if (smallest m p.values) u) high ∙ sym (value_pairs_push m ps p) in
    let kept_pair : stored_pairs m cut ps ++ stored_if m cut lo hi ≡ stored_pairs m cut (ps ++ (p ∷ [])) =
    ap (λ u. stored_pairs m cut ps ++ stored_if m cut u hi) low ∙ ap (λ u. stored_pairs m cut ps ++ stored_if m cut (smallest m p.values) u) high
    ∙ sym (stored_pairs_push m cut ps p) in
    record {
      entries =
          ap (map said_entry) entries ∙ map-append said_entry g.entries (e ∷ [])
          ∙ ap (λ ls. ls ++ (said_entry e ∷ [])) t.entries ∙ ap (λ l. entry_list x 0 os ps ++ (l ∷ [])) is
          ∙ ap (λ k. entry_list x 0 os ps ++ (entry x o k p ∷ [])) (sym (zero-add (rows (joined ps))))
          ∙ sym (entry_list_push x 0 os ps o p t.offsets);
      sums =
          let Q : Page → Type 0 = λ q. SumsOf q (sum_by size_of (ps ++ (p ∷ []))) in
          let R : ℕ → Type 0 = SumsOf (join (joined ps) p) in
          subst Q (sym (joined_push ps p)) (subst R total sums);
      values = let P : List Pair → Type 0 = λ ls. Tracks m ls v in subst P pair values;
      stored = let P : List Pair → Type 0 = λ ls. Tracks m ls b in subst P kept_pair stored;
      well = all_push (λ q. WellFormed (layout x) q) ps p t.well w;
      sizes = all_push (λ q. length (bytes x q) ≤ 9227) ps p t.sizes (omega (arith, size, short));
      offsets = omega (arith, length_push os o, length_push ps p, t.offsets);
      few = omega (arith, length_push ps p, few);
    }
