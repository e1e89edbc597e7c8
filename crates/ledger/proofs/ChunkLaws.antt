-- What every chunk's record and entries say: each law from the lemma on its pages, for every context and any pages.
use Rattle.std.proofs.Common.{◌≡◌, ℕ, zero, suc, ◌+◌, ◌<◌, false, cond, eqb, List, [], ◌∷◌, length, take, get_or, Some, sum_by, Option, sym, refl, ap, ◌∙◌, subst, arith}
use Rattle.std.proofs.lemmas.List.{nil_from_length}
use Rattle.std.proofs.lemmas.List.Sums.{sum_by-cons}
use Rattle.std.proofs.lemmas.Bool.{eqb-true}
use Rattle.kinds.specs.Meaning.{Meaning}
use Rattle.figures.specs.Figures.{smallest, largest, count}
use Rattle.columns.specs.declared.settings.Mode.{Mode}
use Rattle.columns.specs.declared.settings.Mode.TheVariants.{Chunk as ChunkMode, Page as PageMode}
use Rattle.pages.specs.declared.layout.Layout.{Layout}
use Rattle.ledger.specs.Pages.{Page, blank, joined, rows, nulls}
use Rattle.ledger.specs.Context.{Context, layout}
use Rattle.ledger.specs.Entries.{Marks, marks, marks_in, Entry, entry, entry_list, first_row, lower, upper}
use Rattle.ledger.specs.Records.{Order, order, order_in, chunk_record}
use Rattle.ledger.specs.Laws.{Spoken, NotAbove}
use Rattle.ledger.specs.ChunkLaws.{MarksSay, InPageMode, EntrySays, marked_nulls, RecordSays, ChunkLaws}
use Rattle.ledger.proofs.Joining.{rows_join, rows_add, adds_up, nulls_add_up, figures_all_join}
use Rattle.ledger.proofs.Enclosing.{smallest_there, largest_there, smallest_below, largest-above, page_encloses}
use Rattle.ledger.proofs.Ordering.{order_says, ascends_throughout, descends_throughout, stored_ascends_throughout, stored_descends_throughout}

-- ---- entries

pub marks_say : (m : Meaning) (l : Layout) (cut : Option ℕ) (p : Page) → MarksSay m l cut p (marks m l cut p)
marks_say m l cut p = record {
  null_page = record { then = λ e. eqb-true (length p.values) 0 e; back = λ e. ap (λ n. eqb n 0) e };
  null_bounds = λ e. (
    ap (λ vs. lower m cut (smallest m vs)) (nil_from_length p.values e),
    ap (λ vs. upper m cut (largest m vs)) (nil_from_length p.values e),
  );
  bounds = λ h.
      let lo = smallest_there m p.values h in
      let hi = largest_there m p.values h in
      record {
        least = lo.0;
        most = hi.0;
        is_smallest = lo.1;
        is_largest = hi.1;
        lower_cut = ap (lower m cut) lo.1;
        upper_cut = ap (upper m cut) hi.1;
      };
  encloses = page_encloses m cut p;
  null_count = refl;
  nan_count = refl;
  rep_counts = refl;
  def_counts = refl;
}

marks_in_says : (mode : Mode) (says : Marks → Type 0) (k : Marks) → says k → InPageMode mode says (marks_in mode k)
marks_in_says ChunkMode says k h = refl
marks_in_says PageMode says k h = h

-- the entry of page k, wherever it lies
pub entry_says : (x : Context) (ps : List Page) (offset k : ℕ) → EntrySays x ps k (entry x offset (first_row ps k) (get_or ps k blank))
entry_says x ps offset k =
    let p = get_or ps k blank in
    let m = marks x.kind (layout x) x.settings.cut_length p in
    record {
      size = refl;
      levels = refl;
      first_row = adds_up rows rows_add (take k ps);
      marks = marks_in_says x.settings.mode (MarksSay x.kind (layout x) x.settings.cut_length p) m (marks_say x.kind (layout x) x.settings.cut_length p);
    }

-- the entry at a place in the list is that of the page at that place
entry_from : (x : Context) (none : Entry) (r : ℕ) (os : List ℕ) (ps : List Page) → length os ≡ length ps → (k : ℕ) → k < length ps
    → get_or (entry_list x r os ps) k none ≡ entry x (get_or os k 0) (r + first_row ps k) (get_or ps k blank)
entry_from x none r [] [] e k h = absurd (omega (arith, h))
entry_from x none r [] (p ∷ ps) e k h = absurd (omega (arith, e))
entry_from x none r (o ∷ os) [] e k h = absurd (omega (arith, h))
entry_from x none r (o ∷ os) (p ∷ ps) e zero h = ap (λ n. entry x o n p) (omega arith)
entry_from x none r (o ∷ os) (p ∷ ps) e (suc k) h =
    entry_from x none (r + rows p) os ps (omega (arith, e)) k (omega (arith, h))
    ∙ ap (λ n. entry x (get_or os k 0) n (get_or ps k blank)) (omega (arith, rows_join p (joined (take k ps))))

pub entry_at : (x : Context) (ps : List Page) (os : List ℕ) (none : Entry) → length os ≡ length ps → (k : ℕ) → k < length ps
    → get_or (entry_list x 0 os ps) k none ≡ entry x (get_or os k 0) (first_row ps k) (get_or ps k blank)
entry_at x ps os none e k h = entry_from x none 0 os ps e k h ∙ ap (λ n. entry x (get_or os k 0) n (get_or ps k blank)) (omega arith)

pub entries_say : (x : Context) (ps : List Page) (os : List ℕ) (none : Entry) → length os ≡ length ps → (k : ℕ) → k < length ps
    → EntrySays x ps k (get_or (entry_list x 0 os ps) k none)
entries_say x ps os none e k h = subst (EntrySays x ps k) (sym (entry_at x ps os none e k h)) (entry_says x ps (get_or os k 0) k)

listed_nulls : (x : Context) (r : ℕ) (os : List ℕ) (ps : List Page) → length os ≡ length ps → x.settings.mode ≡ PageMode
    → sum_by (λ e. marked_nulls e.marks) (entry_list x r os ps) ≡ sum_by (λ p. nulls (layout x).max_def_level p) ps
listed_nulls x r [] [] e mode = refl
listed_nulls x r [] (p ∷ ps) e mode = absurd (omega (arith, e))
listed_nulls x r (o ∷ os) [] e mode = absurd (omega (arith, e))
listed_nulls x r (o ∷ os) (p ∷ ps) e mode =
    let rest = entry_list x (r + rows p) os ps in
    let k = marks x.kind (layout x) x.settings.cut_length p in
    sum_by-cons (λ e. marked_nulls e.marks) (entry x o r p) rest
    ∙ ap (λ y. marked_nulls (marks_in y k) + sum_by (λ e. marked_nulls e.marks) rest) mode
    ∙ ap (λ n. nulls (layout x).max_def_level p + n) (listed_nulls x (r + rows p) os ps (omega (arith, e)) mode)
    ∙ sym (sum_by-cons (λ p. nulls (layout x).max_def_level p) p ps)

pub null_counts_add_up : (x : Context) (ps : List Page) (os : List ℕ) → length os ≡ length ps → x.settings.mode ≡ PageMode
    → sum_by (λ e. marked_nulls e.marks) (entry_list x 0 os ps) ≡ (chunk_record x ps).figures.nulls
null_counts_add_up x ps os e mode = listed_nulls x 0 os ps e mode ∙ sym (nulls_add_up (layout x).max_def_level ps)

-- ---- the record

pub no_nan_counted : (m : Meaning) → m.has_nan ≡ false → (vs : List (List ℕ)) → count m.nan vs ≡ 0
no_nan_counted m h [] = refl
no_nan_counted m h (v ∷ vs) = omega (arith, ap {B = ℕ} (λ b. cond b 1 0) (m.nan_only h v), no_nan_counted m h vs)

order_in_says : (mode : Mode) (says : Order → Type 0) (o : Order) → says o → InPageMode mode says (order_in mode o)
order_in_says ChunkMode says o h = refl
order_in_says PageMode says o h = h

pub figures_enclose : (m : Meaning) (vs : List (List ℕ)) (i : ℕ) → i < length vs → Spoken m vs (get_or vs i [])
    → NotAbove m (smallest m vs) (Some (get_or vs i [])) × NotAbove m (Some (get_or vs i [])) (largest m vs)
figures_enclose m vs i h c =
    let v = get_or vs i [] in
    let lo = smallest_there m vs (omega (arith, h)) in
    let hi = largest_there m vs (omega (arith, h)) in (
      subst (λ o. NotAbove m o (Some v)) (sym lo.1) (smallest_below m vs i lo.0 h lo.1 c),
      subst (λ o. NotAbove m (Some v) o) (sym hi.1) (largest-above m vs i hi.0 h hi.1 c),
    )

pub record_says : (x : Context) (ps : List Page) → RecordSays x ps (chunk_record x ps)
record_says x ps = record {
  figures = refl;
  from_pages = figures_all_join x.kind (layout x) ps;
  encloses = figures_enclose x.kind (joined ps).values;
  no_nans = λ h. no_nan_counted x.kind h (joined ps).values;
  bytes = refl;
  order = order_in_says x.settings.mode (Rattle.ledger.specs.Laws.OrderSays x ps) (order x ps) (order_says x ps);
}

-- ---- a chunk

pub chunk_laws : (x : Context) (ps : List Page) → ChunkLaws x ps
chunk_laws x ps = record {
  of_record = record_says x ps;
  of_entries = λ os none e k h. entries_say x ps os none e k h;
  null_counts = λ os e mode. null_counts_add_up x ps os e mode;
  ascending = ascends_throughout x.kind ps;
  descending = descends_throughout x.kind ps;
  stored_ascending = stored_ascends_throughout x.kind x.settings.cut_length ps;
  stored_descending = stored_descends_throughout x.kind x.settings.cut_length ps;
}
