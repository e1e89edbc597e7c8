-- What every chunk's record and entries say of its pages, whatever pages it wrote: a record follows from the pages, null
-- counts add up, bounds enclose, and the flags say how the pages stand.
use Rattle.std.specs.Prelude.{◌≡◌, ℕ, ◌<◌, true, false, List, [], map, length, take, Some, None, sum_by, Option, slice_index_or}
use Rattle.kinds.specs.Meaning.{Meaning}
use Rattle.kinds.specs.Cuts.{Bound, whole}
use Rattle.figures.specs.Figures.{smallest, largest}
use Rattle.columns.specs.declared.settings.Mode.{Mode}
use Rattle.columns.specs.declared.settings.Mode.TheVariants.{Chunk as ChunkMode, Page as PageMode}
use Rattle.pages.specs.declared.layout.Layout.{Layout}
use Rattle.ledger.specs.Pages.{Page, blank, joined, nulls, rows, counts}
use Rattle.ledger.specs.Context.{Context, layout, bytes}
use Rattle.ledger.specs.Figures.{figures, nan_entry}
use Rattle.ledger.specs.Entries.{Marks, Entry, Encloses, lower, upper, entry_list}
use Rattle.ledger.specs.Records.{Record, chunk_record}
use Rattle.ledger.specs.Laws.{all_together, Spoken, NotAbove, Exactly, OrderSays, Throughout, Rises, Ascends, Descends, StoredRises, StoredAscends, StoredDescends}

-- ---- entries

-- two bounds are the lower cut of the smallest and the upper cut of the largest of some values
pub record CutsOfFigures (m : Meaning) (cut : Option ℕ) (vs : List (List ℕ)) (lo hi : Bound) : Type 0 where
  pub least : List ℕ
  pub most : List ℕ
  pub is_smallest : smallest m vs ≡ Some least
  pub is_largest : largest m vs ≡ Some most
  pub lower_cut : lo ≡ lower m cut (Some least)
  pub upper_cut : hi ≡ upper m cut (Some most)

-- what marks say of their page
pub record MarksSay (m : Meaning) (l : Layout) (cut : Option ℕ) (p : Page) (k : Marks) : Type 0 where
  -- null exactly if the page has no value, and then both bounds are empty
  pub null_page : Exactly (k.null_page ≡ true) (length p.values ≡ 0)
  pub null_bounds : length p.values ≡ 0 → (k.min ≡ whole []) × (k.max ≡ whole [])
  pub bounds : 0 < length p.values → CutsOfFigures m cut p.values k.min k.max
  -- the bounds enclose each value that is not NaN, or each value where all are
  pub encloses : (i : ℕ) → i < length p.values → Spoken m p.values (slice_index_or p.values i []) → Encloses m k.min.bytes k.max.bytes (slice_index_or p.values i [])
  pub null_count : k.null_count ≡ nulls l.max_def_level p
  pub nan_count : k.nan_count_of ≡ nan_entry m (Rattle.figures.specs.Figures.nan_count_of m p.values)
  pub rep_counts : k.rep_counts ≡ counts l.max_rep_level p.reps
  pub def_counts : k.def_counts ≡ counts l.max_def_level p.defs

-- there exactly in Page mode
abbrev pub InPageMode : {A : Type 0} → Mode → (A → Type 0) → Option A → Type 0
InPageMode ChunkMode says a = a ≡ None
InPageMode PageMode says None = ⊥
InPageMode PageMode says (Some a) = says a

-- what the entry of page k says
pub record EntrySays (x : Context) (ps : List Page) (k : ℕ) (e : Entry) : Type 0 where
  pub size : e.size ≡ length (bytes x (slice_index_or ps k blank))
  pub levels : e.levels ≡ Rattle.ledger.specs.Pages.levels (slice_index_or ps k blank)
  -- the rows of all pages before it
  pub first_row : e.first_row ≡ sum_by rows (take k ps)
  pub marks : InPageMode x.settings.mode (MarksSay x.kind (layout x) x.settings.cut_length (slice_index_or ps k blank)) e.marks

-- the null count of an entry that has one, and else 0
abbrev pub marked_nulls : Option Marks → ℕ
marked_nulls None = 0
marked_nulls (Some k) = k.null_count

-- ---- the record

-- what a record says of the pages written
pub record RecordSays (x : Context) (ps : List Page) (r : Record) : Type 0 where
  -- its figures are those of the joined pages, and follow from those of each page
  pub figures : r.figures ≡ Rattle.ledger.specs.Figures.figures x.kind (layout x) (joined ps)
  pub from_pages : r.figures ≡ all_together x.kind (layout x) (map (Rattle.ledger.specs.Figures.figures x.kind (layout x)) ps)
  -- its smallest is not above, and its largest not below, each value that is not NaN, or each value where all are
  pub encloses : (i : ℕ) → i < length (joined ps).values → Spoken x.kind (joined ps).values (slice_index_or (joined ps).values i [])
      → NotAbove x.kind r.figures.min (Some (slice_index_or (joined ps).values i [])) × NotAbove x.kind (Some (slice_index_or (joined ps).values i [])) r.figures.max
  -- no NaN for a kind without
  pub no_nans : x.kind.has_nan ≡ false → r.figures.nans ≡ 0
  pub bytes : r.bytes ≡ sum_by (λ p. length (Rattle.ledger.specs.Context.bytes x p)) ps
  pub order : InPageMode x.settings.mode (OrderSays x ps) r.order

-- ---- a chunk

pub record ChunkLaws (x : Context) (ps : List Page) : Type 0 where
  pub of_record : RecordSays x ps (chunk_record x ps)
  -- pages and entries have the same numbers, wherever the pages lie
  pub of_entries : (os : List ℕ) (none : Entry) → length os ≡ length ps → (k : ℕ) → k < length ps → EntrySays x ps k (slice_index_or (entry_list x 0 os ps) k none)
  -- the null counts of the entries add up to the record's
  pub null_counts : (os : List ℕ) → length os ≡ length ps → x.settings.mode ≡ PageMode
      → sum_by (λ e. marked_nulls e.marks) (entry_list x 0 os ps) ≡ (chunk_record x ps).figures.nulls
  -- pages in order stand so to every earlier page that has values, by what they hold and by what is stored of them
  pub ascending : Ascends x.kind ps → Throughout (λ p q. Rises x.kind p q) ps
  pub descending : Descends x.kind ps → Throughout (λ p q. Rises x.kind q p) ps
  pub stored_ascending : StoredAscends x.kind x.settings.cut_length ps → Throughout (λ p q. StoredRises x.kind x.settings.cut_length p q) ps
  pub stored_descending : StoredDescends x.kind x.settings.cut_length ps → Throughout (λ p q. StoredRises x.kind x.settings.cut_length q p) ps
