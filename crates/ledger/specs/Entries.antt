-- A page's entry in the index, as the format's ColumnIndex and OffsetIndex have it.
use Rattle.std.specs.Prelude.{◌≡◌, ℕ, ◌+◌, Bool, false, List, [], ◌∷◌, length, take, Some, None, Option, ◌==◌}
use Rattle.kinds.specs.Cuts.{Bound, whole}
use Rattle.kinds.specs.Meaning.{Meaning, greater}
use Rattle.columns.specs.declared.settings.Mode.{Mode}
use Rattle.columns.specs.declared.settings.Mode.TheVariants.{Chunk as ChunkMode, Page as PageMode}
use Rattle.pages.specs.declared.layout.Layout.{Layout}
use Rattle.ledger.specs.Context.{Context, layout, bytes}
use Rattle.ledger.specs.Figures.{figures, nan_entry}
use Rattle.ledger.specs.Pages.{Page, joined, rows}

-- a figure as a bound: cut by one of the kind's cuts where there is a cut length, and empty where there is no figure
abbrev pub bounded : (ℕ → List ℕ → Bound) → Option ℕ → Option (List ℕ) → Bound
bounded cut l None = whole []
bounded cut None (Some v) = whole v
bounded cut (Some l) (Some v) = cut l v

abbrev pub lower : Meaning → Option ℕ → Option (List ℕ) → Bound
lower m cut v = bounded m.cuts.lower cut v

abbrev pub upper : Meaning → Option ℕ → Option (List ℕ) → Bound
upper m cut v = bounded m.cuts.upper cut v

-- what Page mode keeps of a page
pub record Marks : Type 0 where
  -- the page has no value
  pub null_page : Bool
  pub min : Bound
  pub max : Bound
  pub null_count : ℕ
  pub nan_count_of : Option ℕ
  pub rep_counts : Option (List ℕ)
  pub def_counts : Option (List ℕ)

abbrev pub marks : Meaning → Layout → Option ℕ → Page → Marks
marks m l cut p = record {
  null_page = (length p.values == 0);
  min = lower m cut (figures m l p).min;
  max = upper m cut (figures m l p).max;
  null_count = (figures m l p).nulls;
  nan_count_of = nan_entry m (figures m l p).nans;
  rep_counts = (figures m l p).rep_counts;
  def_counts = (figures m l p).def_counts;
}

abbrev pub marks_in : Mode → Marks → Option Marks
marks_in ChunkMode k = None
marks_in PageMode k = Some k

-- an entry: where the page lies, how long it is, how many levels it has, which its bytes do not say, which row it begins
-- with, and in Page mode its marks
pub record Entry : Type 0 where
  pub offset : ℕ
  pub size : ℕ
  pub levels : ℕ
  pub first_row : ℕ
  pub marks : Option Marks

abbrev pub entry : Context → ℕ → ℕ → Page → Entry
entry x offset first p = record {
  offset = offset;
  size = length (bytes x p);
  levels = Rattle.ledger.specs.Pages.levels p;
  first_row = first;
  marks = marks_in x.settings.mode (Rattle.ledger.specs.Entries.marks x.kind (layout x) x.settings.cut_length p);
}

-- the entries of pages that lie at these offsets, the first of which begins with row r
abbrev pub entry_list : Context → ℕ → List ℕ → List Page → List Entry
entry_list x r [] ps = []
entry_list x r (o ∷ os) [] = []
entry_list x r (o ∷ os) (p ∷ ps) = entry x o r p ∷ entry_list x (r + rows p) os ps

-- the row that page k begins with: the rows of all pages before it
abbrev pub first_row : List Page → ℕ → ℕ
first_row ps k = rows (joined (take k ps))

-- bounds enclose a value unless the lower one is greater than it or it is greater than the upper one
pub record Encloses (m : Meaning) (lo hi v : List ℕ) : Type 0 where
  pub above : greater m lo v ≡ false
  pub below : greater m v hi ≡ false
