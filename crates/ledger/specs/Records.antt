-- A chunk's record: the figures of all that it took, its size, and the order of its pages.
use Rattle.std.specs.Prelude.{ℕ, Bool, cond, List, [], ◌∷◌, ◌++◌, length, Some, None, sum_by, Option}
use Rattle.kinds.specs.Meaning.{Meaning}
use Rattle.columns.specs.declared.settings.Mode.{Mode}
use Rattle.columns.specs.declared.settings.Mode.TheVariants.{Chunk as ChunkMode, Page as PageMode}
use Rattle.flags.specs.Flags.{Pair, ascending, descending}
use Rattle.figures.specs.Figures.{smallest, largest}
use Rattle.ledger.specs.Context.{Context, layout, bytes}
use Rattle.ledger.specs.Entries.{lower, upper}
use Rattle.ledger.specs.Figures.{Figures, figures}
use Rattle.ledger.specs.Pages.{Page, joined}
use Rattle.ledger.specs.declared.order.BoundaryOrder.{BoundaryOrder}
use Rattle.ledger.specs.declared.order.BoundaryOrder.TheVariants.{Unordered, Ascending, Descending}

-- the pair of a page that has values, and none of a null page
abbrev pub pair_if : Option (List ℕ) → Option (List ℕ) → List Pair
pair_if None hi = []
pair_if (Some lo) None = []
pair_if (Some lo) (Some hi) = record { low = lo; high = hi } ∷ []

-- the smallest and largest values of the pages that have any
abbrev pub value_pairs : Meaning → List Page → List Pair
value_pairs m [] = []
value_pairs m (p ∷ ps) = pair_if (smallest m p.values) (largest m p.values) ++ value_pairs m ps

-- their bounds as they are stored
abbrev pub stored_if : Meaning → Option ℕ → Option (List ℕ) → Option (List ℕ) → List Pair
stored_if m cut None hi = []
stored_if m cut (Some lo) None = []
stored_if m cut (Some lo) (Some hi) = record { low = (lower m cut (Some lo)).bytes; high = (upper m cut (Some hi)).bytes } ∷ []

abbrev pub stored_pairs : Meaning → Option ℕ → List Page → List Pair
stored_pairs m cut [] = []
stored_pairs m cut (p ∷ ps) = stored_if m cut (smallest m p.values) (largest m p.values) ++ stored_pairs m cut ps

-- the order of pages: by their values, and as the format's boundary_order, by what is stored
pub record Order : Type 0 where
  pub ascending : Bool
  pub descending : Bool
  -- 0 unordered, 1 ascending, 2 descending
  pub boundary : ℕ

-- the number that the format has for a boundary order
abbrev pub boundary_number : BoundaryOrder → ℕ
boundary_number Unordered = 0
boundary_number Ascending = 1
boundary_number Descending = 2

-- the number of the order that two flags say: bounds that ascend are ascending, whether they descend or not
abbrev pub boundary_order_of : Bool → Bool → ℕ
boundary_order_of up down = cond up 1 (cond down 2 0)

abbrev pub order : Context → List Page → Order
order x ps = record {
  ascending = Rattle.flags.specs.Flags.ascending x.kind (value_pairs x.kind ps);
  descending = Rattle.flags.specs.Flags.descending x.kind (value_pairs x.kind ps);
  boundary = boundary_order_of (Rattle.flags.specs.Flags.ascending x.kind (stored_pairs x.kind x.settings.cut_length ps)) (Rattle.flags.specs.Flags.descending x.kind (stored_pairs x.kind x.settings.cut_length ps));
}

abbrev pub order_in : Mode → Order → Option Order
order_in ChunkMode o = None
order_in PageMode o = Some o

pub record Record : Type 0 where
  pub figures : Figures
  -- the sum of the page lengths
  pub bytes : ℕ
  pub order : Option Order

-- the record of a chunk that wrote these pages
abbrev pub chunk_record : Context → List Page → Record
chunk_record x ps = record {
  figures = Rattle.ledger.specs.Figures.figures x.kind (layout x) (joined ps);
  bytes = sum_by (λ p. length (Rattle.ledger.specs.Context.bytes x p)) ps;
  order = order_in x.settings.mode (Rattle.ledger.specs.Records.order x ps);
}
