-- What a log holds of the pages that a chunk wrote, and what taking one page more does.
use Rattle.std.specs.Prelude.{◌≡◌, ℕ, ◌<◌, ◌≤◌, List, [], ◌∷◌, ◌++◌, map, length, Some, None, sum_by, Option}
use Rattle.std.specs.List.{AllByRecursion}
use Rattle.kinds.specs.Meaning.{Meaning}
use Rattle.level_coder.specs.Coding.{Coding}
use Rattle.body_coder.specs.Body.{Body}
use Rattle.flags.specs.Tracks.{Tracks}
use Rattle.columns.specs.declared.column.Column.{Column}
use Rattle.columns.specs.declared.settings.Settings.{Settings}
use Rattle.ledger.specs.Context.{Context, layout, bytes}
use Rattle.ledger.specs.Entries.{entry_list}
use Rattle.ledger.specs.Pages.{Page, joined}
use Rattle.ledger.specs.Records.{value_pairs, stored_pairs}
use Rattle.metrics.specs.Metrics.{Sums}
use Rattle.entries.specs.Entries.{said_entry}
use Rattle.open_page.specs.Pages.{WellFormed}
use Rattle.page_log.specs.declared.log.PageLog.{PageLog}

-- what a chunk is opened with, by its parts
abbrev pub context : Meaning → Coding → Body → Column → Settings → Context
context m c b col set = record { kind = m; levels = c; body = b; column = col; settings = set }

-- the log is that of these pages, which lie at these offsets
pub record Logged (x : Context) (os : List ℕ) (ps : List Page) (g : PageLog) : Type 0 where
  pub entries : map said_entry g.entries ≡ entry_list x 0 os ps
  pub sums : Sums x.kind (layout x) (joined ps) (sum_by (λ p. length (bytes x p)) ps) g.metrics
  pub values : Tracks x.kind (value_pairs x.kind ps) g.values
  pub stored : Tracks x.kind (stored_pairs x.kind x.settings.cut_length ps) g.stored
  pub well : AllByRecursion (λ p. WellFormed (layout x) p) ps
  pub sizes : AllByRecursion (λ p. length (bytes x p) ≤ 9227) ps
  pub offsets : length os ≡ length ps
  pub few : length ps ≤ 64

-- what taking one page more answers and leaves: absent, and nothing changed, exactly if there are 64 pages
abbrev pub Logs : Context → List ℕ → List Page → ℕ → Page → PageLog → PageLog → Option (Unit {0}) → Type 0
Logs x os ps o p old new (Some _) = (length ps < 64) × Logged x (os ++ (o ∷ [])) (ps ++ (p ∷ [])) new
Logs x os ps o p old new None = (length ps ≡ 64) × (new ≡ old)
