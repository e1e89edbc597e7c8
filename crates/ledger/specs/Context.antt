-- What a chunk was opened with, and a page's bytes by it.
use Rattle.std.specs.Prelude.{ℕ, Bool, ◌&&◌, ◌||◌, List, length, nat_le, nat_lt}
use Rattle.kinds.specs.Meaning.{Meaning}
use Rattle.level_coder.specs.Coding.{Coding}
use Rattle.body_coder.specs.Body.{Body}
use Rattle.pages.specs.Layout.{page_bytes}
use Rattle.pages.specs.declared.layout.Layout.{Layout}
use Rattle.columns.specs.Columns.{layout_of}
use Rattle.columns.specs.Columns as columns
use Rattle.columns.specs.declared.column.Column.{Column}
use Rattle.columns.specs.declared.settings.Settings.{Settings}
use Rattle.ledger.specs.Pages.{Page, levels, rows, plains}

pub record Context : Type 0 where
  pub kind : Meaning
  pub levels : Coding
  pub body : Body
  pub column : Column
  pub settings : Settings

abbrev pub accepted : Context → Bool
accepted x = columns.accepted x.kind x.levels x.body x.column x.settings

abbrev pub layout : Context → Layout
layout x = layout_of x.column x.settings

-- the plain bytes of a page's values
abbrev pub plain_bytes : Context → Page → List ℕ
plain_bytes x p = plains (layout x).width p.values

-- a page as it goes to the sink
abbrev pub bytes : Context → Page → List ℕ
bytes x p = page_bytes x.levels x.body (layout x) p.reps p.defs (plain_bytes x p)

-- a page with levels is due once its rows or its plain bytes reach their limit
abbrev pub due : Context → Page → Bool
due x p =
    nat_lt 0 (Rattle.ledger.specs.Pages.levels p)
    && (nat_le x.settings.row_limit (rows p) || nat_le x.settings.size_limit (length (plain_bytes x p)))
