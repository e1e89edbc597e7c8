-- Which columns and settings a chunk accepts.
use Rattle.std.specs.Prelude.{ℕ, Bool, true, cond, not, ◌&&◌, ◌||◌, List, [], ◌∷◌, ℤ, pos, negsuc, Some, None, Ok, Option, Result, ◌==◌, int_le, nat_le}
use Rattle.kinds.specs.Meaning.{Meaning, admitted}
use Rattle.level_coder.specs.Coding.{Coding}
use Rattle.body_coder.specs.Body.{Body}
use Rattle.pages.specs.declared.layout.Layout.{Layout}
use Rattle.sinks.specs.Refusals.{Refusal}
use Rattle.refusals.specs.Refusals.{Test, tested, refuses, by_chunk, Numbered}
use Rattle.refusals.specs.declared.fault.ChunkFault.{ChunkFault}
use Rattle.refusals.specs.declared.fault.ChunkFault.TheVariants.{Column as ColumnFault, Settings as SettingsFault}
use Rattle.columns.specs.declared.column.Column.{Column}
use Rattle.columns.specs.declared.settings.Settings.{Settings}

-- a number from the least to the most
abbrev pub within : ℕ → ℕ → ℕ → Bool
within least most n = nat_le least n && nat_le n most

-- repetition levels go no higher than definition levels, and these up to 15
abbrev pub levels_fit : ℤ → ℤ → Bool
levels_fit rep def = int_le (pos 0) rep && (int_le rep def && int_le def (pos 15))

-- a column that a chunk may hold: its levels, and a width that the kind admits
abbrev pub column_fits : Meaning → Column → Bool
column_fits m col = levels_fit col.max_rep_level col.max_def_level && admitted m.width col.width

-- bounds are cut to 1 to 64 bytes, or not at all
abbrev pub cut_fits : Option ℕ → Bool
cut_fits None = true
cut_fits (Some l) = within 1 64 l

-- version 2 wants a level coder that it admits, BYTE_ARRAY a body coder that takes joined bytes
abbrev pub coders_fit : Coding → Body → ℕ → ℕ → Bool
coders_fit c b width version = (version == 1 || c.second) && (not (width == 0) || b.joins)

-- settings that a chunk may be written by: version 1 or 2, a page of 1 to 512 rows and 1 to 4,096 plain bytes
abbrev pub settings_fit : Coding → Body → Column → Settings → Bool
settings_fit c b col set =
    within 1 2 set.version && (within 1 512 set.row_limit && (within 1 4096 set.size_limit
    && (cut_fits set.cut_length && coders_fit c b col.width set.version)))

-- what a check tests: the column is looked at first
abbrev pub check_tests : Meaning → Coding → Body → Column → Settings → List Test
check_tests m c b col set = refuses (not (column_fits m col)) ColumnFault ∷ refuses (not (settings_fit c b col set)) SettingsFault ∷ []

-- the answer to a check
abbrev pub checked : Meaning → Coding → Body → Column → Settings → Result Unit ChunkFault
checked m c b col set = tested (check_tests m c b col set) (Ok tt)

-- the refusals of a check, in the order of its tests
abbrev pub check_order : List Refusal
check_order = by_chunk 1 ∷ by_chunk 2 ∷ []

-- any column and settings are tested in that order, and refused for one of these
pub record CheckNumbered : Type 0 where
  pub each : (m : Meaning) (c : Coding) (b : Body) (col : Column) (set : Settings) → Numbered (check_tests m c b col set) (checked m c b col set) check_order

-- both are allowed
abbrev pub accepted : Meaning → Coding → Body → Column → Settings → Bool
accepted m c b col set = column_fits m col && settings_fit c b col set

-- a maximum level as a number; one that no column may have counts as 0
abbrev pub level_of : ℤ → ℕ
level_of (pos n) = cond (nat_le n 15) n 0
level_of (negsuc n) = 0

-- a width as a number; one that no column may have counts as 0
abbrev pub width_of : ℕ → ℕ
width_of w = cond (nat_le w 128) w 0

-- the column's maxima and width, and the version, as a page is laid out by them
abbrev pub layout_of : Column → Settings → Layout
layout_of col set = record {
  version = set.version;
  max_rep_level = level_of col.max_rep_level;
  max_def_level = level_of col.max_def_level;
  width = width_of col.width;
}
