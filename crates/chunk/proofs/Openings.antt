-- What a chunk is once it is opened.
use Rattle.std.proofs.Common.{◌≡◌, Bool, true, false, cond, not, ◌&&◌, Ok, Err, Result, is_ok, refl}
use Rattle.kinds.specs.Meaning.{Meaning}
use Rattle.level_coder.specs.Coding.{Coding}
use Rattle.body_coder.specs.Body.{Body}
use Rattle.refusals.specs.declared.fault.ChunkFault.TheVariants.{Column as ColumnFault, Settings as SettingsFault}
use Rattle.columns.specs.Columns.{checked, column_fits, settings_fit}
use Rattle.columns.specs.declared.column.Column.{Column}
use Rattle.columns.specs.declared.settings.Settings.{Settings}
use Rattle.refusals.specs.declared.fault.ChunkFault.{ChunkFault}
use Rattle.ledger.specs.Context.{Context, accepted}
use Rattle.ledger.specs.declared.phase.Phase.TheVariants.{Open, Refused}
use Rattle.page_log.specs.Logs.{context}
use Rattle.ledger.specs.Runs.{opening}
use Rattle.chunk.specs.Stands.{is_accepted}

abbrev in_order : Bool → Bool → ChunkFault → ChunkFault → Result (Unit {0}) ChunkFault
in_order f g d e = cond (not f) (Err d) (cond (not g) (Err e) (Ok tt))

ok_by_both : (f g : Bool) (d e : ChunkFault) → is_ok (in_order f g d e) ≡ (f && g)
ok_by_both true true d e = refl
ok_by_both true false d e = refl
ok_by_both false g d e = refl

pub is_ok-checked : (m : Meaning) (c : Coding) (b : Body) (col : Column) (set : Settings) → is_ok (checked m c b col set) ≡ accepted (context m c b col set)
is_ok-checked m c b col set = ok_by_both (column_fits m col) (settings_fit c b col set) ColumnFault SettingsFault

pub accepted_begins : (x : Context) → is_accepted (opening x) ≡ accepted x
accepted_begins x = by_bool (accepted x)
  where
    by_bool : (b : Bool) → is_accepted (cond b Open Refused) ≡ b
    by_bool true = refl
    by_bool false = refl
