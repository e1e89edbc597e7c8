-- What is known of a page where the column and the settings were accepted: for users of the open page.
use Rattle.std.proofs.Common.{◌≡◌, ℕ, ◌≤◌, Bool, true, false, cond, not, ◌&&◌, ◌||◌, eqb, leb, ltb, List, [], ◌∷◌, length, ℤ, pos, negsuc, sym, ap, ◌∙◌, ⊎_elim, arith}
use Rattle.std.proofs.lemmas.Bool.{cond-true, cond-false, eq-eqb, leb-true, leb-false, le-leb, lt-ltb, and_parts, or_parts, or_cases, not-true, cases_Bool, cases_eq, false≢true}
use Rattle.std.proofs.lemmas.List.Sums.{count_by-le-length}
use Rattle.columns.specs.Columns.{level_of, width_of, layout_of, levels_fit, column_fits, settings_fit, within, cut_fits, coders_fit}
use Rattle.columns.specs.declared.column.Column.{Column}
use Rattle.columns.specs.declared.settings.Settings.{Settings}
use Rattle.kinds.specs.Meaning.{admitted}
use Rattle.ledger.specs.Pages.{Page, levels, rows, plains}
use Rattle.ledger.specs.Context.{Context, layout, plain_bytes, accepted, due}
use Rattle.open_page.specs.Pages.{Allowed, WellFormed, Joinable}

few_by : (n most : ℕ) → cond (leb n most) n 0 ≤ most
few_by n most =
    ⊎_elim
    (λ t. omega (arith, cond-true (leb n most) n 0 t, leb-true n most t))
    (λ t. omega (arith, cond-false (leb n most) n 0 t))
    (cases_Bool (leb n most))

level_few : (x : ℤ) → level_of x ≤ 15
level_few (pos n) = few_by n 15
level_few (negsuc n) = omega arith

-- the layout of any column is allowed
pub layout_allowed : (col : Column) (set : Settings) → Allowed (layout_of col set)
layout_allowed col set = record {
  repetition = level_few col.max_rep_level;
  definition = level_few col.max_def_level;
  width = few_by col.width 128;
}

no_values : (w : ℕ) (vs : List (List ℕ)) → length vs ≤ 0 → length (plains w vs) ≤ 4095
no_values w [] z = omega arith
no_values w (v ∷ vs) z = absurd (omega (arith, z))

module _ (x : Context) (ok : accepted x ≡ true) where
  both : (column_fits x.kind x.column ≡ true) × (settings_fit x.levels x.body x.column x.settings ≡ true)
  both = and_parts (column_fits x.kind x.column) (settings_fit x.levels x.body x.column x.settings) ok

  width_fits : admitted x.kind.width x.column.width ≡ true
  width_fits = (and_parts (levels_fit x.column.max_rep_level x.column.max_def_level) (admitted x.kind.width x.column.width) both.0).1

  -- the size limit and what is behind it
  abbrev rest : Bool
  rest = cut_fits x.settings.cut_length && coders_fit x.levels x.body x.column.width x.settings.version

  limits : (within 1 4096 x.settings.size_limit && rest) ≡ true
  limits =
      let rows = and_parts (within 1 2 x.settings.version) (within 1 512 x.settings.row_limit && (within 1 4096 x.settings.size_limit && rest)) both.1 in
      (and_parts (within 1 512 x.settings.row_limit) (within 1 4096 x.settings.size_limit && rest) rows.1).1

  coders : (not (eqb x.column.width 0) || x.body.joins) ≡ true
  coders =
      let behind = and_parts (within 1 4096 x.settings.size_limit) rest limits in
      let fit = and_parts (cut_fits x.settings.cut_length) (coders_fit x.levels x.body x.column.width x.settings.version) behind.1 in
      (and_parts (eqb x.settings.version 1 || x.levels.second) (not (eqb x.column.width 0) || x.body.joins) fit.1).1

  size_few : x.settings.size_limit ≤ 4096
  size_few =
      let it = and_parts (within 1 4096 x.settings.size_limit) rest limits in
      leb-true x.settings.size_limit 4096 (and_parts (leb 1 x.settings.size_limit) (leb x.settings.size_limit 4096) it.0).1

  -- its body coder takes joined bytes where each value has its own length
  pub accepted_joinable : Joinable x.body (layout x)
  accepted_joinable z =
      let w = x.column.width in
      let same : width_of w ≡ w = cond-true (leb w 128) w 0 (le-leb w 128 (x.kind.width_few w width_fits)) in
      let none : w ≡ 0 = sym same ∙ z in
      ⊎_elim (λ t. absurd (false≢true (sym (not-true (eqb w 0) t) ∙ eq-eqb w 0 none))) (λ t. t) (or_cases (not (eqb w 0)) x.body.joins coders)

  -- a page that is not due has room for the plain bytes of a batch
  pub not_due_light : (p : Page) → WellFormed (layout x) p → due x p ≡ false → length (plains (layout x).width p.values) ≤ 4095
  not_due_light p w h =
      let n : ℕ = length (plain_bytes x p) in
      let full : Bool = leb x.settings.row_limit (rows p) || leb x.settings.size_limit n in
      ⊎_elim
      (λ e. no_values (layout x).width p.values (omega (arith, e, w.counted, count_by-le-length (eqb (layout x).max_def_level) p.defs)))
      (λ ne.
      let some : ltb 0 (levels p) ≡ true = lt-ltb 0 (levels p) (omega arith) in
      let left : full ≡ false = sym (ap (λ b. b && full) some) ∙ h in
      omega (arith, size_few, leb-false x.settings.size_limit n (or_parts (leb x.settings.row_limit (rows p)) (leb x.settings.size_limit n) left).1))
      (cases_eq (levels p) 0)
