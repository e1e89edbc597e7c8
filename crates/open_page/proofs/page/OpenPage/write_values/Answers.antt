use Rattle.std.proofs.Common.{◌≡◌, ◌≤◌, refl, ℕ, true, List, map, length, sym, ap, ◌∙◌, arith}
use Rattle.kinds.specs.Plain.{sized}
use Rattle.figures.specs.Figures.{lesser, higher, FiguresOf}
use Rattle.metrics.specs.Metrics.{kept}
use Rattle.metrics.proofs.Nans.{nan_count_le}
use Rattle.open_page.proofs.Filling.{value_few, smallest_all, largest_all, filled_held}
use Rattle.open_page.proofs.page.OpenPage.write_values.Goals as goal

pub returns : goal.returns
returns g c = λ p few sizes n room h.
    let m = g.K.Kind.meaning in
    let l = c.args.layout in
    let w = l.width in
    let bytes = g.V.ValueOf.bytes in
    let vs : List (List ℕ) = map bytes c.args.values.now in
    let f : FiguresOf m bytes vs c.in-Some.figures = c.in-Some.ensures.found in
    let lo = bytes c.in-Some.figures.min in
    let hi = bytes c.in-Some.figures.max in
    let lo-few : length lo ≤ 128 = value_few w lo few (smallest_all (λ v. sized w v ≡ true) m vs lo f.min sizes) in
    let hi-few : length hi ≤ 128 = value_few w hi few (largest_all (λ v. sized w v ≡ true) m vs hi f.max sizes) in
    let old = c.args.self.now in
    filled_held m l p vs old _ h refl refl
    (c.put_values.ensures few sizes (omega (arith, ap length h.plain, room)))
    (c.add_nans.ensures m l p vs f.nans (omega (arith, f.nans, nan_count_le m.nan p.values, nan_count_le m.nan vs, n)) h.metrics)
    (c.take_min.ensures lo-few ∙ ap (λ o. lesser m (kept old.min) o) (sym f.min))
    (c.take_max.ensures hi-few ∙ ap (λ o. higher m (kept old.max) o) (sym f.max))
