use Rattle.std.proofs.Common.{◌≡◌, None, take, IsUtf8, ap, ◌∙◌, sym, refl, subst, arith, rules}
use Rattle.std.specs.Str.{IsCharBoundary, chars}
use Rattle.std.proofs.lemmas.Slice.{between_from_start}
use Rattle.std.proofs.lemmas.Str.{IsCharBoundary-from_take}
use Rattle.texts.specs.Cut.{front}
use Rattle.texts.specs.Steps.{RaisedAt}
use Rattle.texts.proofs.Fronts.{front_few, front_text}
use Rattle.texts.proofs.cut.truncate_and_increment_utf8.Goals as goal

pub returns-in_err-split : goal.returns-in_err-split
unfolding chars
returns-in_err-split c =
    let v = c.args.text.now in
    subst (RaisedAt (take (front c.args.length v) v)) (sym c.from_residual.ensures)
    (subst (λ n. RaisedAt (take n v) None) (sym c.in_err-split.ensures) refl)

pub range-requires-clause-end_boundary : goal.range-requires-clause-end_boundary
range-requires-clause-end_boundary c =
    let v = c.args.text.now in
    let l = c.args.length in
    let e = c.in_ok-split.ensures.1 in
    let u : IsUtf8 v = search rules in
    subst (IsCharBoundary v) (sym e) (IsCharBoundary-from_take v (front l v) u (omega (arith, front_few l v, c.requires)) (front_text l v))

pub returns : goal.returns
returns c =
    let v = c.args.text.now in
    let e : c.range.result.now ≡ take (front c.args.length v) v = c.range.ensures.value ∙ between_from_start v c.in_ok-split.split ∙ ap (λ n. take n v) c.in_ok-split.ensures.1 in
    subst (λ t. RaisedAt t c.last_raised.result) e c.last_raised.ensures
