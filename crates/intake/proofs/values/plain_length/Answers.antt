use Rattle.std.proofs.Common.{◌-◌, ◌*◌, ◌^◌, min, map, sym, ap, ◌∙◌, arith}
use Rattle.std.proofs.lemmas.List.{length-map}
use Rattle.intake.proofs.Weights.{plains_fixed}
use Rattle.intake.proofs.values.plain_length.Goals as goal

pub returns-then-width-gt0 : goal.returns-then-width-gt0
returns-then-width-gt0 g c = λ sizes.
    let w = c.args.width in
    let vs = map g.V.ValueOf.bytes c.args.values.now in
    c.saturating_mul.ensures
    ∙ ap (λ n. min n (2 ^ 64 - 1)) (ap (λ n. n * w) (sym (length-map c.args.values.now g.V.ValueOf.bytes)) ∙ sym (plains_fixed w vs (omega arith) sizes))
