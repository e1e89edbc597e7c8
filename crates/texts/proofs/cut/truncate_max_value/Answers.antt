use Rattle.std.proofs.Common.{take, Some, subst}
use Rattle.texts.specs.Cut.{front}
use Rattle.texts.specs.Steps.{RaisedAt}
use Rattle.texts.proofs.Cuts.{raised_text}
use Rattle.texts.proofs.cut.truncate_max_value.Goals as goal

pub returns-clause-text : goal.returns-clause-text
returns-clause-text c =
    let v = c.args.value.now in
    let l = c.args.length in
    let q = c.in-Some-truncate_and_increment_utf8 in
    let r = subst (λ t. RaisedAt (take (front l t) t) (Some (q.at, q.next))) c.in-Some.ensures.0 q.ensures in
    let put = c.increment_utf8.ensures in
    λ _. raised_text l v q.at q.next c.increment_utf8.result c.increment_utf8.new.bytes c.if-value-length.false r put.end put.put
