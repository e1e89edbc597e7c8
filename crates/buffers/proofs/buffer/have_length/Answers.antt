use Rattle.std.proofs.Common.{◌≡◌, ◌≢◌, length, rules, tests}
use Rattle.std.proofs.lemmas.Iterator.{cases_from_all, YieldsList-from_slice}
use Rattle.buffers.proofs.Laying.{told}
use Rattle.buffers.proofs.buffer.have_length.Goals as goal

pub returns : goal.returns
returns g c =
    let bytes = g.V.ValueOf.bytes in
    let w = c.args.width in
    let xs = c.args.values.now in
    told bytes w xs c.all.result
    (cases_from_all _ _ _ (λ v. length (bytes v) ≡ w) (λ v. length (bytes v) ≢ w) c.all.ensures.ran (YieldsList-from_slice xs cc) (λ x q k. search (rules, tests)) (λ x q k. search (rules, tests)))
