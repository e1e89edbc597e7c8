use Rattle.std.proofs.Common.{[], map, length, ap, ◌∙◌, sym, arith}
use Rattle.std.proofs.lemmas.Bool.{false≢true}
use Rattle.std.proofs.lemmas.List.{get_or-map, length-map}
use Rattle.buffers.proofs.Laying.{appended_none, refused_uneven, appended_even}
use Rattle.buffers.proofs.buffer.Buffer.extend_all.Goals as goal

pub returns-in_default : goal.returns-in_default
returns-in_default g c =
    let bytes = g.V.ValueOf.bytes in
    let xs = c.args.values.now in
    appended_none g.row.N c.args.self.now (map bytes xs) _ _ (omega (arith, length-map xs bytes, c.in_default.ensures.item.3)) c.extend.ensures

pub returns-then-not-have_length : goal.returns-then-not-have_length
returns-then-not-have_length g c =
    let bytes = g.V.ValueOf.bytes in
    let xs = c.args.values.now in
    let first = c.in-Some.ensures.item in
    refused_uneven g.row.N c.args.self.now (map bytes xs) (length c.as_bytes-width.result.now) (omega (arith, length-map xs bytes, first.3.0))
    (ap length (c.as_bytes-width.ensures ∙ ap bytes first.1 ∙ sym (get_or-map bytes xs 0 c.in-Some.first.now [] first.3.0)))
    (λ h. false≢true (sym c.if-not-have_length.true ∙ c.have_length.ensures.1 h))

pub returns : goal.returns
returns g c =
    appended_even g.row.N c.args.self.now (map g.V.ValueOf.bytes c.args.values.now) (length c.as_bytes-width.result.now) _ _
    (c.have_length.ensures.0 c.if-not-have_length.false) c.extend_even.ensures
