use Rattle.std.proofs.Common.{◌*◌, [], map, sym, ap, ◌∙◌, arith}
use Rattle.std.proofs.lemmas.List.{get_or-map, length-map}
use Rattle.buffers.proofs.Laying.{next_laid, next_long}
use Rattle.buffers.proofs.buffer.lay.Goals as goal

pub copy_from_slice-requires : goal.copy_from_slice-requires
copy_from_slice-requires g c =
    let bytes = g.V.ValueOf.bytes in
    let xs = c.args.values.now in
    let i = c.loop-value.value-index in
    let v = c.value-item.result in
    next_long c.args.width (map bytes xs) i c.loop-value.at c.loop-value.out (omega (arith, length-map xs bytes, c.loop-value-test.true)) c.requires.even
    (c.loop-value.auto.out ∙ c.requires.room ∙ ap (λ n. n * c.args.width) (sym (length-map xs bytes))) c.loop-value.invariant c.as_bytes-bytes.result.now
    (c.as_bytes-bytes.ensures ∙ ap bytes c.value-item.is ∙ sym (get_or-map bytes xs i v [] c.loop-value-test.true))

pub loop-value-preserved : goal.loop-value-preserved
loop-value-preserved g c =
    let bytes = g.V.ValueOf.bytes in
    let xs = c.args.values.now in
    let i = c.loop-value.value-index in
    let v = c.value-item.result in
    next_laid c.args.width (map bytes xs) i c.loop-value.at c.loop-value.out (omega (arith, length-map xs bytes, c.loop-value-test.true)) c.requires.even
    (c.loop-value.auto.out ∙ c.requires.room ∙ ap (λ n. n * c.args.width) (sym (length-map xs bytes))) c.loop-value.invariant c.as_bytes-bytes.result.now
    (c.as_bytes-bytes.ensures ∙ ap bytes c.value-item.is ∙ sym (get_or-map bytes xs i v [] c.loop-value-test.true)) c.copy_from_slice.new.self c.copy_from_slice.ensures.after
