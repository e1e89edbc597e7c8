use Rattle.std.proofs.Common.{[], map, sym, ap, ◌∙◌, arith}
use Rattle.std.proofs.lemmas.List.{get_or-map, length-map}
use Rattle.open_page.proofs.Filling.{more_plains, plains_at_once}
use Rattle.open_page.proofs.values.put_values.Goals as goal

pub returns-then-width-gt0 : goal.returns-then-width-gt0
returns-then-width-gt0 g c = λ _ sizes room.
    plains_at_once (map g.V.ValueOf.bytes c.args.values.now) c.args.plain.now c.args.width c.extend_all.new.self c.extend_all.result c.if-width-gt0.true c.extend_all.ensures sizes room

pub loop-value-preserved : goal.loop-value-preserved
loop-value-preserved g c =
    let bytes = g.V.ValueOf.bytes in
    let xs = c.args.values.now in
    let i = c.loop-value.value-index in
    more_plains (map bytes xs) c.args.plain.now i (bytes c.value-item.result) c.loop-value.plain c.put_byte_array.new.plain
    (omega (arith, length-map xs bytes, c.loop-value-test.true)) (ap bytes c.value-item.is ∙ sym (get_or-map bytes xs i c.value-item.result [] c.loop-value-test.true))
    c.loop-value.invariant c.put_byte_array.ensures
