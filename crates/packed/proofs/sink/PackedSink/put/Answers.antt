use Rattle.std.proofs.Common.{◌∙◌, ap}
use Rattle.areas.specs.Areas.{end_of}
use Rattle.packed.proofs.Growing.{keeps}
use Rattle.packed.proofs.sink.PackedSink.put.Goals as goal

pub invariant_of-self-2 : goal.invariant_of-self-2
invariant_of-self-2 c =
    let k = keeps c.args.self.now c.args.page.now c.lay.new.area c.enter.new.table c.end-at.result c.requires (c.end-at.ensures ∙ ap (end_of 4) c.places.ensures) c.enter.ensures c.lay.ensures in
    record { few = k.few; tiled = k.tiled; begins = k.begins; within = k.within }
