use Rattle.std.proofs.Common.{ℕ, List, length, ◌-◌, ◌*◌, ◌+◌, ◌∙◌, ap}
use Rattle.areas.specs.Areas.{laid}
use Rattle.slotted.specs.Pairs.{pair_bytes}
use Rattle.slotted.proofs.Growing.{keeps}
use Rattle.slotted.proofs.sink.SlottedSink.put.Goals as goal

pub invariant_of-self : goal.invariant_of-self
invariant_of-self c =
    let s = c.args.self.now in
    let n = length c.args.page.now in
    let at : ℕ → List ℕ = λ k. laid (laid s.area.now k c.args.page.now) (length s.area.now - 4 * (s.count + 1)) (pair_bytes k n) in
    let k = keeps s c.args.page.now c.lay_with_pair.new.area c.requires (c.lay_with_pair.ensures ∙ ap at c.end-at.ensures) in
    record { few = k.few; tiled = k.tiled; apart = k.apart }
