-- What one write leaves is one sink.
use Rattle.std.specs.Prelude.{◌≡◌, ℕ, ◌+◌, ◌*◌, ◌≤◌, List, length}
use Rattle.std.proofs.Common.{sym, ◌∙◌}
use mathlib.Core.HLevel.{is_prop→PathP}
use Rattle.std.specs.Coded.{le_prop}
use Rattle.areas.specs.Areas.{Tiles, Tiles-prop, end_of, same_ref}
use Rattle.slotted.specs.Pairs.{pairs}
use Rattle.slotted.specs.Slots.{Added}
use Rattle.slotted.specs.declared.sink.SlottedSink.{SlottedSink}

pub once : (s : SlottedSink) (p : List ℕ) (a b : SlottedSink) → Added s p a → Added s p b → a ≡ b
once s p a b x y =
    let area : a.area ≡ b.area = same_ref s.area a.area b.area x.lent y.lent (x.area ∙ sym y.area) in
    let count : a.count ≡ b.count = x.count ∙ sym y.count in
    λ i. record {
      area = area i;
      count = count i;
      few = is_prop→PathP (λ j. 4 * count j ≤ length (area j).now) (λ j. le_prop) a.few b.few i;
      tiled = is_prop→PathP (λ j. Tiles 0 (pairs (area j).now (count j))) (λ j. Tiles-prop 0 (pairs (area j).now (count j))) a.tiled b.tiled i;
      apart = is_prop→PathP (λ j. end_of 0 (pairs (area j).now (count j)) + 4 * count j ≤ length (area j).now) (λ j. le_prop) a.apart b.apart i;
    }
