-- What one write leaves is one sink.
use Rattle.std.specs.Prelude.{◌≡◌, ℕ, ◌≤◌, List, length, take}
use Rattle.std.proofs.Common.{sym, ◌∙◌}
use mathlib.Core.HLevel.{is_prop→PathP}
use Rattle.std.specs.Coded.{le_prop}
use Rattle.areas.specs.Areas.{Tiles, Tiles-prop, same_ref}
use Rattle.packed.specs.Kept.{Begins, Begins-prop, Within, Within-prop}
use Rattle.packed.specs.Packing.{Added}
use Rattle.packed.specs.declared.sink.PackedSink.{PackedSink}

pub once : (s : PackedSink) (p : List ℕ) (a b : PackedSink) → Added s p a → Added s p b → a ≡ b
once s p a b x y =
    let area : a.area ≡ b.area = same_ref s.area a.area b.area x.lent.0 y.lent.0 (x.area ∙ sym y.area) in
    let table : a.table ≡ b.table = same_ref s.table a.table b.table x.lent.1 y.lent.1 (x.table ∙ sym y.table) in
    let count : a.count ≡ b.count = x.count ∙ sym y.count in
    λ i. record {
      area = area i;
      table = table i;
      count = count i;
      few = is_prop→PathP (λ j. count j ≤ length (table j).now) (λ j. le_prop) a.few b.few i;
      tiled = is_prop→PathP (λ j. Tiles 4 (take (count j) (table j).now)) (λ j. Tiles-prop 4 (take (count j) (table j).now)) a.tiled b.tiled i;
      begins = is_prop→PathP (λ j. Begins (area j).now) (λ j. Begins-prop (area j).now) a.begins b.begins i;
      within = is_prop→PathP (λ j. Within (area j).now (take (count j) (table j).now)) (λ j. Within-prop (area j).now (take (count j) (table j).now)) a.within b.within i;
    }
