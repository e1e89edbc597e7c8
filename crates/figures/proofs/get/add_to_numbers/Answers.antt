use Rattle.std.proofs.Common.{◌≡◌, ◌+◌, ◌++◌, [], ◌∷◌, length, map, take, sym, ap, ◌∙◌}
use Rattle.std.proofs.lemmas.List.{take_more, map-append}
use Rattle.figures.proofs.Walk.{added_nan, added_number}
use Rattle.figures.proofs.get.add_to_numbers.Goals as goal
use Rattle.figures.proofs.get.add_to_numbers.Goals.{then-is_nan, else-is_nan}

pub loop-value-preserved : goal.loop-value-preserved
loop-value-preserved g c =
    let m = g.K.Kind.meaning in
    let bytes = g.V.ValueOf.bytes in
    let xs = c.args.values.now in
    let i = c.loop-value.value-index in
    let v = c.value-item.result in
    let more : map bytes (take i xs) ++ bytes v ∷ [] ≡ map bytes (take (i + 1) xs) =
    sym (map-append bytes (take i xs) (v ∷ [])) ∙ ap (map bytes) (ap (λ y. take i xs ++ y ∷ []) c.value-item.is ∙ sym (take_more xs i v c.loop-value-test.true)) in
    elim c.if-is_nan.branch [
      | then-is_nan w ↦
          rw (w.min-is, w.max-is, w.nan_count-is, ← more)
          (added_nan m g.K.Kind.rank bytes c.args.figures (length xs) i (map bytes (take i xs)) c.loop-value.min c.loop-value.max c.loop-value.nan_count v
          c.loop-value-test.true (sym w.if-is_nan.ensures) c.loop-value.invariant)
      | else-is_nan w ↦
          let same = w.with_rank-value.ensures.value in
          rw (w.min-is, w.max-is, w.nan_count-is, ← more, ← same)
          (added_number m g.K.Kind.rank bytes c.args.figures (length xs) i (map bytes (take i xs)) c.loop-value.min c.loop-value.max w.lesser-min.result w.higher-max.result
          w.with_rank-value.result c.loop-value.nan_count c.loop-value-test.true (ap (λ x. m.nan (bytes x)) same ∙ sym w.if-is_nan.ensures)
          w.with_rank-value.ensures.rank w.lesser-min.ensures w.higher-max.ensures c.loop-value.invariant)
    ]
