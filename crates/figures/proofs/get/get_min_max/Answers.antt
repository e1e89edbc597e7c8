use Rattle.std.proofs.Common.{◌≡◌, ◌+◌, ◌-◌, ◌&&◌, ◌++◌, [], ◌∷◌, length, map, take, drop, sym, ap, ◌∙◌, subst, arith}
use Rattle.std.specs.Option.{option_map}
use Rattle.std.proofs.lemmas.Bool.{and_parts, false≢true}
use Rattle.std.proofs.lemmas.List.{take_all, take_more, take-append-drop, map-append, length-drop}
use Rattle.figures.specs.Figures.{FiguresOf, is_number}
use Rattle.figures.proofs.Joined.{smallest-none, largest-none}
use Rattle.figures.proofs.Walk.{Seen, seen_more}
use Rattle.figures.proofs.get.get_min_max.Goals as goal
use Rattle.figures.proofs.get.get_min_max.Goals.{then-loop-at-test+else-not-are_numbers, else-loop-at-test}

pub loop-at-preserved : goal.loop-at-preserved
loop-at-preserved g c =
    let m = g.K.Kind.meaning in
    let bytes = g.V.ValueOf.bytes in
    let xs = c.args.values.now in
    let i = c.loop-at.at in
    let x = c.index-values-at.result in
    let more : take i xs ++ x ∷ [] ≡ take (i + 1) xs = sym (take_more xs i x (omega arith) ∙ ap (λ y. take i xs ++ y ∷ []) (sym c.index-values-at.is)) in (
      omega (arith, c.loop-at-test.true),
      subst (λ vs. Seen m bytes vs c.update_all.new.min c.update_all.new.max c.update_all.new.nan_count (i + 1)) (sym (map-append bytes (take i xs) (x ∷ [])) ∙ ap (map bytes) more)
          (seen_more m bytes _ _ _ _ _ _ _ _ _ c.loop-at.invariant.1 c.update_all.ensures.min c.update_all.ensures.max c.update_all.ensures.nans),
    )

-- only of no value is a figure absent
pub returns-in_err-min-clause-found : goal.returns-in_err-min-clause-found
returns-in_err-min-clause-found g c =
    let m = g.K.Kind.meaning in
    let bytes = g.V.ValueOf.bytes in
    elim c.loop-at-test.branch [
      | then-loop-at-test+else-not-are_numbers w ↦
          absurd (false≢true (sym (w.if-not-are_numbers.ensures ∙ ap (λ o. is_number m bytes o && is_number m bytes c.loop-at.max) c.in_err-min.was)))
      | else-loop-at-test w ↦
          rw (c.from_residual.ensures, ← take_all c.loop-at.at c.args.values.now (omega (arith, w.loop-at-test)))
          (smallest-none m _ (sym c.loop-at.invariant.1.min ∙ ap (option_map bytes) c.in_err-min.was))
    ]

pub returns-in_err-max-clause-found : goal.returns-in_err-max-clause-found
returns-in_err-max-clause-found g c =
    let m = g.K.Kind.meaning in
    let bytes = g.V.ValueOf.bytes in
    elim c.loop-at-test.branch [
      | then-loop-at-test+else-not-are_numbers w ↦
          absurd (false≢true (sym (ap (is_number m bytes) c.in_err-max.was) ∙ (and_parts (is_number m bytes c.loop-at.min) (is_number m bytes c.loop-at.max) (sym w.if-not-are_numbers.ensures)).1))
      | else-loop-at-test w ↦
          rw (c.from_residual-in_err-max.ensures, ← take_all c.loop-at.at c.args.values.now (omega (arith, w.loop-at-test)))
          (largest-none m _ (sym c.loop-at.invariant.1.max ∙ ap (option_map bytes) c.in_err-max.was))
    ]

pub returns-clause-found : goal.returns-clause-found
returns-clause-found g c =
    let m = g.K.Kind.meaning in
    let bytes = g.V.ValueOf.bytes in
    let xs = c.args.values.now in
    let i = c.loop-at.at in
    let seen = c.loop-at.invariant.1 in
    subst (λ vs. FiguresOf m bytes vs c.add_to_numbers.result)
    (sym (map-append bytes (take i xs) (take (length xs - i) (drop i xs)))
    ∙ ap (λ ys. map bytes (take i xs ++ ys)) (take_all (length xs - i) (drop i xs) (omega (arith, length-drop i xs)))
    ∙ ap (map bytes) (take-append-drop i xs))
    (c.add_to_numbers.ensures (map bytes (take i xs)) (record {
      min = sym seen.min ∙ ap (option_map bytes) c.in_ok-min.was;
      max = sym seen.max ∙ ap (option_map bytes) c.in_ok-max.was;
      nans = seen.nans;
    }))
