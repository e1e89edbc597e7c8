use Rattle.std.proofs.Common.{◌≡◌, ◌+◌, ◌≤◌, ℕ, true, nat_eq, List, map, length, take, sym, ap, ◌∙◌, subst, arith}
use Rattle.std.specs.List.{AllByRecursion}
use Rattle.std.proofs.lemmas.List.{take-map, append-nil, length-map, length-take-le}
use Rattle.std.proofs.lemmas.List.Sums.{count_by-le-length}
use Rattle.kinds.specs.Plain.{sized}
use Rattle.ledger.specs.Pages.{join, plains}
use Rattle.ledger.specs.Batches.{Batch, reps_of, defs_of, values_of, needed}
use Rattle.intake.specs.Admitting.{batch_of}
use Rattle.open_page.specs.Opened.{Holds, slots, filled}
use Rattle.open_page.proofs.Joining.{well-join}
use Rattle.open_page.proofs.Pushing.{join_both}
use Rattle.open_page.proofs.page.OpenPage.write_mini_batch.Goals as goal

pub returns : goal.returns
returns g c = λ p o a n few light.
    let m = g.K.Kind.meaning in
    let l = c.args.layout in
    let w = l.width in
    let bytes = g.V.ValueOf.bytes in
    let b : Batch = batch_of bytes c.args.batch in
    let given = c.args.batch.values.now in
    let ws : List (List ℕ) = map bytes c.first.result.now in
    let rs : List ℕ = reps_of l b in
    let ds : List ℕ = defs_of l b in
    let there : c.args.needed ≤ length given = omega (arith, n, a.enough, length-map given bytes) in
    let is : ws ≡ values_of l b = ap (map bytes) (c.first.ensures there) ∙ sym (take-map bytes c.args.needed given) ∙ ap (λ k. take k b.values) n in
    let room : length p.defs + c.args.batch.count ≤ 1024 = few in
    let mid : Holds m l (join p (slots rs ds)) c.write_levels.new.self =
    c.write_levels.ensures m p a.few
    (record { count = a.rep_count; range = a.rep_range })
    (record { count = a.def_count; range = a.def_range })
    (omega (arith, room, o.well.paired)) room o.holds in
    let old : length (join p (slots rs ds)).values ≡ length p.values = ap length (append-nil p.values) in
    let old-plains : plains w (join p (slots rs ds)).values ≡ plains w p.values = ap (plains w) (append-nil p.values) in
    let more : length ws ≤ 256 =
    omega (arith, ap length is, length-take-le (needed l b) b.values a.enough, count_by-le-length (nat_eq l.max_def_level) ds, a.def_count, a.few) in
    let kept : length p.values ≤ 1024 = omega (arith, o.well.counted, count_by-le-length (nat_eq l.max_def_level) p.defs, o.well.few) in
    let all : Holds m l (join (join p (slots rs ds)) (filled ws)) c.write_values.new.self =
    c.write_values.ensures (join p (slots rs ds)) o.allowed.width
    (subst (AllByRecursion (λ v. sized w v ≡ true)) (sym is) a.sizes)
    (omega (arith, old, more, kept))
    (omega (arith, ap length old-plains, ap (λ x. length (plains w x)) is, a.light, light))
    mid in
    record {
      holds =
          subst (λ q. Holds m l q c.write_values.new.self)
          (join_both p rs ds ws ∙ ap (λ vs. join p (record { reps = rs; defs = ds; values = vs })) is) all;
      well = well-join l p b o.well a few light;
      allowed = o.allowed;
    }
