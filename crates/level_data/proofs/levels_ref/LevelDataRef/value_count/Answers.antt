use Rattle.std.proofs.Common.{◌≡◌, ℤ, List, count_by, sym, ap, ◌∙◌, rules}
use Rattle.std.specs.Ordering.{int_eq}
use Rattle.level_data.specs.Levels.{levels_of, value_count}
use Rattle.level_data.proofs.Repeats.{count-same}
use Rattle.level_data.proofs.levels_ref.LevelDataRef.value_count.Goals as goal

pub returns-in-Materialized : goal.returns-in-Materialized
returns-in-Materialized c =
    let ls : List ℤ = c.in-Materialized.levels.now in
    let e : c.count.result ≡ count_by (λ x. int_eq x c.args.max_def) ls = search rules in
    e ∙ count-same c.args.max_def ls ∙ ap (λ d. value_count c.args.total c.args.max_def (levels_of d)) (sym c.in-Materialized.is)
