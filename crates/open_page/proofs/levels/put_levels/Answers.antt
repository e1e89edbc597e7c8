use Rattle.std.proofs.Common.{min, length, replicate, sym, ap, ◌∙◌, subst, w16, SFits, rules, arith}
use Rattle.std.proofs.lemmas.Int.{to_z-of_z}
use Rattle.level_data.specs.Levels.{levels_of}
use Rattle.ledger.specs.Batches.{natural, levels_at}
use Rattle.open_page.specs.Opened.{Given}
use Rattle.open_page.proofs.Given.{listed, repeated}
use Rattle.open_page.proofs.levels.put_levels.Goals as goal

pub returns-in-Materialized : goal.returns-in-Materialized
returns-in-Materialized c = λ g.
    let most = c.args.max in
    let n = length c.args.levels.now in
    let is = ap levels_of c.in-Materialized.is in
    listed most n (omega arith) (omega arith) c.in-Materialized.given.now (subst (Given most n) is g) c.put_listed.new.levels c.put_listed.ensures ∙ ap (levels_at most n) (sym is)

pub returns-in-Uniform : goal.returns-in-Uniform
returns-in-Uniform c = λ g.
    let most = c.args.max in
    let n = length c.args.levels.now in
    let is = ap levels_of c.in-Uniform.is in
    let fits : SFits w16 c.in-Uniform.value = search rules in
    repeated most n (omega arith) (omega arith) c.in-Uniform.count c.in-Uniform.value (subst (Given most n) is g) c.put_repeated-in-Uniform.new.levels
    (c.put_repeated-in-Uniform.ensures ∙ ap (replicate n) c.level_of.ensures ∙ ap (λ x. replicate n (min (natural x) 255)) (to_z-of_z w16 c.in-Uniform.value fits)) ∙ ap (levels_at most n) (sym is)
