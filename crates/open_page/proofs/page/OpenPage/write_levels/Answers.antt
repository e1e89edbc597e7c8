use Rattle.std.proofs.Common.{◌≡◌, List, ℕ, length, ap, ◌∙◌, subst, arith}
use Rattle.level_data.specs.Levels.{levels_of}
use Rattle.ledger.specs.Pages.{join}
use Rattle.ledger.specs.Batches.{levels_at}
use Rattle.open_page.specs.Opened.{Holds, slots}
use Rattle.open_page.proofs.page.OpenPage.write_levels.Goals as goal

pub returns : goal.returns
returns c = λ m p few rg dg rf df h.
    let l = c.args.layout in
    let n = c.args.count in
    let rs : List ℕ = levels_at l.max_rep_level n (levels_of c.args.reps) in
    let ds : List ℕ = levels_at l.max_def_level n (levels_of c.args.defs) in
    let er : c.first.result.now ≡ rs = c.first.ensures (omega arith) ∙ c.batch_levels-reps.ensures few rg in
    let ed : c.first-2.result.now ≡ ds = c.first-2.ensures (omega arith) ∙ c.batch_levels-defs.ensures few dg in
    subst (λ x. Holds m l (join p (slots x ds)) c.push_levels.new.self) er
    (subst (λ x. Holds m l (join p (slots c.first.result.now x)) c.push_levels.new.self) ed
    (c.push_levels.ensures m p (omega (arith, ap length er, rg.count, rf)) (omega (arith, ap length ed, dg.count, df)) h))
