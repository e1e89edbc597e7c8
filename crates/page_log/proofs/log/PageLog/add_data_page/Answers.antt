use Rattle.std.proofs.Common.{◌<◌, length, Option, sum_by, sym, subst, ◌∙◌, arith}
use Rattle.ledger.specs.Context.{Context, layout, bytes}
use Rattle.ledger.specs.Pages.{joined}
use Rattle.ledger.specs.Records.{value_pairs, stored_pairs}
use Rattle.page_log.specs.Logs.{context, Logs}
use Rattle.page_log.proofs.Logging.{entry_count, few_more, logged_more}
use Rattle.page_log.proofs.log.PageLog.add_data_page.Goals as goal

pub returns-in_err-push : goal.returns-in_err-push
returns-in_err-push g c = λ d b col os ps p t u lo hi w size short.
    let x : Context = context g.K.Kind.meaning d b col c.args.settings in
    let old = c.args.self.now in
    let P : Option (Unit {0}) → Type 0 = λ r. Logs x os ps c.args.offset p old (record { entries = c.push.new.self; metrics = old.metrics; values = old.values; stored = old.stored }) r in
    subst P (sym c.from_residual.ensures)
    (sym (entry_count x os ps old t) ∙ c.in_err-push.ensures.0, λ i. record old { entries = c.in_err-push.ensures.1 i })

pub returns : goal.returns
returns g c = λ d b col os ps p t u lo hi w size short.
    let x : Context = context g.K.Kind.meaning d b col c.args.settings in
    let old = c.args.self.now in
    let n = sum_by (λ q. length (bytes x q)) ps in
    let few = few_more x os ps c.args.size p old t w short in
    let pushed = c.in_ok-push.ensures in
    let room : length ps < 64 = omega (arith, pushed.0, entry_count x os ps old t) in
    let is = c.next_entry-entry.ensures d b col ps p t.sums.rows u lo hi w size in
    let sums = c.add_page.ensures (layout x) (joined ps) p n few.reps few.defs few.values few.bytes t.sums u lo hi in
    let values = c.track_values.ensures (value_pairs x.kind ps) t.values in
    let stored = c.track_stored.ensures (stored_pairs x.kind x.settings.cut_length ps) t.stored in
    (room, logged_more x os ps c.args.offset c.args.size p c.args.min.now c.args.max.now old _ _ _ _ _ t w size short lo hi room pushed.1 is sums values stored)
