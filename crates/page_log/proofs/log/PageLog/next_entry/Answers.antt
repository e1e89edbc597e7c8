use Rattle.ledger.specs.Context.{layout}
use Rattle.page_log.specs.Logs.{context}
use Rattle.page_log.proofs.log.PageLog.next_entry.Goals as goal

pub returns : goal.returns
returns g c = λ d b col ps p first t lo hi w size.
    let x = context g.K.Kind.meaning d b col c.args.settings in
    let marks = c.marks_in.ensures (layout x) p w.counted t lo hi in
    λ i. record { offset = c.args.offset; size = size i; levels = t.levels i; first_row = first i; marks = marks i }
