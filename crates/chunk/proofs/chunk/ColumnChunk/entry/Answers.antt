use Rattle.std.proofs.Common.{Some, sym, ap, ◌∙◌}
use Rattle.ledger.specs.Entries.{entry, first_row}
use Rattle.chunk.specs.Reads.{offset_of, page_of}
use Rattle.chunk.proofs.Places.{entry_answered, offset_here}
use Rattle.chunk.proofs.chunk.ColumnChunk.entry.Goals as goal

pub returns-clause-entered : goal.returns-clause-entered
returns-clause-entered g c = λ h s.
    let k = c.args.k in
    let at = offset_here h c.args.self.now.state s k in
    entry_answered h (offset_of h.before (g.S.PageStore.meaning.offsets c.args.self.now.state.sink) k) k c.entry.result c.found.result c.found.ensures
    (λ i. c.entry.ensures.there h.context s.offsets h.ledger.pages s.log i ∙ ap (λ n. Some (entry h.context n (first_row h.ledger.pages k) (page_of h.ledger k))) (sym at))
    (c.entry.ensures.past h.context s.offsets h.ledger.pages s.log)
