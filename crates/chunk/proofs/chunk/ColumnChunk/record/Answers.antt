use Rattle.std.proofs.Common.{◌≡◌, true, sym, ap, ◌∙◌}
use Rattle.ledger.specs.Ledger.{has_record}
use Rattle.page_log.specs.Records.{said_record}
use Rattle.chunk.proofs.Recording.{no_record, recorded}
use Rattle.chunk.proofs.chunk.ColumnChunk.record.Goals as goal

pub returns-then-not-has_record-clause-recorded : goal.returns-then-not-has_record-clause-recorded
returns-then-not-has_record-clause-recorded g c = λ h s.
    no_record h (ap has_record (sym s.phase.same) ∙ sym c.has_record.ensures ∙ c.if-not-has_record.true)

pub returns-clause-recorded : goal.returns-clause-recorded
returns-clause-recorded g c = λ h s.
    let e : has_record h.ledger.phase ≡ true = ap has_record (sym s.phase.same) ∙ sym c.has_record.ensures ∙ c.if-not-has_record.false in
    recorded h (said_record c.record.result) e (s.phase.ended e) (c.record.ensures h.context s.offsets h.ledger.pages (ap (λ x. x.settings.mode) s.opened) s.log)
