use Rattle.std.proofs.Common.{◌≡◌, ◌+◌, ap, ◌∙◌, arith, sym}
use Rattle.std.specs.List.{slice_get}
use Rattle.ledger.specs.Context.{bytes}
use Rattle.pages.specs.declared.fault.PageFault.TheVariants.{NoPage}
use Rattle.refusals.specs.declared.fault.ChunkFault.TheVariants.{Page as OfPage}
use Rattle.chunk.specs.Reads.{page_of}
use Rattle.chunk.proofs.Places.{bytes_here, short_here, copied, copied_from}
use Rattle.chunk.proofs.chunk.ColumnChunk.copy_page.Goals as goal

pub returns-clause-page : goal.returns-clause-page
returns-clause-page g c = λ y s h room.
    let m = g.S.PageStore.meaning in
    let k = c.args.k in
    let at : c.in-Some.at ≡ c.args.self.now.state.base + k = c.in-Some.ensures.1 in
    copied (bytes y.context (page_of y.ledger k)) c.args.room.now c.copy.new.out c.copy.result c.found.result (OfPage NoPage) _
    (ap (slice_get (m.pages c.args.self.now.state.sink)) at ∙ bytes_here y c.args.self.now.state s k h)
    (omega (arith, short_here y c.args.self.now.state s k h, room))
    c.copy.ensures c.found.ensures

pub returns-in_default-clause-page : goal.returns-in_default-clause-page
returns-in_default-clause-page g c = λ y s h room. absurd (c.in_default.ensures (omega (arith, s.base.few, s.log.few, h)))

pub returns-clause-from_sink : goal.returns-clause-from_sink
returns-clause-from_sink g c = λ n h.
    let m = g.S.PageStore.meaning in
    ap (slice_get (m.pages c.args.self.now.state.sink)) (sym c.in-Some.ensures.1)
    ∙ copied_from c.args.room.now c.copy.new.out c.copy.result c.found.result (OfPage NoPage) (slice_get (m.pages c.args.self.now.state.sink) c.in-Some.at) c.copy.ensures c.found.ensures n h
