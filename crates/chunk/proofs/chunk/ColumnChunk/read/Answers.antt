use Rattle.std.proofs.Common.{◌≡◌, ℕ, length, take, Err, sym, ap, ◌∙◌, subst, arith}
use Rattle.std.proofs.lemmas.Result.{err_from_is_err_and}
use Rattle.pages.specs.Counts.{byte_count, Counted}
use Rattle.pages.specs.Reading.{PageRead}
use Rattle.ledger.specs.Context.{Context, layout, bytes}
use Rattle.ledger.specs.Pages.{Page, levels, blank}
use Rattle.open_page.specs.Pages.{WellFormed}
use Rattle.chunk.specs.Stands.{context_in}
use Rattle.chunk.proofs.Contexts.{history, by_own}
use Rattle.chunk.specs.Reads.{offset_of, page_of}
use Rattle.pages.specs.declared.fault.PageFault.TheVariants.{ReadLists}
use Rattle.refusals.specs.declared.fault.ChunkFault.TheVariants.{Page as OfPage}
use Rattle.chunk.proofs.Places.{entry_ok, entry_err, all_at}
use Rattle.chunk.proofs.Lists.{read_back, read_past, read_there, read_from}
use Rattle.chunk.proofs.chunk.ColumnChunk.read.Goals as goal

pub returns-in_err-entry-clause-page : goal.returns-in_err-entry-clause-page
returns-in_err-entry-clause-page g c = by_own c.args.self.now.state _ (λ o l s.
    let x : Context = context_in c.args.self.now.state in
    let y = history x o l in
    let p = err_from_is_err_and c.from_residual.result c.from_residual.ensures.1 in
    let e = entry_err y (offset_of o (g.S.PageStore.meaning.offsets c.args.self.now.state.sink) c.args.k) c.args.k c.in_err-entry.field-0.0 (c.in_err-entry.ensures.entered y s).answer in
    read_past y c.args.k c.args.reps.now c.args.defs.now c.args.plain.now c.from_residual.result c.in_err-entry.field-0.0 (p.1 ∙ ap Err p.2) e.1 e.0)

pub returns-in_err-size-clause-page : goal.returns-in_err-size-clause-page
returns-in_err-size-clause-page g c = by_own c.args.self.now.state _ (λ o l s.
    let x : Context = context_in c.args.self.now.state in
    let y = history x o l in
    let e = entry_ok y (offset_of o (g.S.PageStore.meaning.offsets c.args.self.now.state.sink) c.args.k) c.args.k c.in_ok-entry.entry (c.in_ok-entry.ensures.entered y s).answer in
    let f = sym (c.copy_page.ensures.page y s e.0 (omega arith)).0 ∙ c.in_err-size.was in
    cc)

pub returns-clause-page : goal.returns-clause-page
returns-clause-page g c = by_own c.args.self.now.state _ (λ o l s.
    let x : Context = context_in c.args.self.now.state in
    let y = history x o l in
    let k : ℕ = c.args.k in
    let p : Page = page_of l k in
    let e = entry_ok y (offset_of o (g.S.PageStore.meaning.offsets c.args.self.now.state.sink) k) k c.in_ok-entry.entry (c.in_ok-entry.ensures.entered y s).answer in
    let copied = c.copy_page.ensures.page y s e.0 (omega arith) in
    let n : c.in_ok-size.size ≡ length (bytes x p) = let z = sym c.in_ok-size.was ∙ copied.0 in cc in
    let page : take c.in_ok-size.size c.copy_page.new.room ≡ bytes x p = ap (λ i. take i c.copy_page.new.room) n ∙ copied.1 in
    let lv : c.in_ok-entry.entry.levels ≡ levels p = ap (λ y. y.levels) e.1 in
    let well : WellFormed (layout x) p = all_at (WellFormed (layout x)) l.pages k blank s.log.well e.0 in
    let lay = c.layout-layout.ensures in
    let ro = c.args.reps.now in
    let dn = c.args.defs.now in
    let po = c.args.plain.now in
    let ro' = c.read_page-counts.new.reps in
    let dn' = c.read_page-counts.new.defs in
    let po' = c.read_page-counts.new.plain in
    let r = c.read_page-counts.result in
    let bs = take c.in_ok-size.size c.copy_page.new.room in
    let h : PageRead x.levels x.body (layout x) (levels p) (bytes x p) ro dn po ro' dn' po' (byte_count r) =
    subst (λ y. PageRead x.levels x.body (layout x) (levels p) y ro dn po ro' dn' po' (byte_count r)) page
    (subst (λ y. PageRead x.levels x.body (layout x) y bs ro dn po ro' dn' po' (byte_count r)) lv
    (subst (λ y. PageRead x.levels x.body y c.in_ok-entry.entry.levels bs ro dn po ro' dn' po' (byte_count r)) lay c.read_page-counts.ensures.read)) in
    let t : Counted (layout x) (levels p) dn' r =
    subst (λ y. Counted (layout x) y dn' r) lv (subst (λ y. Counted y c.in_ok-entry.entry.levels dn' r) lay c.read_page-counts.ensures.counts) in
    let b = read_back x p (s.phase.written (omega (arith, e.0))) s.page.allowed well ro dn po ro' dn' po' r c.ok_or.result h t c.ok_or.ensures.value in
    read_there y k ro dn po c.ok_or.result ro' dn' po' e.0 b.0 b.1 b.2 b.3)

pub returns-clause-from_sink : goal.returns-clause-from_sink
returns-clause-from_sink g c =
    let lay = c.layout-layout.ensures in
    let n = c.in_ok-entry.entry.levels in
    let bs = take c.in_ok-size.size c.copy_page.new.room in
    let r = c.read_page-counts.result in
    let ro' = c.read_page-counts.new.reps in
    let dn' = c.read_page-counts.new.defs in
    let po' = c.read_page-counts.new.plain in
    read_from (context_in c.args.self.now.state) n bs _ c.args.reps.now c.args.defs.now c.args.plain.now ro' dn' po' r c.ok_or.result (OfPage ReadLists)
    (c.copy_page.ensures.from_sink c.in_ok-size.size c.in_ok-size.was)
    (subst (λ y. PageRead g.L.LevelCoder.coding g.B.BodyCoder.body y n bs c.args.reps.now c.args.defs.now c.args.plain.now ro' dn' po' (byte_count r)) lay c.read_page-counts.ensures.read)
    (subst (λ y. Counted y n dn' r) lay c.read_page-counts.ensures.counts)
    c.ok_or.ensures.value
