use Rattle.std.proofs.Common.{◌≡◌, true, ap, ◌∙◌, sym, subst}
use Rattle.pages.specs.Layout.{page_bytes}
use Rattle.kinds.specs.Plain.{Laid}
use Rattle.ledger.specs.Context.{Context, bytes, accepted}
use Rattle.ledger.specs.Ledger.{is_open}
use Rattle.ledger.specs.Pages.{Page}
use Rattle.open_page.specs.Pages.{Joinable}
use Rattle.open_page.specs.Opened.{Opened}
use Rattle.pages.specs.declared.fault.PageFault.TheVariants.{Scratch}
use Rattle.refusals.specs.declared.fault.ChunkFault.TheVariants.{Page as OfPage}
use Rattle.chunk.specs.Stands.{context_in}
use Rattle.chunk.proofs.Contexts.{by_own}
use Rattle.chunk.proofs.Ending.{open_accepted}
use Rattle.open_page.proofs.Accepted.{accepted_joinable}
use Rattle.chunk.proofs.Writing.{built}
use Rattle.chunk.proofs.state.State.build_page.Goals as goal

pub returns-clause-page : goal.returns-clause-page
returns-clause-page g c = by_own c.args.self.now _ (λ o l s few.
    let x : Context = context_in c.args.self.now in
    let a : accepted x ≡ true = open_accepted l.phase (accepted x) (ap is_open (sym s.phase.same) ∙ c.requires.phase) s.phase.allowed in
    let f : Laid (bytes x l.page) c.args.scratch.now c.assemble-size.new.out c.assemble-size.result = subst (λ y. Laid (page_bytes x.levels x.body y l.page.reps l.page.defs (Rattle.ledger.specs.Pages.plains y.width l.page.values)) c.args.scratch.now c.assemble-size.new.out c.assemble-size.result) c.layout.ensures (c.assemble-size.ensures.page x.kind l.page (subst (λ y. Opened x.kind y l.page c.args.self.now.page) (sym c.layout.ensures) s.page) (subst (Joinable x.body) (sym c.layout.ensures) (accepted_joinable x a))) in
    built (bytes x l.page) c.args.scratch.now c.assemble-size.new.out c.assemble-size.result c.ok_or.result (OfPage Scratch) few f c.requires.room c.ok_or.ensures.value)
