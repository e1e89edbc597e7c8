use Rattle.std.proofs.Common.{◌≡◌, true, ap, ◌∙◌, sym, subst}
use Rattle.std.specs.Option.{ok_or}
use Rattle.pages.specs.Layout.{page_bytes}
use Rattle.ledger.specs.Context.{Context, bytes, accepted}
use Rattle.ledger.specs.Ledger.{is_open}
use Rattle.open_page.specs.Pages.{Joinable}
use Rattle.open_page.specs.Opened.{Opened, Sized}
use Rattle.pages.specs.declared.fault.PageFault.TheVariants.{Scratch}
use Rattle.refusals.specs.declared.fault.ChunkFault.TheVariants.{Page as OfPage}
use Rattle.chunk.specs.Stands.{context_in}
use Rattle.chunk.proofs.Contexts.{by_own}
use Rattle.chunk.proofs.Ending.{open_accepted}
use Rattle.open_page.proofs.Accepted.{accepted_joinable}
use Rattle.chunk.proofs.state.State.page_size.Goals as goal

pub returns : goal.returns
returns g c = by_own c.args.self.now _ (λ o l s.
    let x : Context = context_in c.args.self.now in
    let a : accepted x ≡ true = open_accepted l.phase (accepted x) (ap is_open (sym s.phase.same) ∙ c.requires.phase) s.phase.allowed in
    let f : Sized (bytes x l.page) c.size-size.result = subst (λ y. Sized (page_bytes x.levels x.body y l.page.reps l.page.defs (Rattle.ledger.specs.Pages.plains y.width l.page.values)) c.size-size.result) c.layout.ensures (c.size-size.ensures x.kind l.page (subst (λ y. Opened x.kind y l.page c.args.self.now.page) (sym c.layout.ensures) s.page) (subst (Joinable x.body) (sym c.layout.ensures) (accepted_joinable x a))) in
    (c.ok_or.ensures.value ∙ ap (λ r. ok_or r (OfPage Scratch)) f.0, f.1))
