use Rattle.std.proofs.Common.{◌≡◌, ◌≤◌, true, length, Ok, Err, sym, ap, ◌∙◌, subst}
use Rattle.std.proofs.lemmas.Result.{err_from_is_err_and}
use Rattle.refusals.specs.Refusals.{tested}
use Rattle.ledger.specs.Context.{Context, layout, accepted}
use Rattle.ledger.specs.Batches.{Batch, taken, needed, Admitted}
use Rattle.ledger.specs.Pages.{join, plains}
use Rattle.ledger.specs.Answers.{batch_tests}
use Rattle.intake.specs.Admitting.{batch_of, intake_of}
use Rattle.open_page.specs.Opened.{Opened}
use Rattle.chunk.specs.Histories.{with_ledger}
use Rattle.chunk.specs.Stands.{context_in}
use Rattle.chunk.proofs.Contexts.{history, by_own}
use Rattle.chunk.proofs.Ending.{open_accepted}
use Rattle.open_page.proofs.Accepted.{not_due_light}
use Rattle.chunk.proofs.Batching.{Passes, passes, batch_refused, more_stands, batch_stood}
use Rattle.chunk.proofs.state.State.batch.Goals as goal

pub returns-in_err-intake-clause-called : goal.returns-in_err-intake-clause-called
returns-in_err-intake-clause-called g c = λ h s.
    let b : Batch = batch_of g.V.ValueOf.bytes c.args.batch in
    let p = err_from_is_err_and c.from_residual.result c.from_residual.ensures.1 in
    batch_refused h b c.args.self.now s c.args.scratch.now c.from_residual.result c.in_err-intake.field-0.0 (p.1 ∙ ap Err p.2)
    (sym (c.test_batch.ensures.tests h s) ∙ c.in_err-intake.was)

pub returns-clause-called : goal.returns-clause-called
returns-clause-called g c = by_own c.args.self.now _ (λ o l s.
    let x : Context = context_in c.args.self.now in
    let h = history x o l in
    let b : Batch = batch_of g.V.ValueOf.bytes c.args.batch in
    let t : tested (batch_tests x (length c.args.scratch.now) l b) (Ok (intake_of (layout x) b)) ≡ Ok c.in_ok-intake.intake = sym (c.test_batch.ensures.tests h s) ∙ c.in_ok-intake.was in
    let k : Passes x l b c.in_ok-intake.intake = passes x (length c.args.scratch.now) l b c.in_ok-intake.intake t in
    let a : accepted x ≡ true = open_accepted l.phase (accepted x) k.begun s.phase.allowed in
    let e = c.layout-layout.ensures in
    let w : Opened x.kind (layout x) (join l.page (taken (layout x) b)) c.write_mini_batch.new.self =
    subst (λ y. Opened x.kind y (join l.page (taken y b)) c.write_mini_batch.new.self) e
    (c.write_mini_batch.ensures l.page (subst (λ y. Opened x.kind y l.page c.args.self.now.page) (sym e) s.page)
    (subst (λ y. Admitted y b) (sym e) k.fits) (k.values ∙ ap (λ y. needed y b) (sym e)) k.room
    (subst (λ y. length (plains y.width l.page.values) ≤ 4095) (sym e) (not_due_light x a l.page s.page.well k.waits))) in
    batch_stood h b c.args.self.now s c.args.scratch.now c.in_ok-intake.intake c.write_mini_batch.new.self c.settle.result c.settle.new.self c.settle.new.scratch t
    (c.settle.ensures (with_ledger h (Rattle.ledger.specs.Ledger.adds l (taken (layout x) b))) (more_stands h b c.args.self.now s (taken (layout x) b) c.write_mini_batch.new.self k.begun w)))
