use Rattle.std.proofs.Common.{◌≡◌, Err, true, false, sym, ap, ◌∙◌, arith}
use Rattle.std.proofs.lemmas.Result.{err_from_is_err_and}
use Rattle.ledger.specs.Context.{Context, layout, due}
use Rattle.ledger.specs.Pages.{levels}
use Rattle.ledger.specs.Ledger.{is_open}
use Rattle.ledger.specs.Batches.{Batch}
use Rattle.intake.specs.Admitting.{batch_of, admission}
use Rattle.chunk.specs.Stands.{context_in}
use Rattle.chunk.proofs.Contexts.{history, by_own}
use Rattle.chunk.proofs.Tests.{refused_due, refused_scratch, refused_intake, refused_levels, passed_all}
use Rattle.chunk.proofs.state.State.test_batch.Goals as goal

pub returns-then-is_due-clause-tests : goal.returns-then-is_due-clause-tests
returns-then-is_due-clause-tests g c = by_own c.args.self.now _ (λ o l s.
    let x : Context = context_in c.args.self.now in
    let b : Batch = batch_of g.V.ValueOf.bytes c.args.batch in
    let e : is_open l.phase ≡ true = ap is_open (sym s.phase.same) ∙ sym c.is_open.ensures ∙ c.if-not-is_open.false in
    let d : due x l.page ≡ true = sym (c.is_due.ensures (history x o l) s) ∙ c.if-is_due.true in
    sym (refused_due x c.args.room l b e d))

pub returns-then-room-lt9227-clause-tests : goal.returns-then-room-lt9227-clause-tests
returns-then-room-lt9227-clause-tests g c = by_own c.args.self.now _ (λ o l s.
    let x : Context = context_in c.args.self.now in
    let b : Batch = batch_of g.V.ValueOf.bytes c.args.batch in
    let e : is_open l.phase ≡ true = ap is_open (sym s.phase.same) ∙ sym c.is_open.ensures ∙ c.if-not-is_open.false in
    let d : due x l.page ≡ false = sym (c.is_due.ensures (history x o l) s) ∙ c.if-is_due.false in
    sym (refused_scratch x c.args.room l b e d c.if-room-lt9227.true))

pub returns-in_err-intake-clause-tests : goal.returns-in_err-intake-clause-tests
returns-in_err-intake-clause-tests g c = by_own c.args.self.now _ (λ o l s.
    let x : Context = context_in c.args.self.now in
    let b : Batch = batch_of g.V.ValueOf.bytes c.args.batch in
    let e : is_open l.phase ≡ true = ap is_open (sym s.phase.same) ∙ sym c.is_open.ensures ∙ c.if-not-is_open.false in
    let d : due x l.page ≡ false = sym (c.is_due.ensures (history x o l) s) ∙ c.if-is_due.false in
    let p = err_from_is_err_and c.from_residual.result c.from_residual.ensures.1 in
    p.1 ∙ ap Err p.2 ∙ sym (refused_intake x c.args.room l b c.in_err-intake.field-0.0 e d c.if-room-lt9227.false (ap (λ y. admission y b) (sym c.layout.ensures) ∙ sym c.admit.ensures.answer ∙ c.in_err-intake.was)))

pub overflow_add-level_count : goal.overflow_add-level_count
overflow_add-level_count g c = omega (arith, c.level_count.ensures.few, c.in_ok-intake.ensures.admits)

pub returns-then-level_count-batch-gt1024-clause-tests : goal.returns-then-level_count-batch-gt1024-clause-tests
returns-then-level_count-batch-gt1024-clause-tests g c = by_own c.args.self.now _ (λ o l s.
    let x : Context = context_in c.args.self.now in
    let b : Batch = batch_of g.V.ValueOf.bytes c.args.batch in
    let e : is_open l.phase ≡ true = ap is_open (sym s.phase.same) ∙ sym c.is_open.ensures ∙ c.if-not-is_open.false in
    let d : due x l.page ≡ false = sym (c.is_due.ensures (history x o l) s) ∙ c.if-is_due.false in
    let n : c.level_count.result ≡ levels l.page = c.level_count.ensures.page x.kind (layout x) l.page s.page in
    sym (refused_levels x c.args.room l b _ e d c.if-room-lt9227.false (ap (λ y. admission y b) (sym c.layout.ensures) ∙ sym c.admit.ensures.answer ∙ c.in_ok-intake.was) (omega (arith, n))))

pub returns-clause-tests : goal.returns-clause-tests
returns-clause-tests g c = by_own c.args.self.now _ (λ o l s.
    let x : Context = context_in c.args.self.now in
    let b : Batch = batch_of g.V.ValueOf.bytes c.args.batch in
    let e : is_open l.phase ≡ true = ap is_open (sym s.phase.same) ∙ sym c.is_open.ensures ∙ c.if-not-is_open.false in
    let d : due x l.page ≡ false = sym (c.is_due.ensures (history x o l) s) ∙ c.if-is_due.false in
    let n : c.level_count.result ≡ levels l.page = c.level_count.ensures.page x.kind (layout x) l.page s.page in
    sym (passed_all x c.args.room l b _ e d c.if-room-lt9227.false (ap (λ y. admission y b) (sym c.layout.ensures) ∙ sym c.admit.ensures.answer ∙ c.in_ok-intake.was) (omega (arith, n))))
