use Rattle.std.proofs.Common.{◌≡◌, ℕ, length, take, Ok, Err, sym, ap, ◌∙◌, subst, arith}
use Rattle.std.proofs.Math.Logic.{∥∥₁_elim}
use mathlib.Core.HLevel.{⊥_prop}
use Rattle.std.proofs.lemmas.Bool.{true≢false}
use Rattle.std.proofs.lemmas.Result.{err_from_is_err_and}
use Rattle.sinks.specs.Sinks.{Grown}
use Rattle.ledger.specs.Context.{Context, layout, bytes, accepted}
use Rattle.ledger.specs.Ledger.{is_open}
use Rattle.ledger.specs.Pages.{blank}
use Rattle.ledger.specs.Answers.{write_tests}
use Rattle.refusals.specs.Refusals.{tested}
use Rattle.open_page.specs.Pages.{Allowed}
use Rattle.open_page.specs.Opened.{Opened}
use Rattle.chunk.specs.Stands.{context_in}
use Rattle.open_page.proofs.Accepted.{layout_allowed}
use Rattle.chunk.proofs.Contexts.{history, by_own}
use Rattle.chunk.proofs.Ending.{open_accepted}
use Rattle.chunk.proofs.Turning.{wrote_nothing, wrote_page, refused_as, may_write, front, logged_more}
use Rattle.chunk.proofs.state.State.add_data_page.Goals as goal

pub returns-then-level_count-eq0-clause-wrote : goal.returns-then-level_count-eq0-clause-wrote
returns-then-level_count-eq0-clause-wrote g c = λ h s.
    wrote_nothing h c.args.self.now s c.args.scratch.now
    (sym (c.level_count.ensures.page h.context.kind (layout h.context) h.ledger.page s.page) ∙ c.if-level_count-eq0.true)

pub returns-in_err-size-clause-wrote : goal.returns-in_err-size-clause-wrote
returns-in_err-size-clause-wrote g c = λ h s. let e = sym (c.page_size.ensures h s).0 ∙ c.in_err-size.was in cc

pub returns-in_err-test_write-clause-wrote : goal.returns-in_err-test_write-clause-wrote
returns-in_err-test_write-clause-wrote g c = λ h s.
    let p = err_from_is_err_and c.from_residual-in_err-test_write.result c.from_residual-in_err-test_write.ensures.1 in
    let n : c.in_ok-size.size ≡ length (bytes h.context h.ledger.page) = let e = sym c.in_ok-size.was ∙ (c.page_size.ensures h s).0 in cc in
    refused_as h c.args.self.now s c.args.scratch.now _ _ (p.1 ∙ ap Err p.2)
    (λ z. c.if-level_count-eq0.false (c.level_count.ensures.page h.context.kind (layout h.context) h.ledger.page s.page ∙ z))
    (ap (λ k. tested (write_tests (g.S.PageSink.meaning.takes c.args.self.now.sink) (length h.ledger.pages) k) (Ok tt)) (sym n) ∙ sym (c.test_write.ensures h s) ∙ c.in_err-test_write.was)

-- the page is built, and the sink takes it, on every chunk that stands to a history
pub returns-in_err-size-2-clause-wrote : goal.returns-in_err-size-2-clause-wrote
returns-in_err-size-2-clause-wrote g c = λ h s. let e = sym (c.build_page.ensures.page h s (c.page_size.ensures h s).1).0 ∙ c.in_err-size-2.was in cc

pub returns-in_err-size-2-clause-kept : goal.returns-in_err-size-2-clause-kept
returns-in_err-size-2-clause-kept g c = λ t. absurd (∥∥₁_elim t ⊥_prop (λ q. let e = sym (c.build_page.ensures.page q.0 q.1 (c.page_size.ensures q.0 q.1).1).0 ∙ c.in_err-size-2.was in cc))

-- the sink does not refuse a page that it was asked about
pub returns-in_err-offset-clause-wrote : goal.returns-in_err-offset-clause-wrote
returns-in_err-offset-clause-wrote g c = λ h s.
    let w = g.S.PageSink.meaning in
    let bs = bytes h.context h.ledger.page in
    let b = c.build_page.ensures.page h s (c.page_size.ensures h s).1 in
    let n : c.in_ok-size.size ≡ length bs = let e = sym c.in_ok-size.was ∙ (c.page_size.ensures h s).0 in cc in
    let n2 : c.in_ok-size-2.size ≡ length bs = let e = sym c.in_ok-size-2.was ∙ b.0 in cc in
    let t : tested (write_tests (w.takes c.args.self.now.sink) (length h.ledger.pages) (length bs)) (Ok tt) ≡ Ok tt =
    ap (λ i. tested (write_tests (w.takes c.args.self.now.sink) (length h.ledger.pages) i) (Ok tt)) (sym n) ∙ sym (c.test_write.ensures h s) ∙ c.in_ok-test_write.was in
    let fr : take c.in_ok-size-2.size c.build_page.new.scratch ≡ bs = ap (take c.in_ok-size-2.size) b.1 ∙ front bs c.args.scratch.now c.in_ok-size-2.size n2 in
    absurd (true≢false (sym (may_write h c.args.self.now s t).1 ∙ ap (λ p. w.takes c.args.self.now.sink (length p)) (sym fr) ∙ c.in_err-offset.ensures.0))

pub returns-in_err-offset-clause-kept : goal.returns-in_err-offset-clause-kept
returns-in_err-offset-clause-kept g c = λ t. absurd (∥∥₁_elim t ⊥_prop (λ q.
    let h = q.0 in
    let s = q.1 in
    let w = g.S.PageSink.meaning in
    let bs = bytes h.context h.ledger.page in
    let b = c.build_page.ensures.page h s (c.page_size.ensures h s).1 in
    let n : c.in_ok-size.size ≡ length bs = let e = sym c.in_ok-size.was ∙ (c.page_size.ensures h s).0 in cc in
    let n2 : c.in_ok-size-2.size ≡ length bs = let e = sym c.in_ok-size-2.was ∙ b.0 in cc in
    let t : tested (write_tests (w.takes c.args.self.now.sink) (length h.ledger.pages) (length bs)) (Ok tt) ≡ Ok tt =
    ap (λ i. tested (write_tests (w.takes c.args.self.now.sink) (length h.ledger.pages) i) (Ok tt)) (sym n) ∙ sym (c.test_write.ensures h s) ∙ c.in_ok-test_write.was in
    let fr : take c.in_ok-size-2.size c.build_page.new.scratch ≡ bs = ap (take c.in_ok-size-2.size) b.1 ∙ front bs c.args.scratch.now c.in_ok-size-2.size n2 in
    true≢false (sym (may_write h c.args.self.now s t).1 ∙ ap (λ p. w.takes c.args.self.now.sink (length p)) (sym fr) ∙ c.in_err-offset.ensures.0)))

pub returns-clause-wrote : goal.returns-clause-wrote
returns-clause-wrote g c = by_own c.args.self.now _ (λ o l s.
    let x : Context = context_in c.args.self.now in
    let h = history x o l in
    let m = g.S.PageStore.meaning in
    let w = g.S.PageSink.meaning in
    let k : ℕ = length (bytes x l.page) in
    let few = (c.page_size.ensures h s).1 in
    let b = c.build_page.ensures.page h s few in
    let n : c.in_ok-size.size ≡ k = let e = sym c.in_ok-size.was ∙ (c.page_size.ensures h s).0 in cc in
    let n2 : c.in_ok-size-2.size ≡ k = let e = sym c.in_ok-size-2.was ∙ b.0 in cc in
    let t : tested (write_tests (w.takes c.args.self.now.sink) (length l.pages) k) (Ok tt) ≡ Ok tt =
    ap (λ i. tested (write_tests (w.takes c.args.self.now.sink) (length l.pages) i) (Ok tt)) (sym n) ∙ sym (c.test_write.ensures h s) ∙ c.in_ok-test_write.was in
    let fr : take c.in_ok-size-2.size c.build_page.new.scratch ≡ bytes x l.page = ap (take c.in_ok-size-2.size) b.1 ∙ front (bytes x l.page) c.args.scratch.now c.in_ok-size-2.size n2 in
    let logged = c.add_data_page.ensures x.levels x.body x.column s.offsets l.pages l.page s.log
    (c.metrics.ensures x.kind (layout x) l.page s.page) (c.min.ensures x.kind (layout x) l.page s.page) (c.max.ensures x.kind (layout x) l.page s.page)
    s.page.well n2 (omega (arith, n2, few)) in
    wrote_page h c.args.self.now s c.args.scratch.now c.build_page.new.scratch c.write_page.new.sink c.add_data_page.new.self c.clear.new.self c.in_ok-offset.offset
    (open_accepted l.phase (accepted x) (ap is_open (sym s.phase.same) ∙ c.requires.phase) s.phase.allowed)
    (λ z. c.if-level_count-eq0.false (c.level_count.ensures.page x.kind (layout x) l.page s.page ∙ z)) t
    (subst (λ p. Grown m c.args.self.now.sink p c.in_ok-offset.offset c.write_page.new.sink) fr c.in_ok-offset.ensures.1)
    (logged_more x s.offsets l.pages c.in_ok-offset.offset l.page c.args.self.now.log c.add_data_page.new.self c.add_data_page.result (may_write h c.args.self.now s t).0 logged)
    (subst (λ y. Opened x.kind y blank c.clear.new.self) c.layout-layout.ensures (c.clear.ensures (subst Allowed (sym c.layout-layout.ensures) (layout_allowed x.column x.settings))))
    (subst (λ p. w.leaves c.args.self.now.sink p c.write_page.new.sink) fr c.in_ok-offset.ensures.2)
    b.1)
