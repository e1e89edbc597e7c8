use Rattle.std.proofs.Common.{◌≡◌, [], sym, refl, ap, ◌∙◌, subst, append-nil, arith}
use Rattle.ledger.specs.Context.{Context}
use Rattle.ledger.specs.Pages.{blank}
use Rattle.open_page.specs.Pages.{Allowed}
use Rattle.open_page.specs.Opened.{Opened}
use Rattle.page_log.specs.Logs.{context}
use Rattle.chunk.proofs.Openings.{accepted_begins}
use Rattle.open_page.proofs.Accepted.{layout_allowed}
use Rattle.chunk.proofs.state.State.new.Goals as goal

pub returns-clause-stands : goal.returns-clause-stands
returns-clause-stands g c =
    let o = c.new-opening in
    let x : Context = context g.K.Kind.meaning g.L.LevelCoder.coding g.B.BodyCoder.body c.args.column c.args.settings in
    let y : Context = context g.K.Kind.meaning g.L.LevelCoder.coding g.B.BodyCoder.body o.result.column o.result.settings in
    let same : y ≡ x =
    ap (λ col. context g.K.Kind.meaning g.L.LevelCoder.coding g.B.BodyCoder.body col o.result.settings) o.ensures.column
    ∙ ap (context g.K.Kind.meaning g.L.LevelCoder.coding g.B.BodyCoder.body c.args.column) o.ensures.settings in
    let m = g.S.PageStore.meaning in
    let e = c.layout-layout.ensures in
    record {
      opened = same;
      offsets = [];
      sink = record { pages = sym (append-nil (m.pages c.args.sink)); offsets_behind = sym (append-nil (m.offsets c.args.sink)) };
      base = record { paired = m.paired c.args.sink; same = c.count-base.ensures.exact; few = c.count-base.ensures.few };
      phase = record {
        same = c.phase-phase.ensures ∙ ap Rattle.ledger.specs.Runs.opening same;
        allowed = accepted_begins x;
        written = λ h. absurd (omega (arith, h));
        ended = λ _. refl;
      };
      page = subst (λ y. Opened x.kind y blank c.new.result) e (c.new.ensures (subst Allowed (sym e) (layout_allowed c.args.column c.args.settings)));
      log = c.new-2.ensures x e;
    }
