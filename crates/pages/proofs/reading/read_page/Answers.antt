use Rattle.std.proofs.Common.{sym, refl, arith}
use Rattle.pages.proofs.Steps.{no_reps, no_defs, no_plain, page_taken}
use Rattle.pages.proofs.reading.read_page.Goals as goal

pub returns-in_err-rest : goal.returns-in_err-rest
returns-in_err-rest g c =
    let r = no_reps g.L.LevelCoder.coding g.B.BodyCoder.body c.args.layout c.args.n c.args.page.now c.args.reps.now c.args.defs.now c.args.plain.now
    c.repetition-rep_form.result c.definition-def_form.result c.repetition-rep_form.ensures c.definition-def_form.ensures
    _ _ (sym c.in_ok-reps.ensures.cases.0) (sym c.in_ok-defs.ensures.cases.0) c.in_err-rest.ensures in
    rw c.from_residual-in_err-rest.ensures record { read = r.0; back = r.1; counts = tt }

pub returns-in_err-body : goal.returns-in_err-body
returns-in_err-body g c =
    let r = no_defs g.L.LevelCoder.coding g.B.BodyCoder.body c.args.layout c.args.n c.args.page.now c.args.reps.now c.args.defs.now c.args.plain.now
    c.repetition-rep_form.result c.definition-def_form.result c.repetition-rep_form.ensures c.definition-def_form.ensures
    c.in_ok-rest.rest.now c.in_ok-rest.ensures.1
    _ _ (sym c.in_ok-reps.ensures.cases.0) (sym c.in_ok-defs.ensures.cases.0) c.in_err-body.ensures in
    rw c.from_residual-in_err-body.ensures record { read = r.0; back = r.1; counts = tt }

pub returns-in_err-bytes : goal.returns-in_err-bytes
returns-in_err-bytes g c =
    let r = no_plain g.L.LevelCoder.coding g.B.BodyCoder.body c.args.layout c.args.n c.args.page.now c.args.reps.now c.args.defs.now c.args.plain.now
    c.repetition-rep_form.result c.definition-def_form.result c.repetition-rep_form.ensures c.definition-def_form.ensures
    c.in_ok-rest.rest.now c.in_ok-rest.ensures.1 c.in_ok-body.body.now c.in_ok-body.ensures.1
    _ _ c.read-3.new.out (sym c.in_ok-reps.ensures.cases.0) (sym c.in_ok-defs.ensures.cases.0) c.in_err-bytes.ensures in
    rw c.from_residual-in_err-bytes.ensures record { read = r.0; back = r.1; counts = tt }

pub returns : goal.returns
returns g c =
    let reps = c.in_ok-reps.ensures.cases in
    let defs = c.in_ok-defs.ensures.cases in
    let r = page_taken g.L.LevelCoder.coding g.B.BodyCoder.body c.args.layout c.args.n c.args.page.now c.args.reps.now c.args.defs.now c.args.plain.now
    c.repetition-rep_form.result c.definition-def_form.result c.repetition-rep_form.ensures c.definition-def_form.ensures
    c.in_ok-rest.rest.now c.in_ok-rest.ensures.1 c.in_ok-body.body.now c.in_ok-body.ensures.1
    c.read.new.levels c.read-2.new.levels (omega arith) c.in_ok-rest.ensures.0 c.in_ok-body.ensures.0 c.count.result c.count-2.result
    c.count.ensures c.count-2.ensures (omega (arith, reps.4)) (omega (arith, defs.4))
    c.copy_from_slice.new.self c.copy_from_slice-2.new.self _ _ c.read-3.new.out c.in_ok-bytes.bytes c.value_count.result
    c.copy_from_slice.ensures.after c.copy_from_slice-2.ensures.after reps.3 defs.3 c.in_ok-bytes.ensures c.value_count.ensures in
    record { read = r.0; back = r.1; counts = (refl, r.2) }
