use Rattle.pages.proofs.Assembling.{no_lists, no_body, whole_page}
use Rattle.pages.proofs.assembly.assemble.Goals as goal

pub returns-in_err-out : goal.returns-in_err-out
returns-in_err-out g c =
    rw c.from_residual-in_err-out.ensures
    (no_lists g.L.LevelCoder.coding g.B.BodyCoder.body c.args.layout c.args.reps.now c.args.defs.now c.args.plain.now c.args.out.now
    c.in_ok-rep_size.rep_size c.in_ok-def_size.def_size c.repetition-rep_form.result c.definition-def_form.result c.repetition-rep_form.ensures c.definition-def_form.ensures
    c.in_ok-rep_size.ensures c.in_ok-def_size.ensures c.in_err-out.ensures.cases)

pub returns-in_err-body_size : goal.returns-in_err-body_size
returns-in_err-body_size g c =
    rw c.from_residual-in_err-body_size.ensures
    (no_body g.L.LevelCoder.coding g.B.BodyCoder.body c.args.layout c.args.reps.now c.args.defs.now c.args.plain.now c.args.out.now
    c.in_ok-rep_size.rep_size c.in_ok-def_size.def_size c.repetition-rep_form.result c.definition-def_form.result c.repetition-rep_form.ensures c.definition-def_form.ensures
    c.in_ok-rep_size.ensures c.in_ok-def_size.ensures c.in_ok-out.lists.now c.in_ok-out.body.now c.code.new.out c.in_ok-out.ensures.cases.0 c.in_ok-out.ensures.cases.1
    c.in_err-body_size.ensures)

pub returns : goal.returns
returns g c =
    whole_page g.L.LevelCoder.coding g.B.BodyCoder.body c.args.layout c.args.reps.now c.args.defs.now c.args.plain.now c.args.out.now
    c.in_ok-rep_size.rep_size c.in_ok-def_size.def_size c.repetition-rep_form.result c.definition-def_form.result c.repetition-rep_form.ensures c.definition-def_form.ensures
    c.in_ok-rep_size.ensures c.in_ok-def_size.ensures c.in_ok-out.lists.now c.in_ok-out.body.now c.code.new.out c.in_ok-out.ensures.cases.0 c.in_ok-out.ensures.cases.1
    c.write.new.out c.write-2.new.out c.in_ok-body_size.body_size c.write.ensures c.write-2.ensures c.in_ok-body_size.ensures
