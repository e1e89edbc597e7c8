use Rattle.std.proofs.Common.{◌∙◌}
use Rattle.decimals.proofs.Leads.{first_is_longer, last_bytes}
use Rattle.decimals.proofs.order.compare_greater_byte_array_decimals.Goals as goal

pub returns-in_default-unextended : goal.returns-in_default-unextended
returns-in_default-unextended c =
    let f = c.in-Some.ensures in
    let s = c.in-Some-is_negative.ensures in
    first_is_longer _ _ c.args.a.now c.args.b.now f.typed s.typed f.sign s.sign _ c.if-other-negative.false c.min-length.ensures c.in_default-unextended.ensures

pub returns : goal.returns
returns c =
    let f = c.in-Some.ensures in
    let s = c.in-Some-is_negative.ensures in
    c.compare_greater.ensures
    ∙ last_bytes _ _ c.args.a.now c.args.b.now f.typed s.typed f.sign s.sign _ c.if-other-negative.false c.min-length.ensures _ _
    c.in-Some-unextended.ensures c.in-Some-unextended-2.ensures
