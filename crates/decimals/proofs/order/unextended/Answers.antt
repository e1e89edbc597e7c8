use Rattle.decimals.proofs.Leads.{unextended_is}
use Rattle.decimals.proofs.order.unextended.Goals as goal

pub returns : goal.returns
returns c =
    let e = c.split_at.ensures in
    unextended_is c.args.negative c.args.count c.args.number.now c.then_some.result c.split_at.result.0 c.split_at.result.1 c.is_extension.result
    c.then_some.ensures c.requires e.front e.back c.is_extension.ensures
