use Rattle.std.proofs.Common.{rules}
use Rattle.texts.proofs.LeadBytes.{entry_leads}
use Rattle.texts.proofs.leads.lead_length.Goals as goal

pub returns : goal.returns
returns c =
    let e = entry_leads c.args.byte c.entry.result (search rules) c.entry.ensures in
    record { value = e.0; rule = e.1 }
