use Rattle.entries.specs.Entries.{said_entry}
use Rattle.std.proofs.Common.{map}
use Rattle.chunk.proofs.Recording.{indexed}
use Rattle.chunk.proofs.chunk.ColumnChunk.entries.Goals as goal

pub returns : goal.returns
returns g c = λ h s. indexed h c.args.self.now.state s (map said_entry c.entries.result) (c.entries.ensures h.context s.offsets h.ledger.pages s.log)
