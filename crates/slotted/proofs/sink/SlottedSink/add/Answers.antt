use Rattle.slotted.proofs.Growing.{grown}
use Rattle.slotted.proofs.sink.SlottedSink.add.Goals as goal

pub returns-clause-grown : goal.returns-clause-grown
returns-clause-grown c = grown c.args.self.now c.put.new.self c.args.page.now c.put.result c.requires c.put.ensures.at c.put.ensures.added
