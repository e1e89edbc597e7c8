use Rattle.runs.proofs.Running.{ran}
use Rattle.runs.proofs.replaying.replay.Goals as goal

pub returns-clause-ran : goal.returns-clause-ran
returns-clause-ran g c =
    ran _ _ _ _ _ c.open-chunk.result.state _ _ c.open-chunk.ensures.stands c.open-chunk.ensures.holds c.play_all.ensures.played
    c.record-record.ensures.recorded c.entries-entries.ensures
