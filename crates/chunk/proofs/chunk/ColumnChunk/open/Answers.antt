use Rattle.chunk.proofs.chunk.ColumnChunk.open.Goals as goal

pub invariant_of-result : goal.invariant_of-result
invariant_of-result g c = record { stands = ∣ (_, c.new.ensures.stands) ∣₁ }
