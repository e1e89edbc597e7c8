-- Two chunks that hold the same are the same: that they stand to some history has one proof.
use Rattle.kinds.specs.declared.kind.Kind as kinds
use Rattle.level_coder.specs.declared.coder.LevelCoder as level_coders
use Rattle.body_coder.specs.declared.coder.BodyCoder as body_coders
use Rattle.sinks.specs.declared.sink.PageSink as sinks
use Rattle.sinks.specs.declared.store.PageStore as stores
use Rattle.std.proofs.Common.{◌≡◌, List, ℕ, Ok, Err, Result}
use mathlib.Core.HLevel.{is_prop→PathP}
use mathlib.Core.Logic.{∥∥₁_prop}
use Rattle.refusals.specs.declared.fault.ChunkFault.{ChunkFault}
use Rattle.chunk.specs.Stands.{Stood}
use Rattle.chunk.specs.Calls.{Kept}
use Rattle.chunk.specs.declared.chunk.ColumnChunk.{ColumnChunk}

module _ {K L B S : Type 0} {gk : kinds.Ghosts K} {gl : level_coders.Ghosts L} {gb : body_coders.Ghosts B} {gs : sinks.Ghosts S} {gt : stores.Ghosts S} where
  same_chunk : (a b : ColumnChunk K L B S gk gl gb gs gt) → a.state ≡ b.state → a ≡ b
  same_chunk a b e = λ i. record { state = e i; stands = is_prop→PathP (λ j. ∥ Stood (e j) ∥₁) (λ j. ∥∥₁_prop) a.stands b.stands i }

  pub kept_whole : {X : Type 0} (c : ColumnChunk K L B S gk gl gb gs gt) (s : List ℕ) (r : Result X ChunkFault) (c' : ColumnChunk K L B S gk gl gb gs gt) (s' : List ℕ)
      → Kept c.state s r c'.state s' → Kept c s r c' s'
  kept_whole c s (Ok x) c' s' k = tt
  kept_whole c s (Err e) c' s' k = (same_chunk c' c k.0, k.1)
