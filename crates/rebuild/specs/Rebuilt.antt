-- What rebuilding a chunk answers: two runs of one column, with the figures of the readings that each was given.
use Rattle.kinds.specs.declared.kind.Kind as kinds
use Rattle.level_coder.specs.declared.coder.LevelCoder as level_coders
use Rattle.body_coder.specs.declared.coder.BodyCoder as body_coders
use Rattle.sinks.specs.declared.sink.PageSink as sinks
use Rattle.sinks.specs.declared.store.PageStore as stores
use Rattle.std.specs.Prelude.{◌≡◌, ◌≤◌, ℕ, length, Bool, true, false, ◌&&◌, List, Some, None, Ok, Err, Option, Result}
use Rattle.std.specs.Option.{option_or}
use Rattle.std.specs.Result.{IsOkAnd}
use Rattle.sinks.specs.Stores.{StoreMeaning}
use Rattle.sinks.specs.Sinks.{SinkMeaning}
use Rattle.floats.specs.declared.bits.Bits.{Bits}
use Rattle.refusals.specs.declared.fault.ChunkFault.{ChunkFault}
use Rattle.ledger.specs.Laws.{Exactly}
use Rattle.ledger.specs.Context.{Context, layout}
use Rattle.ledger.specs.Figures.{Figures, figures}
use Rattle.page_log.specs.Records.{said_record}
use Rattle.page_log.specs.declared.record.Record.{Record}
use Rattle.chunk.specs.Histories.{held, begun}
use Rattle.chunk.specs.Reads.{answered}
use Rattle.runs.specs.Runs.{calls_in, answers_in, Threaded}
use Rattle.runs.specs.Both.{SameFigures, RanBoth}
use Rattle.runs.specs.declared.call.Played.{Played}
use Rattle.runs.specs.declared.replaying.Run.{Run}
use Rattle.rebuild.specs.Readings.{hold_bytes, readings_page, readings_calls, has_places, first_refusal}
use Rattle.rebuild.specs.declared.rebuilding.Rebuilding.{Rebuilding}
use Rattle.rebuild.specs.declared.unbuilt.Unbuilt.{Unbuilt}
use Rattle.rebuild.specs.declared.unbuilt.Unbuilt.TheVariants.{Places, Refused}

-- the figures of readings
abbrev pub figures_of : Context → List (Option (Bits ℕ)) → Figures
figures_of x hs = figures x.kind (layout x) (readings_page hs)

-- two records agree: both are there, and they have the same figures
abbrev pub RecordsAgree : Result Record ChunkFault → Result Record ChunkFault → Type 0
RecordsAgree p q = IsOkAnd (answered said_record p) (λ a. IsOkAnd (answered said_record q) (SameFigures a))

-- the two lists hold the calls that write readings, and those that write what was read
pub record Laid (hs rs : List (Option (Bits ℕ))) (cs ds : List (Played (Bits ℕ))) : Type 0 where
  pub one : calls_in hold_bytes cs ≡ readings_calls hs
  pub other : calls_in hold_bytes ds ≡ readings_calls rs

-- the calls that write readings to two chunks were played over their sinks, and the first refusal among their answers
pub record Answered {S T : Type 0} (m : StoreMeaning S) (w : SinkMeaning S) (n : StoreMeaning T) (v : SinkMeaning T)
    (x y : Context) (k : S) (j : T) (hs rs : List (Option (Bits ℕ))) (refusal : ChunkFault) (cs ds : List (Played (Bits ℕ))) : Type 0 where
  pub laid : Laid hs rs cs ds
  pub scratch : List ℕ
  pub room : 9227 ≤ length scratch
  pub between : List ℕ
  pub left : List ℕ
  pub sink : S
  pub other_sink : T
  pub written : Threaded m w (begun x (held m k)) (readings_calls hs) k scratch (answers_in cs) sink between
  pub rebuilt : Threaded n v (begun y (held n j)) (readings_calls rs) j between (answers_in ds) other_sink left
  pub first : Some refusal ≡ option_or (first_refusal (answers_in cs)) (first_refusal (answers_in ds))

-- two chunks that were written, of readings and of those that were read: each has a record, with the figures of its readings
pub record Rebuilt {K L B S M C T : Type 0} {gk : kinds.Ghosts K} {gl : level_coders.Ghosts L} {gb : body_coders.Ghosts B} {gs : sinks.Ghosts S} {gt : stores.Ghosts S}
    {gm : level_coders.Ghosts M} {gc : body_coders.Ghosts C} {us : sinks.Ghosts T} {ut : stores.Ghosts T}
    (x y : Context) (k : S) (j : T) (hs rs : List (Option (Bits ℕ))) (r : Run K L B S gk gl gb gs gt) (q : Run K M C T gk gm gc us ut) (agrees : Bool)
    (cs ds : List (Played (Bits ℕ))) : Type 0 where
  pub laid : Laid hs rs cs ds
  pub scratch : List ℕ
  pub room : 9227 ≤ length scratch
  pub left : List ℕ
  pub ran : RanBoth x k (readings_calls hs) (answers_in cs) y j (readings_calls rs) (answers_in ds) scratch r q left
  -- no call was refused
  pub none : None ≡ option_or (first_refusal (answers_in cs)) (first_refusal (answers_in ds))
  pub written : IsOkAnd (answered said_record r.record) (λ p. p.figures ≡ figures_of x hs)
  pub rebuilt : IsOkAnd (answered said_record q.record) (λ p. p.figures ≡ figures_of y rs)
  -- they agree exactly if the readings have the same figures, so they do where what was read is what was written
  pub exactly : Exactly (agrees ≡ true) (figures_of x hs ≡ figures_of y rs)
  pub same : hs ≡ rs → agrees ≡ true

module _ {L B S M C T : Type 0} {gl : level_coders.Ghosts L} {gb : body_coders.Ghosts B} {gs : sinks.Ghosts S} {gt : stores.Ghosts S}
    {gm : level_coders.Ghosts M} {gc : body_coders.Ghosts C} {us : sinks.Ghosts T} {ut : stores.Ghosts T} where
  -- what rebuilding answers, and what it leaves of the two lists: both chunks, or the first refusal, or that a list has fewer places than its
  -- calls need, or more
  abbrev pub Rebuilds : (x y : Context) (k : S) (j : T) (hs rs : List (Option (Bits ℕ))) (cs ds : List (Played (Bits ℕ)))
      → Result (Rebuilding L B S M C T gl gb gs gt gm gc us ut) Unbuilt → (cs' ds' : List (Played (Bits ℕ))) → Type 0
  Rebuilds x y k j hs rs cs ds (Ok r) cs' ds' = Rebuilt x y k j hs rs r.written r.rebuilt r.agrees cs' ds'
  Rebuilds x y k j hs rs cs ds (Err (Refused f)) cs' ds' = Answered gt.meaning gs.meaning ut.meaning us.meaning x y k j hs rs f cs' ds'
  Rebuilds x y k j hs rs cs ds (Err Places) cs' ds' = ((has_places cs hs && has_places ds rs) ≡ false) × (cs' ≡ cs) × (ds' ≡ ds)
