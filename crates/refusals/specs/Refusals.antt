-- What the refusals of the chunk layer say, and in which order a call tests for them.
use Rattle.std.specs.Prelude.{ℕ, Bool, cond, List, [], ◌∷◌, ◌++◌, map, Contains, Ok, Err, Result, ◌≡◌, codes}
use Rattle.std.specs.Fmt.{decimal}
use Rattle.sinks.specs.declared.fault.Layer.TheVariants.{Chunk}
use Rattle.sinks.specs.Refusals.{Refusal}
use Rattle.pages.specs.Refusals.{said_page, message_page}
use Rattle.refusals.specs.declared.fault.ChunkFault.{ChunkFault}
use Rattle.refusals.specs.declared.fault.ChunkFault.TheVariants.{Column, Settings, BatchLevels, LevelsAbsent, LevelCount, LevelRange, FirstRepetition, FewValues, ValueLength, Closed, PageWaits, Pages, NoRecord, Page}

-- one of the chunk layer that has no position and holds no value
abbrev pub by_chunk : ℕ → Refusal
by_chunk n = record { number = n; layer = Chunk; position = 0; values = [] }

-- one that holds its position as a value
abbrev pub by_chunk_at : ℕ → ℕ → Refusal
by_chunk_at n at = record { number = n; layer = Chunk; position = at; values = at ∷ [] }

-- a refusal of the page layer is passed on as it is
abbrev pub said_chunk : ChunkFault → Refusal
said_chunk Column = by_chunk 1
said_chunk Settings = by_chunk 2
said_chunk BatchLevels = by_chunk 4
said_chunk LevelsAbsent = by_chunk 5
said_chunk LevelCount = by_chunk 6
said_chunk (LevelRange at) = by_chunk_at 7 at
said_chunk FirstRepetition = by_chunk 8
said_chunk FewValues = by_chunk 9
said_chunk (ValueLength at) = by_chunk_at 10 at
said_chunk Closed = by_chunk 21
said_chunk PageWaits = by_chunk 22
said_chunk Pages = by_chunk 24
said_chunk NoRecord = by_chunk 26
said_chunk (Page f) = said_page f

-- the same in words
abbrev pub message_chunk : ChunkFault → List ℕ
message_chunk Column = codes "a width or a maximum level is not allowed"
message_chunk Settings = codes "a setting or a coder is not allowed"
message_chunk BatchLevels = codes "the batch has too many levels"
message_chunk LevelsAbsent = codes "levels that are needed are absent"
message_chunk LevelCount = codes "a list of levels has another count than the batch"
message_chunk (LevelRange at) = codes "the level at " ++ decimal at ++ codes " is out of range"
message_chunk FirstRepetition = codes "the first repetition level is not 0"
message_chunk FewValues = codes "there are fewer values than needed"
message_chunk (ValueLength at) = codes "the value at " ++ decimal at ++ codes " has a wrong length"
message_chunk Closed = codes "the chunk is closed"
message_chunk PageWaits = codes "a due page waits to be cut"
message_chunk Pages = codes "the chunk has all the pages that it may have"
message_chunk NoRecord = codes "the chunk is open, or its opening was refused"
message_chunk (Page f) = message_page f

-- a test and the refusal that it leads to
pub record Test : Type 0 where
  pub holds : Bool
  pub fault : ChunkFault

-- tests made in order, the first that holds refusing, and then what is answered where none does
abbrev pub tested : {A : Type 0} → List Test → Result A ChunkFault → Result A ChunkFault
tested [] r = r
tested (t ∷ ts) r = cond t.holds (Err t.fault) (tested ts r)

-- the test that a condition leads to a refusal
abbrev pub refuses : Bool → ChunkFault → Test
refuses b f = record { holds = b; fault = f }

-- what the refusals of tests say, in the order of the tests
abbrev pub says : List Test → List Refusal
says ts = map (λ t. said_chunk t.fault) ts

-- an answer that follows from tests made in order, which say such refusals: what it is refused for is one of them
pub record Numbered {A : Type 0} (ts : List Test) (answer : Result A ChunkFault) (rs : List Refusal) : Type 0 where
  pub order : says ts ≡ rs
  pub value : A
  pub made : answer ≡ tested ts (Ok value)
  pub refused : (e : ChunkFault) → answer ≡ Err e → Contains rs (said_chunk e)
