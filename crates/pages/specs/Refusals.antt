-- What the refusals of the page layer say.
use Rattle.std.specs.Prelude.{ℕ, List, [], codes}
use Rattle.sinks.specs.declared.fault.Layer.TheVariants.{Page}
use Rattle.sinks.specs.Refusals.{Refusal, said, message}
use Rattle.pages.specs.declared.fault.PageFault.{PageFault}
use Rattle.pages.specs.declared.fault.PageFault.TheVariants.{Scratch, PlainBytes, ReadLists, Levels, NoPage, Sink}

-- one of the page layer, which has no position and holds no value
abbrev pub by_page : ℕ → Refusal
by_page n = record { number = n; layer = Page; position = 0; values = [] }

-- a refusal of the sink is passed on as it is
abbrev pub said_page : PageFault → Refusal
said_page Scratch = by_page 3
said_page PlainBytes = by_page 11
said_page ReadLists = by_page 13
said_page Levels = by_page 23
said_page NoPage = by_page 27
said_page (Sink f) = said f

-- the same in words
abbrev pub message_page : PageFault → List ℕ
message_page Scratch = codes "the scratch is too short"
message_page PlainBytes = codes "the batch has more plain bytes than a page takes"
message_page ReadLists = codes "a list to read into is too short"
message_page Levels = codes "the open page would have too many levels"
message_page NoPage = codes "there is no page of that number"
message_page (Sink f) = message f
