-- What a tracker of pages holds of the pairs that it was given.
use Rattle.std.specs.Prelude.{◌≡◌, Bool, true, List, Some, None, Option}
use Rattle.std.specs.Option.{option_map}
use Rattle.kinds.specs.Meaning.{Meaning}
use Rattle.flags.specs.Flags.{Pair, rises, falls, ascending, descending, last_of}
use Rattle.flags.specs.declared.tracker.Bounds.{Bounds}
use Rattle.flags.specs.declared.tracker.Tracker.{Tracker}

-- a page's bounds as a pair
abbrev pub pair_of : Bounds → Pair
pair_of b = record { low = b.low; high = b.high }

-- the tracker knows the last of the pairs and both orders of all of them
pub record Tracks (m : Meaning) (ps : List Pair) (t : Tracker) : Type 0 where
  pub last : option_map pair_of t.last ≡ last_of ps
  pub ascending : t.ascending ≡ Rattle.flags.specs.Flags.ascending m ps
  pub descending : t.descending ≡ Rattle.flags.specs.Flags.descending m ps

-- what a flag is with one pair more, by the last pair before it
abbrev pub goes_on : (Pair → Pair → Bool) → Option Pair → Pair → Bool
goes_on r None p = true
goes_on r (Some q) p = r q p
