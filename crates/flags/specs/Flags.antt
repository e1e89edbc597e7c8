-- The order of pages by their figures or their stored bounds, as the format's boundary_order has it: over a list of
-- pairs, a lower and an upper one for each page that has values.
use Rattle.std.specs.Prelude.{ℕ, Bool, true, not, ◌&&◌, List, [], ◌∷◌, Some, None, Option}
use Rattle.kinds.specs.Meaning.{Meaning, greater}

-- a page's lower and upper one
pub record Pair : Type 0 where
  pub low : List ℕ
  pub high : List ℕ

-- neither of the second pair lies below that of the first
abbrev pub rises : Meaning → Pair → Pair → Bool
rises m p q = not (greater m p.low q.low) && not (greater m p.high q.high)

-- neither of the second pair lies above that of the first
abbrev pub falls : Meaning → Pair → Pair → Bool
falls m p q = not (greater m q.low p.low) && not (greater m q.high p.high)

-- whether each pair behind a first one stands so to the one before it
abbrev pub along_from : (Pair → Pair → Bool) → Pair → List Pair → Bool
along_from r p [] = true
along_from r p (q ∷ qs) = r p q && along_from r q qs

-- whether each pair of a list stands so to the one before it
abbrev pub along : (Pair → Pair → Bool) → List Pair → Bool
along r [] = true
along r (p ∷ ps) = along_from r p ps

-- each pair rises from the one before it
abbrev pub ascending : Meaning → List Pair → Bool
ascending m = along (rises m)

-- each pair falls from the one before it
abbrev pub descending : Meaning → List Pair → Bool
descending m = along (falls m)

-- the last pair of a first one and those behind it
abbrev pub last_from : Pair → List Pair → Pair
last_from p [] = p
last_from p (q ∷ qs) = last_from q qs

-- the last pair of a list, absent if there is none
abbrev pub last_of : List Pair → Option Pair
last_of [] = None
last_of (p ∷ ps) = Some (last_from p ps)
