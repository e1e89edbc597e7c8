-- What every packed sink keeps, over its area and its places.
use Rattle.std.specs.Prelude.{◌≡◌, ℕ, ◌≤◌, true, List, length, take, codes}
use Rattle.std.specs.Coded.{→_prop, le_prop, Coded-set, coded_list, coded_ℕ}
use Rattle.areas.specs.Areas.{allowed, end_of}
use Rattle.areas.specs.declared.place.Place.{Place}

-- the four bytes that the area begins with
abbrev pub magic : List ℕ
magic = codes "PAR1"

-- an area that may be used begins with them
abbrev pub Begins : List ℕ → Type 0
Begins area = allowed (length area) ≡ true → take 4 area ≡ magic

pub Begins-prop : (area : List ℕ) → IsProp (Begins area)
Begins-prop area = →_prop (Coded-set (coded_list coded_ℕ) (take 4 area) magic)

-- and holds all places
abbrev pub Within : List ℕ → List Place → Type 0
Within area ps = allowed (length area) ≡ true → end_of 4 ps ≤ length area

pub Within-prop : (area : List ℕ) (ps : List Place) → IsProp (Within area ps)
Within-prop area ps = →_prop le_prop
