-- A page as levels and values, in the order in which they came, and what is counted of it.
use Rattle.std.specs.Prelude.{ℕ, zero, suc, cond, not, List, [], ◌∷◌, ◌++◌, length, Some, None, count_by, Option, ◌==◌, nat_eq}
use Rattle.kinds.specs.Plain.{plain}

-- a repetition and a definition level for each slot, and the values of the slots that have one
pub record Page : Type 0 where
  pub reps : List ℕ
  pub defs : List ℕ
  pub values : List (List ℕ)

abbrev pub blank : Page
blank = record { reps = []; defs = []; values = [] }

-- what the second page holds behind what the first does
abbrev pub join : Page → Page → Page
join p q = record { reps = p.reps ++ q.reps; defs = p.defs ++ q.defs; values = p.values ++ q.values }

-- all pages in order as one
abbrev pub joined : List Page → Page
joined [] = blank
joined (p ∷ ps) = join p (joined ps)

abbrev pub levels : Page → ℕ
levels p = length p.defs

-- a repetition level of 0 begins a row
abbrev pub rows : Page → ℕ
rows p = count_by (nat_eq 0) p.reps

-- a definition level other than the maximum is a null
abbrev pub nulls : ℕ → Page → ℕ
nulls most p = count_by (λ d. not (most == d)) p.defs

-- how often each level below k stands in a list
abbrev pub tally : ℕ → List ℕ → List ℕ
tally zero ls = []
tally (suc k) ls = tally k ls ++ (count_by (nat_eq k) ls ∷ [])

-- a row of level counts, one for each level from 0 to the maximum; none is kept where that is 0
abbrev pub counts : ℕ → List ℕ → Option (List ℕ)
counts most ls = cond (most == 0) None (Some (tally (suc most) ls))

-- the plain bytes of values, one after the other
abbrev pub plains : ℕ → List (List ℕ) → List ℕ
plains w [] = []
plains w (v ∷ vs) = plain w v ++ plains w vs
