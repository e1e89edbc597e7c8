-- How many levels, values and plain bytes a page has.
use Rattle.std.specs.Prelude.{◌≡◌, ℕ, cond, List, take, Some, None, count_by, Option, ◌==◌, nat_eq}
use Rattle.pages.specs.declared.counts.PageCounts.{PageCounts}
use Rattle.pages.specs.declared.layout.Layout.{Layout}

-- how many plain bytes a page that was read has
abbrev pub byte_count : Option PageCounts → Option ℕ
byte_count None = None
byte_count (Some r) = Some r.bytes

-- a value stands at each definition level of the maximum, and at every level where that is 0
abbrev pub values_in : ℕ → ℕ → List ℕ → ℕ
values_in most n defs = cond (most == 0) n (count_by (nat_eq most) (take n defs))

-- the counts of a page that was read: its levels, and the values that its definition levels have
abbrev pub Counted : Layout → ℕ → List ℕ → Option PageCounts → Type 0
Counted l n defs None = Unit {0}
Counted l n defs (Some r) = (r.levels ≡ n) × (r.values ≡ values_in l.max_def_level n defs)
