-- A row of the day's log: a time, a vat and a hold temperature, between commas.
use Rattle.std.specs.Prelude.{◌≡◌, ◌≢◌, ℕ, ◌+◌, ◌-◌, ◌*◌, Bool, true, false, not, ◌&&◌, ◌==◌, nat_lt, List, [], length, slice_index, Some, None, Option, Ok, Err, Result}
use Rattle.std.specs.Char.{is_ascii_digit}
use Rattle.std.specs.List.{before_first, after_first, position_or_len}
use Rattle.std.specs.Borrow.{Bor}
use Rattle.floats.specs.declared.bits.Bits.{Bits}
use Rattle.release.specs.declared.row.Row.{Row}
use Rattle.release.specs.declared.row.BadRow.{BadRow}
use Rattle.release.specs.declared.row.BadRow.TheVariants.{Cells, Time, Vat, Hold}

-- the first cell, and what stands behind its comma
abbrev pub before_comma : List ℕ → List ℕ
before_comma bs = before_first (λ b. b == 44) bs

abbrev pub after_comma : List ℕ → List ℕ
after_comma bs = after_first (λ b. b == 44) bs

-- whether a comma stands in a text
abbrev pub has_comma : List ℕ → Bool
has_comma bs = nat_lt (position_or_len (λ b. b == 44) bs) (length bs)

-- whether a line has three cells, no fewer and no more
abbrev pub has_three_cells : List ℕ → Bool
has_three_cells line = has_comma line && has_comma (after_comma line) && not (has_comma (after_comma (after_comma line)))

-- what taking the first cell off a text answers: the cell and what is behind its comma, or that there is no comma
abbrev pub CellSplit : List ℕ → Result (Bor (List ℕ) × Bor (List ℕ)) BadRow → Type 0
CellSplit bs (Ok p) = (p.0.now ≡ before_comma bs) × (p.1.now ≡ after_comma bs) × (has_comma bs ≡ true)
CellSplit bs (Err e) = (e ≡ Cells) × (has_comma bs ≡ false)

-- two digits that are a number below the limit
abbrev pub below : ℕ → ℕ → ℕ → Bool
below limit tens ones = is_ascii_digit tens && is_ascii_digit ones && nat_lt ((tens - 48) * 10 + (ones - 48)) limit

-- a time of the day: hours, minutes and seconds in two digits each, between colons
abbrev pub is_time : List ℕ → Bool
is_time t = (length t == 8)
    && below 24 (slice_index t 0) (slice_index t 1) && (slice_index t 2 == 58)
    && below 60 (slice_index t 3) (slice_index t 4) && (slice_index t 5 == 58)
    && below 60 (slice_index t 6) (slice_index t 7)

-- what reading a hold temperature's cell answers: nothing exactly where the cell is empty
abbrev pub HoldRead : List ℕ → Result (Option (Bits ℕ)) BadRow → Type 0
HoldRead cell (Ok None) = cell ≡ []
HoldRead cell (Ok (Some hold)) = cell ≢ []
HoldRead cell (Err Cells) = ⊥
HoldRead cell (Err Time) = ⊥
HoldRead cell (Err Vat) = ⊥
HoldRead cell (Err Hold) = cell ≢ []

-- what reading a row answers: what its cells say, or which of them is wrong
abbrev pub RowRead : List ℕ → Result Row BadRow → Type 0
RowRead line (Ok row) =
    (has_three_cells line ≡ true) × (is_time (before_comma line) ≡ true) × (row.vat.now ≡ before_comma (after_comma line)) × (row.vat.now ≢ [])
    × HoldRead (after_comma (after_comma line)) (Ok row.hold)
RowRead line (Err Cells) = has_three_cells line ≡ false
RowRead line (Err Time) = is_time (before_comma line) ≡ false
RowRead line (Err Vat) = before_comma (after_comma line) ≡ []
RowRead line (Err Hold) = after_comma (after_comma line) ≢ []
