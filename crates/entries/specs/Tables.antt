-- Lists of at most 64 entries in fixed memory.
use Rattle.std.specs.Prelude.{◌≡◌, ℕ, ◌-◌, ◌<◌, ◌≤◌, List, [], ◌∷◌, ◌++◌, length, take, drop, replicate, Some, None, Option}
use Rattle.std.proofs.Common.{sym, ap, ◌∙◌, arith}
use Rattle.std.proofs.lemmas.List.{length-take-le, take-append-drop}
use Rattle.entries.specs.declared.entry.Entry.{Entry}

-- what stands where there is no entry
abbrev pub blank : Entry
blank = record { offset = 0; size = 0; levels = 0; first_row = 0; marks = None }

-- what putting an entry behind others answers and leaves: absent, and nothing changed, exactly if there are 64
abbrev pub Pushed : List Entry → Entry → List Entry → Option (Unit {0}) → Type 0
Pushed old e new (Some _) = (length old < 64) × (new ≡ old ++ (e ∷ []))
Pushed old e new None = (length old ≡ 64) × (new ≡ old)

-- of 64 places of memory the first are used, and only blanks stand behind them
pub record IsPadded (used : ℕ) (all : List Entry) : Type 0 where
  pub wide : length all ≡ 64
  pub fits : used ≤ 64
  pub blanks : drop used all ≡ replicate (64 - used) blank

-- what is used, with blanks behind it up to 64
abbrev pub padded : List Entry → List Entry
padded es = es ++ replicate (64 - length es) blank

-- padding what is used gives all of the memory back
pub padded-take : (used : ℕ) (all : List Entry) → IsPadded used all → padded (take used all) ≡ all
padded-take used all p =
    ap (λ k. take used all ++ replicate (64 - k) blank) (length-take-le used all (omega (arith, p.wide, p.fits)))
    ∙ ap (λ bs. take used all ++ bs) (sym p.blanks) ∙ take-append-drop used all

-- what is used is as long as it says
pub length-front : (used : ℕ) (all : List Entry) → IsPadded used all → length (take used all) ≡ used
length-front used all p = length-take-le used all (omega (arith, p.wide, p.fits))
