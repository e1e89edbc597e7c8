-- Lists of bytes in fixed memory.
use Rattle.std.specs.Prelude.{◌≡◌, ℕ, ◌+◌, ◌-◌, ◌<◌, ◌≤◌, List, ◌++◌, length, take, drop, replicate, Some, None, Option}
use Rattle.std.specs.List.{AllByRecursion, concat}
use Rattle.std.proofs.Common.{sym, ap, ◌∙◌, arith}
use Rattle.std.proofs.lemmas.List.{length-take-le, take-append-drop}

-- what appending bytes to at most n answers and leaves: absent, and nothing changed, exactly if they do not fit
abbrev pub Appended : ℕ → List ℕ → List ℕ → List ℕ → Option (Unit {0}) → Type 0
Appended n old bs new (Some _) = (length old + length bs ≤ n) × (new ≡ old ++ bs)
Appended n old bs new None = (n < length old + length bs) × (new ≡ old)

-- each of the byte strings has that many bytes
abbrev pub HaveLength : ℕ → List (List ℕ) → Type 0
HaveLength w vs = AllByRecursion (λ v. length v ≡ w) vs

-- what appending byte strings to at most n answers and leaves: where all have one length, what appending them joined
-- does; where they have not, the answer is absent, and nothing changed
abbrev pub AppendedAll : ℕ → List ℕ → List (List ℕ) → List ℕ → Option (Unit {0}) → Type 0
AppendedAll n old vs new r =
    ((w : ℕ) → HaveLength w vs → Appended n old (concat vs) new r) × (((w : ℕ) → ¬ HaveLength w vs) → (r ≡ None) × (new ≡ old))

-- of n places of memory the first are used, and only zeros stand behind them
pub record IsPadded (n used : ℕ) (all : List ℕ) : Type 0 where
  pub wide : length all ≡ n
  pub fits : used ≤ n
  pub zeros : drop used all ≡ replicate (n - used) 0

-- what is used, with zeros behind it up to n
abbrev pub padded : ℕ → List ℕ → List ℕ
padded n bs = bs ++ replicate (n - length bs) 0

-- padding what is used gives all of the memory back
pub padded-take : (n used : ℕ) (bytes : List ℕ) → IsPadded n used bytes → padded n (take used bytes) ≡ bytes
padded-take n used bytes p =
    ap (λ k. take used bytes ++ replicate (n - k) 0) (length-take-le used bytes (omega (arith, p.wide, p.fits)))
    ∙ ap (λ zs. take used bytes ++ zs) (sym p.zeros) ∙ take-append-drop used bytes

-- what is used is as long as it says
pub length-front : (n used : ℕ) (bytes : List ℕ) → IsPadded n used bytes → length (take used bytes) ≡ used
length-front n used bytes p = length-take-le used bytes (omega (arith, p.wide, p.fits))
