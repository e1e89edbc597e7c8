-- Bounds of strings at a length: valid text is cut between characters, and any other string as bytes.
use Rattle.std.specs.Prelude.{ℕ, zero, suc, ◌+◌, Bool, cond, List, [], ◌∷◌, take, Some, None, Option, nat_lt}
use Rattle.std.proofs.Math.Utf8.{encodes}
use Rattle.std.specs.Str.{chars}
use Rattle.kinds.specs.Cuts.{Bound, whole}
use Rattle.strings.specs.Cut as bytes
use Rattle.strings.specs.Cut.{shortened, longer}
use Rattle.texts.specs.Unicode.{is_text, raises}

-- the greatest number up to l that passes a test, or 0
abbrev pub greatest : (ℕ → Bool) → ℕ → ℕ
greatest p zero = 0
greatest p (suc l) = cond (p (suc l)) (suc l) (greatest p l)

-- the length of the longest front of at most l bytes that ends on a character boundary
abbrev pub front : ℕ → List ℕ → ℕ
front l v = greatest (λ n. is_text (take n v)) l

-- the lower bound of text is that front, unless it is empty
abbrev pub text_lower : ℕ → List ℕ → Bound
text_lower l v = cond (nat_lt 0 (front l v)) (shortened (take (front l v) v)) (whole v)

-- c before what is raised behind it; where nothing is, c raised, if it can be
abbrev pub raised_or : ℕ → Option (List ℕ) → Option (List ℕ)
raised_or c (Some rs) = Some (c ∷ rs)
raised_or c None = cond (raises c) (Some ((c + 1) ∷ [])) None

-- characters up to the last that can be raised, and that one raised; absent where none can be
abbrev pub raised : List ℕ → Option (List ℕ)
raised [] = None
raised (c ∷ cs) = raised_or c (raised cs)

-- the bound that is raised text, or the value whole
abbrev pub raised_bound : List ℕ → Option (List ℕ) → Bound
raised_bound v (Some rs) = shortened (encodes rs)
raised_bound v None = whole v

-- the upper bound of text is the longest front with its last character that can be raised, raised
abbrev pub text_upper : ℕ → List ℕ → Bound
text_upper l v = raised_bound v (raised (chars (take (front l v) v)))

-- the lower bound of a string
abbrev pub lower : ℕ → List ℕ → Bound
lower l v = cond (longer l v) (cond (is_text v) (text_lower l v) (bytes.lower l v)) (whole v)

-- the upper bound of a string
abbrev pub upper : ℕ → List ℕ → Bound
upper l v = cond (longer l v) (cond (is_text v) (text_upper l v) (bytes.upper l v)) (whole v)
