-- What the walks over text answer: a character at a place, the place and successor of the last that can be raised.
use Rattle.std.specs.Prelude.{◌≡◌, ℕ, ◌+◌, ◌<◌, ◌≤◌, Bool, true, false, List, ◌++◌, length, take, Some, None, IsUtf8, Option, slice_index}
use Rattle.std.proofs.Math.Utf8.{encode, encodes}
use Rattle.std.specs.Char.{len_utf8}
use Rattle.std.specs.Str.{StartsWithNoChar, chars}
use Rattle.texts.specs.Unicode.{Text, is_text, raises}
use Rattle.texts.specs.Leads.{lead_length_of}
use Rattle.texts.specs.Cut.{front, raised}

-- r is the test for text, and true exactly if the bytes are text by the table
pub record Valid (bs : List ℕ) (r : Bool) : Type 0 where
  pub value : r ≡ is_text bs
  pub yes : r ≡ true → Text bs
  pub no : r ≡ false → Text bs → ⊥

-- the bytes begin with n that are a character, absent where no character begins them
abbrev pub Step : List ℕ → Option ℕ → Type 0
Step bs (Some n) = (0 < n) × (n ≤ length bs) × IsUtf8 (take n bs)
Step bs None = StartsWithNoChar bs

-- the bytes where they are text, absent where they are not
abbrev pub AsText : List ℕ → Option (List ℕ) → Type 0
AsText bs (Some t) = (t ≡ bs) × Valid bs true
AsText bs None = Valid bs false

-- the last byte with which a character begins
abbrev pub LastLead : List ℕ → Option ℕ → Type 0
LastLead t (Some p) = (p < length t) × (0 < lead_length_of (slice_index t p)) × ((k : ℕ) → p < k → k < length t → lead_length_of (slice_index t k) ≡ 0)
LastLead t None = (k : ℕ) → k < length t → lead_length_of (slice_index t k) ≡ 0

-- the longest front of 1 to l bytes, absent where there is none
abbrev pub FrontOf : ℕ → List ℕ → Option ℕ → Type 0
FrontOf l v (Some n) = (0 < n) × (n ≡ front l v)
FrontOf l v None = front l v ≡ 0

-- the successor of a character, absent where it has none of equal length
abbrev pub Succeeds : ℕ → Option ℕ → Type 0
Succeeds c (Some d) = (d ≡ c + 1) × (raises c ≡ true)
Succeeds c None = raises c ≡ false

-- a text raised is its first p bytes and the character d
abbrev pub RaisedAt : List ℕ → Option (ℕ × ℕ) → Type 0
RaisedAt s (Some q) = (rs : List ℕ) × (raised (chars s) ≡ Some rs) × (encodes rs ≡ take q.0 s ++ encode q.1) × (q.0 + len_utf8 q.1 ≤ length s)
RaisedAt s None = raised (chars s) ≡ None
