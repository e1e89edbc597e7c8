-- Worked examples over the definitions of kinds, figures, coders and pages: bytes are written as the format has them,
-- floating-point values as the patterns of their four little-endian bytes.
use Rattle.std.specs.Prelude.{◌≡◌, ℕ, true, false, List, [], ◌∷◌, pos, Some, None}
use Rattle.kinds.specs.Cuts.{Bound, whole}
use Rattle.kinds.specs.Meaning.{Meaning, greater}
use Rattle.kinds.specs.Plain.{four}
use Rattle.floats.specs.Floats.{float}
use Rattle.strings.specs.Cut.{shortened}
use Rattle.byte_kinds.specs.Kinds.{byte_array, utf8_string, decimal_byte_array}
use Rattle.figures.specs.Figures.{smallest, largest, nan_count_of}
use Rattle.levels.specs.Coders.{packed_coding, legacy_coding}
use Rattle.bodies.specs.Bodies.{plain_body, split_body}
use Rattle.pages.specs.declared.layout.Layout.{Layout}
use Rattle.columns.specs.declared.settings.Mode.TheVariants.{Page as PageMode}
use Rattle.flags.specs.Flags.{ascending}
use Rattle.ledger.specs.Pages.{Page, rows, nulls}
use Rattle.ledger.specs.Context.{Context, accepted}
use Rattle.ledger.specs.Entries.{lower, upper, marks}
use Rattle.ledger.specs.Records.{value_pairs, stored_pairs, order}

-- of two values neither is greater
abbrev pub Level : Meaning → List ℕ → List ℕ → Type 0
Level m a b = (greater m a b ≡ false) × (greater m b a ≡ false)

-- the bounds of a value, cut at a length
abbrev pub Bounds : Meaning → ℕ → List ℕ → Bound → Bound → Type 0
Bounds m l v lo hi = (lower m (Some l) (Some v) ≡ lo) × (upper m (Some l) (Some v) ≡ hi)

-- a list of values whose smallest, largest and NaN count these are
abbrev pub Figured : Meaning → List (List ℕ) → List ℕ → List ℕ → ℕ → Type 0
Figured m vs lo hi n = (smallest m vs ≡ Some lo) × (largest m vs ≡ Some hi) × (nan_count_of m vs ≡ n)

-- four slots in two rows, of which the first and the third have a value
abbrev pub nested : Page
nested = record { reps = 0 ∷ 1 ∷ 1 ∷ 0 ∷ []; defs = 2 ∷ 1 ∷ 2 ∷ 1 ∷ []; values = (0x61 ∷ []) ∷ (0x62 ∷ []) ∷ [] }

abbrev pub nested_layout : Layout
nested_layout = record { version = 1; max_rep_level = 1; max_def_level = 2; width = 0 }

-- a page of one value, in a column without nulls
abbrev pub page_of : List ℕ → Page
page_of v = record { reps = 0 ∷ []; defs = 0 ∷ []; values = v ∷ [] }

-- a chunk of BYTE_ARRAY whose bounds are cut at two bytes
abbrev pub short_bounds : Context
short_bounds = record {
  kind = byte_array;
  levels = packed_coding;
  body = plain_body;
  column = record { width = 0; max_def_level = pos 0; max_rep_level = pos 0 };
  settings = record { version = 1; row_limit = 1; size_limit = 4096; mode = PageMode; cut_length = Some 2 };
}

abbrev pub two_pages : List Page
two_pages = page_of (0x61 ∷ 0xFF ∷ 0xFF ∷ []) ∷ page_of (0x62 ∷ []) ∷ []

pub record Examples : Type 0 where
  -- decimals of unequal length compare as numbers
  pub longer_decimal : greater decimal_byte_array (0x00 ∷ 0x80 ∷ []) (0x7F ∷ []) ≡ true
  pub same_decimal : Level decimal_byte_array (0x00 ∷ 0x05 ∷ []) (0x05 ∷ [])
  -- the positive zero is above the negative one
  pub zeros : greater float (four 0x00000000) (four 0x80000000) ≡ true
  -- NaN, 1 and 2
  pub nan_passed_over : Figured float (four 0x7FC00000 ∷ four 0x3F800000 ∷ four 0x40000000 ∷ []) (four 0x3F800000) (four 0x40000000) 1
  -- adding one carries, and where no byte can take it the value stays whole
  pub bytes_carried : Bounds byte_array 3 (0x61 ∷ 0xFF ∷ 0xFF ∷ 0x10 ∷ []) (shortened (0x61 ∷ 0xFF ∷ 0xFF ∷ [])) (shortened (0x62 ∷ 0x00 ∷ 0x00 ∷ []))
  pub bytes_full : Bounds byte_array 2 (0xFF ∷ 0xFF ∷ 0xFF ∷ []) (shortened (0xFF ∷ 0xFF ∷ [])) (whole (0xFF ∷ 0xFF ∷ 0xFF ∷ []))
  -- text is cut between characters
  pub text_between : Bounds utf8_string 2 (0x61 ∷ 0xC3 ∷ 0xA9 ∷ 0x7A ∷ []) (shortened (0x61 ∷ [])) (shortened (0x62 ∷ []))
      × Bounds utf8_string 3 (0x61 ∷ 0xC3 ∷ 0xA9 ∷ 0x7A ∷ []) (shortened (0x61 ∷ 0xC3 ∷ 0xA9 ∷ [])) (shortened (0x61 ∷ 0xC3 ∷ 0xAA ∷ []))
  -- the levels 0 to 7 in three bits each
  pub levels_coded : (packed_coding.coded 3 (0 ∷ 1 ∷ 2 ∷ 3 ∷ 4 ∷ 5 ∷ 6 ∷ 7 ∷ []) ≡ 0x03 ∷ 0x88 ∷ 0xC6 ∷ 0xFA ∷ [])
      × (legacy_coding.coded 3 (0 ∷ 1 ∷ 2 ∷ 3 ∷ 4 ∷ 5 ∷ 6 ∷ 7 ∷ []) ≡ 0x05 ∷ 0x39 ∷ 0x77 ∷ [])
  -- two values of four bytes
  pub values_split : split_body.coded 4 (0x01 ∷ 0x02 ∷ 0x03 ∷ 0x04 ∷ 0x05 ∷ 0x06 ∷ 0x07 ∷ 0x08 ∷ [])
      ≡ 0x01 ∷ 0x05 ∷ 0x02 ∷ 0x06 ∷ 0x03 ∷ 0x07 ∷ 0x04 ∷ 0x08 ∷ []
  -- two rows, two nulls, and not a null page
  pub nested_counts : (rows nested ≡ 2) × (nulls 2 nested ≡ 2) × ((marks byte_array nested_layout None nested).null_page ≡ false)
  -- values that ascend, and stored bounds that do not: 62 00 is greater than 62
  pub bounds_unordered : (accepted short_bounds ≡ true)
      × (ascending byte_array (value_pairs byte_array two_pages) ≡ true)
      × (stored_pairs byte_array (Some 2) two_pages ≡ record { low = 0x61 ∷ 0xFF ∷ []; high = 0x62 ∷ 0x00 ∷ [] } ∷ record { low = 0x62 ∷ []; high = 0x62 ∷ [] } ∷ [])
      × (ascending byte_array (stored_pairs byte_array (Some 2) two_pages) ≡ false)
      × (order short_bounds two_pages ≡ record { ascending = true; descending = false; boundary = 0 })
