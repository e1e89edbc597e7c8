-- The flags over pairs and the order of pages in words: pairs that are there stand in order exactly if each stands so to
-- the last one there before it.
use Rattle.std.proofs.Common.{◌≡◌, ℕ, zero, suc, ◌<◌, ◌≤◌, Bool, true, false, not, List, [], ◌∷◌, ◌++◌, map, length, get_or, Some, None, Option, sym, refl, ap, ◌∙◌, subst, subst₂, ⊎_elim, arith}
use Rattle.std.proofs.lemmas.List.{get_or_past, nil_from_length}
use Rattle.std.proofs.lemmas.Option.{same_Some, none-some}
use Rattle.std.proofs.lemmas.Bool.{and_parts, and_from, not-true, not_from_false, cases_lt, cases_eq, both_ways}
use Rattle.kinds.specs.Meaning.{Meaning, greater}
use Rattle.flags.specs.Flags.{Pair, rises, falls, along_from, along, ascending, descending}
use Rattle.figures.specs.Figures.{smallest, largest}
use Rattle.ledger.specs.Pages.{Page, blank}
use Rattle.ledger.specs.Context.{Context}
use Rattle.ledger.specs.Entries.{lower, upper}
use Rattle.ledger.specs.Records.{pair_if, value_pairs, stored_if, stored_pairs, boundary_order_of, order}
use Rattle.ledger.specs.Laws.{InOrder, NotAbove, Rises, Ascends, Descends, StoredRises, StoredAscends, StoredDescends, Exactly, BoundaryOrder, StoredFlags, OrderSays, Throughout}
use Rattle.ledger.proofs.Enclosing.{smallest_there, largest_there, not_greater_on}

-- ---- pairs that may be absent

-- those that are there
abbrev somes : List (Option Pair) → List Pair
somes [] = []
somes (None ∷ os) = somes os
somes (Some p ∷ os) = p ∷ somes os

module _ (r : Pair → Pair → Bool) where
  -- the first that is there stands so to a
  abbrev Follows : Pair → List (Option Pair) → Type 0
  Follows a os = (k : ℕ) (q : Pair) → get_or os k None ≡ Some q → ((i : ℕ) → i < k → get_or os i None ≡ None) → r a q ≡ true

  -- each that is there stands so to the last one there before it
  abbrev Steps : List (Option Pair) → Type 0
  Steps os = (j k : ℕ) (p q : Pair) → j < k → get_or os j None ≡ Some p → get_or os k None ≡ Some q → ((i : ℕ) → j < i → i < k → get_or os i None ≡ None)
      → r p q ≡ true

  follows_absent : (a : Pair) (os : List (Option Pair)) → Follows a os → Follows a (None ∷ os)
  follows_absent a os f zero q e gap = absurd (none-some q e)
  follows_absent a os f (suc k) q e gap = f k q e (λ i h. gap (suc i) (omega (arith, h)))

  follows_there : (a b : Pair) (os : List (Option Pair)) → r a b ≡ true → Follows a (Some b ∷ os)
  follows_there a b os h zero q e gap = ap (r a) (sym (same_Some b q e)) ∙ h
  follows_there a b os h (suc k) q e gap = absurd (none-some b (sym (gap 0 (omega arith))))

  steps_absent : (os : List (Option Pair)) → Steps os → Steps (None ∷ os)
  steps_absent os s zero k p q l e d gap = absurd (none-some p e)
  steps_absent os s (suc j) zero p q l e d gap = absurd (omega (arith, l))
  steps_absent os s (suc j) (suc k) p q l e d gap = s j k p q (omega (arith, l)) e d (λ i h g. gap (suc i) (omega (arith, h)) (omega (arith, g)))

  steps_there : (b : Pair) (os : List (Option Pair)) → Follows b os → Steps os → Steps (Some b ∷ os)
  steps_there b os f s zero zero p q l e d gap = absurd (omega (arith, l))
  steps_there b os f s zero (suc k) p q l e d gap =
      ap (λ x. r x q) (sym (same_Some b p e)) ∙ f k q d (λ i h. gap (suc i) (omega arith) (omega (arith, h)))
  steps_there b os f s (suc j) zero p q l e d gap = absurd (omega (arith, l))
  steps_there b os f s (suc j) (suc k) p q l e d gap = s j k p q (omega (arith, l)) e d (λ i h g. gap (suc i) (omega (arith, h)) (omega (arith, g)))

  -- one place further on, what is absent between is absent still
  gap_on : (o : Option Pair) (os : List (Option Pair)) (j k : ℕ) → ((i : ℕ) → j ≤ i → i < k → get_or os i None ≡ None)
      → (i : ℕ) → j < i → i < suc k → get_or (o ∷ os) i None ≡ None
  gap_on o os j k gap zero h g = absurd (omega (arith, h))
  gap_on o os j k gap (suc i) h g = gap i (omega (arith, h)) (omega (arith, g))

  steps_behind : (o : Option Pair) (os : List (Option Pair)) → Steps (o ∷ os) → Steps os
  steps_behind o os s j k p q l e d gap =
      s (suc j) (suc k) p q (omega (arith, l)) e d (gap_on o os (suc j) k (λ i h g. gap i (omega (arith, h)) g))

  follows_from_steps : (b : Pair) (os : List (Option Pair)) → Steps (Some b ∷ os) → Follows b os
  follows_from_steps b os s k q e gap = s 0 (suc k) b q (omega arith) refl e (gap_on (Some b) os 0 k (λ i h g. gap i g))

  follows_behind : (a : Pair) (os : List (Option Pair)) → Follows a (None ∷ os) → Follows a os
  follows_behind a os f k q e gap = f (suc k) q e (λ i h. first-gap os k gap i h)
    where
      first-gap : (os : List (Option Pair)) (k : ℕ) → ((i : ℕ) → i < k → get_or os i None ≡ None) → (i : ℕ) → i < suc k → get_or (None ∷ os) i None ≡ None
      first-gap os k gap zero h = refl
      first-gap os k gap (suc i) h = gap i (omega (arith, h))

  along_from-then : (a : Pair) (os : List (Option Pair)) → along_from r a (somes os) ≡ true → Follows a os × Steps os
  along_from-then a [] h = ((λ k q e gap. absurd (none-some q e)), (λ j k p q l e d gap. absurd (none-some p e)))
  along_from-then a (None ∷ os) h =
      let rest = along_from-then a os h in
      (follows_absent a os rest.0, steps_absent os rest.1)
  along_from-then a (Some b ∷ os) h =
      let parts = and_parts (r a b) (along_from r b (somes os)) h in
      let rest = along_from-then b os parts.1 in
      (follows_there a b os parts.0, steps_there b os rest.0 rest.1)

  along_then : (os : List (Option Pair)) → along r (somes os) ≡ true → Steps os
  along_then [] h = λ j k p q l e d gap. absurd (none-some p e)
  along_then (None ∷ os) h = steps_absent os (along_then os h)
  along_then (Some b ∷ os) h = let rest = along_from-then b os h in steps_there b os rest.0 rest.1

  along_from-back : (a : Pair) (os : List (Option Pair)) → Follows a os → Steps os → along_from r a (somes os) ≡ true
  along_from-back a [] f s = refl
  along_from-back a (None ∷ os) f s = along_from-back a os (follows_behind a os f) (steps_behind None os s)
  along_from-back a (Some b ∷ os) f s =
      and_from (r a b) (along_from r b (somes os)) (f 0 b refl (λ i h. absurd (omega (arith, h))))
      (along_from-back b os (follows_from_steps b os s) (steps_behind (Some b) os s))

  along-back : (os : List (Option Pair)) → Steps os → along r (somes os) ≡ true
  along-back [] s = refl
  along-back (None ∷ os) s = along-back os (steps_behind None os s)
  along-back (Some b ∷ os) s = along_from-back b os (follows_from_steps b os s) (steps_behind (Some b) os s)

-- ---- pages by a pair of each that has values

-- a pair for each page that has values, and for no other; a relation of pages that is one of their pairs
record Reading (pair : Page → Option Pair) (r : Pair → Pair → Bool) (Stands : Page → Page → Type 0) : Type 0 where
  absent : (p : Page) → length p.values ≡ 0 → pair p ≡ None
  there : (p : Page) → 0 < length p.values → (a : Pair) × (pair p ≡ Some a)
  then : (p q : Page) (a b : Pair) → pair p ≡ Some a → pair q ≡ Some b → r a b ≡ true → Stands p q
  back : (p q : Page) (a b : Pair) → pair p ≡ Some a → pair q ≡ Some b → Stands p q → r a b ≡ true

module _ (pair : Page → Option Pair) (r : Pair → Pair → Bool) (Stands : Page → Page → Type 0) (reading : Reading pair r Stands) where
  at_page : (ps : List Page) (k : ℕ) → get_or (map pair ps) k None ≡ pair (get_or ps k blank)
  at_page [] k = sym (reading.absent blank refl)
  at_page (p ∷ ps) zero = refl
  at_page (p ∷ ps) (suc k) = at_page ps k

  -- a page with a pair has values, and one without has none
  valued : (p : Page) (a : Pair) → pair p ≡ Some a → 0 < length p.values
  valued p a e =
      ⊎_elim (λ h. h) (λ h. absurd (none-some a (sym (reading.absent p (omega (arith, h))) ∙ e))) (cases_lt 0 (length p.values))

  unvalued : (p : Page) → pair p ≡ None → length p.values ≡ 0
  unvalued p e =
      ⊎_elim (λ h. let found = reading.there p h in absurd (none-some found.0 (sym e ∙ found.1))) (λ h. omega (arith, h)) (cases_lt 0 (length p.values))

  within : (ps : List Page) (k : ℕ) → 0 < length (get_or ps k blank).values → k < length ps
  within ps k h =
      ⊎_elim (λ l. l)
      (λ l. absurd (omega (arith, h, ap (λ p. length p.values) (get_or_past ps k blank l))))
      (cases_lt k (length ps))

  order-then : (ps : List Page) → along r (somes (map pair ps)) ≡ true → InOrder Stands ps
  order-then ps h j k n =
      let p = get_or ps j blank in
      let q = get_or ps k blank in
      let a = reading.there p n.earlier in
      let b = reading.there q n.later in
      reading.then p q a.0 b.0 a.1 b.1
      (along_then r (map pair ps) h j k a.0 b.0 n.before (at_page ps j ∙ a.1) (at_page ps k ∙ b.1)
      (λ i l g. at_page ps i ∙ reading.absent (get_or ps i blank) (n.between i l g)))

  order-back : (ps : List Page) → InOrder Stands ps → along r (somes (map pair ps)) ≡ true
  order-back ps o =
      along-back r (map pair ps)
      (λ j k a b l e d gap.
      let p = get_or ps j blank in
      let q = get_or ps k blank in
      let ea : pair p ≡ Some a = sym (at_page ps j) ∙ e in
      let eb : pair q ≡ Some b = sym (at_page ps k) ∙ d in
      reading.back p q a b ea eb
      (o j k (record {
        before = l;
        within = within ps k (valued q b eb);
        earlier = valued p a ea;
        later = valued q b eb;
        between = λ i h g. unvalued (get_or ps i blank) (sym (at_page ps i) ∙ gap i h g);
      })))

-- ---- pages by their figures

abbrev paired : Option (List ℕ) → Option (List ℕ) → Option Pair
paired None hi = None
paired (Some lo) None = None
paired (Some lo) (Some hi) = Some (record { low = lo; high = hi })

abbrev figure_pair : Meaning → Page → Option Pair
figure_pair m p = paired (smallest m p.values) (largest m p.values)

somes_pair_if : (lo hi : Option (List ℕ)) (os : List (Option Pair)) → pair_if lo hi ++ somes os ≡ somes (paired lo hi ∷ os)
somes_pair_if None hi os = refl
somes_pair_if (Some lo) None os = refl
somes_pair_if (Some lo) (Some hi) os = refl

value_pairs_somes : (m : Meaning) (ps : List Page) → value_pairs m ps ≡ somes (map (figure_pair m) ps)
value_pairs_somes m [] = refl
value_pairs_somes m (p ∷ ps) =
    ap (λ x. pair_if (smallest m p.values) (largest m p.values) ++ x) (value_pairs_somes m ps)
    ∙ somes_pair_if (smallest m p.values) (largest m p.values) (map (figure_pair m) ps)

paired_parts : (lo hi : Option (List ℕ)) (a : Pair) → paired lo hi ≡ Some a → (lo ≡ Some a.low) × (hi ≡ Some a.high)
paired_parts None hi a e = absurd (none-some a e)
paired_parts (Some lo) None a e = absurd (none-some a e)
paired_parts (Some lo) (Some hi) a e =
    let is = same_Some (record { low = lo; high = hi }) a e in
    (ap (λ x. Some x.low) is, ap (λ x. Some x.high) is)

module _ (m : Meaning) where
  figure_absent : (p : Page) → length p.values ≡ 0 → figure_pair m p ≡ None
  figure_absent p h = ap (λ vs. paired (smallest m vs) (largest m vs)) (nil_from_length p.values h)

  figure_there : (p : Page) → 0 < length p.values → (a : Pair) × (figure_pair m p ≡ Some a)
  figure_there p h =
      let lo = smallest_there m p.values h in
      let hi = largest_there m p.values h in
      (record { low = lo.0; high = hi.0 }, ap (λ o. paired o (largest m p.values)) lo.1 ∙ ap (paired (Some lo.0)) hi.1)

  rises-then : (p q : Page) (a b : Pair) → figure_pair m p ≡ Some a → figure_pair m q ≡ Some b → rises m a b ≡ true → Rises m p q
  rises-then p q a b e d h =
      let ea = paired_parts (smallest m p.values) (largest m p.values) a e in
      let eb = paired_parts (smallest m q.values) (largest m q.values) b d in
      let parts = and_parts (not (greater m a.low b.low)) (not (greater m a.high b.high)) h in
      record {
        smallest = subst₂ (λ x y. NotAbove m x y) (sym ea.0) (sym eb.0) (not-true (greater m a.low b.low) parts.0);
        largest = subst₂ (λ x y. NotAbove m x y) (sym ea.1) (sym eb.1) (not-true (greater m a.high b.high) parts.1);
      }

  rises-back : (p q : Page) (a b : Pair) → figure_pair m p ≡ Some a → figure_pair m q ≡ Some b → Rises m p q → rises m a b ≡ true
  rises-back p q a b e d h =
      let ea = paired_parts (smallest m p.values) (largest m p.values) a e in
      let eb = paired_parts (smallest m q.values) (largest m q.values) b d in
      and_from (not (greater m a.low b.low)) (not (greater m a.high b.high))
      (not_from_false (greater m a.low b.low) (subst₂ (λ x y. NotAbove m x y) ea.0 eb.0 h.smallest))
      (not_from_false (greater m a.high b.high) (subst₂ (λ x y. NotAbove m x y) ea.1 eb.1 h.largest))

  reading_up : Reading (figure_pair m) (rises m) (λ p q. Rises m p q)
  reading_up = record { absent = figure_absent; there = figure_there; then = rises-then; back = rises-back }

  reading_down : Reading (figure_pair m) (falls m) (λ p q. Rises m q p)
  reading_down = record {
    absent = figure_absent;
    there = figure_there;
    then = λ p q a b e d. rises-then q p b a d e;
    back = λ p q a b e d. rises-back q p b a d e;
  }

-- the flags over pages' values are what their names say
pub ascending_exactly : (m : Meaning) (ps : List Page) → Exactly (ascending m (value_pairs m ps) ≡ true) (Ascends m ps)
ascending_exactly m ps = record {
  then = λ h. order-then (figure_pair m) (rises m) (λ p q. Rises m p q) (reading_up m) ps (ap (ascending m) (sym (value_pairs_somes m ps)) ∙ h);
  back = λ o. ap (ascending m) (value_pairs_somes m ps) ∙ order-back (figure_pair m) (rises m) (λ p q. Rises m p q) (reading_up m) ps o;
}

pub descending_exactly : (m : Meaning) (ps : List Page) → Exactly (descending m (value_pairs m ps) ≡ true) (Descends m ps)
descending_exactly m ps = record {
  then = λ h. order-then (figure_pair m) (falls m) (λ p q. Rises m q p) (reading_down m) ps (ap (descending m) (sym (value_pairs_somes m ps)) ∙ h);
  back = λ o. ap (descending m) (value_pairs_somes m ps) ∙ order-back (figure_pair m) (falls m) (λ p q. Rises m q p) (reading_down m) ps o;
}

-- ---- pages by their stored bounds

abbrev stored : Meaning → Option ℕ → Option (List ℕ) → Option (List ℕ) → Option Pair
stored m cut None hi = None
stored m cut (Some lo) None = None
stored m cut (Some lo) (Some hi) = Some (record { low = (lower m cut (Some lo)).bytes; high = (upper m cut (Some hi)).bytes })

abbrev stored_pair : Meaning → Option ℕ → Page → Option Pair
stored_pair m cut p = stored m cut (smallest m p.values) (largest m p.values)

somes_stored_if : (m : Meaning) (cut : Option ℕ) (lo hi : Option (List ℕ)) (os : List (Option Pair))
    → stored_if m cut lo hi ++ somes os ≡ somes (stored m cut lo hi ∷ os)
somes_stored_if m cut None hi os = refl
somes_stored_if m cut (Some lo) None os = refl
somes_stored_if m cut (Some lo) (Some hi) os = refl

stored_pairs_somes : (m : Meaning) (cut : Option ℕ) (ps : List Page) → stored_pairs m cut ps ≡ somes (map (stored_pair m cut) ps)
stored_pairs_somes m cut [] = refl
stored_pairs_somes m cut (p ∷ ps) =
    ap (λ x. stored_if m cut (smallest m p.values) (largest m p.values) ++ x) (stored_pairs_somes m cut ps)
    ∙ somes_stored_if m cut (smallest m p.values) (largest m p.values) (map (stored_pair m cut) ps)

stored_parts : (m : Meaning) (cut : Option ℕ) (lo hi : Option (List ℕ)) (a : Pair) → stored m cut lo hi ≡ Some a
    → ((lower m cut lo).bytes ≡ a.low) × ((upper m cut hi).bytes ≡ a.high)
stored_parts m cut None hi a e = absurd (none-some a e)
stored_parts m cut (Some lo) None a e = absurd (none-some a e)
stored_parts m cut (Some lo) (Some hi) a e =
    let is = same_Some (record { low = (lower m cut (Some lo)).bytes; high = (upper m cut (Some hi)).bytes }) a e in
    (ap (λ x. x.low) is, ap (λ x. x.high) is)

module _ (m : Meaning) (cut : Option ℕ) where
  stored_absent : (p : Page) → length p.values ≡ 0 → stored_pair m cut p ≡ None
  stored_absent p h = ap (λ vs. stored m cut (smallest m vs) (largest m vs)) (nil_from_length p.values h)

  stored_there : (p : Page) → 0 < length p.values → (a : Pair) × (stored_pair m cut p ≡ Some a)
  stored_there p h =
      let lo = smallest_there m p.values h in
      let hi = largest_there m p.values h in (
        record { low = (lower m cut (Some lo.0)).bytes; high = (upper m cut (Some hi.0)).bytes },
        ap (λ o. stored m cut o (largest m p.values)) lo.1 ∙ ap (stored m cut (Some lo.0)) hi.1,
      )

  stored_then : (p q : Page) (a b : Pair) → stored_pair m cut p ≡ Some a → stored_pair m cut q ≡ Some b → rises m a b ≡ true → StoredRises m cut p q
  stored_then p q a b e d h =
      let ea = stored_parts m cut (smallest m p.values) (largest m p.values) a e in
      let eb = stored_parts m cut (smallest m q.values) (largest m q.values) b d in
      let parts = and_parts (not (greater m a.low b.low)) (not (greater m a.high b.high)) h in
      record {
        lower = subst₂ (λ x y. greater m x y ≡ false) (sym ea.0) (sym eb.0) (not-true (greater m a.low b.low) parts.0);
        upper = subst₂ (λ x y. greater m x y ≡ false) (sym ea.1) (sym eb.1) (not-true (greater m a.high b.high) parts.1);
      }

  stored_back : (p q : Page) (a b : Pair) → stored_pair m cut p ≡ Some a → stored_pair m cut q ≡ Some b → StoredRises m cut p q → rises m a b ≡ true
  stored_back p q a b e d h =
      let ea = stored_parts m cut (smallest m p.values) (largest m p.values) a e in
      let eb = stored_parts m cut (smallest m q.values) (largest m q.values) b d in
      and_from (not (greater m a.low b.low)) (not (greater m a.high b.high))
      (not_from_false (greater m a.low b.low) (subst₂ (λ x y. greater m x y ≡ false) ea.0 eb.0 h.lower))
      (not_from_false (greater m a.high b.high) (subst₂ (λ x y. greater m x y ≡ false) ea.1 eb.1 h.upper))

  stored_up : Reading (stored_pair m cut) (rises m) (λ p q. StoredRises m cut p q)
  stored_up = record { absent = stored_absent; there = stored_there; then = stored_then; back = stored_back }

  stored_down : Reading (stored_pair m cut) (falls m) (λ p q. StoredRises m cut q p)
  stored_down = record {
    absent = stored_absent;
    there = stored_there;
    then = λ p q a b e d. stored_then q p b a d e;
    back = λ p q a b e d. stored_back q p b a d e;
  }

-- and so are those over what is stored
pub stored_ascending_exactly : (m : Meaning) (cut : Option ℕ) (ps : List Page) → Exactly (ascending m (stored_pairs m cut ps) ≡ true) (StoredAscends m cut ps)
stored_ascending_exactly m cut ps = record {
  then = λ h. order-then (stored_pair m cut) (rises m) (λ p q. StoredRises m cut p q) (stored_up m cut) ps (ap (ascending m) (sym (stored_pairs_somes m cut ps)) ∙ h);
  back = λ o. ap (ascending m) (stored_pairs_somes m cut ps) ∙ order-back (stored_pair m cut) (rises m) (λ p q. StoredRises m cut p q) (stored_up m cut) ps o;
}

pub stored_descending_exactly : (m : Meaning) (cut : Option ℕ) (ps : List Page) → Exactly (descending m (stored_pairs m cut ps) ≡ true) (StoredDescends m cut ps)
stored_descending_exactly m cut ps = record {
  then = λ h. order-then (stored_pair m cut) (falls m) (λ p q. StoredRises m cut q p) (stored_down m cut) ps (ap (descending m) (sym (stored_pairs_somes m cut ps)) ∙ h);
  back = λ o. ap (descending m) (stored_pairs_somes m cut ps) ∙ order-back (stored_pair m cut) (falls m) (λ p q. StoredRises m cut q p) (stored_down m cut) ps o;
}

-- ---- the boundary order

-- a flag that is false where what it says does not hold
refuted : {A : Type 0} (b : Bool) → Exactly (b ≡ true) A → b ≡ false → A → ⊥
refuted b x h a = both_ways b h (x.back a)

boundary_by : (m : Meaning) (cut : Option ℕ) (ps : List Page) (up down : Bool) → Exactly (up ≡ true) (StoredAscends m cut ps) → Exactly (down ≡ true) (StoredDescends m cut ps)
    → BoundaryOrder m cut ps (boundary_order_of up down)
boundary_by m cut ps true down x y = record {
  ascending = record { then = λ _. x.then refl; back = λ _. refl };
  descending = record { then = λ e. absurd (omega (arith, e)); back = λ h. absurd (h.0 (x.then refl)) };
  unordered = record { then = λ e. absurd (omega (arith, e)); back = λ h. absurd (h.0 (x.then refl)) };
}
boundary_by m cut ps false true x y = record {
  ascending = record { then = λ e. absurd (omega (arith, e)); back = λ a. absurd (refuted false x refl a) };
  descending = record { then = λ _. (refuted false x refl, y.then refl); back = λ _. refl };
  unordered = record { then = λ e. absurd (omega (arith, e)); back = λ h. absurd (h.1 (y.then refl)) };
}
boundary_by m cut ps false false x y = record {
  ascending = record { then = λ e. absurd (omega (arith, e)); back = λ a. absurd (refuted false x refl a) };
  descending = record { then = λ e. absurd (omega (arith, e)); back = λ h. absurd (refuted false y refl h.1) };
  unordered = record { then = λ _. (refuted false x refl, refuted false y refl); back = λ _. refl };
}

pub boundary_says : (m : Meaning) (cut : Option ℕ) (ps : List Page) (up down : Bool) → StoredFlags m cut ps up down → BoundaryOrder m cut ps (boundary_order_of up down)
boundary_says m cut ps up down f =
    boundary_by m cut ps up down
    (subst (λ b. Exactly (b ≡ true) (StoredAscends m cut ps)) (sym f.ascending) (stored_ascending_exactly m cut ps))
    (subst (λ b. Exactly (b ≡ true) (StoredDescends m cut ps)) (sym f.descending) (stored_descending_exactly m cut ps))

pub order_says : (x : Context) (ps : List Page) → OrderSays x ps (order x ps)
order_says x ps =
    let m = x.kind in
    let cut = x.settings.cut_length in
    record {
      ascending = ascending_exactly m ps;
      descending = descending_exactly m ps;
      boundary = boundary_says m cut ps (ascending m (stored_pairs m cut ps)) (descending m (stored_pairs m cut ps)) (record { ascending = refl; descending = refl });
    }

-- ---- from neighbours to all pages

module _ (Stands : Page → Page → Type 0) (ps : List Page) (on : (p q r : Page) → Stands p q → Stands q r → Stands p r) (order : InOrder Stands ps) where
  abbrev at : ℕ → Page
  at k = get_or ps k blank

  abbrev some : ℕ → Type 0
  some k = 0 < length (at k).values

  -- the same of every page before k
  abbrev Before : ℕ → Type 0
  Before k = (j i : ℕ) → i < k → j < i → some j → some i → Stands (at j) (at i)

  -- i has values, and no page between i and k has
  reached : (i j k : ℕ) → j ≤ i → i < k → k < length ps → some j → some i → some k → ((x : ℕ) → i < x → x < k → length (at x).values ≡ 0) → Before k
      → Stands (at j) (at k)
  reached i j k h l w sj si sk gap before =
      let last : Stands (at i) (at k) = order i k (record { before = l; within = w; earlier = si; later = sk; between = gap }) in
      ⊎_elim (λ e. subst (λ x. Stands (at x) (at k)) (sym e) last)
      (λ n. on (at j) (at i) (at k) (before j i l (omega (arith, h, n)) sj si) last)
      (cases_eq j i)

  -- back from i to the last page before k that has values
  walk : (i j k : ℕ) → j ≤ i → i < k → k < length ps → some j → some k → ((x : ℕ) → i < x → x < k → length (at x).values ≡ 0) → Before k
      → Stands (at j) (at k)
  walk zero j k h l w sj sk gap before =
      let first : j ≡ 0 = omega (arith, h) in
      reached 0 j k h l w sj (subst some first sj) sk gap before
  walk (suc i) j k h l w sj sk gap before =
      ⊎_elim
      (λ si. reached (suc i) j k h l w sj si sk gap before)
      (λ none.
      ⊎_elim
      (λ e. absurd (omega (arith, none, subst some e sj)))
      (λ n.
      walk i j k (omega (arith, h, n)) (omega (arith, l)) w sj sk
      (λ x g t. ⊎_elim (λ e. subst (λ y. length (at y).values ≡ 0) (sym e) (omega (arith, none))) (λ d. gap x (omega (arith, g, d)) t) (cases_eq x (suc i)))
      before)
      (cases_eq j (suc i)))
      (cases_lt 0 (length (at (suc i)).values))

  up_to : (n j k : ℕ) → k ≤ n → j < k → k < length ps → some j → some k → Stands (at j) (at k)
  up_to n j zero few l w sj sk = absurd (omega (arith, l))
  up_to zero j (suc k) few l w sj sk = absurd (omega (arith, few))
  up_to (suc n) j (suc k) few l w sj sk =
      walk k j (suc k) (omega (arith, l)) (omega arith) w sj sk (λ x g t. absurd (omega (arith, g, t)))
      (λ j' i h l' sj' si. up_to n j' i (omega (arith, few, h)) l' (omega (arith, h, w)) sj' si)

  pub throughout : Throughout Stands ps
  throughout j k l w sj sk = up_to k j k (omega arith) l w sj sk

not_above_on : (m : Meaning) (x y z : Option (List ℕ)) → NotAbove m x y → NotAbove m y z → NotAbove m x z
not_above_on m None y z h k = absurd h
not_above_on m (Some a) None z h k = absurd h
not_above_on m (Some a) (Some b) None h k = absurd k
not_above_on m (Some a) (Some b) (Some c) h k = not_greater_on m a b c h k

rises_on : (m : Meaning) (p q r : Page) → Rises m p q → Rises m q r → Rises m p r
rises_on m p q r h k = record {
  smallest = not_above_on m (smallest m p.values) (smallest m q.values) (smallest m r.values) h.smallest k.smallest;
  largest = not_above_on m (largest m p.values) (largest m q.values) (largest m r.values) h.largest k.largest;
}

-- pages that ascend or descend do so throughout
pub ascends_throughout : (m : Meaning) (ps : List Page) → Ascends m ps → Throughout (λ p q. Rises m p q) ps
ascends_throughout m ps = throughout (λ p q. Rises m p q) ps (rises_on m)

pub descends_throughout : (m : Meaning) (ps : List Page) → Descends m ps → Throughout (λ p q. Rises m q p) ps
descends_throughout m ps = throughout (λ p q. Rises m q p) ps (λ p q r h k. rises_on m r q p k h)

stored_on : (m : Meaning) (cut : Option ℕ) (p q r : Page) → StoredRises m cut p q → StoredRises m cut q r → StoredRises m cut p r
stored_on m cut p q r h k = record {
  lower = not_greater_on m (lower m cut (smallest m p.values)).bytes (lower m cut (smallest m q.values)).bytes (lower m cut (smallest m r.values)).bytes h.lower k.lower;
  upper = not_greater_on m (upper m cut (largest m p.values)).bytes (upper m cut (largest m q.values)).bytes (upper m cut (largest m r.values)).bytes h.upper k.upper;
}

-- and so do their stored bounds
pub stored_ascends_throughout : (m : Meaning) (cut : Option ℕ) (ps : List Page) → StoredAscends m cut ps → Throughout (λ p q. StoredRises m cut p q) ps
stored_ascends_throughout m cut ps = throughout (λ p q. StoredRises m cut p q) ps (stored_on m cut)

pub stored_descends_throughout : (m : Meaning) (cut : Option ℕ) (ps : List Page) → StoredDescends m cut ps → Throughout (λ p q. StoredRises m cut q p) ps
stored_descends_throughout m cut ps = throughout (λ p q. StoredRises m cut q p) ps (λ p q r h k. stored_on m cut r q p k h)
