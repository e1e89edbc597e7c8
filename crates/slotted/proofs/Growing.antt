-- A slotted sink with one more page: what lies behind the pages and before the pairs is all that its area changes.
use Rattle.std.proofs.Common.{◌≡◌, ℕ, ◌+◌, ◌-◌, ◌*◌, ◌/◌, ◌%◌, ◌<◌, ◌≤◌, true, leb, List, [], ◌∷◌, ◌++◌, map, length, get_or, take, drop, sym, refl, ap, ◌∙◌, subst, arith}
use Rattle.std.specs.List.{range_with_len}
use Rattle.std.proofs.lemmas.List.FromFn.{fill_by_all, length-map-range_with_len, get_or-map-range_with_len, map-range_with_len_more}
use Rattle.std.proofs.lemmas.List.{get_or-drop, get_or-take, map_push, take-take}
use Rattle.std.proofs.lemmas.Bool.{and_parts, leb-true}
use Rattle.sinks.specs.Sinks.{Grown}
use Rattle.areas.specs.Areas.{part, laid, Tiles, end_of}
use Rattle.areas.specs.declared.place.Place.{Place}
use Rattle.areas.proofs.Laying.{length-laid, take-laid, middle_laid, drop-laid}
use Rattle.areas.proofs.Tiling.{end_push, tiles_push, rises_from_tiles, part_same, pages-more}
use Rattle.slotted.specs.Pairs.{le16, pair_bytes, pair_at, pairs}
use Rattle.slotted.specs.Slots.{places, end_in, gap, usable, fits_in, slotted_store, Added, WellFormed}
use Rattle.slotted.specs.declared.sink.SlottedSink.{SlottedSink}

-- what a page that is taken needs, and how long the area is at most
pub record Room (s : SlottedSink) (len : ℕ) : Type 0 where
  pub fits : end_in s + 4 * s.count + (len + 4) ≤ length s.area.now
  pub small : length s.area.now ≤ 65535

pub room_from_takes : (s : SlottedSink) (len : ℕ) → fits_in s len ≡ true → Room s len
room_from_takes s len takes =
    let size = length s.area.now in
    let test = and_parts (usable s) _ takes in
    let sizes = and_parts (leb 4 size) _ test.0 in
    let room = leb-true (len + 4) (gap s) test.1 in
    record { fits = omega arith; small = leb-true size 65535 sizes.1 }

get_or-same : (a b : List ℕ) (n k : ℕ) → drop n a ≡ drop n b → n ≤ k → get_or a k 0 ≡ get_or b k 0
get_or-same a b n k same le =
    let e : n + (k - n) ≡ k = omega arith in
    ap (λ i. get_or a i 0) (sym e) ∙ sym (get_or-drop n a (k - n) 0) ∙ ap (λ q. get_or q (k - n) 0) same ∙ get_or-drop n b (k - n) 0 ∙ ap (λ i. get_or b i 0) e

abbrev place : ℕ → ℕ → Place
place o l = record { offset = o; len = l }

abbrev pair_from : List ℕ → ℕ → Place
pair_from xs k = place (le16 xs k) (le16 xs (k + 2))

pair_from_is : (xs ys : List ℕ) (j k : ℕ) → le16 xs j ≡ le16 ys k → le16 xs (j + 2) ≡ le16 ys (k + 2) → pair_from xs j ≡ pair_from ys k
pair_from_is xs ys j k o l = ap (λ x. place x (le16 xs (j + 2))) o ∙ ap (place (le16 ys k)) l

-- a 16-bit number is what its two bytes say
two_bytes : (x : ℕ) → x ≤ 65535 → x % 256 + (x / 256 % 256) * 256 ≡ x
two_bytes x le = omega arith

module _ (a page a' : List ℕ) (at n : ℕ) (fits : at + 4 * n + (length page + 4) ≤ length a) (small : length a ≤ 65535)
    (is : a' ≡ laid (laid a at page) (length a - 4 * (n + 1)) (pair_bytes at (length page))) where
  abbrev b : List ℕ
  b = laid a at page

  length_b : length b ≡ length a
  length_b = length-laid a at page (omega arith)

  pub length_after : length a' ≡ length a
  length_after = ap length is ∙ length-laid b (length a - 4 * (n + 1)) (pair_bytes at (length page)) (omega (arith, length_b)) ∙ length_b

  below_slot : take (length a - 4 * (n + 1)) a' ≡ take (length a - 4 * (n + 1)) b
  below_slot = ap (take (length a - 4 * (n + 1))) is ∙ take-laid b (length a - 4 * (n + 1)) (pair_bytes at (length page)) (omega (arith, length_b))

  pub before : take at a' ≡ take at a
  before =
      sym (take-take at (length a - 4 * (n + 1)) a' (omega arith)) ∙ ap (take at) below_slot ∙ take-take at (length a - 4 * (n + 1)) b (omega arith)
      ∙ take-laid a at page (omega arith)

  pub page_there : part a' (record { offset = at; len = length page }) ≡ page
  page_there =
      let q : Place = record { offset = at; len = length page } in
      part_same a' b (length a - 4 * (n + 1)) q below_slot (omega arith) ∙ middle_laid a at page (omega arith)

  above : drop (length a - 4 * n) a' ≡ drop (length a - 4 * n) a
  above =
      ap (drop (length a - 4 * n)) is ∙ drop-laid b (length a - 4 * (n + 1)) (pair_bytes at (length page)) (omega (arith, length_b)) (length a - 4 * n) (omega arith)
      ∙ drop-laid a at page (omega arith) (length a - 4 * n) (omega arith)

  byte_same : (k : ℕ) → length a - 4 * n ≤ k → get_or a' k 0 ≡ get_or a k 0
  byte_same k le = get_or-same a' a (length a - 4 * n) k above le

  number_same : (k : ℕ) → length a - 4 * n ≤ k → le16 a' k ≡ le16 a k
  number_same k le = ap (λ x. x + get_or a' (k + 1) 0 * 256) (byte_same k le) ∙ ap (λ x. get_or a k 0 + x * 256) (byte_same (k + 1) (omega arith))

  pair_same : (i : ℕ) → i < n → pair_at a' i ≡ pair_at a i
  pair_same i lt =
      let k = length a - 4 * (i + 1) in
      let low : length a - 4 * n ≤ k = omega arith in
      ap (λ m. pair_from a' (m - 4 * (i + 1))) length_after ∙ pair_from_is a' a k k (number_same k low) (number_same (k + 2) (omega arith))

  byte_new : (j k : ℕ) → j < 4 → k ≡ length a - 4 * (n + 1) + j → get_or a' k 0 ≡ get_or (pair_bytes at (length page)) j 0
  byte_new j k lt e =
      let s = length a - 4 * (n + 1) in
      let bs = pair_bytes at (length page) in
      ap (λ i. get_or a' i 0) e ∙ ap (λ q. get_or q (s + j) 0) is ∙ sym (get_or-drop s (laid b s bs) j 0) ∙ sym (get_or-take 4 (drop s (laid b s bs)) j 0 lt)
      ∙ ap (λ q. get_or q j 0) (middle_laid b s bs (omega (arith, length_b)))

  number_new : (j x : ℕ) → j + 1 < 4 → x ≤ 65535 → get_or (pair_bytes at (length page)) j 0 ≡ x % 256 → get_or (pair_bytes at (length page)) (j + 1) 0 ≡ x / 256 % 256
      → le16 a' (length a - 4 * (n + 1) + j) ≡ x
  number_new j x lt le low high =
      let k = length a - 4 * (n + 1) + j in
      ap (λ y. y + get_or a' (k + 1) 0 * 256) (byte_new j k (omega arith) refl ∙ low) ∙ ap (λ y. x % 256 + y * 256) (byte_new (j + 1) (k + 1) lt (omega arith) ∙ high) ∙ two_bytes x le

  pair_new : pair_at a' n ≡ record { offset = at; len = length page }
  pair_new =
      let s = length a - 4 * (n + 1) in
      let z : s ≡ s + 0 = omega arith in
      let o : le16 a' s ≡ at = ap (le16 a') z ∙ number_new 0 at (omega arith) (omega arith) refl refl in
      let l : le16 a' (s + 2) ≡ length page = number_new 2 (length page) (omega arith) (omega arith) refl refl in
      ap (λ m. pair_from a' (m - 4 * (n + 1))) length_after ∙ ap (λ (x : ℕ). place x (le16 a' (s + 2))) o ∙ ap (place at) l

  pub pairs_after : pairs a' (n + 1) ≡ pairs a n ++ (record { offset = at; len = length page } ∷ [])
  pairs_after =
      map-range_with_len_more (pair_at a') 0 n n (omega arith)
      ∙ ap (λ q. map (pair_at a') (range_with_len 0 n) ++ (q ∷ [])) pair_new
      ∙ ap (λ q. q ++ (record { offset = at; len = length page } ∷ [])) (fill_by_all (pair_at a) (map (pair_at a') (range_with_len 0 n)) n (place 0 0) (length-map-range_with_len (pair_at a') 0 n) (λ k lt. get_or-map-range_with_len (pair_at a') 0 n k k (place 0 0) lt (omega arith) ∙ pair_same k lt))

pub grown : (s s' : SlottedSink) (page : List ℕ) (at : ℕ) → fits_in s (length page) ≡ true → at ≡ end_in s → Added s page s'
    → Grown slotted_store s page at s'
grown s s' page at takes begin added =
    let a = s.area.now in
    let a' = s'.area.now in
    let from = end_in s in
    let q : Place = record { offset = from; len = length page } in
    let n = s.count in
    let room = room_from_takes s (length page) takes in
    let fits : from + 4 * n + (length page + 4) ≤ length a = room.fits in
    let more : places s' ≡ places s ++ (q ∷ []) = ap (pairs a') added.count ∙ pairs_after a page a' from n fits room.small added.area in
    let same = before a page a' from n fits room.small added.area in
    record {
      pages = ap (map (part a')) more ∙ pages-more a a' 0 (places s) q page s.tiled same (page_there a page a' from n fits room.small added.area);
      offsets = ap (map offset') more ∙ map_push offset' (places s) q ∙ ap (λ o. map offset' (places s) ++ (o ∷ [])) (sym begin);
    }
  where
    offset' : Place → ℕ
    offset' p = p.offset

-- the facts that a sink keeps, once one more page is laid down and entered
pub record Keeps (a : List ℕ) (n : ℕ) : Type 0 where
  pub few : 4 * n ≤ length a
  pub tiled : Tiles 0 (pairs a n)
  pub apart : end_of 0 (pairs a n) + 4 * n ≤ length a

pub keeps : (s : SlottedSink) (page a' : List ℕ) → fits_in s (length page) ≡ true
    → a' ≡ laid (laid s.area.now (end_in s) page) (length s.area.now - 4 * (s.count + 1)) (pair_bytes (end_in s) (length page)) → Keeps a' (s.count + 1)
keeps s page a' takes area =
    let a = s.area.now in
    let from = end_in s in
    let q : Place = record { offset = from; len = length page } in
    let n = s.count in
    let room = room_from_takes s (length page) takes in
    let fits : from + 4 * n + (length page + 4) ≤ length a = room.fits in
    let more : pairs a' (n + 1) ≡ places s ++ (q ∷ []) = pairs_after a page a' from n fits room.small area in
    let long : length a' ≡ length a = length_after a page a' from n fits room.small area in
    let end : end_of 0 (pairs a' (n + 1)) ≡ from + length page = ap (end_of 0) more ∙ end_push 0 (places s) q in
    record {
      few = omega (arith, long);
      tiled = subst (Tiles 0) (sym more) (tiles_push 0 (places s) q s.tiled refl);
      apart = omega (arith, end, long);
    }

pub well_formed : (s : SlottedSink) → WellFormed s
well_formed s = record { tiled = s.tiled; sorted = rises_from_tiles 0 (places s) s.tiled; apart = s.apart }
