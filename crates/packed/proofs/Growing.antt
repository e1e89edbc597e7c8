-- A packed sink with one more page: what its table and its area then hold.
use Rattle.std.proofs.Common.{◌≡◌, ℕ, ◌+◌, ◌≤◌, set, min, true, ltb, List, [], ◌∷◌, ◌++◌, map, length, take, sym, ap, ◌∙◌, subst, arith}
use Rattle.std.specs.List.{flat_map}
use Rattle.std.proofs.lemmas.List.{map_push, take_more_set, take-take, length-set}
use Rattle.std.proofs.lemmas.Bool.{and_parts, both_ways, ltb-true, leb-true}
use Rattle.sinks.specs.Sinks.{Grown}
use Rattle.areas.specs.Areas.{part, laid, Tiles, end_of}
use Rattle.areas.specs.declared.place.Place.{Place}
use Rattle.areas.proofs.Laying.{length-laid, take-laid, middle_laid}
use Rattle.areas.proofs.Tiling.{end_push, tiles_push, tiles_end, rises_from_tiles, pages-more, tiles_image}
use Rattle.packed.specs.Packing.{places, end_in, usable, fits_in, packed_store, Added, WellFormed, Imaged}
use Rattle.packed.specs.Kept.{Begins, Within}
use Rattle.packed.specs.declared.sink.PackedSink.{PackedSink}

pub grown : (s s' : PackedSink) (page : List ℕ) (at : ℕ) → fits_in s (length page) ≡ true → at ≡ end_in s → Added s page s'
    → Grown packed_store s page at s'
grown s s' page at takes begin added =
    let a = s.area.now in
    let a' = s'.area.now in
    let from = end_in s in
    let q : Place = record { offset = from; len = length page } in
    let test = and_parts (usable s) _ takes in
    let tests = and_parts (ltb s.count (length s.table.now)) _ test.1 in
    let few = ltb-true s.count (length s.table.now) tests.0 in
    let room : from + length page ≤ length a = leb-true (end_in s + length page) (length a) tests.1 in
    let more : places s' ≡ places s ++ (q ∷ []) = ap (λ n. take n s'.table.now) added.count ∙ ap (take (s.count + 1)) added.table ∙ take_more_set s.table.now s.count q few in
    let same : take from a' ≡ take from a = ap (take from) added.area ∙ take-laid a from page room in
    record {
      pages = ap (map (part a')) more ∙ pages-more a a' 4 (places s) q page s.tiled same (ap (part' q) added.area ∙ middle_laid a from page room);
      offsets = ap (map offset') more ∙ map_push offset' (places s) q ∙ ap (λ o. map offset' (places s) ++ (o ∷ [])) (sym begin);
    }
  where
    part' : Place → List ℕ → List ℕ
    part' p xs = part xs p

    offset' : Place → ℕ
    offset' p = p.offset

pub image_whole : (s : PackedSink) (n : ℕ) → n ≡ min (end_in s) (length s.area.now) → usable s ≡ true → Imaged s (take n s.area.now)
image_whole s n e u =
    let a = s.area.now in
    record {
      whole = λ _.
          let all : n ≡ end_in s = omega (arith, s.within u) in
          ap (λ k. take k a) all ∙ tiles_image a 4 (places s) s.tiled ∙ ap (λ q. q ++ flat_map (λ b. b) (packed_store.pages s)) (s.begins u);
      none = λ no. absurd (both_ways (usable s) no u);
    }

-- the facts that a sink keeps, once one more page is entered and laid down
pub record Keeps (a : List ℕ) (t : List Place) (n : ℕ) : Type 0 where
  pub few : n ≤ length t
  pub tiled : Tiles 4 (take n t)
  pub begins : Begins a
  pub within : Within a (take n t)

pub keeps : (s : PackedSink) (page a' : List ℕ) (t' : List Place) (at : ℕ) → fits_in s (length page) ≡ true → at ≡ end_in s
    → t' ≡ set s.table.now s.count (record { offset = at; len = length page }) → a' ≡ laid s.area.now at page → Keeps a' t' (s.count + 1)
keeps s page a' t' at takes begin table area =
    let a = s.area.now in
    let q : Place = record { offset = at; len = length page } in
    let test = and_parts (usable s) _ takes in
    let tests = and_parts (ltb s.count (length s.table.now)) _ test.1 in
    let few = ltb-true s.count (length s.table.now) tests.0 in
    let fits : end_in s + length page ≤ length a = leb-true (end_in s + length page) (length a) tests.1 in
    let room : at + length page ≤ length a = omega (arith, begin) in
    let more : take (s.count + 1) t' ≡ places s ++ (q ∷ []) = ap (take (s.count + 1)) table ∙ take_more_set s.table.now s.count q few in
    let same : take at a' ≡ take at a = ap (take at) area ∙ take-laid a at page room in
    let long : length a' ≡ length a = ap length area ∙ length-laid a at page room in
    let low = tiles_end 4 (places s) s.tiled in
    let end : end_of 4 (take (s.count + 1) t') ≡ at + length page = ap (end_of 4) more ∙ end_push 4 (places s) q in
    record {
      few = omega (arith, ap length table, length-set s.table.now s.count q);
      tiled = subst (Tiles 4) (sym more) (tiles_push 4 (places s) q s.tiled begin);
      begins = λ _. sym (take-take 4 at a' (omega (arith, begin))) ∙ ap (take 4) same ∙ take-take 4 at a (omega (arith, begin)) ∙ s.begins test.0;
      within = λ _. omega (arith, end, long);
    }

pub well_formed : (s : PackedSink) → WellFormed s
well_formed s = record { tiled = s.tiled; sorted = rises_from_tiles 4 (places s) s.tiled; few = s.few; front = s.begins; within = s.within }
