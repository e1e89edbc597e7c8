-- Pages that lie one behind the other: what is laid behind them leaves them as they were.
use Rattle.std.proofs.Common.{◌≡◌, ℕ, zero, suc, ◌+◌, ◌-◌, ◌<◌, ◌≤◌, List, [], ◌∷◌, ◌++◌, map, length, get_or, Some, Option, take, drop, sym, refl, ap, ◌∙◌, arith}
use Rattle.std.specs.List.{flat_map, slice_get}
use Rattle.std.specs.Option.{option_map_or}
use Rattle.std.proofs.lemmas.Option.{slice_get-get_or}
use Rattle.std.specs.List.Sorted.{IsNonDecreasingBy}
use Rattle.std.proofs.lemmas.List.{take-take, map_push, append_assoc, append-nil, take-append-drop, drop-take}
use Rattle.areas.specs.Areas.{part, Tiles, end_of}
use Rattle.areas.specs.declared.place.Place.{Place}

pub end_push : (from : ℕ) (ps : List Place) (q : Place) → end_of from (ps ++ (q ∷ [])) ≡ q.offset + q.len
end_push from [] q = refl
end_push from (p ∷ ps) q = end_push (p.offset + p.len) ps q

-- the end is that of the last place
pub end_last : (from : ℕ) (ps : List Place) → end_of from ps ≡ option_map_or (λ (p : Place). p.offset + p.len) (slice_get ps (length ps - 1)) from
end_last from [] = refl
end_last from (p ∷ []) = refl
end_last from (p ∷ q ∷ ps) =
    let e = p.offset + p.len in
    let last : slice_get (q ∷ ps) (length ps) ≡ Some (get_or (q ∷ ps) (length ps) p) = slice_get-get_or (q ∷ ps) (length ps) p (omega arith) in
    let one : suc (length ps) - 1 ≡ length ps = omega arith in
    let two : suc (suc (length ps)) - 1 ≡ suc (length ps) = omega arith in
    end_last e (q ∷ ps) ∙ ap (λ k. end_in (slice_get (q ∷ ps) k) e) one ∙ ap (λ o. end_in o e) last
    ∙ sym (ap (λ k. end_in (slice_get (p ∷ q ∷ ps) k) from) two ∙ ap (λ o. end_in o from) last)
  where
    end_in : Option Place → ℕ → ℕ
    end_in o d = option_map_or (λ (p : Place). p.offset + p.len) o d

pub tiles_push : (from : ℕ) (ps : List Place) (q : Place) → Tiles from ps → q.offset ≡ end_of from ps → Tiles from (ps ++ (q ∷ []))
tiles_push from [] q t e = (e, tt)
tiles_push from (p ∷ ps) q t e = (t.0, tiles_push (p.offset + p.len) ps q t.1 e)

pub tiles_end : (from : ℕ) (ps : List Place) → Tiles from ps → from ≤ end_of from ps
tiles_end from [] t = omega arith
tiles_end from (p ∷ ps) t = let h = tiles_end (p.offset + p.len) ps t.1 in omega (arith, t.0)

tiles_low : (from : ℕ) (ps : List Place) (j : ℕ) (d : Place) → Tiles from ps → j < length ps → from ≤ (get_or ps j d).offset
tiles_low from [] j d t lt = absurd (omega arith)
tiles_low from (p ∷ ps) zero d t lt = omega (arith, t.0)
tiles_low from (p ∷ ps) (suc j) d t lt = let h = tiles_low (p.offset + p.len) ps j d t.1 (omega arith) in omega (arith, t.0)

-- the offsets do not fall
pub rises_from_tiles : (from : ℕ) (ps : List Place) → Tiles from ps → IsNonDecreasingBy (λ (p : Place). p.offset) ps
rises_from_tiles from [] t i j d le lt = absurd (omega arith)
rises_from_tiles from (p ∷ ps) t zero zero d le lt = omega arith
rises_from_tiles from (p ∷ ps) t zero (suc j) d le lt = let h = tiles_low (p.offset + p.len) ps j d t.1 (omega arith) in omega arith
rises_from_tiles from (p ∷ ps) t (suc i) zero d le lt = absurd (omega arith)
rises_from_tiles from (p ∷ ps) t (suc i) (suc j) d le lt = rises_from_tiles (p.offset + p.len) ps t.1 i j d (omega arith) (omega arith)

-- what lies below u decides a part that ends there
pub part_same : (a b : List ℕ) (u : ℕ) (p : Place) → take u a ≡ take u b → p.offset + p.len ≤ u → part a p ≡ part b p
part_same a b u p same le =
    let o = p.offset in
    let e = p.offset + p.len in
    let t : take e a ≡ take e b = sym (take-take e u a le) ∙ ap (take e) same ∙ take-take e u b le in
    sym (drop-take o p.len a) ∙ ap (drop o) t ∙ drop-take o p.len b

pub pages-same : (a b : List ℕ) (u from : ℕ) (ps : List Place) → Tiles from ps → end_of from ps ≤ u → take u a ≡ take u b → map (part a) ps ≡ map (part b) ps
pages-same a b u from [] t le same = refl
pages-same a b u from (p ∷ ps) t le same =
    let h = tiles_end (p.offset + p.len) ps t.1 in
    ap (λ q. q ∷ map (part a) ps) (part_same a b u p same (omega arith)) ∙ ap (λ q. part b p ∷ q) (pages-same a b u (p.offset + p.len) ps t.1 le same)

-- the pages once one more is laid behind them
pub pages-more : (a b : List ℕ) (from : ℕ) (ps : List Place) (q : Place) (page : List ℕ) → Tiles from ps → take (end_of from ps) b ≡ take (end_of from ps) a → part b q ≡ page
    → map (part b) (ps ++ (q ∷ [])) ≡ map (part a) ps ++ (page ∷ [])
pages-more a b from ps q page t same is =
    map_push (part b) ps q ∙ ap (λ x. map (part b) ps ++ (x ∷ [])) is ∙ ap (λ x. x ++ (page ∷ [])) (pages-same b a (end_of from ps) from ps t (omega arith) same)

-- the area up to the last page's end is what stands before the first, and then the pages
pub tiles_image : (a : List ℕ) (from : ℕ) (ps : List Place) → Tiles from ps → take (end_of from ps) a ≡ take from a ++ flat_map (λ b. b) (map (part a) ps)
tiles_image a from [] t = sym (append-nil (take from a))
tiles_image a from (p ∷ ps) t =
    let e = p.offset + p.len in
    let front : take e a ≡ take from a ++ part a p = sym (take-append-drop p.offset (take e a)) ∙ ap (λ q. q ++ drop p.offset (take e a)) (take-take p.offset e a (omega arith)) ∙ ap (λ q. take p.offset a ++ q) (drop-take p.offset p.len a) ∙ ap (λ q. take q a ++ part a p) t.0 in
    tiles_image a e ps t.1 ∙ ap (λ q. q ++ flat_map (λ b. b) (map (part a) ps)) front ∙ append_assoc (take from a) (part a p) (flat_map (λ b. b) (map (part a) ps))
