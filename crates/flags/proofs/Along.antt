-- One pair more at the end: the order holds on if it held and the last pair stands so to the new one.
use Rattle.std.proofs.Common.{◌≡◌, Bool, ◌&&◌, List, [], ◌∷◌, ◌++◌, Some, sym, refl, ap, ◌∙◌}
use Rattle.std.proofs.Math.Bool.{and_assoc, and-true}
use Rattle.std.specs.Option.{option_map}
use Rattle.kinds.specs.Meaning.{Meaning}
use Rattle.flags.specs.Flags.{Pair, rises, falls, ascending, descending, along_from, along, last_from, last_of}
use Rattle.flags.specs.Tracks.{pair_of, goes_on, Tracks}
use Rattle.flags.specs.declared.tracker.Bounds.{Bounds}
use Rattle.flags.specs.declared.tracker.Tracker.{Tracker}

along-more : (r : Pair → Pair → Bool) (q p : Pair) (qs : List Pair) → along_from r q (qs ++ (p ∷ [])) ≡ (along_from r q qs && r (last_from q qs) p)
along-more r q p [] = and-true (r q p)
along-more r q p (x ∷ qs) = ap (λ b. r q x && b) (along-more r x p qs) ∙ sym (and_assoc (r q x) (along_from r x qs) (r (last_from x qs) p))

pub along_push : (r : Pair → Pair → Bool) (ps : List Pair) (p : Pair) → along r (ps ++ (p ∷ [])) ≡ (along r ps && goes_on r (last_of ps) p)
along_push r [] p = refl
along_push r (q ∷ qs) p = along-more r q p qs

last_more : (q p : Pair) (qs : List Pair) → last_from q (qs ++ (p ∷ [])) ≡ p
last_more q p [] = refl
last_more q p (x ∷ qs) = last_more x p qs

pub last_push : (ps : List Pair) (p : Pair) → last_of (ps ++ (p ∷ [])) ≡ Some p
last_push [] p = refl
last_push (q ∷ qs) p = ap Some (last_more q p qs)

-- a tracker knows one page more if it keeps that page, and each order that goes on
pub tracks_more : (m : Meaning) (ps : List Pair) (t : Tracker) (page : Bounds) (up down : Bool) → Tracks m ps t
    → up ≡ (t.ascending && goes_on (rises m) (option_map pair_of t.last) (pair_of page))
    → down ≡ (t.descending && goes_on (falls m) (option_map pair_of t.last) (pair_of page))
    → Tracks m (ps ++ (pair_of page ∷ [])) (record { last = Some page; ascending = up; descending = down })
tracks_more m ps t page up down s u d = record {
  last = sym (last_push ps (pair_of page));
  ascending =
      u ∙ ap (λ b. b && goes_on (rises m) (option_map pair_of t.last) (pair_of page)) s.ascending
      ∙ ap (λ o. ascending m ps && goes_on (rises m) o (pair_of page)) s.last ∙ sym (along_push (rises m) ps (pair_of page));
  descending =
      d ∙ ap (λ b. b && goes_on (falls m) (option_map pair_of t.last) (pair_of page)) s.descending
      ∙ ap (λ o. descending m ps && goes_on (falls m) o (pair_of page)) s.last ∙ sym (along_push (falls m) ps (pair_of page));
}
