-- Calls laid into a list one after the other: those that are there so far.
use Rattle.std.proofs.Common.{◌≡◌, ℕ, ◌+◌, ◌<◌, true, ◌&&◌, List, [], ◌∷◌, ◌++◌, map, length, length-append, get_or, take, set, Option, sym, refl, ap, ◌∙◌, arith}
use Rattle.std.proofs.lemmas.Bool.{eqb-true, and_parts}
use Rattle.std.proofs.lemmas.List.{take_all, take_more, take_more_set, map_push, length-map, length-set}
use Rattle.floats.specs.declared.bits.Bits.{Bits}
use Rattle.ledger.specs.Ledger.{close}
use Rattle.runs.specs.declared.call.Played.{Played}
use Rattle.runs.specs.Runs.{call_of, calls_in}
use Rattle.rebuild.specs.Readings.{hold_bytes, reading_call, readings_calls, has_places}

-- the first places have the first calls, where the list has a place for each
pub record LaidSoFar (hs : List (Option (Bits ℕ))) (old new : List (Played (Bits ℕ))) (at : ℕ) : Type 0 where
  pub laid : length old ≡ length hs + 1 → calls_in hold_bytes (take at new) ≡ take at (readings_calls hs)
  pub size : length new ≡ length old

length_calls : (hs : List (Option (Bits ℕ))) → length (readings_calls hs) ≡ length hs + 1
length_calls hs = length-append (map reading_call hs) (close ∷ []) ∙ ap (λ n. n + 1) (length-map hs reading_call)

-- a list with just the places for its calls has that many
module _ (hs rs : List (Option (Bits ℕ))) (cs ds : List (Played (Bits ℕ))) where
  pub places_of_one : (has_places cs hs && has_places ds rs) ≡ true → length cs ≡ length hs + 1
  places_of_one e = let p = and_parts (has_places cs hs) (has_places ds rs) e in eqb-true (length cs) (length hs + 1) p.0

  pub places_of_other : (has_places cs hs && has_places ds rs) ≡ true → length ds ≡ length rs + 1
  places_of_other e = let p = and_parts (has_places cs hs) (has_places ds rs) e in eqb-true (length ds) (length rs + 1) p.1

module _ (hs : List (Option (Bits ℕ))) (old : List (Played (Bits ℕ))) where
  pub laid_none : LaidSoFar hs old old 0
  laid_none = record { laid = λ e. refl; size = refl }

  pub laid_more : (new : List (Played (Bits ℕ))) (at : ℕ) (p : Played (Bits ℕ)) → at < length new → LaidSoFar hs old new at
      → call_of hold_bytes p.call ≡ get_or (readings_calls hs) at close → LaidSoFar hs old (set new at p) (at + 1)
  laid_more new at p few l is = record {
    laid = λ e.
        ap (calls_in hold_bytes) (take_more_set new at p few) ∙ map_push (λ q. call_of hold_bytes q.call) (take at new) p ∙ ap (λ cs. cs ++ (call_of hold_bytes p.call ∷ [])) (l.laid e)
        ∙ ap (λ c. take at (readings_calls hs) ++ (c ∷ [])) is ∙ sym (take_more (readings_calls hs) at close (omega (arith, few, e, l.size, length_calls hs)));
    size = length-set new at p ∙ l.size;
  }

  pub laid_all : (new : List (Played (Bits ℕ))) (at : ℕ) → at ≡ length new → LaidSoFar hs old new at → length old ≡ length hs + 1 → calls_in hold_bytes new ≡ readings_calls hs
  laid_all new at e l places =
      ap (calls_in hold_bytes) (sym (take_all at new (omega (arith, e)))) ∙ l.laid places
      ∙ take_all at (readings_calls hs) (omega (arith, e, l.size, places, length_calls hs))
